use Rattle.std.proofs.Common.{◌++◌, take, drop, refl, sym, ap, ◌∙◌, append_assoc}
use Rattle.std.proofs.lemmas.List.{take-append-drop, take_rest}
use Rattle.edge_traits.proofs.Appends.{Appends-append}
use Rattle.edge_traits.proofs.sink.write_all.Goals as goal

pub loop-rest-preserved : goal.loop-rest-preserved
loop-rest-preserved g c =
    let i = c.loop-rest.invariant in
    let rest = c.loop-rest.rest.now in
    let taken = c.in_ok-taken.taken in
    record {
      done = i.done ++ take taken rest;
      parts = i.parts ∙ ap (λ x. i.done ++ x) (sym (take-append-drop taken rest)) ∙ sym (append_assoc i.done (take taken rest) (drop taken rest)) ∙ ap (λ x. i.done ++ take taken rest ++ x) (sym (take_rest rest taken));
      appended = Appends-append _ _ _ i.done (take taken rest) i.appended c.in_ok-taken.ensures.appended;
      same = c.in_ok-taken.ensures.cause.kept refl ∙ i.same;
    }
