use Rattle.std.proofs.Common.{◌∷◌, [], append-nil, refl, sym, subst}
use Rattle.edge_traits.specs.Sink.{Appends}
use Rattle.tool_text.specs.Outcome.{outcome_text}
use Rattle.registrar_tool.specs.Opened.{standing_of}
use Rattle.registrar_tool.specs.Told.{IsToldLine}
use Rattle.registrar_tool.proofs.RunLemmas.{OnOk-map}
use Rattle.registrar_tool.proofs.decide.decide_line.Goals as goal

pub returns-in-Ask-clause-done : goal.returns-in-Ask-clause-done
returns-in-Ask-clause-done g c =
    OnOk-map c.write_outcome.result _ _
    (λ appended.
    let outcome = c.decide_ask-outcome.result in
    let told = c.decide_ask-outcome.ensures.told in record {
      outcomes = outcome ∷ [];
      told = subst (λ l. IsToldLine g.D.Disk (standing_of c.args.book.now) l (outcome ∷ []) (standing_of c.decide_ask-outcome.new.book)) (sym c.in-Ask.is) (told.0, outcome, told.1, told.2, refl);
      appended =
          subst (Appends (g.K.Sink.written c.args.out.now) (g.K.Sink.written c.write_outcome.new.out))
          (sym (append-nil (outcome_text outcome))) appended;
    })
    c.write_outcome.ensures.ok
