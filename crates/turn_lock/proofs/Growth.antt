-- Values that follow one another, and what each added.
use Rattle.std.proofs.Common.{◌+◌, List, [], ◌∷◌, ◌++◌, length, refl, sym, ap, ◌∙◌, subst, arith, append_assoc}
use mathlib.Core.List.{IsPrefix}
use Rattle.turn_lock.specs.declared.rule.Addition.{Addition}
use Rattle.turn_lock.specs.Report.{Report, Each, MayFollow, IsGrowing}
use Rattle.turn_lock.specs.Views.{addition}
use Rattle.turn_lock.specs.Rule.{IsAdded}
use Rattle.turn_lock.proofs.ListLemmas.{prefix_self, prefix_trans, Each-append, Each-back}

module _ {V I O : Type 0} (report : V → Report I) (origin : V → O) where
  pub follows_itself : (v : V) → MayFollow report origin v v
  follows_itself v = ((prefix_self (report v).items, omega arith, omega arith), refl)

  pub follows_on : (u v w : V) → MayFollow report origin u v → MayFollow report origin v w → MayFollow report origin u w
  follows_on u v w p q = (
    (prefix_trans (report u).items (report v).items (report w).items p.0.0 q.0.0, omega (arith, p.0.1, q.0.1), omega (arith, p.0.2, q.0.2)),
    q.1 ∙ p.1,
  )

  pub growing_more : (before : List V) (last new : V) → IsGrowing report origin (before ++ last ∷ []) → MayFollow report origin last new → IsGrowing report origin ((before ++ last ∷ []) ++ new ∷ [])
  growing_more [] last new g may = ((may, tt), (tt, tt))
  growing_more (v ∷ before) last new g may =
      let to_last : MayFollow report origin v last = (Each-back (MayFollow report origin v) before (last ∷ []) g.0).0 in (
        Each-append (MayFollow report origin v) (before ++ last ∷ []) (new ∷ []) g.0 (follows_on v last new to_last may, tt),
        growing_more before last new g.1 may,
      )

  pub each_to_last : (before : List V) (last : V) → IsGrowing report origin (before ++ last ∷ []) → Each (λ v. MayFollow report origin v last) (before ++ last ∷ [])
  each_to_last [] last g = (follows_itself last, tt)
  each_to_last (v ∷ before) last g = ((Each-back (MayFollow report origin v) before (last ∷ []) g.0).0, each_to_last before last g.1)

  pub opening_to_last : (opening : V) (before : List V) (last : V) → IsPrefix (opening ∷ []) (before ++ last ∷ []) → IsGrowing report origin (before ++ last ∷ []) → MayFollow report origin opening last
  opening_to_last opening before last p g =
      let P : V → Type 0 = λ v. MayFollow report origin v last in
      (subst (Each P) (sym p.1) (each_to_last before last g)).0

module _ {V : Type 0} where
  pub added_more : (all more : List V) (a : Addition V) → IsAdded all a → IsAdded (all ++ more) a
  added_more all more a is = record {
    earlier = is.earlier;
    later = is.later ++ more;
    stands = sym (append_assoc is.earlier (a.found ∷ a.left ∷ is.later) more) ∙ ap (λ l. l ++ more) is.stands;
    number = is.number;
  }

  pub added_now : (before : List V) (last new : V) → IsAdded ((before ++ last ∷ []) ++ new ∷ []) (addition (length before + 1) last new)
  added_now before last new = record {
    earlier = before;
    later = [];
    stands = sym (append_assoc before (last ∷ []) (new ∷ []));
    number = refl;
  }
