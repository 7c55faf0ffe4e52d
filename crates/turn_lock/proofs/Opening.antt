-- A new table keeps the rule.
use Rattle.std.proofs.Common.{◌≡◌, ℕ, zero, suc, ◌≤◌, Option, Some, List, [], ◌∷◌, ◌++◌, length, replicate, refl, sym, ap, subst, inl, arith}
use mathlib.Core.Option as home
use lib.ListN.{get_elem?}
use Rattle.std.proofs.lemmas.List.{length-replicate}
use Rattle.atomic_table.specs.Table as table
use Rattle.turn_lock.specs.declared.rule.View.{View}
use Rattle.turn_lock.specs.Report.{Report}
use Rattle.turn_lock.specs.Views.{first_view}
use Rattle.turn_lock.specs.Rule.{Fits, Stands, IsKept}
use Rattle.turn_lock.proofs.ListLemmas.{prefix_self}
use Rattle.seat_sums.proofs.Times.{once_within-none}

only_one : {A : Type 0} (x y : A) (i : ℕ) → get_elem? (x ∷ []) i ≡ home.some y → x ≡ y
only_one x y zero at = home.some-injective x y at
only_one x y (suc i) at = absurd (home.some-ne-none y (sym at))

module _ {V I O : Type 0} (report : V → Report I) (origin : V → O) (passes : ℕ) (opening : V) where
  stands_first : passes ≤ 65535 → Stands report origin passes opening 0 0 1 (home.some (Some opening) ∷ []) (first_view passes opening ∷ []) [] opening
  stands_first few =
      let v = first_view passes opening in
      let fits : Fits 0 (opening ∷ []) v = record {
        seen = prefix_self (opening ∷ []);
        also = tt;
        returned = tt;
        holds = λ e. absurd (cc e);
        own = tt;
        few = omega arith;
        turns = omega arith;
        waits = omega arith;
      } in
      record {
        tickets = λ x. sym (once_within-none 0 x);
        waiting = omega arith;
        taken = omega arith;
        numbers = λ x. sym (once_within-none 1 x);
        counted = omega arith;
        places = λ x. sym (once_within-none (length (report opening).items) x);
        list = omega arith;
        opens = prefix_self (opening ∷ []);
        growing = (tt, tt);
        slot = inl (refl, λ id u at. ap (λ (y : View V). y.turn) (sym (only_one v u id at)));
        all_passes = omega arith;
        few = few;
        fits = λ id u at. subst (Fits 0 (opening ∷ [])) (only_one v u id at) fits;
      }

  pub kept_first : (words : List ℕ) (slots : List (Option V)) → words ≡ (0 ∷ 0 ∷ 1 ∷ []) ++ replicate passes 0 → slots ≡ Some opening ∷ [] → passes ≤ 65535 → IsKept report origin passes opening (table.opening words slots (first_view passes opening))
  kept_first words slots laid one few =
      let P : List ℕ → Type 0 = λ ws. IsKept report origin passes opening (table.opening ws slots (first_view passes opening)) in
      let Q : List (Option V) → Type 0 = λ xs. IsKept report origin passes opening (table.opening ((0 ∷ 0 ∷ 1 ∷ []) ++ replicate passes 0) xs (first_view passes opening)) in
      subst P (sym laid) (subst Q (sym one) record {
        before = [];
        last = opening;
        words = omega (arith, length-replicate {A = ℕ} passes 0);
        stands = stands_first few;
      })
