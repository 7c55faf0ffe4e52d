-- What the seat of all passes knows once nobody steps.
use Rattle.std.proofs.Common.{◌≡◌, ◌≢◌, ℕ, ◌≤◌, true, false, Option, Some, List, [], ◌∷◌, ◌++◌, All, map, length, refl, sym, ap, ◌∙◌, subst, ⊎_elim, inl, inr, arith, append_assoc}
use Rattle.std.specs.Prelude.{slice_index}
use Rattle.std.proofs.lemmas.Bool.{cases_eq}
use mathlib.Core.Option as home
use mathlib.Core.List.{IsPrefix}
use lib.ListN.{get_elem?}
use Rattle.atomic_table.specs.Table.{State, Me, Final, Seen}
use Rattle.turn_lock.specs.declared.rule.Addition.{Addition}
use Rattle.turn_lock.specs.declared.rule.Returned.{Returned}
use Rattle.turn_lock.specs.declared.rule.View.{View}
use Rattle.turn_lock.specs.Report.{Report, Each, GrowsTo, MayFollow, IsGrowing}
use Rattle.turn_lock.specs.Views.{numbers_of, places_of, last_or}
use Rattle.turn_lock.specs.Rule.{number_times, place_times, passes_of, IsSlot, IsAdded, IsKept}
use Rattle.seat_sums.specs.Counts.{times, once_within, total}
use Rattle.turn_lock.specs.Locks.{LockView, PassView}
use Rattle.turn_lock.specs.Seated.{IsLast, IsClosing, returned_pass, passes_back}
use Rattle.turn_lock.specs.History.{own_over, places_over, Among, EndsWith, IsReported}
use Rattle.turn_lock.proofs.ListLemmas.{Each-front, Each-back, All_from_Each}
use Rattle.seat_sums.proofs.Sums.{parts_of_total, total-whole}
use Rattle.turn_lock.proofs.Growth.{each_to_last, opening_to_last}
use Rattle.std.proofs.lemmas.List.Elements.{All-nil, All-cons}

last_among : {V : Type 0} (seen among : List V) (value : V) → IsLast seen value → IsPrefix seen among → Among among value
last_among seen among value last p = record {
  earlier = last.0;
  later = p.0;
  stands = sym (append_assoc last.0 (value ∷ []) p.0) ∙ ap (λ l. l ++ p.0) (sym last.1) ∙ p.1;
}

none_owned : {V : Type 0} (own : List (Addition V)) → length own ≤ 0 → own ≡ []
none_owned [] short = refl
none_owned (a ∷ own) short = absurd (omega arith)

module _ {V I O : Type 0} (report : V → Report I) (origin : V → O) (passes : ℕ) (opening : V) where
  module _ (s : State (Option V) (View V)) (kept : IsKept report origin passes opening s) (id : ℕ) (v : View V) (at : get_elem? s.views id ≡ home.some v) (all : v.passes ≡ passes) (idle : v.turn ≡ false) where
    -- nobody has the turn, since a seat that has it counts for a pass
    value_home : s.homes ≡ home.some (Some kept.last) ∷ []
    value_home =
        let st = kept.stands in
        let Q : IsSlot s.homes kept.last s.views → Type 0 = λ _. s.homes ≡ home.some (Some kept.last) ∷ [] in
        elim st.slot as Q [
          | inl full ↦ full.0
          | inr empty ↦ ⊎_elim
              (λ (e : empty.1.0 ≡ id).
              let A : ℕ → Type 0 = λ (j : ℕ). get_elem? s.views j ≡ home.some empty.1.1 in
              let same : v ≡ empty.1.1 = home.some-injective v empty.1.1 (sym at ∙ subst A e empty.1.2) in
              let clash : false ≡ true = sym idle ∙ ap (λ (y : View V). y.turn) same ∙ empty.1.3 in
              absurd (cc clash))
              (λ (apart : empty.1.0 ≢ id).
              let theirs = st.fits empty.1.0 empty.1.1 empty.1.2 in
              let one = ap length (theirs.holds empty.1.3).0 in
              absurd (omega (arith, one, theirs.waits, parts_of_total passes_of s.views empty.1.0 id empty.1.1 v empty.1.2 at apart, st.all_passes)))
              (cases_eq empty.1.0 id)
        ]

    ends : EndsWith report origin opening kept.last v
    ends =
        let st = kept.stands in
        let fits = st.fits id v at in
        let whole : total passes_of s.views ≡ passes_of v = st.all_passes ∙ sym all in
        let bare : (j : ℕ) (u : View V) → get_elem? s.views j ≡ home.some u → passes_of u ≡ 0 → u.own ≡ [] = λ j u there zero. let few = (st.fits j u there).few in none_owned u.own (omega arith) in
        record {
          before = kept.before;
          opens = st.opens;
          growing = st.growing;
          numbers = λ x.
              sym (total-whole (number_times x) passes_of s.views id v (λ j u there zero. ap (λ (own : List (Addition V)). times x (numbers_of own)) (bare j u there zero)) at whole)
              ∙ st.numbers x ∙ ap (λ (to : ℕ). once_within 1 to x) st.list;
          places = λ x.
              sym (total-whole (place_times report x) passes_of s.views id v (λ j u there zero. ap (λ (own : List (Addition V)). times x (places_of report own)) (bare j u there zero)) at whole)
              ∙ st.places x;
          added = fits.own;
          returned = fits.returned;
        }

  -- the value in the slot at the end, and what is known of it
  pub ends_with : (id : ℕ) (v : View V) (words : List ℕ) (slots : List (Option V)) → Final {S = Option V} (Seen (IsKept report origin passes opening) id v) words slots → v.passes ≡ passes → v.turn ≡ false
      → (final : V) × (get_elem? slots 0 ≡ home.some (Some final)) × EndsWith report origin opening final v
  ends_with id v words slots final all idle =
      let s = final.0 in
      let kept : IsKept report origin passes opening s = final.1.0 in
      let at : get_elem? s.views id ≡ home.some v = final.1.1 in
      let full = value_home s kept id v at all idle in (
        kept.last,
        final.4 0 (Some kept.last) (ap (λ (hs : List (home.Option (Option V))). get_elem? hs 0) full),
        ends s kept id v at all idle,
      )

  to_last : (before : List V) (last : V) → IsGrowing report origin (before ++ last ∷ []) → (x : V) → Among (before ++ last ∷ []) x → MayFollow report origin x last
  to_last before last growing x among =
      let P : V → Type 0 = λ u. MayFollow report origin u last in
      (Each-back P among.earlier (x ∷ among.later) (subst (Each P) (sym among.stands) (each_to_last report origin before last growing))).0

  All-map : {X : Type 0} (P Q : X → Type 0) (xs : List X) → ((x : X) → P x → Q x) → All P xs → All Q xs
  All-map P Q xs f h k d inside = f (Rattle.std.specs.Prelude.slice_index_or xs k d) (h k d inside)

  added_over : (P : Addition V → Type 0) (done : List (PassView V)) → Each P (own_over done) → All (λ pass. All P pass.own) done
  added_over P [] h = All-nil (λ (pass : PassView V). All P pass.own)
  added_over P (pass ∷ done) h =
      All-cons (λ (pass : PassView V). All P pass.own) pass done
      (All_from_Each P pass.own (Each-front P pass.own (own_over done) h))
      (added_over P done (Each-back P pass.own (own_over done) h))

  -- a pass that was handed in saw one of the values last
  seen_among : (lock : LockView V) (all : List V) (returned : List (Returned V)) → Each (λ (back : Returned V). IsLast back.seen (last_or lock.opening back.seen)) returned → Each (λ (back : Returned V). IsPrefix back.seen all) returned
      → All (λ pass. Among all pass.seen) (map (returned_pass lock) returned)
  seen_among lock all [] last seen = All-nil (λ (pass : PassView V). Among all pass.seen)
  seen_among lock all (back ∷ returned) last seen =
      All-cons (λ (pass : PassView V). Among all pass.seen) (returned_pass lock back) (map (returned_pass lock) returned)
      (last_among back.seen all (last_or lock.opening back.seen) last.0 seen.0)
      (seen_among lock all returned last.1 seen.1)

  -- what `finish` promises
  pub record Finished (final : V) (all : List (PassView V)) : Type 0 where
    pub follows : MayFollow report origin opening final
    pub seen : All (λ pass. GrowsTo (report pass.seen) (report final)) all
    pub reports : IsReported report origin opening final all
    pub places : (place : ℕ) → times place (places_over report all) ≡ once_within (length (report opening).items) (length (report final).items) place

  pub finishes : (lock : LockView V) (me : Me (Option V) (View V)) (final : V) → IsClosing lock me → EndsWith report origin opening final me.0 → Finished final (passes_back lock me.0)
  finishes lock me final g e =
      let all = passes_back lock me.0 in
      let among : All (λ pass. Among (e.before ++ final ∷ []) pass.seen) all = seen_among lock (e.before ++ final ∷ []) me.0.returned g.last e.returned in
      let P : Addition V → Type 0 = IsAdded (e.before ++ final ∷ []) in
      record {
        follows = opening_to_last report origin opening e.before final e.opens e.growing;
        seen = All-map (λ (pass : PassView V). Among (e.before ++ final ∷ []) pass.seen) (λ (pass : PassView V). GrowsTo (report pass.seen) (report final)) all (λ pass is. (to_last e.before final e.growing pass.seen is).0) among;
        reports = record {
          before = e.before;
          opens = e.opens;
          growing = e.growing;
          once = λ x. ap (λ (l : List (Addition V)). times x (numbers_of l)) (sym g.own) ∙ e.numbers x;
          added = added_over P all (subst (Each P) g.own e.added);
          seen = among;
        };
        places = λ x. ap (λ (l : List (Addition V)). times x (places_of report l)) (sym g.own) ∙ e.places x;
      }
