-- A look at whose turn it is keeps the rule.
use Rattle.std.proofs.Common.{◌≡◌, ◌≢◌, ℕ, ◌+◌, true, false, Option, Some, List, [], ◌∷◌, ◌++◌, All, set, refl, sym, ap, ◌∙◌, subst, ⊎_elim, inl, inr, arith, length-set}
use Rattle.std.specs.Prelude.{slice_index}
use Rattle.std.proofs.lemmas.Bool.{cases_eq}
use mathlib.Core.Option as home
use lib.ListN.{get_elem?}
use Rattle.atomic_table.specs.Table.{State, Me, Act, step, Allows, Valid, carried_after, keeps, takes, stepped}
use Rattle.atomic_table.proofs.Lists.{set_again}
use Rattle.turn_lock.specs.declared.rule.View.{View}
use Rattle.turn_lock.specs.Report.{Report, MayFollow}
use Rattle.turn_lock.specs.Views.{at_turn, Looks}
use Rattle.turn_lock.specs.Rule.{ticket_times, ticket_count, number_times, number_count, place_times, turns_of, passes_of, IsSlot, Stands, IsKept}
use Rattle.turn_lock.proofs.ListLemmas.{prefix_self, here_after, Each-prefix, All_from_Each}
use Rattle.seat_sums.proofs.Sums.{total_kept}
use Rattle.turn_lock.proofs.Growth.{each_to_last}
use Rattle.turn_lock.proofs.Turns.{nobody_else, fits_set}
use Rattle.turn_lock.proofs.Words.{written, here, elsewhere}

module _ {V I O : Type 0} (report : V → Report I) (origin : V → O) (passes : ℕ) (opening : V) where
  module _ (ticket turn count : ℕ) (homes : List (home.Option (Option V))) (views : List (View V)) (before : List V) (last : V) (st : Stands report origin passes opening ticket turn count homes views before last)
      (id : ℕ) (v : View V) (at : get_elem? views id ≡ home.some v) (mine : v.tickets ≡ turn ∷ []) (waits : v.turn ≡ false) where
    -- the value is in its slot at the turn of a seat that hasn't taken it
    value_home : homes ≡ home.some (Some last) ∷ []
    value_home =
        let Q : IsSlot homes last views → Type 0 = λ _. homes ≡ home.some (Some last) ∷ [] in
        elim st.slot as Q [
          | inl full ↦ full.0
          | inr empty ↦ ⊎_elim
              (λ (e : empty.1.0 ≡ id).
              let A : ℕ → Type 0 = λ (j : ℕ). get_elem? views j ≡ home.some empty.1.1 in
              let same : v ≡ empty.1.1 = home.some-injective v empty.1.1 (sym at ∙ subst A e empty.1.2) in
              let clash : false ≡ true = sym waits ∙ ap (λ (y : View V). y.turn) same ∙ empty.1.3 in
              absurd (cc clash))
              (λ (apart : empty.1.0 ≢ id).
              let clash = nobody_else report origin passes opening ticket turn count homes views before last st id v at mine empty.1.0 empty.1.1 empty.1.2 apart empty.1.3 in
              absurd (omega (arith, clash)))
              (cases_eq empty.1.0 id)
        ]

    stands_by_taking : Stands report origin passes opening ticket turn count (home.none ∷ []) (set views id (at_turn v (before ++ last ∷ []))) before last
    stands_by_taking =
        let all = before ++ last ∷ [] in
        let w = at_turn v all in
        let fits = st.fits id v at in
        record {
          tickets = λ x. total_kept (ticket_times x) views id v w at refl ∙ st.tickets x;
          waiting = ap (λ (k : ℕ). turn + k) (total_kept ticket_count views id v w at refl) ∙ st.waiting;
          taken = total_kept turns_of views id v w at refl ∙ st.taken;
          numbers = λ x. total_kept (number_times x) views id v w at refl ∙ st.numbers x;
          counted = st.counted ∙ ap (λ (k : ℕ). 1 + k) (sym (total_kept number_count views id v w at refl));
          places = λ x. total_kept (place_times report x) views id v w at refl ∙ st.places x;
          list = st.list;
          opens = st.opens;
          growing = st.growing;
          slot = inr (refl, (id, w, here_after views id v w at, refl));
          all_passes = total_kept passes_of views id v w at refl ∙ st.all_passes;
          few = st.few;
          fits = fits_set turn all views id w st.fits record {
            seen = prefix_self all;
            also = fits.also;
            holds = λ _. (mine, refl);
            own = fits.own;
            few = fits.few;
            turns = fits.turns;
            waits = fits.waits;
            returned = fits.returned;
          };
        }

    follows_all : All (λ u. MayFollow report origin u last) v.seen
    follows_all =
        let P : V → Type 0 = λ u. MayFollow report origin u last in
        All_from_Each P v.seen (Each-prefix P v.seen (before ++ last ∷ []) (st.fits id v at).seen (each_to_last report origin before last st.growing))

  -- what the step owes
  abbrev Looked : ℕ → ℕ → View V → State (Option V) (View V) → Type 0
  Looked slots id v s = (w : View V) × (a : Act (Option V)) × Valid s.homes [] a × IsKept report origin passes opening (stepped s 1 (slice_index s.words 1) id [] w a)
      × Looks report origin (step slots 1 0 0 home.none) (v, []) (slice_index s.words 1) (w, carried_after [] a)

  takes_it : (slots id : ℕ) (v : View V) (s : State (Option V) (View V)) → IsKept report origin passes opening s → get_elem? s.views id ≡ home.some v → v.tickets ≡ slice_index s.words 1 ∷ [] → v.turn ≡ false → Looked slots id v s
  takes_it slots id v s kept at mine waits =
      let ticket : ℕ = slice_index s.words 0 in
      let turn : ℕ = slice_index s.words 1 in
      let count : ℕ = slice_index s.words 2 in
      let last : V = kept.last in
      let all : List V = kept.before ++ last ∷ [] in
      let full : s.homes ≡ home.some (Some last) ∷ [] = value_home ticket turn count s.homes s.views kept.before last kept.stands id v at mine waits in
      let w = at_turn v all in
      let P : List (home.Option (Option V)) → Type 0 = λ hs. Stands report origin passes opening ticket turn count (set hs 0 home.none) (set s.views id w) kept.before last in
      let st : P s.homes = subst P (sym full) (stands_by_taking ticket turn count s.homes s.views kept.before last kept.stands id v at mine waits) in (
        w,
        takes 0 (Some last),
        ap (λ (hs : List (home.Option (Option V))). get_elem? hs 0) full,
        record {
          before = kept.before;
          last = last;
          words = length-set s.words 1 turn ∙ kept.words;
          stands = written report origin passes opening s.words 1 turn ticket turn count (set s.homes 0 home.none) (set s.views id w) kept.before last
              (elsewhere s.words 1 0 turn (λ e. omega arith)) (here s.words 1 turn (omega (arith, kept.words))) (elsewhere s.words 1 2 turn (λ e. omega arith)) st;
        },
        (
          λ _. record { earlier = kept.before; value = last; after_is = refl; follows = follows_all ticket turn count s.homes s.views kept.before last kept.stands id v at mine waits },
          λ other. absurd (other mine),
        ),
      )

  passes_by : (slots id : ℕ) (v : View V) (s : State (Option V) (View V)) → IsKept report origin passes opening s → get_elem? s.views id ≡ home.some v → v.tickets ≢ slice_index s.words 1 ∷ [] → Looked slots id v s
  passes_by slots id v s kept at other =
      let turn : ℕ = slice_index s.words 1 in
      let Q : List (View V) → Type 0 = λ vs. Stands report origin passes opening (slice_index s.words 0) turn (slice_index s.words 2) s.homes vs kept.before kept.last in (
        v,
        keeps,
        tt,
        record {
          before = kept.before;
          last = kept.last;
          words = length-set s.words 1 turn ∙ kept.words;
          stands = written report origin passes opening s.words 1 turn (slice_index s.words 0) turn (slice_index s.words 2) s.homes (set s.views id v) kept.before kept.last
              (elsewhere s.words 1 0 turn (λ e. omega arith)) (here s.words 1 turn (omega (arith, kept.words))) (elsewhere s.words 1 2 turn (λ e. omega arith))
              (subst Q (sym (set_again s.views id v at)) kept.stands);
        },
        (λ mine. absurd (other mine), λ _. refl),
      )

  -- what `load` asks of a look
  pub looks : (slots id ticket : ℕ) (v : View V) → v.tickets ≡ ticket ∷ [] → v.turn ≡ false
      → Allows {S = Option V} (IsKept report origin passes opening) slots id (v, []) 1 (λ n. n) (Looks report origin (step slots 1 0 0 home.none) (v, []))
  looks slots id ticket v mine waits s kept count at fits =
      let turn : ℕ = slice_index s.words 1 in
      ⊎_elim
      (λ (e : ticket ≡ turn). takes_it slots id v s kept at (mine ∙ ap (λ (n : ℕ). n ∷ []) e) waits)
      (λ (apart : ticket ≢ turn). passes_by slots id v s kept at (λ same. let e : ticket ∷ [] ≡ turn ∷ [] = sym mine ∙ same in apart (cc e)))
      (cases_eq ticket turn)

  -- the same of a seat
  pub looks_as : (slots id ticket : ℕ) (me : Me (Option V) (View V)) → me.1 ≡ [] → me.0.tickets ≡ ticket ∷ [] → me.0.turn ≡ false
      → Allows {S = Option V} (IsKept report origin passes opening) slots id me 1 (λ n. n) (Looks report origin (step slots 1 0 0 home.none) me)
  looks_as slots id ticket me empty mine waits =
      let P : List (ℕ × Option V) → Type 0 = λ held. Allows {S = Option V} (IsKept report origin passes opening) slots id (me.0, held) 1 (λ n. n) (Looks report origin (step slots 1 0 0 home.none) (me.0, held)) in
      subst P (sym empty) (looks slots id ticket me.0 mine waits)
