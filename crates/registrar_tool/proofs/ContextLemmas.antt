-- The pledge of an enrolled context.
use Rattle.std.proofs.Common.{◌≡◌, ℕ, zero, suc, ◌<◌, ◌≤◌, List, [], ◌∷◌, ◌++◌, Some, None, true, false, cond, eqb, length, slice_index_or, refl, ◌∙◌, ap, subst, arith, inl, inr}
use Rattle.std.specs.Prelude.{Contains}
use Rattle.std.specs.List.{AllZip}
use Rattle.std.proofs.lemmas.Bool.{cond-true, cond-false, eq-eqb, ne_eqb}
use Rattle.std.proofs.lemmas.List.Elements.{Contains-push_cases}
use Rattle.edge_traits.specs.declared.names.PledgeId.{PledgeId}
use Rattle.journal_text.specs.declared.entry.Entry.{Entry}
use Rattle.journal_text.specs.declared.entry.Entry.TheVariants.{Enroll}
use Rattle.join_history.specs.Contexts.{pledge_of, context_count}
use Rattle.join_history.specs.Legal.{IsLegal, MayFollow}
use Rattle.join_history.proofs.LegalLemmas.{legal_induction}
use Rattle.join_history.proofs.LeaseLemmas.{pledge_of-append}
use Rattle.registrar_book.proofs.Contexts.{context_count-push}

-- one more entry without a context before it
pledge_of-push : (h : List Entry) (e : Entry) (c : ℕ) → pledge_of h c ≡ None → pledge_of (h ++ e ∷ []) c ≡ pledge_of (e ∷ []) c
pledge_of-push [] e c none = refl
pledge_of-push (Enroll context id check ∷ h) e c none =
    (elim (eqb context c) as (λ b. cond b (Some id) (pledge_of h c) ≡ None → cond b (Some id) (pledge_of (h ++ e ∷ []) c) ≡ pledge_of (e ∷ []) c) [
      | true ↦ λ some. absurd (cc some)
      | false ↦ λ still. pledge_of-push h e c still
    ]) none
pledge_of-push (_ ∷ h) e c none = pledge_of-push h e c none

other_context : (e : Entry) (h : List Entry) (c : ℕ) → MayFollow h e → context_count (h ++ e ∷ []) ≤ c → pledge_of (e ∷ []) c ≡ None
other_context (Enroll context id check) h c may le =
    cond-false (eqb context c) (Some id) None (ne_eqb context c (λ same. omega (arith, le, context_count-push h (Enroll context id check), may.0, same)))
other_context _ h c may le = refl

no_pledge : (h : List Entry) → IsLegal h → (c : ℕ) → context_count h ≤ c → pledge_of h c ≡ None
no_pledge =
    legal_induction (λ h. (c : ℕ) → context_count h ≤ c → pledge_of h c ≡ None) (λ c le. refl)
    (λ h e legal may none c le. pledge_of-push h e c (none c (omega (arith, le, context_count-push h e))) ∙ other_context e h c may le)

pub enrolled_pledge : (h : List Entry) → IsLegal h → (c : ℕ) (id : PledgeId) (check : List ℕ) → Contains h (Enroll c id check) → pledge_of h c ≡ Some id
enrolled_pledge =
    legal_induction (λ h. (c : ℕ) (id : PledgeId) (check : List ℕ) → Contains h (Enroll c id check) → pledge_of h c ≡ Some id) (λ c id check has. absurd (omega (arith, has.1)))
    (λ h e legal may pledges c id check has. elim (Contains-push_cases h e (Enroll c id check) has) [
      | inl old ↦ pledge_of-append h (e ∷ []) c id (pledges c id check old)
      | inr new ↦
          let may' = subst (MayFollow h) new may in
          pledge_of-push h e c (no_pledge h legal c (omega (arith, may'.0))) ∙ ap (λ (x : Entry). pledge_of (x ∷ []) c) new ∙ cond-true (eqb c c) (Some id) None (eq-eqb c c refl)
    ])

-- what holds of two lists, at one place
pub zip_at : {A B : Type 0} (R : A → B → Type 0) (xs : List A) (ys : List B) (place : ℕ) (d : A) (e : B) → AllZip R xs ys → place < length xs → R (slice_index_or xs place d) (slice_index_or ys place e)
zip_at R [] [] place d e all lt = absurd (omega (arith, lt))
zip_at R [] (y ∷ ys) place d e all lt = absurd all
zip_at R (x ∷ xs) [] place d e all lt = absurd all
zip_at R (x ∷ xs) (y ∷ ys) zero d e all lt = all.0
zip_at R (x ∷ xs) (y ∷ ys) (suc place) d e all lt = zip_at R xs ys place d e all.1 (omega (arith, lt))
