-- Lemmas about legal histories as a whole: how they begin, grow and are cut.
use Rattle.std.proofs.Common.{◌≡◌, List, [], ◌∷◌, ◌++◌, refl, sym, ap, ◌∙◌, subst, append_assoc}
use Rattle.std.proofs.lemmas.List.{append-nil, same_from_push}
use Rattle.journal_text.specs.declared.entry.Entry.{Entry}
use Rattle.join_history.specs.Legal.{IsLegal, MayFollow}
use Rattle.join_history.proofs.ListLemmas.{last_exists, push_induction}

-- the empty history has no entry that may not follow
pub IsLegal-nil : IsLegal []
IsLegal-nil [] e after is = cc
IsLegal-nil (x ∷ before) e after is = cc

-- a legal history followed by what may follow it is legal
pub IsLegal-push : (h : List Entry) (e : Entry) → IsLegal h → MayFollow h e → IsLegal (h ++ e ∷ [])
IsLegal-push h e legal may before x [] is =
    let same = same_from_push h before e x is in
    subst (λ g. MayFollow g x) same.0 (subst (λ y. MayFollow h y) same.1 may)
IsLegal-push h e legal may before x (y ∷ ys) is =
    let last = last_exists y ys in
    let joined : h ++ e ∷ [] ≡ (before ++ x ∷ last.0) ++ last.1 ∷ [] =
    is ∙ ap (λ l. before ++ x ∷ l) last.2 ∙ sym (append_assoc before (x ∷ last.0) (last.1 ∷ [])) in
    legal before x last.0 (same_from_push h (before ++ x ∷ last.0) e last.1 joined).0

-- each prefix of a legal history is legal
pub IsLegal-prefix : (prefix rest : List Entry) → IsLegal (prefix ++ rest) → IsLegal prefix
IsLegal-prefix prefix rest legal before e after is =
    legal before e (after ++ rest) (ap (λ l. l ++ rest) is ∙ append_assoc before (e ∷ after) rest)

-- what holds of the empty history, and is kept by each entry that may follow, holds of every legal one
pub legal_induction : (P : List Entry → Type 0) → P []
    → ((h : List Entry) (e : Entry) → IsLegal h → MayFollow h e → P h → P (h ++ e ∷ [])) → (h : List Entry)
    → IsLegal h → P h
legal_induction P none step =
    push_induction (λ h. IsLegal h → P h) (λ legal. none)
    (λ h e so_far legal.
    let before = IsLegal-prefix h (e ∷ []) legal in
    step h e before (legal h e [] refl) (so_far before))

-- what holds of a legal history, and is kept by each entry that may follow, holds of every legal one that begins with it
pub legal_growth : (P : List Entry → Type 0)
    → ((h : List Entry) (e : Entry) → IsLegal h → MayFollow h e → P h → P (h ++ e ∷ [])) → (h more : List Entry)
    → IsLegal (h ++ more) → P h → P (h ++ more)
legal_growth P step h =
    push_induction (λ more. IsLegal (h ++ more) → P h → P (h ++ more)) (λ legal holds. rw append-nil holds)
    (λ more e so_far legal holds.
    let grouped = append_assoc h more (e ∷ []) in
    let all = subst IsLegal (sym grouped) legal in
    let before = IsLegal-prefix (h ++ more) (e ∷ []) all in
    subst P grouped (step (h ++ more) e before (all (h ++ more) e [] refl) (so_far before holds)))
