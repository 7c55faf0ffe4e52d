-- The contexts of a history, and those that opening adds.
use Rattle.std.proofs.Common.{◌≡◌, ℕ, ◌+◌, ◌≤◌, ◌<◌, List, [], ◌∷◌, ◌++◌, length, refl, sym, ap, subst, ◌∙◌, append_assoc, append-nil, arith, inl, inr, length-append}
use Rattle.std.proofs.lemmas.List.Elements.{Contains-push, Contains-push_cases, Contains-append_left, Contains-append_right, Contains-append_cases}
use Rattle.std.specs.Prelude.{Contains}
use Rattle.edge_traits.specs.declared.names.PledgeId.{PledgeId}
use Rattle.journal_text.specs.declared.entry.Entry.{Entry}
use Rattle.journal_text.specs.declared.entry.Entry.TheVariants.{Settings, Enroll, Grant, Refuse, Block, Roll, Given, Stale, Switch, Release}
use Rattle.join_history.specs.Limits.{context_limit}
use Rattle.join_history.specs.Contexts.{context_count}
use Rattle.join_history.specs.Legal.{IsLegal}
use Rattle.join_history.specs.Opening.{EnrollsRows}
use Rattle.join_history.proofs.LegalLemmas.{IsLegal-push}
use Rattle.registrar_book.specs.Opening.{Row, HaveSameKey, HasTooManyContexts}
use Rattle.registrar_book.specs.Known.{HaveKnownKey, known_of, Knows, PlacesRows, enrolls}
use Rattle.registrar_book.proofs.Contexts.{context_count-push}

pub known_of-append : (h g : List Entry) → known_of (h ++ g) ≡ known_of h ++ known_of g
known_of-append [] g = refl
known_of-append (Enroll context id check ∷ h) g = ap (λ (xs : List Row). (id, check) ∷ xs) (known_of-append h g)
known_of-append (_ ∷ h) g = known_of-append h g

pub known_count : (h : List Entry) → length (known_of h) ≡ context_count h
known_count [] = refl
known_count (Enroll context id check ∷ h) = omega (arith, known_count h)
known_count (_ ∷ h) = known_count h

one_of : {X : Type 0} (x y : X) → Contains (x ∷ []) y → x ≡ y
one_of x y has = elim (Contains-push_cases [] x y has) [
  | inl none ↦ absurd (omega (arith, none.1))
  | inr is ↦ is
]

-- what is known was enrolled
abbrev pub Enrolled : List Entry → Row → Type 0
Enrolled h row = (context : ℕ) × Contains h (Enroll context row.0 row.1)

enrolled_later : (e : Entry) (h : List Entry) (row : Row) → Enrolled h row → Enrolled (e ∷ h) row
enrolled_later e h row has = (has.0, Contains-append_right (e ∷ []) h (Enroll has.0 row.0 row.1) has.1)

pub known_enrolled : (h : List Entry) (row : Row) → Contains (known_of h) row → Enrolled h row
known_enrolled [] row has = absurd (omega (arith, has.1))
known_enrolled (Enroll context id check ∷ h) row has =
    elim (Contains-append_cases ((id, check) ∷ []) (known_of h) row has) [
      | inl here ↦
          let is = one_of (id, check) row here in
          (context, subst (λ (r : Row). Contains (Enroll context id check ∷ h) (Enroll context r.0 r.1)) is (Contains-append_left (Enroll context id check ∷ []) h (Enroll context id check) (Contains-push [] (Enroll context id check))))
      | inr later ↦ enrolled_later (Enroll context id check) h row (known_enrolled h row later)
    ]
known_enrolled (Settings time settings ∷ h) row has = enrolled_later (Settings time settings) h row (known_enrolled h row has)
known_enrolled (Grant time context number address until ∷ h) row has = enrolled_later (Grant time context number address until) h row (known_enrolled h row has)
known_enrolled (Refuse time context number why ∷ h) row has = enrolled_later (Refuse time context number why) h row (known_enrolled h row has)
known_enrolled (Block context to ∷ h) row has = enrolled_later (Block context to) h row (known_enrolled h row has)
known_enrolled (Roll time set ∷ h) row has = enrolled_later (Roll time set) h row (known_enrolled h row has)
known_enrolled (Given time context number epoch ∷ h) row has = enrolled_later (Given time context number epoch) h row (known_enrolled h row has)
known_enrolled (Stale time id epoch ∷ h) row has = enrolled_later (Stale time id epoch) h row (known_enrolled h row has)
known_enrolled (Switch time epoch ∷ h) row has = enrolled_later (Switch time epoch) h row (known_enrolled h row has)
known_enrolled (Release time id ∷ h) row has = enrolled_later (Release time id) h row (known_enrolled h row has)

-- what was enrolled is known
known_one : (e : Entry) (context : ℕ) (id : PledgeId) (check : List ℕ) → e ≡ Enroll context id check → Contains (known_of (e ∷ [])) (id, check)
known_one e context id check is = subst (λ (x : Entry). Contains (known_of (x ∷ [])) (id, check)) (sym is) (Contains-push [] (id, check))

pub enrolled_known : (h : List Entry) (context : ℕ) (id : PledgeId) (check : List ℕ) → Contains h (Enroll context id check) → Contains (known_of h) (id, check)
enrolled_known [] context id check has = absurd (omega (arith, has.1))
enrolled_known (e ∷ h) context id check has =
    let parts : known_of (e ∷ h) ≡ known_of (e ∷ []) ++ known_of h = known_of-append (e ∷ []) h in
    elim (Contains-append_cases (e ∷ []) h (Enroll context id check) has) [
      | inl here ↦
          let is = one_of e (Enroll context id check) here in
          subst (λ (xs : List Row). Contains xs (id, check)) (sym parts) (Contains-append_left (known_of (e ∷ [])) (known_of h) (id, check) (known_one e context id check is))
      | inr later ↦ subst (λ (xs : List Row). Contains xs (id, check)) (sym parts) (Contains-append_right (known_of (e ∷ [])) (known_of h) (id, check) (enrolled_known h context id check later))
    ]

-- ---- rows that are enrolled

pub placed_longer : (known rows new : List Row) → PlacesRows known rows new → length known ≤ length new
placed_longer known [] new is = omega (arith, ap length is)
placed_longer known (row ∷ rows) new is =
    let one : length known ≤ length is.0 = (elim is.1 [
      | inl has ↦ omega (arith, ap length has.1)
      | inr has ↦ omega (arith, ap length has.1, length-append known (row ∷ []))
    ]) in
    omega (arith, one, placed_longer is.0 rows new is.2)

-- the history with the new contexts of these rows
pub record Enrolls (h : List Entry) (rows new : List Row) : Type 0 where
  pub fresh : List Row
  pub parts : new ≡ known_of h ++ fresh
  pub enrolls_rows : EnrollsRows h rows (h ++ enrolls (context_count h) fresh)
  pub legal : IsLegal h → length new ≤ context_limit → IsLegal (h ++ enrolls (context_count h) fresh)

-- one row is enrolled as the next context
next : List Entry → Row → List Entry
next h row = h ++ Enroll (context_count h) row.0 row.1 ∷ []

known_next : (h : List Entry) (row : Row) → known_of (next h row) ≡ known_of h ++ row ∷ []
unfolding next
known_next h row = known_of-append h (Enroll (context_count h) row.0 row.1 ∷ [])

count_next : (h : List Entry) (row : Row) → context_count (next h row) ≡ context_count h + 1
unfolding next
count_next h row = context_count-push h (Enroll (context_count h) row.0 row.1)

legal_next : (h : List Entry) (row : Row) → IsLegal h → context_count h < context_limit → (Knows (known_of h) row.1 → ⊥) → IsLegal (next h row)
unfolding next
legal_next h row legal few unknown =
    IsLegal-push h (Enroll (context_count h) row.0 row.1) legal (refl, few, λ has. unknown (has.1, enrolled_known h has.0 has.1 row.1 has.2))

pub enroll_rows : (h : List Entry) (rows new : List Row) → PlacesRows (known_of h) rows new → Enrolls h rows new
unfolding next
enroll_rows h [] new is = record {
  fresh = [];
  parts = is ∙ sym (append-nil (known_of h));
  enrolls_rows = append-nil h;
  legal = λ legal few. subst IsLegal (sym (append-nil h)) legal;
}
enroll_rows h (row ∷ rows) new (between, inl has, rest) =
    let known = subst (λ (k : List Row). PlacesRows k rows new) has.1 rest in
    let more = enroll_rows h rows new known in
    let found = known_enrolled h row has.0 in
    record { fresh = more.fresh; parts = more.parts; enrolls_rows = inl (found.0, found.1, more.enrolls_rows); legal = more.legal }
enroll_rows h (row ∷ rows) new (between, inr has, rest) =
    let known = subst (λ (k : List Row). PlacesRows k rows new) (has.1 ∙ sym (known_next h row)) rest in
    let more = enroll_rows (next h row) rows new known in
    let same : next h row ++ enrolls (context_count (next h row)) more.fresh ≡ h ++ enrolls (context_count h) (row ∷ more.fresh)
    = ap (λ (n : ℕ). next h row ++ enrolls n more.fresh) (count_next h row) ∙ append_assoc h (Enroll (context_count h) row.0 row.1 ∷ []) (enrolls (context_count h + 1) more.fresh) in
    record {
      fresh = row ∷ more.fresh;
      parts = more.parts ∙ ap (λ (k : List Row). k ++ more.fresh) (known_next h row) ∙ append_assoc (known_of h) (row ∷ []) more.fresh;
      enrolls_rows = inr (λ check. has.0 (check.1, enrolled_known h check.0 check.1 row.1 check.2), subst (λ (l : List Entry). EnrollsRows (next h row) rows l) same more.enrolls_rows);
      legal = λ legal few.
          let long = placed_longer (known_of (next h row)) rows new known in
          let count : context_count h < context_limit = omega (arith, long, few, known_count (next h row), count_next h row) in
          subst IsLegal same (more.legal (legal_next h row legal count has.0) few);
    }

known_enrolls : (context : ℕ) (rows : List Row) → known_of (enrolls context rows) ≡ rows
known_enrolls context [] = refl
known_enrolls context (row ∷ rows) = ap (λ (l : List Row). row ∷ l) (known_enrolls (context + 1) rows)

-- the contexts of the history with those of the rows
pub known_after : (h : List Entry) (rows new : List Row) (all : Enrolls h rows new) → known_of (h ++ enrolls (context_count h) all.fresh) ≡ new
known_after h rows new all =
    known_of-append h (enrolls (context_count h) all.fresh) ∙ ap (λ (l : List Row). known_of h ++ l) (known_enrolls (context_count h) all.fresh) ∙ sym all.parts

-- a check that is known under another pledge is that of another pledge's context
pub same_key : (log : List Entry) (rows : List Row) (p q : PledgeId) → HaveKnownKey (known_of log) rows p q → HaveSameKey log rows p q
same_key log rows p q same =
    let all = enroll_rows log same.before same.between same.placed in
    let h = log ++ enrolls (context_count log) all.fresh in
    let found = known_enrolled h (p, same.check) (subst (λ (k : List Row). Contains k (p, same.check)) (sym (known_after log same.before same.between all)) same.found) in
    record {
      before = same.before;
      check = same.check;
      after = same.after;
      between = h;
      context = found.0;
      parts = same.parts;
      enrolled = all.enrolls_rows;
      found = found.1;
      other = same.other;
    }

pub too_many_contexts : (log : List Entry) (rows new : List Row) (count : ℕ) → PlacesRows (known_of log) rows new → count ≡ length new → context_limit < count → HasTooManyContexts log rows count
too_many_contexts log rows new count placed is many =
    let all = enroll_rows log rows new placed in
    record {
      history = log ++ enrolls (context_count log) all.fresh;
      enrolled = all.enrolls_rows;
      is = is ∙ sym (ap length (known_after log rows new all)) ∙ known_count (log ++ enrolls (context_count log) all.fresh);
      many = many;
    }
