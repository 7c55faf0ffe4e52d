-- What opening adds after a log.
use Rattle.std.proofs.Common.{◌≡◌, ◌⊎◌, ℕ, ◌+◌, ◌*◌, ◌≤◌, ◌<◌, List, [], ◌∷◌, ◌++◌, length, get_or, drop, Option, None, Some, unwrap_or, refl, sym, ap, subst, ◌∙◌, append_assoc, append-nil, arith, inl, inr, length-append}
use Rattle.std.proofs.lemmas.List.{get_or_append_left, length-drop}
use Rattle.std.proofs.Math.Seq.{drop-append_seam, get_or-append_seam}
use Rattle.std.proofs.lemmas.List.Elements.{Contains-push, Contains-append_left}
use Rattle.std.proofs.lemmas.Bool.{cases_lt}
use Rattle.std.specs.Prelude.{Contains, MatchOption}
use Rattle.std.specs.List.{AllByRecursion, AllZip}
use Rattle.edge_traits.specs.declared.names.PledgeId.{PledgeId}
use Rattle.journal_text.specs.declared.settings.Settings.{Settings}
use Rattle.journal_text.specs.declared.entry.Entry.{Entry}
use Rattle.journal_text.specs.declared.entry.Entry.TheVariants.{Settings as SettingsEntry, Enroll}
use Rattle.journal_text.specs.Text.{IsSpellable}
use Rattle.join_history.specs.Limits.{context_limit, entry_limit}
use Rattle.join_history.specs.Times.{moment}
use Rattle.join_history.specs.Contexts.{context_count}
use Rattle.join_history.specs.Leases.{current_settings}
use Rattle.join_history.specs.Legal.{IsLegal, IsInRange, IsTimely, MayFollow}
use Rattle.join_history.specs.Opening.{AddsSettings, EnrollsRows, IsOpened}
use Rattle.join_history.proofs.LegalLemmas.{IsLegal-push, legal_induction}
use Rattle.join_history.proofs.TimeLemmas.{last_time-lt, IsTimely-moment}
use Rattle.registrar_book.specs.Journals.{size_limit, sizes_of, AreSmall}
use Rattle.registrar_book.specs.Opening.{Row, HasContext, opening_time, HasTooManyEntries}
use Rattle.registrar_book.specs.Known.{known_of, PlacesRows, IsRowAt, enrolls, first_entries, IsNewSettings, IsPlan, IsOpening}
use Rattle.registrar_book.proofs.Placing.{zip_map}
use Rattle.registrar_book.proofs.Enrolling.{known_of-append, known_count, enroll_rows, known_after}

-- ---- sizes

has_size : Entry → Type 0
has_size e = size_limit e ≡ 45

enrolls_sized : (context : ℕ) (rows : List Row) → AllByRecursion has_size (enrolls context rows)
unfolding has_size
enrolls_sized context [] = tt
enrolls_sized context (row ∷ rows) = (refl, enrolls_sized (context + 1) rows)

prefix_of : (P : Entry → Type 0) (batch back : List Entry) → AllByRecursion P (batch ++ back) → AllByRecursion P batch
prefix_of P [] back all = tt
prefix_of P (e ∷ batch) back all = (all.0, prefix_of P batch back all.1)

part_of : (P : Entry → Type 0) (prefix batch back : List Entry) → AllByRecursion P (prefix ++ (batch ++ back)) → AllByRecursion P batch
part_of P [] batch back all = prefix_of P batch back all
part_of P (e ∷ prefix) batch back all = part_of P prefix batch back all.1

sized_sum : (entries : List Entry) → AllByRecursion has_size entries → sizes_of entries ≤ 45 * length entries
unfolding has_size
sized_sum [] all = omega arith
sized_sum (e ∷ entries) all = omega (arith, all.0, sized_sum entries all.1)

most_size : (e : Entry) → size_limit e ≤ 165
most_size (Enroll context id check) = omega arith
most_size _ = omega arith

-- an entry and contexts after it
sized_tail : (e : Entry) (rest prefix batch back : List Entry) → AllByRecursion has_size rest → e ∷ rest ≡ prefix ++ (batch ++ back) → sizes_of batch ≤ 120 + 45 * length batch
sized_tail e rest [] [] back all is = omega arith
sized_tail e rest [] (x ∷ batch) back all is =
    let tail : rest ≡ batch ++ back = cc in
    omega (arith, most_size x, sized_sum batch (prefix_of has_size batch back (subst (AllByRecursion has_size) tail all)))
sized_tail e rest (x ∷ prefix) batch back all is =
    let tail : rest ≡ prefix ++ (batch ++ back) = cc in
    omega (arith, sized_sum batch (part_of has_size prefix batch back (subst (AllByRecursion has_size) tail all)))

pub small : (first : Option Entry) (context : ℕ) (rows : List Row) → AreSmall (first_entries first ++ enrolls context rows)
small None context rows prefix batch back is =
    omega (arith, sized_sum batch (part_of has_size prefix batch back (subst (AllByRecursion has_size) is (enrolls_sized context rows))))
small (Some e) context rows prefix batch back is = sized_tail e (enrolls context rows) prefix batch back (enrolls_sized context rows) is

-- ---- contexts of rows

known_tail : (e : Entry) → ((context : ℕ) × (id : PledgeId) × (check : List ℕ) × (e ≡ Enroll context id check)) ⊎ (known_of (e ∷ []) ≡ [])
known_tail (Enroll context id check) = inl (context, id, check, refl)
known_tail _ = inr refl

known_same : (h : List Entry) (e : Entry) → known_of (e ∷ []) ≡ [] → known_of (h ++ e ∷ []) ≡ known_of h
known_same h e none = known_of-append h (e ∷ []) ∙ ap (λ (l : List Row). known_of h ++ l) none ∙ append-nil (known_of h)

pub few_contexts : (h : List Entry) → IsLegal h → length (known_of h) ≤ context_limit
few_contexts =
    legal_induction (λ h. length (known_of h) ≤ context_limit) (omega arith) (λ h e legal may few.
    elim (known_tail e) [
      | inl is ↦
          let may' = subst (MayFollow h) is.3 may in
          omega (arith, may'.0, may'.1, known_count h, ap length (known_of-append h (e ∷ [])), length-append (known_of h) (known_of (e ∷ [])), ap (λ (x : Entry). length (known_of (x ∷ []))) is.3)
      | inr none ↦ omega (arith, few, ap length (known_same h e none))
    ])

-- the row at this place has the context of this number
RowsHave : List Entry → Type 0
RowsHave h = (row : Row) (c : ℕ) → IsRowAt (known_of h) row c → HasContext h row c

have_next : (h : List Entry) (context : ℕ) (id : PledgeId) (check : List ℕ) → context ≡ length (known_of h) → RowsHave h → (row : Row) (c : ℕ) → IsRowAt (known_of h ++ (id, check) ∷ []) row c
    → HasContext (h ++ Enroll context id check ∷ []) row c
unfolding RowsHave
have_next h context id check is have row c at = elim (cases_lt c (length (known_of h))) [
  | inl earlier ↦
      Contains-append_left h (Enroll context id check ∷ []) (Enroll c row.0 row.1)
      (have row c (earlier, sym (get_or_append_left (known_of h) ((id, check) ∷ []) row c earlier) ∙ at.1))
  | inr from ↦
      let same : c ≡ context = omega (arith, at.0, length-append (known_of h) ((id, check) ∷ []), from, is) in
      let last : get_or (known_of h ++ (id, check) ∷ []) c row ≡ (id, check) = ap (λ (n : ℕ). get_or (known_of h ++ (id, check) ∷ []) n row) (same ∙ is) ∙ get_or-append_seam (known_of h) (id, check) [] row in
      subst (λ (n : ℕ). Contains (h ++ Enroll context id check ∷ []) (Enroll n row.0 row.1)) (sym same)
      (subst (λ (r : Row). Contains (h ++ Enroll context id check ∷ []) (Enroll context r.0 r.1)) (sym last ∙ at.1) (Contains-push h (Enroll context id check)))
]

pub rows_have : (h : List Entry) → IsLegal h → (row : Row) (c : ℕ) → IsRowAt (known_of h) row c → HasContext h row c
unfolding RowsHave
rows_have =
    legal_induction RowsHave (λ row c at. absurd (omega (arith, at.0))) (λ h e legal may have.
    elim (known_tail e) [
      | inl is ↦
          let may' = subst (MayFollow h) is.3 may in
          let next = have_next h is.0 is.1 is.2 (may'.0 ∙ sym (known_count h)) have in
          let known = known_of-append h (e ∷ []) ∙ ap (λ (x : Entry). known_of h ++ known_of (x ∷ [])) is.3 in
          λ row c at. subst (λ (x : Entry). HasContext (h ++ x ∷ []) row c) (sym is.3) (next row c (subst (λ (l : List Row). IsRowAt l row c) known at))
      | inr none ↦
          λ row c at. Contains-append_left h (e ∷ []) (Enroll c row.0 row.1) (have row c (subst (λ (l : List Row). IsRowAt l row c) (known_same h e none) at))
    ])

-- ---- settings

time_fits : (log : List Entry) (now : Option ℕ) → IsLegal log → IsTimely log (opening_time log now)
time_fits log None legal = record { not_before = omega arith; fits = last_time-lt log legal }
time_fits log (Some now) legal = IsTimely-moment log now legal

pub time_is : (log : List Entry) (now : Option ℕ) → moment log (unwrap_or now 0) ≡ opening_time log now
time_is log None = omega arith
time_is log (Some now) = refl

-- the log with the settings
pub record StartsWith (log : List Entry) (settings : Settings) (now : Option ℕ) (first : Option Entry) : Type 0 where
  pub adds : AddsSettings log (opening_time log now) settings (log ++ first_entries first)
  pub legal : IsLegal (log ++ first_entries first)
  pub known : known_of (log ++ first_entries first) ≡ known_of log

pub starts_with : (log : List Entry) (settings : Settings) (now : Option ℕ) (first : Option Entry) → IsLegal log → IsInRange settings
    → MatchOption first (current_settings log ≡ Some settings) (IsNewSettings log settings now) → StartsWith log settings now first
starts_with log settings now None legal range same = record {
  adds = inl (same, append-nil log);
  legal = subst IsLegal (sym (append-nil log)) legal;
  known = ap known_of (append-nil log);
}
starts_with log settings now (Some e) legal range new =
    let time = opening_time log now in
    let may : MayFollow log (SettingsEntry time settings) = (time_fits log now legal, range) in
    record {
      adds = inr (new.0, ap (λ (x : Entry). log ++ x ∷ []) new.1);
      legal = subst (λ (x : Entry). IsLegal (log ++ x ∷ [])) (sym new.1) (IsLegal-push log (SettingsEntry time settings) legal may);
      known = ap (λ (x : Entry). known_of (log ++ x ∷ [])) new.1 ∙ known_same log (SettingsEntry time settings) refl;
    }

-- ---- the plan

-- what opening makes of a log
pub record Opens (log : List Entry) (settings : Settings) (rows : List Row) (now : Option ℕ) (entries : List Entry) (known : List Row) : Type 0 where
  pub opened : IsOpened log (opening_time log now) settings rows (log ++ entries)
  pub legal : IsLegal (log ++ entries)
  pub known_is : known_of (log ++ entries) ≡ known

pub opens : (log : List Entry) (settings : Settings) (rows : List Row) (now : Option ℕ) (first : Option Entry) (known : List Row) (entries : List Entry) → IsLegal log → IsInRange settings
    → MatchOption first (current_settings log ≡ Some settings) (IsNewSettings log settings now) → PlacesRows (known_of log) rows known → length known ≤ context_limit
    → entries ≡ first_entries first ++ enrolls (length (known_of log)) (drop (length (known_of log)) known) → Opens log settings rows now entries known
opens log settings rows now first known entries legal range new placed few is =
    let starts = starts_with log settings now first legal range new in
    let h = log ++ first_entries first in
    let all = enroll_rows h rows known (subst (λ (k : List Row). PlacesRows k rows known) (sym starts.known) placed) in
    let parts : known ≡ known_of log ++ all.fresh = all.parts ∙ ap (λ (k : List Row). k ++ all.fresh) starts.known in
    let fresh : drop (length (known_of log)) known ≡ all.fresh = ap (drop (length (known_of log))) parts ∙ drop-append_seam (known_of log) all.fresh in
    let count : context_count h ≡ length (known_of log) = sym (known_count h) ∙ ap length starts.known in
    let same : h ++ enrolls (context_count h) all.fresh ≡ log ++ entries
    = ap (λ (n : ℕ). h ++ enrolls n all.fresh) count ∙ ap (λ (l : List Row). h ++ enrolls (length (known_of log)) l) (sym fresh)
    ∙ append_assoc log (first_entries first) (enrolls (length (known_of log)) (drop (length (known_of log)) known)) ∙ ap (λ (l : List Entry). log ++ l) (sym is) in
    record {
      opened = (h, starts.adds, subst (λ (l : List Entry). EnrollsRows h rows l) same all.enrolls_rows);
      legal = subst IsLegal same (all.legal starts.legal few);
      known_is = ap known_of (sym same) ∙ known_after h rows known all;
    }

pub have_contexts : (h : List Entry) (rows : List Row) (contexts : List ℕ) → IsLegal h → AllZip (IsRowAt (known_of h)) rows contexts → AllZip (HasContext h) rows contexts
have_contexts h rows contexts legal all = zip_map (IsRowAt (known_of h)) (HasContext h) rows contexts (rows_have h legal) all

-- ---- spelling

spelled_enrolls : (context : ℕ) (rows : List Row) → AllByRecursion IsSpellable (enrolls context rows)
spelled_enrolls context [] = tt
spelled_enrolls context (row ∷ rows) = (tt, spelled_enrolls (context + 1) rows)

spelled : (log : List Entry) (settings : Settings) (now : Option ℕ) (first : Option Entry) (context : ℕ) (rows : List Row)
    → MatchOption first (current_settings log ≡ Some settings) (IsNewSettings log settings now) → AllByRecursion IsSpellable (first_entries first ++ enrolls context rows)
spelled log settings now None context rows same = spelled_enrolls context rows
spelled log settings now (Some e) context rows new = (subst IsSpellable (sym new.1) tt, spelled_enrolls context rows)

-- ---- kinds

enrolls_open : (context : ℕ) (rows : List Row) → AllByRecursion IsOpening (enrolls context rows)
enrolls_open context [] = tt
enrolls_open context (row ∷ rows) = (tt, enrolls_open (context + 1) rows)

all_open : (log : List Entry) (settings : Settings) (now : Option ℕ) (first : Option Entry) (context : ℕ) (rows : List Row)
    → MatchOption first (current_settings log ≡ Some settings) (IsNewSettings log settings now) → AllByRecursion IsOpening (first_entries first ++ enrolls context rows)
all_open log settings now None context rows same = enrolls_open context rows
all_open log settings now (Some e) context rows new = (subst IsOpening (sym new.1) tt, enrolls_open context rows)

length_enrolls : (context : ℕ) (rows : List Row) → length (enrolls context rows) ≡ length rows
length_enrolls context [] = refl
length_enrolls context (row ∷ rows) = omega (arith, length_enrolls (context + 1) rows)

length_first : (first : Option Entry) → length (first_entries first) ≤ 1
length_first None = omega arith
length_first (Some e) = omega arith

pub few_entries : (first : Option Entry) (context place : ℕ) (known : List Row) (entries : List Entry) → entries ≡ first_entries first ++ enrolls context (drop place known) → length known ≤ context_limit
    → length entries ≤ 32769
few_entries first context place known entries is few =
    omega (arith, few, ap length is, length-append (first_entries first) (enrolls context (drop place known)), length_first first, length_enrolls context (drop place known), length-drop place known)

-- contexts and room
pub contexts_left : (log entries : List Entry) (left : ℕ) → IsLegal (log ++ entries) → left + context_count log ≡ context_limit → context_count entries ≤ left
contexts_left log entries left legal is =
    omega (arith, is, few_contexts (log ++ entries) legal, ap length (known_of-append log entries), length-append (known_of log) (known_of entries), known_count log, known_count entries)

module _ (log : List Entry) (settings : Settings) (rows : List Row) (now : Option ℕ) (first : Option Entry) (known : List Row) (entries : List Entry) (legal : IsLegal log) (range : IsInRange settings)
    (new : MatchOption first (current_settings log ≡ Some settings) (IsNewSettings log settings now)) (placed : PlacesRows (known_of log) rows known) (few : length known ≤ context_limit)
    (is : entries ≡ first_entries first ++ enrolls (length (known_of log)) (drop (length (known_of log)) known)) where
  all : Opens log settings rows now entries known
  all = opens log settings rows now first known entries legal range new placed few is

  pub plan_of : (contexts : List ℕ) → AllZip (IsRowAt known) rows contexts → length log + length entries ≤ entry_limit → IsPlan log settings rows now entries contexts
  plan_of contexts places most = record {
    opened = all.opened;
    legal = all.legal;
    each = have_contexts (log ++ entries) rows contexts all.legal (subst (λ (k : List Row). AllZip (IsRowAt k) rows contexts) (sym all.known_is) places);
    most = most;
    small = subst AreSmall (sym is) (small first (length (known_of log)) (drop (length (known_of log)) known));
    spellable = subst (AllByRecursion IsSpellable) (sym is) (spelled log settings now first (length (known_of log)) (drop (length (known_of log)) known) new);
    kinds = subst (AllByRecursion IsOpening) (sym is) (all_open log settings now first (length (known_of log)) (drop (length (known_of log)) known) new);
  }

  pub too_many : (count : ℕ) → count ≡ length log + length entries → entry_limit < count → HasTooManyEntries log settings rows now count
  too_many count sum many = record { history = log ++ entries; opened = all.opened; legal = all.legal; is = sum ∙ sym (length-append log entries); many = many }
