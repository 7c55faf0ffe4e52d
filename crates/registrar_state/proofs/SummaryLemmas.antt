-- The parts of a summary, against what the state keeps.
use Rattle.std.proofs.Common.{◌≡◌, inl, inr, ℕ, zero, suc, ◌+◌, ◌<◌, ◌≤◌, Bool, true, false, ◌&&◌, eqb, List, [], ◌∷◌, ◌++◌, ◌↔◌, ◌⊎◌, Option, Some, None, Any, Contains, Ordering, Less, Equal, Greater, Result, Ok, Err, IfOk, length, get_or, take, map, refl, sym, ap, ◌∙◌, subst, arith}
use Rattle.std.specs.Int.{w64, from_be_bytes, to_be_bytes}
use Rattle.std.specs.Ordering.{MatchOrdering, nat_cmp, ordering_then}
use Rattle.std.specs.List.{AllZip, slice_get}
use Rattle.std.specs.List.Sorted.{IsStrictlySortedBy}
use Rattle.std.specs.Prelude.{IsTrue}
use Rattle.std.proofs.lemmas.Bool.{eqb-true, cases_lt, false≢true}
use Rattle.address_leases.proofs.ListLemmas.{Contains-here, Contains-later, Contains-cons_cases}
use Rattle.std.proofs.lemmas.Cmp.{ranked}
use Rattle.std.proofs.lemmas.List.{take_more}
use Rattle.std.proofs.lemmas.Option.{get_or_from_slice_get}
use Rattle.std.proofs.lemmas.List.Elements.{All-map, Contains-get_or, Contains-push, Contains-push_cases, Contains-append_left}
use Rattle.std.proofs.lemmas.Map.Views.{All-after_first}
use Rattle.std.proofs.lemmas.Map.Keys.{sorted_tail}
use Rattle.edge_traits.specs.declared.names.PledgeId.{PledgeId}
use Rattle.address_leases.specs.declared.grant.Grant.{Grant as Lease}
use Rattle.key_sets.specs.declared.phase.Phase.{Phase}
use Rattle.journal_text.specs.declared.settings.Settings.{Settings}
use Rattle.journal_text.specs.declared.summary.SumContext.{SumContext}
use Rattle.journal_text.specs.declared.summary.SumGrant.{SumGrant}
use Rattle.journal_text.specs.declared.summary.SumNode.{SumNode}
use Rattle.journal_text.specs.declared.entry.Entry.{Entry}
use Rattle.join_history.specs.Decisions.{HasNumber}
use Rattle.join_history.specs.Leases.{IsGrantTo}
use Rattle.join_history.specs.Summary.{Ascends, IsSummary, IsSumContext, IsSumNode, IsSumGrant, IsGrantBefore, IsNodeBefore}
use Rattle.rekey_core.specs.Held.{Held}
use Rattle.replay_window.specs.Parts.{StandsFor, AreBitsOf}
use Rattle.registrar_state.specs.declared.contexts.LastRequest.{LastRequest}
use Rattle.registrar_state.specs.declared.contexts.Row.{Row}
use Rattle.registrar_state.specs.declared.pledges.LastGrant.{LastGrant}
use Rattle.registrar_state.specs.declared.pledges.Pledges.{Pledges}
use Rattle.registrar_state.specs.declared.summary.HeldLease.{HeldLease}
use Rattle.registrar_state.specs.declared.state.RegState.{RegState}
use Rattle.registrar_state.specs.Contexts.{AreRows, IsRow, IsLastOf, IsLastRequest}
use Rattle.registrar_state.specs.Leases.{IsLease}
use Rattle.registrar_state.specs.LastGrants.{IsBefore, IsLastGrant, AreEpochs}
use Rattle.registrar_state.specs.Pledges.{KnowPledges}
use Rattle.registrar_state.specs.State.{Knows, StandsFor as IsStateOf}
use Rattle.registrar_state.proofs.StateLemmas.{known_of}
use Rattle.registrar_state.specs.Summary.{IsContextOf, IsKept, IsLeaseBefore, IsNumbered, AreHeld, lease_of, grant_of, node_in}

-- ---- lists

pub Contains-map : {X Y : Type 0} (f : X → Y) (xs : List X) (x : X) → Contains xs x → Contains (map f xs) (f x)
Contains-map f [] x has = absurd (omega (arith, has.1))
Contains-map f (y ∷ xs) x (zero, small, is) = (0, omega arith, ap f is)
Contains-map f (y ∷ xs) x (suc k, small, is) =
    let rest = Contains-map f xs x (k, omega (arith, small), is) in
    (suc rest.0, omega (arith, rest.1), rest.2)

pub mapped_from : {X Y : Type 0} (f : X → Y) (xs : List X) (y : Y) → Contains (map f xs) y → (x : X) × Contains xs x × (f x ≡ y)
mapped_from f [] y has = absurd (omega (arith, has.1))
mapped_from f (x ∷ xs) y (zero, small, is) = (x, (0, omega arith, refl), is)
mapped_from f (x ∷ xs) y (suc k, small, is) =
    let rest = mapped_from f xs y (k, omega (arith, small), is) in
    (rest.0, (suc rest.1.0, omega (arith, rest.1.1), rest.1.2), rest.2)

pub mapped_in : {X Y : Type 0} (f : X → Y) (xs : List X) (x : X) → Contains xs x → Contains (map f xs) (f x)
mapped_in f [] x has = absurd (omega (arith, has.1))
mapped_in f (y ∷ xs) x has = elim (Contains-cons_cases y xs x has) [
  | inl here ↦ subst (λ z. Contains (map f (y ∷ xs)) (f z)) here (Contains-here (f y) (map f xs))
  | inr later ↦ Contains-later (f y) (map f xs) (f x) (mapped_in f xs x later)
]

pub Contains-head : {X : Type 0} (x : X) (xs : List X) → Contains (x ∷ xs) x
Contains-head x xs = (0, omega arith, refl)

pub Contains-behind : {X : Type 0} (x : X) (xs : List X) (y : X) → Contains xs y → Contains (x ∷ xs) y
Contains-behind x xs y has = (suc has.0, omega (arith, has.1), has.2)

-- what is in order stays so under a function that keeps the order
pub Ascends-map : {X Y : Type 0} (A : X → X → Type 0) (B : Y → Y → Type 0) (f : X → Y) (xs : List X)
    → ((x y : X) → Contains xs x → Contains xs y → A x y → B (f x) (f y)) → Ascends A xs → Ascends B (map f xs)
Ascends-map A B f [] keeps ascend = tt
Ascends-map A B f (x ∷ xs) keeps ascend = (
  All-map (B (f x)) f xs (λ k d small.
      let y = get_or xs k d in
      keeps x y (Contains-head x xs) (Contains-behind x xs y (Contains-get_or xs k d small)) (ascend.0 k d small)),
  Ascends-map A B f xs (λ y z has has'. keeps y z (Contains-behind x xs y has) (Contains-behind x xs z has')) ascend.1,
)

-- what is strictly sorted ascends
pub ascends_from_sorted : {X : Type 0} (cmp : X → X → Ordering) (A : X → X → Type 0) (xs : List X)
    → ((x y : X) → cmp x y ≡ Less → A x y) → IsStrictlySortedBy cmp xs → Ascends A xs
ascends_from_sorted cmp A [] less sorted = tt
ascends_from_sorted cmp A (x ∷ xs) less sorted = (
  λ k d small. less x (get_or xs k d) (All-after_first cmp x xs sorted k d small),
  ascends_from_sorted cmp A xs less (sorted_tail cmp x xs sorted),
)

-- ---- what a result says

pub IfOk-map : {X E : Type 0} (P Q : X → Type 0) (r : Result X E) → ((x : X) → P x → Q x) → IfOk r P → IfOk r Q
IfOk-map P Q (Ok x) give told = give x told
IfOk-map P Q (Err e) give told = tt

-- ---- contexts

-- a place of the second list has an element of the first
pub zip_at : {X Y : Type 0} (R : X → Y → Type 0) (xs : List X) (ys : List Y) (k : ℕ) (e : Y) → AllZip R xs ys → k < length ys
    → (x : X) × R x (get_or ys k e) × ((d : X) → get_or xs k d ≡ x)
zip_at R [] [] k e zip small = absurd (omega (arith, small))
zip_at R [] (y ∷ ys) k e zip small = absurd zip
zip_at R (x ∷ xs) [] k e zip small = absurd zip
zip_at R (x ∷ xs) (y ∷ ys) zero e zip small = (x, zip.0, λ d. refl)
zip_at R (x ∷ xs) (y ∷ ys) (suc k) e zip small = zip_at R xs ys k e zip.1 (omega (arith, small))

pub zip_pushed : {X Y : Type 0} (R : X → Y → Type 0) (xs : List X) (ys : List Y) (x : X) (y : Y) → AllZip R xs ys → R x y
    → AllZip R (xs ++ x ∷ []) (ys ++ y ∷ [])
zip_pushed R [] [] x y zip is = (is, tt)
zip_pushed R [] (z ∷ ys) x y zip is = absurd zip
zip_pushed R (z ∷ xs) [] x y zip is = absurd zip
zip_pushed R (v ∷ xs) (w ∷ ys) x y zip is = (zip.0, zip_pushed R xs ys x y zip.1 is)

-- a loop's step over the first list
pub zip_more : {X Y : Type 0} (R : X → Y → Type 0) (xs : List X) (ys : List Y) (k : ℕ) (x : X) (y : Y) → k < length xs
    → x ≡ get_or xs k x → AllZip R (take k xs) ys → R x y → AllZip R (take (k + 1) xs) (ys ++ y ∷ [])
zip_more {X} R xs ys k x y small at zip is =
    let taken : take (k + 1) xs ≡ take k xs ++ x ∷ [] = take_more xs k x small ∙ ap (λ (z : X). take k xs ++ z ∷ []) (sym at) in
    rw taken (zip_pushed R (take k xs) ys x y zip is)

pub length_zip : {X Y : Type 0} (R : X → Y → Type 0) (xs : List X) (ys : List Y) → AllZip R xs ys → length xs ≡ length ys
length_zip R [] [] zip = refl
length_zip R [] (y ∷ ys) zip = absurd zip
length_zip R (x ∷ xs) [] zip = absurd zip
length_zip R (x ∷ xs) (y ∷ ys) zip = let rest = length_zip R xs ys zip.1 in omega (arith, rest)

context_known : (h : List Entry) (rows : List Row) (contexts : List SumContext) (c : ℕ) (x : SumContext) → AreRows h rows
    → AllZip IsContextOf rows contexts → c < length contexts → IsSumContext h c (get_or contexts c x)
context_known h rows contexts c x are zip small =
    let (row, is, at) = zip_at IsContextOf rows contexts c x zip small in
    let len = length_zip IsContextOf rows contexts zip in
    is h c (subst (IsRow h c) (at row) (are.each c row (omega (arith, small, len))))

-- a window without parts has no number
pub no_number : (h : List Entry) (c : ℕ) (row : Row) → IsRow h c row → row.window ≡ None → (n : ℕ) → HasNumber h c n → ⊥
no_number h c row is none n has =
    let empty = subst (StandsFor is.numbers) none is.window in
    let there = subst (λ (xs : List ℕ). Contains xs n) empty ((is.are_numbers n).1 has) in
    omega (arith, there.1)

pub has_bits : (h : List Entry) (c : ℕ) (row : Row) (parts : ℕ × ℕ) (is : IsRow h c row) → row.window ≡ Some parts
    → AreBitsOf is.numbers parts.0 parts.1
has_bits h c row parts is some = subst (StandsFor is.numbers) some is.window

pub has_last : (h : List Entry) (c : ℕ) (row : Row) (l : LastRequest) → IsRow h c row → row.last ≡ Some l → IsLastRequest h c l
has_last h c row l is some = subst (IsLastOf h c) some is.last

-- ---- Grants

-- the Grant of a lease
abbrev grant_from : Lease → SumGrant
grant_from g = record { id = g.id; address = g.address; until = g.until }

-- the order of leases, as their `cmp` has it
abbrev pub lease_cmp : HeldLease → HeldLease → Ordering
lease_cmp x y = ordering_then (nat_cmp x.address y.address) (ordering_then (nat_cmp x.number y.number) (nat_cmp x.until y.until))

then_less : (o p : Ordering) → ordering_then o p ≡ Less → (o ≡ Less) ⊎ ((o ≡ Equal) × (p ≡ Less))
then_less Less p is = inl refl
then_less Equal p is = inr (refl, is)
then_less Greater p is = absurd (cc)

nat_less : (m n : ℕ) → nat_cmp m n ≡ Less → m < n
nat_less m n is = subst (λ (o : Ordering). MatchOrdering o (m < n) (m ≡ n) (n < m)) is (ranked m n (nat_cmp m n) refl)

nat_equal : (m n : ℕ) → nat_cmp m n ≡ Equal → m ≡ n
nat_equal m n is = subst (λ (o : Ordering). MatchOrdering o (m < n) (m ≡ n) (n < m)) is (ranked m n (nat_cmp m n) refl)

pub lease_before : (x y : HeldLease) → lease_cmp x y ≡ Less → IsLeaseBefore x y
lease_before x y is =
    elim (then_less (nat_cmp x.address y.address) (ordering_then (nat_cmp x.number y.number) (nat_cmp x.until y.until)) is) [
      | inl address ↦ inl (nat_less x.address y.address address)
      | inr (address, rest) ↦ elim (then_less (nat_cmp x.number y.number) (nat_cmp x.until y.until) rest) [
        | inl number ↦ inr (nat_equal x.address y.address address, inl (nat_less x.number y.number number))
        | inr (number, until) ↦ inr (
          nat_equal x.address y.address address,
          inr (nat_equal x.number y.number number, nat_less x.until y.until until),
        )
      ]
    ]

both_true : (a b : Bool) → (a && b) ≡ true → (a ≡ true) × (b ≡ true)
both_true true b is = (refl, is)
both_true false b is = absurd (cc)

-- leases that are alike in each field are one
pub lease_same : (x y : HeldLease) → (eqb x.address y.address && (eqb x.number y.number && eqb x.until y.until)) ≡ true → x ≡ y
lease_same x y is =
    let prefix = both_true (eqb x.address y.address) (eqb x.number y.number && eqb x.until y.until) is in
    let back = both_true (eqb x.number y.number) (eqb x.until y.until) prefix.1 in
    let lease : ℕ → ℕ → ℕ → HeldLease = λ a n u. record { address = a; number = n; until = u } in
    ap (λ (a : ℕ). lease a x.number x.until) (eqb-true x.address y.address prefix.0)
    ∙ ap (λ (n : ℕ). lease y.address n x.until) (eqb-true x.number y.number back.0)
    ∙ ap (λ (u : ℕ). lease y.address y.number u) (eqb-true x.until y.until back.1)

-- the lease that is written joins those that are kept
pub held_pushed : (leases : List Lease) (time : ℕ) (held : List HeldLease) (x : SumGrant) (l : HeldLease) → AreHeld leases time held
    → grant_of l ≡ x → IsNumbered l → time < x.until + 3600 → AreHeld (leases ++ lease_of x ∷ []) time (held ++ l ∷ [])
held_pushed leases time held x l are is number small = record {
  numbered = λ m has. elim (Contains-push_cases held l m has) [
    | inl old ↦ are.numbered m old
    | inr new ↦ subst IsNumbered new number
  ];
  each = λ m has. elim (Contains-push_cases held l m has) [
    | inl old ↦ let kept = are.each m old in (Contains-append_left leases (lease_of x ∷ []) (lease_of (grant_of m)) kept.0, kept.1)
    | inr new ↦
        let same : x ≡ grant_of m = sym is ∙ ap grant_of new in
        subst (IsKept (leases ++ lease_of x ∷ []) time) same (Contains-push leases (lease_of x), small)
  ];
  every = λ y kept. elim (Contains-push_cases leases (lease_of x) (lease_of y) kept.0) [
    | inl old ↦
        let found = are.every y (old, kept.1) in
        (found.0, Contains-append_left held (l ∷ []) found.0 found.1, found.2)
    | inr new ↦ (l, Contains-push held l, is ∙ ap grant_from new)
  ];
}

-- the lease that is over stays away
pub held_passed : (leases : List Lease) (time : ℕ) (held : List HeldLease) (g : Lease) → AreHeld leases time held
    → g.until + 3600 ≤ time → AreHeld (leases ++ g ∷ []) time held
held_passed leases time held g are over = record {
  numbered = are.numbered;
  each = λ m has. let kept = are.each m has in (Contains-append_left leases (g ∷ []) (lease_of (grant_of m)) kept.0, kept.1);
  every = λ y kept. elim (Contains-push_cases leases g (lease_of y) kept.0) [
    | inl old ↦ are.every y (old, kept.1)
    | inr new ↦ let until = ap (λ (z : Lease). z.until) new in absurd (omega (arith, until, over, kept.1))
  ];
}

pub held_none : (time : ℕ) → AreHeld [] time []
held_none time = record {
  numbered = λ l has. absurd (omega (arith, has.1));
  each = λ l has. absurd (omega (arith, has.1));
  every = λ x kept. absurd (omega (arith, kept.0.1));
}

-- the place that a loop has come to
pub not_less : (n m : ℕ) (b : Bool) → IsTrue b ↔ (n < m) → b ≡ false → m ≤ n
not_less n m b is not = elim (cases_lt n m) [
  | inl below ↦ absurd (false≢true (sym not ∙ is.1 below))
  | inr from ↦ from
]

pub next_taken : (leases : List Lease) (k : ℕ) (g : Lease) → k < length leases → slice_get leases k ≡ Some g
    → take (k + 1) leases ≡ take k leases ++ g ∷ []
next_taken leases k g small is =
    take_more leases k g small ∙ ap (λ (x : Lease). take k leases ++ x ∷ []) (get_or_from_slice_get leases k g g is)

-- a lease that comes before another is a Grant that comes before its Grant
grant_before : (x y : HeldLease) → IsNumbered x → IsNumbered y → IsLeaseBefore x y → IsGrantBefore (grant_of x) (grant_of y)
unfolding grant_of IsNumbered
grant_before x y number number' (inl address) = inl address
grant_before x y number number' (inr (address, inl below)) =
    let up = subst (λ (n : ℕ). x.number < n) (sym number') below in
    inr (address, inl (subst (λ (n : ℕ). n < from_be_bytes w64 (to_be_bytes w64 y.number)) (sym number) up))
grant_before x y number number' (inr (address, inr (same, until))) =
    let id : ℕ → PledgeId = λ n. record { 0 = to_be_bytes w64 n } in
    inr (address, inr (ap id same, until))

pub grants_ascend : (held : List HeldLease) → ((l : HeldLease) → Contains held l → IsNumbered l) → Ascends IsLeaseBefore held
    → Ascends IsGrantBefore (map grant_of held)
grants_ascend held numbered ascend =
    Ascends-map IsLeaseBefore IsGrantBefore grant_of held
    (λ x y has has' before. grant_before x y (numbered x has) (numbered y has') before) ascend

-- the Grants of the leases that are held
pub grants_kept : (leases : List Lease) (time : ℕ) (held ordered : List HeldLease) → AreHeld leases time held
    → ((l : HeldLease) → Contains ordered l ↔ Contains held l) → (x : SumGrant) → Contains (map grant_of ordered) x ↔ IsKept leases time x
grants_kept leases time held ordered are same x = (
  λ has.
      let from = mapped_from grant_of ordered x has in
      subst (IsKept leases time) from.2 (are.each from.0 ((same from.0).0 from.1)),
  λ kept.
      let found = are.every x kept in
      subst (Contains (map grant_of ordered)) found.2 (Contains-map grant_of ordered found.0 ((same found.0).1 found.1)),
)

-- a kept lease that holds its address at the last time is a Grant of the summary, and the other way
pub kept_is : (state : RegState) (h : List Entry) → Knows state h → (x : SumGrant) → IsKept state.leases.grants state.time x ↔ IsSumGrant h x
kept_is state h knows x = (
  λ kept.
      let lease = knows.leases.each (lease_of x) kept.0 in
      let time = knows.time in
      record {
        time = lease.time;
        context = lease.context;
        number = lease.number;
        effect = lease.effect;
        pledge = lease.pledge;
        held = omega (arith, time, kept.1);
      },
  λ is.
      let lease : IsLease h (lease_of x) = record {
        time = is.time;
        context = is.context;
        number = is.number;
        effect = is.effect;
        pledge = is.pledge;
      } in
      let time = knows.time in
      let passed = knows.passed in
      let held = is.held in
      (knows.leases.every (lease_of x) lease (omega (arith, passed, held)), omega (arith, time, held)),
)

-- ---- nodes

node_is : (h : List Entry) (held : Held) (l : LastGrant) → AreEpochs h held → IsLastGrant h l → IsSumNode h (node_in held l)
node_is h held l epochs is = record {
  time = is.time;
  number = is.number;
  address = is.address;
  until = is.until;
  last = is.last;
  lease = is.lease;
  has = (epochs l.id).0;
  stale = (epochs l.id).1;
}

-- the nodes of the pledges
pub record AreNodes (h : List Entry) (nodes : List SumNode) : Type 0 where
  pub ascend : Ascends IsNodeBefore nodes
  pub each : (x : SumNode) → Contains nodes x → IsSumNode h x
  pub every : (p : PledgeId) → Any (IsGrantTo h p) h → (x : SumNode) × Contains nodes x × (x.id ≡ p)

pub nodes_known : (h : List Entry) (pledges : Pledges) → KnowPledges h pledges
    → AreNodes h (map (node_in pledges.holders) pledges.grants.items)
unfolding KnowPledges
nodes_known h pledges know =
    let node = node_in pledges.holders in
    let grants = pledges.grants.items in
    record {
      ascend = Ascends-map IsBefore IsNodeBefore node grants (λ x y has has' before. before) know.0.ascend;
      each = λ x has.
          let from = mapped_from node grants x has in
          subst (IsSumNode h) from.2 (node_is h pledges.holders from.0 know.1 (know.0.each from.0 from.1));
      every = λ p any.
          let found = know.0.every p any in
          (node found.0, Contains-map node grants found.0 found.1, found.2);
    }

-- ---- the whole

pub summary_known : (state : RegState) (h : List Entry) (settings : Option (ℕ × Settings)) (keys : Phase) (contexts : List SumContext)
    (grants : List SumGrant) (nodes : List SumNode) → IsStateOf state h → settings ≡ state.settings → keys ≡ state.phase
    → AllZip IsContextOf state.contexts.rows contexts → Ascends IsGrantBefore grants
    → ((x : SumGrant) → Contains grants x ↔ IsKept state.leases.grants state.time x)
    → nodes ≡ map (node_in state.pledges.holders) state.pledges.grants.items
    → IsSummary h (record { time = state.time; settings = settings; phase = keys; contexts = contexts; grants = grants; nodes = nodes })
summary_known state h settings keys contexts grants nodes stands settings_is keys_are zip ascend kept nodes_are =
    let knows = known_of state h stands in
    let known = subst (AreNodes h) (sym nodes_are) (nodes_known h state.pledges knows.pledges) in
    record {
      time = knows.time;
      settings = settings_is ∙ knows.settings;
      phase_in_force = keys_are ∙ knows.keys;
      context_count = sym (length_zip IsContextOf state.contexts.rows contexts zip) ∙ knows.rows.count;
      contexts = λ c x small. context_known h state.contexts.rows contexts c x knows.rows zip small;
      grants_ascend = ascend;
      grants = λ x. (λ has. (kept_is state h knows x).0 ((kept x).0 has), λ is. (kept x).1 ((kept_is state h knows x).1 is));
      nodes_ascend = known.ascend;
      nodes = known.each;
      every_node = known.every;
    }
