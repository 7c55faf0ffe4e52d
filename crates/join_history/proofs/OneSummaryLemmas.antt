-- A legal history has one summary.
use Rattle.std.proofs.Common.{◌≡◌, ◌⊎◌, inl, inr, ℕ, zero, suc, ◌-◌, ◌<◌, ◌≤◌, List, [], ◌∷◌, length, get_or, Option, Some, None, Contains, refl, sym, ap, ◌∙◌, subst, arith}
use Rattle.std.specs.Int.{w64, from_be_bytes, bit_at}
use Rattle.std.proofs.lemmas.Bool.{cases_lt}
use Rattle.std.proofs.lemmas.Option.{same_Some}
use Rattle.std.proofs.lemmas.Nat.Bits.{same_from_bits_below}
use Rattle.std.proofs.lemmas.List.Elements.{All-contains, Contains-append_right}
use Rattle.edge_traits.specs.declared.names.PledgeId.{PledgeId}
use Rattle.journal_text.specs.declared.summary.SumRequest.{SumRequest}
use Rattle.journal_text.specs.declared.summary.SumContext.{SumContext}
use Rattle.journal_text.specs.declared.summary.SumGrant.{SumGrant}
use Rattle.journal_text.specs.declared.summary.SumNode.{SumNode}
use Rattle.journal_text.specs.declared.entry.Entry.{Entry}
use Rattle.journal_text.specs.declared.entry.Entry.TheVariants.{Grant}
use Rattle.join_history.specs.Last.{IsLast}
use Rattle.join_history.specs.Times.{time_of}
use Rattle.join_history.specs.Decisions.{IsDecision, HasNumber}
use Rattle.join_history.specs.Leases.{IsGrantTo, IsInEffect}
use Rattle.join_history.specs.Epochs.{Has, IsStaleFor}
use Rattle.join_history.specs.Legal.{IsLegal}
use Rattle.join_history.specs.Answers.{IsAnswer}
use Rattle.join_history.specs.Summary.{Summary, Ascends, IsSumRequest, AreSumRequests, IsSumContext, IsGrantBefore, IsGreatest, IsNodeLease, IsSumNode, IsNodeBefore, IsSummary}
use Rattle.join_history.proofs.ListLemmas.{Any-from_contains}
use Rattle.join_history.proofs.LastLemmas.{IsLast-unique, IsLast-contains}
use Rattle.join_history.proofs.AnswerLemmas.{one_answer}
use Rattle.join_history.proofs.TotalLemmas.{same_number}
use Rattle.join_history.proofs.KnownLemmas.{enrolled_once}
use Rattle.join_history.proofs.NextNodeLemmas.{greatest_unique}

-- two bits that are 1 alike are the same
same_bit : (a b : ℕ) → a < 2 → b < 2 → (a ≡ 1 → b ≡ 1) → (b ≡ 1 → a ≡ 1) → a ≡ b
same_bit a b small small' there back = elim (cases_lt 0 a) [
  | inl some ↦ let is : a ≡ 1 = omega (arith, some, small) in is ∙ sym (there is)
  | inr none ↦ elim (cases_lt 0 b) [
    | inl some ↦ let is : b ≡ 1 = omega (arith, some, small') in back is ∙ sym is
    | inr none' ↦ omega (arith, none, none')
  ]
]

-- two numbers below 2^32 with the same 32 bits are the same
same_window : (h : List Entry) (c : ℕ) (r q : SumRequest) → r.greatest ≡ q.greatest → IsSumRequest h c r → IsSumRequest h c q
    → r.window ≡ q.window
same_window h c r q same a b =
    same_from_bits_below 32 r.window q.window a.window_fits b.window_fits (λ i small.
    same_bit (bit_at r.window i) (bit_at q.window i) (omega arith) (omega arith)
    (λ bit. (b.window i small).1 (subst (λ (m : ℕ). (i ≤ m) × HasNumber h c (m - i)) same ((a.window i small).0 bit)))
    (λ bit. (a.window i small).1 (subst (λ (m : ℕ). (i ≤ m) × HasNumber h c (m - i)) (sym same) ((b.window i small).0 bit))))

one_request : (h : List Entry) (c : ℕ) (r q : SumRequest) → IsLegal h → IsSumRequest h c r → IsSumRequest h c q → r ≡ q
one_request h c r q legal a b =
    let most = b.at_most r.greatest a.greatest in
    let least = a.at_most q.greatest b.greatest in
    let greatest : r.greatest ≡ q.greatest = omega (arith, most, least) in
    let window = same_window h c r q greatest a b in
    let last : a.decision ≡ b.decision = IsLast-unique (λ x. (m : ℕ) × IsDecision c m x) h a.decision b.decision a.last b.last in
    let number : r.number ≡ q.number = same_number c r.number q.number b.decision (subst (IsDecision c r.number) last a.number) b.number in
    let time : r.time ≡ q.time = same_Some r.time q.time (sym a.time ∙ ap time_of last ∙ b.time) in
    let answer : r.answer.items ≡ q.answer.items =
    one_answer h c q.number r.answer.items q.answer.items legal (subst (λ (m : ℕ). IsAnswer h c m r.answer.items) number a.answer) b.answer in
    λ i. record {
      greatest = greatest i;
      window = window i;
      number = number i;
      time = time i;
      answer = record { items = answer i };
    }

one_requests : (h : List Entry) (c : ℕ) (o p : Option SumRequest) → IsLegal h → AreSumRequests h c o → AreSumRequests h c p → o ≡ p
one_requests h c None None legal a b = refl
one_requests h c None (Some q) legal a b = absurd (a q.greatest b.greatest)
one_requests h c (Some r) None legal a b = absurd (b r.greatest a.greatest)
one_requests h c (Some r) (Some q) legal a b = ap (λ x. Some x) (one_request h c r q legal a b)

one_context : (h : List Entry) (c : ℕ) (x y : SumContext) → IsLegal h → IsSumContext h c x → IsSumContext h c y → x ≡ y
one_context h c x y legal a b =
    let same = enrolled_once h c x.id y.id x.check y.check legal a.enrolled b.enrolled in
    let end = a.end ∙ sym b.end in
    let last = one_requests h c x.last y.last legal a.requests b.requests in
    λ i. record { id = same.0 i; check = same.1 i; end = end i; last = last i }

-- two lists of one length with the same element at each place are the same
same_lists : {X : Type 0} (xs ys : List X) → length xs ≡ length ys
    → ((k : ℕ) (d : X) → k < length xs → get_or xs k d ≡ get_or ys k d) → xs ≡ ys
same_lists [] [] count same = refl
same_lists [] (y ∷ ys) count same = absurd (omega (arith, count))
same_lists (x ∷ xs) [] count same = absurd (omega (arith, count))
same_lists (x ∷ xs) (y ∷ ys) count same =
    let first = same 0 x (omega arith) in
    let rest = same_lists xs ys (omega (arith, count)) (λ k d small. same (suc k) d (omega (arith, small))) in
    λ i. first i ∷ rest i

contains_first : {X : Type 0} (x : X) (xs : List X) → Contains (x ∷ xs) x
contains_first x xs = (0, omega arith, refl)

contains_rest : {X : Type 0} (x y : X) (xs : List X) → Contains (x ∷ xs) y → (y ≡ x) ⊎ Contains xs y
contains_rest x y xs (zero, small, is) = inl (sym is)
contains_rest x y xs (suc k, small, is) = inr (k, omega (arith, small), is)

-- two ascending lists with the same elements are the same
same_ascending : {X : Type 0} (Before : X → X → Type 0) → ((x y : X) → Before x y → Before y x → ⊥) → (xs ys : List X)
    → Ascends Before xs → Ascends Before ys → ((x : X) → Contains xs x → Contains ys x) → ((x : X) → Contains ys x → Contains xs x)
    → xs ≡ ys
same_ascending Before never [] [] a b there back = refl
same_ascending Before never [] (y ∷ ys) a b there back = let has = back y (contains_first y ys) in absurd (omega (arith, has.1))
same_ascending Before never (x ∷ xs) [] a b there back = let has = there x (contains_first x xs) in absurd (omega (arith, has.1))
same_ascending Before never (x ∷ xs) (y ∷ ys) a b there back =
    let first : x ≡ y = elim (contains_rest y x ys (there x (contains_first x xs))) [
      | inl same ↦ same
      | inr later ↦ elim (contains_rest x y xs (back y (contains_first y ys))) [
        | inl same ↦ sym same
        | inr behind ↦ absurd (never y x (All-contains (Before y) ys x b.0 later) (All-contains (Before x) xs y a.0 behind))
      ]
    ] in
    let rest = same_ascending Before never xs ys a.1 b.1 (λ z has. elim (contains_rest y z ys (there z (Contains-append_right (x ∷ []) xs z has))) [
      | inr later ↦ later
      | inl same ↦ let at = All-contains (Before x) xs z a.0 has in
          let self = subst (Before x) (same ∙ sym first) at in absurd (never x x self self)
    ]) (λ z has. elim (contains_rest x z xs (back z (Contains-append_right (y ∷ []) ys z has))) [
      | inr later ↦ later
      | inl same ↦ let at = All-contains (Before y) ys z b.0 has in
          let self = subst (Before y) (same ∙ first) at in absurd (never y y self self)
    ]) in
    λ i. first i ∷ rest i

-- no Grant comes before one that comes before it
grant_order : (x y : SumGrant) → IsGrantBefore x y → IsGrantBefore y x → ⊥
grant_order x y (inl a) (inl b) = omega (arith, a, b)
grant_order x y (inl a) (inr (same, b)) = omega (arith, a, same)
grant_order x y (inr (same, a)) (inl b) = omega (arith, b, same)
grant_order x y (inr (same, inl a)) (inr (same', inl b)) = omega (arith, a, b)
grant_order x y (inr (same, inl a)) (inr (same', inr b)) =
    let id : from_be_bytes w64 x.id.0 ≡ from_be_bytes w64 y.id.0 = ap (λ (p : PledgeId). from_be_bytes w64 p.0) (sym b.0) in omega (arith, a, id)
grant_order x y (inr (same, inr a)) (inr (same', inl b)) =
    let id : from_be_bytes w64 x.id.0 ≡ from_be_bytes w64 y.id.0 = ap (λ (p : PledgeId). from_be_bytes w64 p.0) a.0 in omega (arith, b, id)
grant_order x y (inr (same, inr a)) (inr (same', inr b)) = omega (arith, a.1, b.1)

node_order : (x y : SumNode) → IsNodeBefore x y → IsNodeBefore y x → ⊥
node_order x y a b = omega (arith, a, b)

-- two nodes of one last Grant have one lease
one_lease : (h : List Entry) (x y : SumNode) (e f : Entry) → x.id ≡ y.id → e ≡ f → IsNodeLease h x e → IsNodeLease h y f
    → (x.address ≡ y.address) × (x.until ≡ y.until)
one_lease h x y (Grant t c n a u) f id same lease other =
    let its = subst (IsNodeLease h y) (sym same) other in
    elim lease [
      | inl mine ↦ elim its [
        | inl its ↦ (mine.1 ∙ sym its.1, mine.2 ∙ sym its.2)
        | inr its ↦ absurd (its.0 (subst (λ q. IsInEffect h q (Grant t c n a u)) id mine.0))
      ]
      | inr mine ↦ elim its [
        | inl its ↦ absurd (mine.0 (subst (λ q. IsInEffect h q (Grant t c n a u)) (sym id) its.0))
        | inr its ↦ (mine.1 ∙ sym its.1, mine.2 ∙ sym its.2)
      ]
    ]
one_lease h x y _ f id same lease other = absurd lease

-- a pledge has one node
pub one_node : (h : List Entry) (x y : SumNode) → x.id ≡ y.id → IsSumNode h x → IsSumNode h y → x ≡ y
one_node h x y id a b =
    let mine = subst (λ q. IsLast (IsGrantTo h q) h (Grant a.time x.context a.number a.address a.until)) id a.last in
    let same : Grant a.time x.context a.number a.address a.until ≡ Grant b.time y.context b.number b.address b.until =
    IsLast-unique (IsGrantTo h y.id) h (Grant a.time x.context a.number a.address a.until) (Grant b.time y.context b.number b.address b.until) mine b.last in
    let context : x.context ≡ y.context = cc (same) in
    let address : a.address ≡ b.address = cc (same) in
    let until : a.until ≡ b.until = cc (same) in
    let lease = one_lease h x y (Grant a.time x.context a.number a.address a.until) (Grant b.time y.context b.number b.address b.until) id same a.lease b.lease in
    let has = greatest_unique (Has h y.id) x.has y.has (subst (λ q. IsGreatest (Has h q) x.has) id a.has) b.has in
    let stale = greatest_unique (IsStaleFor h y.id) x.stale y.stale (subst (λ q. IsGreatest (IsStaleFor h q) x.stale) id a.stale) b.stale in
    λ i. record { id = id i; context = context i; address = lease.0 i; until = lease.1 i; has = has i; stale = stale i }

-- a node of one summary is a node of the other
node_in : (h : List Entry) (s other : Summary) → IsSummary h s → IsSummary h other → (x : SumNode) → Contains s.nodes x
    → Contains other.nodes x
node_in h s other a b x has =
    let is = a.nodes x has in
    let grant = Grant is.time x.context is.number is.address is.until in
    let granted = Any-from_contains (IsGrantTo h x.id) h grant (IsLast-contains (IsGrantTo h x.id) h grant is.last) is.last.holds in
    let found = b.every_node x.id granted in
    let same = one_node h x found.0 (sym found.2) is (b.nodes found.0 found.1) in
    subst (Contains other.nodes) (sym same) found.1

-- a history has one summary
pub one_summary : (h : List Entry) (s other : Summary) → IsLegal h → IsSummary h s → IsSummary h other → s ≡ other
one_summary h s other legal a b =
    let time = a.time ∙ sym b.time in
    let settings = a.settings ∙ sym b.settings in
    let keys = a.phase_in_force ∙ sym b.phase_in_force in
    let count = a.context_count ∙ sym b.context_count in
    let contexts = same_lists s.contexts other.contexts count (λ c d small.
    one_context h c (get_or s.contexts c d) (get_or other.contexts c d) legal (a.contexts c d small)
    (b.contexts c d (omega (arith, small, count)))) in
    let grants = same_ascending IsGrantBefore grant_order s.grants other.grants a.grants_ascend b.grants_ascend
    (λ x has. (b.grants x).1 ((a.grants x).0 has)) (λ x has. (a.grants x).1 ((b.grants x).0 has)) in
    let nodes = same_ascending IsNodeBefore node_order s.nodes other.nodes a.nodes_ascend b.nodes_ascend
    (λ x has. node_in h s other a b x has) (λ x has. node_in h other s b a x has) in
    λ i. record {
      time = time i;
      settings = settings i;
      phase = keys i;
      contexts = contexts i;
      grants = grants i;
      nodes = nodes i;
    }
