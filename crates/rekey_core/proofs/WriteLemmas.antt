-- What one more write says of the epochs of a pledge.
use Rattle.std.proofs.Common.{◌≡◌, ◌⊎◌, inl, inr, ◌↔◌, ℕ, ◌≤◌, List, [], ◌∷◌, ◌++◌, None, Contains, refl, sym, ap, ◌∙◌, subst, arith, append_assoc, IsTrue, ◌==◌}
use Rattle.std.proofs.lemmas.Bool.{eqb-true, eq-eqb}
use Rattle.std.proofs.lemmas.List.Elements.{Contains-append_left, Contains-push, Contains-push_cases}
use Rattle.edge_traits.specs.declared.names.PledgeId.{PledgeId}
use Rattle.rekey_core.specs.declared.epochs.Epochs.{Epochs}
use Rattle.rekey_core.specs.Writes.{Write, granted, given, stale, Has, IsStaleFor, IsGreatest}
use Rattle.rekey_core.specs.Held.{Held, known_of, epochs_of, or_none, StandsFor, IsLatest, Sets}
use Rattle.rekey_core.proofs.IdLemmas.{id_cases}

-- ---- a cut of a list with one more element

pub snoc_split : {X : Type 0} (xs before after : List X) (w x : X) → xs ++ w ∷ [] ≡ before ++ x ∷ after
    → ((after ≡ []) × (w ≡ x)) ⊎ ((rest : List X) × (after ≡ rest ++ w ∷ []) × (xs ≡ before ++ x ∷ rest))
snoc_split [] [] after w x is = inl (cc, cc)
snoc_split (y ∷ ys) [] after w x is = inr (ys, cc, cc)
snoc_split [] (b ∷ []) after w x is = absurd (cc is)
snoc_split [] (b ∷ c ∷ bs) after w x is = absurd (cc is)
snoc_split (y ∷ ys) (b ∷ bs) after w x is =
    let tails : ys ++ w ∷ [] ≡ bs ++ x ∷ after = cc in
    let heads : y ≡ b = cc in
    elim (snoc_split ys bs after w x tails) [
      | inl last ↦ inl last
      | inr (rest, after_is, ys_is) ↦ inr (rest, after_is, cc)
    ]

-- ---- stale

-- a write that isn't a grant to the pledge leaves it stale
stale_stays : (writes : List Write) (w : Write) (p : PledgeId) (e : ℕ) → ((n : ℕ) → w ≡ granted p n → ⊥)
    → IsStaleFor writes p e → IsStaleFor (writes ++ w ∷ []) p e
stale_stays writes w p e other old = record {
  before = old.before;
  after = old.after ++ w ∷ [];
  place = ap (λ l. l ++ w ∷ []) old.place ∙ append_assoc old.before (stale p e ∷ old.after) (w ∷ []);
  none_since = λ n has. elim (Contains-push_cases old.after w (granted p n) has) [
    | inl before ↦ old.none_since n before
    | inr same ↦ other n same
  ];
}

-- what is stale after a write was stale before it, or the write marks it, and the write is no grant
-- to it
stale_before : (writes : List Write) (w : Write) (p : PledgeId) (e : ℕ) → IsStaleFor (writes ++ w ∷ []) p e
    → (w ≡ stale p e) ⊎ (IsStaleFor writes p e × ((n : ℕ) → w ≡ granted p n → ⊥))
stale_before writes w p e new = elim (snoc_split writes new.before new.after w (stale p e) new.place) [
  | inl last ↦ inl last.1
  | inr (rest, after_is, writes_are) ↦ inr (
    record {
      before = new.before;
      after = rest;
      place = writes_are;
      none_since = λ n has.
          new.none_since n (subst (λ l. Contains l (granted p n)) (sym after_is) (Contains-append_left rest (w ∷ []) (granted p n) has));
    },
    λ n same.
        new.none_since n
        (subst (λ l. Contains l (granted p n)) (sym after_is) (subst (λ v. Contains (rest ++ v ∷ []) (granted p n)) (sym same) (Contains-push rest (granted p n)))),
  )
]

-- ---- has

has_stays : (writes : List Write) (w : Write) (p : PledgeId) (e : ℕ) → Has writes p e → Has (writes ++ w ∷ []) p e
has_stays writes w p e old = elim old [
  | inl (n, has, at_most) ↦ inl (n, Contains-append_left writes (w ∷ []) (granted p n) has, at_most)
  | inr has ↦ inr (Contains-append_left writes (w ∷ []) (given p e) has)
]

has_before : (writes : List Write) (w : Write) (p : PledgeId) (e : ℕ) → Has (writes ++ w ∷ []) p e
    → Has writes p e ⊎ (((n : ℕ) × (w ≡ granted p n) × (e ≤ n)) ⊎ (w ≡ given p e))
has_before writes w p e new = elim new [
  | inl (n, has, at_most) ↦ elim (Contains-push_cases writes w (granted p n) has) [
    | inl old ↦ inl (inl (n, old, at_most))
    | inr same ↦ inr (inl (n, same, at_most))
  ]
  | inr has ↦ elim (Contains-push_cases writes w (given p e) has) [
    | inl old ↦ inl (inr old)
    | inr same ↦ inr (inr same)
  ]
]

-- ---- the greatest epochs after a write of another pledge

abbrev AreGreatest : List Write → PledgeId → Epochs → Type 0
AreGreatest writes p epochs = IsGreatest (Has writes p) epochs.has × IsGreatest (IsStaleFor writes p) epochs.stale

abbrev IsOf : PledgeId → Write → Type 0
IsOf p (granted q n) = p ≡ q
IsOf p (given q n) = p ≡ q
IsOf p (stale q n) = p ≡ q

not_of : (p : PledgeId) (w v : Write) → w ≡ v → (IsOf p w → ⊥) → IsOf p v → ⊥
not_of p w v same other of = other (subst (IsOf p) (sym same) of)

other_write : (writes : List Write) (w : Write) (p : PledgeId) (epochs : Epochs) → (IsOf p w → ⊥)
    → AreGreatest writes p epochs → AreGreatest (writes ++ w ∷ []) p epochs
other_write writes w p epochs other are = (
  record {
    bound = λ e has. elim (has_before writes w p e has) [
      | inl old ↦ are.0.bound e old
      | inr (inl (n, same, _)) ↦ absurd (not_of p w (granted p n) same other refl)
      | inr (inr same) ↦ absurd (not_of p w (given p e) same other refl)
    ];
    is_one = λ some. has_stays writes w p epochs.has (are.0.is_one some);
  },
  record {
    bound = λ e is. elim (stale_before writes w p e is) [
      | inl same ↦ absurd (not_of p w (stale p e) same other refl)
      | inr old ↦ are.1.bound e old.0
    ];
    is_one = λ some. stale_stays writes w p epochs.stale (λ n same. not_of p w (granted p n) same other refl) (are.1.is_one some);
  },
)

-- ---- and of the pledge itself

granted_write : (writes : List Write) (p : PledgeId) (e : ℕ) (epochs : Epochs) → 1 ≤ e → epochs.has ≤ e
    → AreGreatest writes p epochs → AreGreatest (writes ++ granted p e ∷ []) p (record { has = e; stale = 0 })
granted_write writes p e epochs one latest are = (
  record {
    bound = λ n has. elim (has_before writes (granted p e) p n has) [
      | inl old ↦ omega (arith, are.0.bound n old)
      | inr (inl (m, same, at_most)) ↦ let e_is : e ≡ m = cc in omega arith
      | inr (inr same) ↦ absurd (cc same)
    ];
    is_one = λ _. inl (e, Contains-push writes (granted p e), omega arith);
  },
  record {
    bound = λ n is. elim (stale_before writes (granted p e) p n is) [
      | inl same ↦ absurd (cc same)
      | inr old ↦ absurd (old.1 e refl)
    ];
    is_one = λ some. absurd (omega arith);
  },
)

given_write : (writes : List Write) (p : PledgeId) (e : ℕ) (epochs : Epochs) → 1 ≤ e → epochs.has ≤ e
    → AreGreatest writes p epochs → AreGreatest (writes ++ given p e ∷ []) p (record { has = e; stale = epochs.stale })
given_write writes p e epochs one latest are = (
  record {
    bound = λ n has. elim (has_before writes (given p e) p n has) [
      | inl old ↦ omega (arith, are.0.bound n old)
      | inr (inl (m, same, at_most)) ↦ absurd (cc same)
      | inr (inr same) ↦ let e_is : e ≡ n = cc in omega arith
    ];
    is_one = λ _. inr (Contains-push writes (given p e));
  },
  record {
    bound = λ n is. elim (stale_before writes (given p e) p n is) [
      | inl same ↦ absurd (cc same)
      | inr old ↦ are.1.bound n old.0
    ];
    is_one = λ some. stale_stays writes (given p e) p epochs.stale (λ n same. cc same) (are.1.is_one some);
  },
)

stale_write : (writes : List Write) (p : PledgeId) (e : ℕ) (epochs : Epochs) → 1 ≤ e → epochs.stale ≤ e
    → AreGreatest writes p epochs → AreGreatest (writes ++ stale p e ∷ []) p (record { has = epochs.has; stale = e })
stale_write writes p e epochs one latest are = (
  record {
    bound = λ n has. elim (has_before writes (stale p e) p n has) [
      | inl old ↦ are.0.bound n old
      | inr (inl (m, same, at_most)) ↦ absurd (cc same)
      | inr (inr same) ↦ absurd (cc same)
    ];
    is_one = λ some. has_stays writes (stale p e) p epochs.has (are.0.is_one some);
  },
  record {
    bound = λ n is. elim (stale_before writes (stale p e) p n is) [
      | inl same ↦ let e_is : e ≡ n = cc in omega arith
      | inr old ↦ omega (arith, are.1.bound n old.0)
    ];
    is_one = λ _. record {
      before = writes;
      after = [];
      place = refl;
      none_since = λ n has. omega (arith, has.1);
    };
  },
)

-- ---- the holders after a write

set_write : (writes : List Write) (w : Write) (p : PledgeId) (epochs : Epochs) (old new : Held) → Sets p epochs old new
    → ((q : PledgeId) → IsOf q w → q ≡ p) → AreGreatest (writes ++ w ∷ []) p epochs
    → StandsFor writes old → StandsFor (writes ++ w ∷ []) new
set_write writes w p epochs old new sets of are stands q = elim (id_cases q p) [
  | inl same ↦
      subst
      (λ r. AreGreatest (writes ++ w ∷ []) r (epochs_of new r))
      (sym same)
      (subst (λ o. AreGreatest (writes ++ w ∷ []) p (or_none o)) (sym sets.set) are)
  | inr other ↦
      subst
      (λ o. AreGreatest (writes ++ w ∷ []) q (or_none o))
      (sym (sets.others q other))
      (other_write writes w q (epochs_of old q) (λ is. other (of q is)) (stands q))
]

pub stands_granted : (writes : List Write) (p : PledgeId) (e : ℕ) (old new : Held) → IsLatest old p e
    → Sets p (record { has = e; stale = 0 }) old new → StandsFor writes old → StandsFor (writes ++ granted p e ∷ []) new
stands_granted writes p e old new latest sets stands =
    set_write writes (granted p e) p (record { has = e; stale = 0 }) old new sets (λ q is. is)
    (granted_write writes p e (epochs_of old p) latest.0 latest.1 (stands p)) stands

pub stands_given : (writes : List Write) (p : PledgeId) (e : ℕ) (old new : Held) → IsLatest old p e
    → Sets p (record { has = e; stale = (epochs_of old p).stale }) old new → StandsFor writes old → StandsFor (writes ++ given p e ∷ []) new
stands_given writes p e old new latest sets stands =
    set_write writes (given p e) p (record { has = e; stale = (epochs_of old p).stale }) old new sets (λ q is. is)
    (given_write writes p e (epochs_of old p) latest.0 latest.1 (stands p)) stands

pub stands_stale : (writes : List Write) (p : PledgeId) (e : ℕ) (old new : Held) → IsLatest old p e
    → Sets p (record { has = (epochs_of old p).has; stale = e }) old new → StandsFor writes old → StandsFor (writes ++ stale p e ∷ []) new
stands_stale writes p e old new latest sets stands =
    set_write writes (stale p e) p (record { has = (epochs_of old p).has; stale = e }) old new sets (λ q is. is)
    (stale_write writes p e (epochs_of old p) latest.0 latest.2 (stands p)) stands

-- ---- questions

pub is_greatest : (P : ℕ → Type 0) (n e : ℕ) → IsGreatest P n → 1 ≤ e → n ≤ e → IsTrue (n == e) ↔ P e
is_greatest P n e greatest one latest = (
  λ same. let at : n ≡ e = eqb-true n e same in subst P at (greatest.is_one (omega arith)),
  λ is. eq-eqb n e (omega (arith, greatest.bound e is)),
)

pub stands_empty : (held : Held) → ((p : PledgeId) → known_of held p ≡ None) → StandsFor [] held
stands_empty held none p =
    subst
    (λ o. AreGreatest [] p (or_none o))
    (sym (none p)) (
      record {
        bound = λ e has. elim has [ inl some ↦ absurd (omega (arith, some.1.1)) | inr one ↦ absurd (omega (arith, one.1)) ];
        is_one = λ some. absurd (omega arith);
      },
      record {
        bound = λ e is. absurd (no_split is.before is.after (stale p e) is.place);
        is_one = λ some. absurd (omega arith);
      },
    )
  where
    no_split : (before after : List Write) (w : Write) → [] ≡ before ++ w ∷ after → ⊥
    no_split [] after w is = cc is
    no_split (b ∷ before) after w is = cc is
