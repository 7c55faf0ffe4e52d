-- What a window's bits say of a list of numbers.
use Rattle.std.proofs.Common.{◌≡◌, inl, inr, ℕ, ◌+◌, ◌-◌, ◌<◌, ◌≤◌, suc, zero, List, [], ◌∷◌, ◌++◌, refl, sym, ◌∙◌, subst, arith, Contains}
use Rattle.std.specs.Prelude.{Option, Some, None}
use Rattle.std.specs.Int.{bit_at}
use Rattle.std.proofs.lemmas.Bool.{cases_lt, cases_eq}
use Rattle.std.proofs.lemmas.Nat.Bits.{bit_at-pow_same, bit_at-pow_other}
use Rattle.std.proofs.lemmas.List.Elements.{Contains-append_left, Contains-push, Contains-push_cases}
use Rattle.replay_window.specs.declared.judged.Judged.{Judged}
use Rattle.replay_window.specs.declared.judged.Judged.TheVariants.{Fresh, Taken}
use Rattle.replay_window.specs.Numbers.{IsJudged}
use Rattle.replay_window.specs.Bits.{AreMovedUp, AreMarked}
use Rattle.replay_window.specs.Parts.{AreBitsOf, AreParts, StandsFor, IsWindow}

-- a number above the greatest is fresh
pub fresh_above : (numbers : List ℕ) (greatest bits n : ℕ) → AreBitsOf numbers greatest bits → greatest < n
    → IsJudged numbers n Fresh
fresh_above numbers greatest bits n are above =
    (λ m has. omega (arith, are.at_most m has), λ has. omega (arith, are.at_most n has))

-- less than 32 below the greatest the bit decides
pub taken_by_bit : (numbers : List ℕ) (greatest bits n : ℕ) → AreBitsOf numbers greatest bits → n ≤ greatest
    → greatest < n + 32 → bit_at bits (greatest - n) ≡ 1 → IsJudged numbers n Taken
taken_by_bit numbers greatest bits n are below within set =
    let has = (are.marks (greatest - n) (omega arith)).0 set in
    (λ m is. omega (arith, are.at_most m is), subst (λ m. Contains numbers m) (omega arith) has.1)

pub fresh_by_bit : (numbers : List ℕ) (greatest bits n : ℕ) → AreBitsOf numbers greatest bits → n ≤ greatest
    → greatest < n + 32 → (bit_at bits (greatest - n) ≡ 1 → ⊥) → IsJudged numbers n Fresh
fresh_by_bit numbers greatest bits n are below within unset =
    let same : n ≡ greatest - (greatest - n) = omega arith in (
      λ m is. omega (arith, are.at_most m is),
      λ has. unset ((are.marks (greatest - n) (omega arith)).1 (omega arith, subst (λ m. Contains numbers m) same has)),
    )

pub moved_parts : (greatest bits n moved : ℕ) → AreParts greatest bits → greatest < n
    → AreMovedUp bits (n - greatest) moved → AreParts n moved
moved_parts greatest bits n moved are above up = record {
  first = up.first;
  none_above = λ i past. elim (cases_lt i 32) [
    | inl within ↦ up.kept i (omega arith) within ∙ are.none_above (i - (n - greatest)) (omega arith)
    | inr beyond ↦ up.past i beyond
  ];
}

pub marked_parts : (greatest bits n marked : ℕ) → AreParts greatest bits → n ≤ greatest
    → AreMarked bits (greatest - n) marked → AreParts greatest marked
marked_parts greatest bits n marked are below mark = record {
  first = elim (cases_eq 0 (greatest - n)) [
    | inl same ↦ subst (λ i. bit_at marked i ≡ 1) (sym same) mark.set
    | inr other ↦ mark.others 0 other ∙ are.first
  ];
  none_above = λ i past. mark.others i (λ same. omega arith) ∙ are.none_above i past;
}

at_most_pushed : (numbers : List ℕ) (greatest n top : ℕ) → ((m : ℕ) → Contains numbers m → m ≤ greatest)
    → greatest ≤ top → n ≤ top → (m : ℕ) → Contains (numbers ++ n ∷ []) m → m ≤ top
at_most_pushed numbers greatest n top at_most low new m has = elim (Contains-push_cases numbers n m has) [
  | inl old ↦ omega (arith, at_most m old)
  | inr same ↦ omega arith
]

pub moved_bits : (numbers : List ℕ) (greatest bits n moved : ℕ) → AreBitsOf numbers greatest bits → greatest < n
    → AreMovedUp bits (n - greatest) moved → AreBitsOf (numbers ++ n ∷ []) n moved
moved_bits numbers greatest bits n moved are above up =
    let Has : ℕ → Type 0 = λ m. Contains (numbers ++ n ∷ []) m in
    let set_below : (i : ℕ) → 0 < i → (i ≤ n) × Has (n - i) → Contains numbers (n - i) =
    λ i low has. elim (Contains-push_cases numbers n (n - i) has.1) [
      | inl old ↦ old
      | inr same ↦ absurd (omega (arith, has.0))
    ] in
    record {
      taken = Contains-push numbers n;
      at_most = at_most_pushed numbers greatest n n are.at_most (omega arith) (omega arith);
      marks = λ i within. elim (cases_eq i 0) [
        | inl none ↦ (
          λ _. (omega arith, subst Has (omega arith) (Contains-push numbers n)),
          λ _. subst (λ k. bit_at moved k ≡ 1) (sym none) up.first,
        )
        | inr some ↦ elim (cases_lt i (n - greatest)) [
          | inl between ↦ (
            λ set. absurd (omega (arith, up.between i (omega arith) between)),
            λ has. absurd (omega (arith, are.at_most (n - i) (set_below i (omega arith) has))),
          )
          | inr past ↦
              let place = i - (n - greatest) in
              let old = are.marks place (omega arith) in
              let same = up.kept i past within in (
                λ set.
                    let has = old.0 (sym same ∙ set) in (
                      omega (arith, has.0),
                      Contains-append_left numbers (n ∷ []) (n - i)
                          (subst (λ m. Contains numbers m) (omega (arith, has.0)) has.1),
                    ),
                λ has.
                    same
                    ∙ old.1 (
                      omega (arith, has.0),
                      subst (λ m. Contains numbers m) (omega (arith, has.0)) (set_below i (omega arith) has),
                    ),
              )
        ]
      ];
    }

pub marked_bits : (numbers : List ℕ) (greatest bits n marked : ℕ) → AreBitsOf numbers greatest bits → n ≤ greatest
    → AreMarked bits (greatest - n) marked → AreBitsOf (numbers ++ n ∷ []) greatest marked
marked_bits numbers greatest bits n marked are below mark =
    let Has : ℕ → Type 0 = λ m. Contains (numbers ++ n ∷ []) m in
    record {
      taken = Contains-append_left numbers (n ∷ []) greatest are.taken;
      at_most = at_most_pushed numbers greatest n greatest are.at_most (omega arith) below;
      marks = λ i within. elim (cases_eq i (greatest - n)) [
        | inl same ↦ (
          λ _. (omega arith, subst Has (omega arith) (Contains-push numbers n)),
          λ _. subst (λ k. bit_at marked k ≡ 1) (sym same) mark.set,
        )
        | inr other ↦
            let old = are.marks i within in
            let same = mark.others i other in (
              λ set.
                  let has = old.0 (sym same ∙ set) in
                  (has.0, Contains-append_left numbers (n ∷ []) (greatest - i) has.1),
              λ has.
                  same
                  ∙ old.1 (
                    has.0,
                    elim (Contains-push_cases numbers n (greatest - i) has.1) [
                      | inl has_old ↦ has_old
                      | inr new ↦ absurd (other (omega (arith, has.0)))
                    ],
                  ),
            )
      ];
    }

-- the numbers of the set bits below a place
record AreNumbersOf (greatest bits count : ℕ) (numbers : List ℕ) : Type 0 where
  from_list : (m : ℕ) → Contains numbers m → (i : ℕ) × (i < count) × (bit_at bits i ≡ 1) × (m ≡ greatest - i)
  to_list : (i : ℕ) → i < count → bit_at bits i ≡ 1 → Contains numbers (greatest - i)

numbers_of : (greatest bits count : ℕ) → (numbers : List ℕ) × AreNumbersOf greatest bits count numbers
numbers_of greatest bits zero =
    ([], record { from_list = λ m has. absurd (omega (arith, has.1)); to_list = λ i below _. absurd (omega arith) })
numbers_of greatest bits (suc count) =
    let before = numbers_of greatest bits count in
    let old = before.1 in
    elim (cases_eq (bit_at bits count) 1) [
      | inl set ↦ (
        before.0 ++ (greatest - count) ∷ [],
        record {
          from_list = λ m has. elim (Contains-push_cases before.0 (greatest - count) m has) [
            | inl has_old ↦ let at = old.from_list m has_old in (at.0, omega (arith, at.1), at.2, at.3)
            | inr same ↦ (count, omega arith, set, sym same)
          ];
          to_list = λ i below is. elim (cases_eq i count) [
            | inl same ↦
                subst
                (λ k. Contains (before.0 ++ (greatest - count) ∷ []) (greatest - k))
                (sym same)
                (Contains-push before.0 (greatest - count))
            | inr other ↦
                Contains-append_left
                before.0
                ((greatest - count) ∷ [])
                (greatest - i)
                (old.to_list i (omega arith) is)
          ];
        },
      )
      | inr unset ↦ (
        before.0,
        record {
          from_list = λ m has. let at = old.from_list m has in (at.0, omega (arith, at.1), at.2, at.3);
          to_list = λ i below is. elim (cases_eq i count) [
            | inl same ↦ absurd (unset (subst (λ k. bit_at bits k ≡ 1) same is))
            | inr other ↦ old.to_list i (omega arith) is
          ];
        },
      )
    ]

-- the parts of a window stand for some list
pub some_numbers : (greatest bits : ℕ) → AreParts greatest bits → (numbers : List ℕ) × AreBitsOf numbers greatest bits
some_numbers greatest bits are =
    let all = numbers_of greatest bits 32 in
    let within : (i : ℕ) → bit_at bits i ≡ 1 → i ≤ greatest =
    λ i set. elim (cases_lt greatest i) [
      | inl above ↦ absurd (omega (arith, are.none_above i above))
      | inr below ↦ below
    ] in (
      all.0,
      record {
        taken = subst (λ m. Contains all.0 m) (omega arith) (all.1.to_list 0 (omega arith) are.first);
        at_most = λ m has. omega (arith, (all.1.from_list m has).3);
        marks = λ i below. (
          λ set. (within i set, all.1.to_list i below set),
          λ has.
              let at = all.1.from_list (greatest - i) has.1 in
              let same : at.0 ≡ i = omega (arith, at.3, has.0, within at.0 at.2) in
              subst (λ k. bit_at bits k ≡ 1) same at.2,
        );
      },
    )

-- a fresh number is less than 32 below the greatest
pub within_fresh : (numbers : List ℕ) (greatest bits n : ℕ) → AreBitsOf numbers greatest bits
    → IsJudged numbers n Fresh → greatest - n < 32
within_fresh numbers greatest bits n are fresh = omega (arith, fresh.0 greatest are.taken)

-- the first number that is taken
pub first_parts : (n : ℕ) → AreParts n 1
first_parts n = record { first = bit_at-pow_same 0; none_above = λ i above. bit_at-pow_other 0 i (omega arith) }

pub first_bits : (numbers : List ℕ) (n : ℕ) → numbers ≡ [] → AreBitsOf (numbers ++ n ∷ []) n 1
first_bits numbers n none =
    subst
    (λ xs. AreBitsOf (xs ++ n ∷ []) n 1)
    (sym none)
    (record {
      taken = Contains-push [] n;
      at_most = λ m has. elim (Contains-push_cases [] n m has) [
        | inl old ↦ absurd (omega (arith, old.1))
        | inr same ↦ omega arith
      ];
      marks = λ i within. (
        λ set. elim (cases_eq i 0) [
          | inl none ↦ (omega arith, subst (λ m. Contains (n ∷ []) m) (omega arith) (Contains-push [] n))
          | inr some ↦ absurd (omega (arith, bit_at-pow_other 0 i some))
        ],
        λ has. elim (Contains-push_cases [] n (n - i) has.1) [
          | inl old ↦ absurd (omega (arith, old.1))
          | inr same ↦ subst (λ k. bit_at 1 k ≡ 1) (let same_place : 0 ≡ i = omega (arith, has.0) in same_place) (bit_at-pow_same 0)
        ],
      );
    })

-- a window stands for some list
pub some_stands : (parts : Option (ℕ × ℕ)) → IsWindow parts → (numbers : List ℕ) × StandsFor numbers parts
some_stands None valid = ([], refl)
some_stands (Some parts) valid = some_numbers parts.0 parts.1 valid

-- and what each such list judges, one judges
pub some_judged : (parts : Option (ℕ × ℕ)) (n : ℕ) (judged : Judged) → IsWindow parts
    → ((numbers : List ℕ) → StandsFor numbers parts → IsJudged numbers n judged)
    → (numbers : List ℕ) × StandsFor numbers parts × IsJudged numbers n judged
some_judged parts n judged valid each =
    let some = some_stands parts valid in
    (some.0, some.1, each some.0 some.1)
