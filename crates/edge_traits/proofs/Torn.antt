-- What a write that was cut short leaves of one area.
use Rattle.std.proofs.Common.{◌≡◌, ℕ, ◌+◌, ◌-◌, ◌≤◌, List, [], ◌∷◌, ◌++◌, length, take, drop, set, refl, sym, ◌∙◌, ap, arith, length-append, append_assoc}
use Rattle.std.proofs.lemmas.List.{take_at, drop_at, drop-drop, drop_all, take-append-le, take-set-le, drop-set-lt, length-take-le, length-drop, length-set}
use Rattle.edge_traits.specs.Disk.{Overwrites, Torn}

-- nothing may have been done
pub torn_not : (at n : ℕ) (old : List ℕ) → Torn at n old old
torn_not at n old = record { before = refl; after = refl; no_shorter = omega arith; no_longer = omega arith }

-- a longer write may leave what a shorter one may
pub torn_wider : (at m n : ℕ) (old new : List ℕ) → m ≤ n → Torn at m old new → Torn at n old new
torn_wider at m n old new le torn = record {
  before = torn.before;
  after = further new ∙ ap (λ (xs : List ℕ). drop (n - m) xs) torn.after ∙ sym (further old);
  no_shorter = torn.no_shorter;
  no_longer = omega (arith, torn.no_longer);
}
  where
    further : (xs : List ℕ) → drop (at + n) xs ≡ drop (n - m) (drop (at + m) xs)
    further xs = ap (λ (k : ℕ). drop k xs) (let same : at + n ≡ at + m + (n - m) = omega arith in same) ∙ sym (drop-drop (n - m) (at + m) xs)

-- one byte more was spoilt in its place
pub torn_set : (at n : ℕ) (old new : List ℕ) (byte : ℕ) → Torn at n old new → Torn at (n + 1) old (set new (at + n) byte)
torn_set at n old new byte torn = record {
  before = take-set-le at new (at + n) byte (omega arith) ∙ torn.before;
  after = drop-set-lt (at + (n + 1)) new (at + n) byte (omega arith) ∙ (torn_wider at n (n + 1) old new (omega arith) torn).after;
  no_shorter = omega (arith, torn.no_shorter, length-set new (at + n) byte);
  no_longer = omega (arith, torn.no_longer, length-set new (at + n) byte);
}

-- one byte more came to are at the end
pub torn_push : (at n : ℕ) (old new : List ℕ) (byte : ℕ) → length new ≡ at + n → Torn at n old new → Torn at (n + 1) old (new ++ byte ∷ [])
torn_push at n old new byte ends torn = record {
  before = take-append-le at new (byte ∷ []) (omega arith) ∙ torn.before;
  after = drop_all (at + (n + 1)) (new ++ byte ∷ []) (omega (arith, long)) ∙ sym (drop_all (at + (n + 1)) old (omega (arith, torn.no_shorter)));
  no_shorter = omega (arith, torn.no_shorter, long);
  no_longer = omega (arith, long);
}
  where
    long : length (new ++ byte ∷ []) ≡ length new + 1
    long = omega (arith, length-append new (byte ∷ []))

-- all may have been done
pub torn_whole : (at : ℕ) (bytes old new : List ℕ) → at ≤ length old → Overwrites at bytes old new → Torn at (length bytes) old new
torn_whole at bytes old new inside is = record {
  before = ap (λ (xs : List ℕ). take at xs) split ∙ take_at (take at old) (bytes ++ drop (at + length bytes) old) at front;
  after = ap (λ (xs : List ℕ). drop (at + length bytes) xs) is ∙ drop_at (take at old ++ bytes) (drop (at + length bytes) old) (at + length bytes) (omega (arith, length-append (take at old) bytes, front));
  no_shorter = omega (arith, long);
  no_longer = omega (arith, long);
}
  where
    front : length (take at old) ≡ at
    front = length-take-le at old inside

    split : new ≡ take at old ++ (bytes ++ drop (at + length bytes) old)
    split = is ∙ append_assoc (take at old) bytes (drop (at + length bytes) old)

    long : length new ≡ at + length bytes + (length old - (at + length bytes))
    long = ap length is ∙ length-append (take at old ++ bytes) (drop (at + length bytes) old) ∙ omega (arith, length-append (take at old) bytes, front, length-drop (at + length bytes) old)
