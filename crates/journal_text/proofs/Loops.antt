-- Reading items one after another, as a loop does.
use Rattle.std.proofs.Common.{◌≡◌, ℕ, suc, List, [], ◌∷◌, ◌++◌, Result, Ok, Err, refl, sym, ap, append_assoc}
use Rattle.journal_text.specs.Reading.{◌>>=◌, bytes_at, items_at}

-- what was read before, and what is still read
abbrev pub with_prefix : {X : Type 0} → List X → Result (List X × List ℕ) ℕ → Result (List X × List ℕ) ℕ
with_prefix prefix read = read >>= λ x. Ok (prefix ++ x.0, x.1)

module _ {X : Type 0} where
  regroup : (prefix : List X) (x : X) (read : Result (List X × List ℕ) ℕ)
      → with_prefix prefix (read >>= λ r. Ok (x ∷ r.0, r.1)) ≡ with_prefix (prefix ++ x ∷ []) read
  regroup prefix x (Ok r) = ap (λ (xs : List X). Ok (xs, r.1)) (sym (append_assoc prefix (x ∷ []) r.0))
  regroup prefix x (Err at) = refl

  -- with nothing read before
  pub prefix_nil : (read : Result (List X × List ℕ) ℕ) → with_prefix [] read ≡ read
  prefix_nil (Ok r) = refl
  prefix_nil (Err at) = refl

  -- one item more was read
  pub item_more : (of : List ℕ → X) (size left end : ℕ) (prefix : List X) (bytes item rest : List ℕ) → bytes_at size end bytes ≡ Ok (item, rest)
      → with_prefix (prefix ++ of item ∷ []) (items_at of size left end rest) ≡ with_prefix prefix (items_at of size (suc left) end bytes)
  item_more of size left end prefix bytes item rest e = rw e (sym (regroup prefix (of item) (items_at of size left end rest)))

  -- an item is missing
  pub item_none : (of : List ℕ → X) (size left end at : ℕ) (prefix : List X) (bytes : List ℕ) → bytes_at size end bytes ≡ Err at
      → with_prefix prefix (items_at of size (suc left) end bytes) ≡ Err at
  item_none of size left end at prefix bytes e = rw e refl
