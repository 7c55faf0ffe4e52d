-- Writing one text after another.
use Rattle.std.proofs.Common.{◌≡◌, ℕ, ◌+◌, List, [], ◌++◌, length, Result, Ok, Err, sym, ap, ◌∙◌, append_assoc, length-append, arith}
use Rattle.std.proofs.lemmas.List.{append-nil}
use Rattle.cbor_item.specs.declared.fault.Full.{Full}
use Rattle.cbor_item.specs.Spelling.{Writes}
use Rattle.cbor_cojp.specs.Spelling.{Puts}

pub puts_from : (text old new : List ℕ) (r : Result (Unit {0}) Full) → Writes 512 text old new r → Puts text old new r
puts_from text old new (Ok done) h = h.0
puts_from text old new (Err full) h = h.2

pub puts_none : (old : List ℕ) → old ≡ old ++ []
puts_none old = sym (append-nil old)

pub puts_then : (a b old middle new : List ℕ) (r : Result (Unit {0}) Full) → middle ≡ old ++ a → Puts b middle new r → Puts (a ++ b) old new r
puts_then a b old middle new (Ok done) m h = h ∙ ap (λ (xs : List ℕ). xs ++ b) m ∙ append_assoc old a b
puts_then a b old middle new (Err full) m h =
    let whole : length middle ≡ length old + length a = ap length m ∙ length-append old a in
    rw (length-append a b) (omega (arith, h, whole))
