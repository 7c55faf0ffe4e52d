-- What became of an entry that is due is what was decided.
use Rattle.std.proofs.Common.{ℕ, List, [], ◌∷◌, inr}
use Rattle.journal_text.specs.declared.entry.Entry.{Entry}
use Rattle.join_history.specs.declared.due.Due.TheVariants as due
use Rattle.join_history.specs.declared.due.Want.{Want}
use Rattle.join_history.specs.Due.{IsDue}
use Rattle.registrar_book.specs.declared.answers.Decided.{Decided}
use Rattle.registrar_book.specs.declared.answers.Decided.TheVariants.{Made, Again, Quiet, Unsure, Full}
use Rattle.registrar_book.specs.Books.{IsAdded, IsDecided, LeavesDurable}

pub decided_of : (g : List Entry) (now c n : ℕ) (want : Want) (e : Entry) (answer : Decided) (added : List Entry) (length : ℕ) → IsDue g now c n want (due.Add e) → IsAdded e answer added length
    → IsDecided g now c n want answer added length
decided_of g now c n want e (Made at) added length is (one, at_is, most) = (e, is, one, at_is, most)
decided_of g now c n want e (Full at) added length is (none, at_is, full) = (e, is, none, at_is, full)
decided_of g now c n want e (Unsure at faults) added length is (one, at_is, most) = (inr (e, is, one, most), at_is)
decided_of g now c n want e (Again at) added length is never = absurd never
decided_of g now c n want e (Quiet why at) added length is never = absurd never

-- an entry that is due was added, so the log before it was durable
pub durable_of_added : (e : Entry) (answer : Decided) (added : List Entry) (n mid durable length now : ℕ) → IsAdded e answer added n → LeavesDurable answer added mid length now
    → LeavesDurable answer added durable length now
durable_of_added e (Made at) added n mid durable length now is leaves = tt
durable_of_added e (Full at) added n mid durable length now is leaves = tt
durable_of_added e (Again at) added n mid durable length now is leaves = tt
durable_of_added e (Quiet why at) added n mid durable length now is leaves = tt
durable_of_added e (Unsure at faults) [] n mid durable length now is leaves = absurd (cc is.0)
durable_of_added e (Unsure at faults) (x ∷ added) n mid durable length now is leaves = leaves
