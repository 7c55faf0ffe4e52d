-- What is due may follow.
use Rattle.std.proofs.Common.{◌≡◌, ◌^◌, ◌<◌, ℕ, List, Some}
use Rattle.edge_traits.specs.declared.names.PledgeId.{PledgeId}
use Rattle.journal_text.specs.declared.settings.Settings.{Settings}
use Rattle.journal_text.specs.declared.entry.Entry.{Entry}
use Rattle.join_history.specs.declared.due.Due.{Due}
use Rattle.join_history.specs.declared.due.Due.TheVariants.{Add, Again, Quiet}
use Rattle.join_history.specs.declared.due.Want.{Want}
use Rattle.join_history.specs.Contexts.{pledge_of}
use Rattle.join_history.specs.Leases.{current_settings}
use Rattle.join_history.specs.Legal.{IsLegal}
use Rattle.join_history.specs.Due.{IsWish, IsDue, IsAddable}
use Rattle.join_history.proofs.DueLemmas.{MayFollow-due}

-- an entry that is due may follow
pub IsAddable-due : (h : List Entry) (now c n : ℕ) (wish : Want) (p : PledgeId) (s : Settings) (d : Due)
    → IsLegal h → pledge_of h c ≡ Some p → current_settings h ≡ Some s → n < 2 ^ 40 → IsWish wish
    → IsDue h now c n wish d → IsAddable h d
IsAddable-due h now c n wish p s Again legal enrolled current fits wishes due = tt
IsAddable-due h now c n wish p s (Quiet why) legal enrolled current fits wishes due = tt
IsAddable-due h now c n wish p s (Add e) legal enrolled current fits wishes due =
    MayFollow-due h now c n wish p s e legal enrolled current fits wishes due
