-- The phase of the rolling of keys (RFC 9031, 8.4.3).
use Rattle.std.specs.Prelude.{◌≡◌, ℕ, ◌+◌, ◌^◌, ◌<◌, ◌≤◌, List, length, fold, All}
use Rattle.key_sets.specs.declared.set.KeySet.{KeySet}
use Rattle.key_sets.specs.declared.phase.Phase.{Phase}
use Rattle.key_sets.specs.declared.phase.Phase.TheVariants.{None, Steady, Spreading}
use Rattle.journal_text.specs.declared.entry.Entry.{Entry}
use Rattle.journal_text.specs.declared.entry.Entry.TheVariants.{Roll, Switch}

-- the phase after a Roll with this set
abbrev pub rolled : Phase → KeySet → Phase
rolled None set = Steady set
rolled (Steady old) set = Spreading old set
rolled (Spreading old new) set = Spreading old new

-- the phase after a Switch
abbrev pub switched : Phase → Phase
switched None = None
switched (Steady set) = Steady set
switched (Spreading old new) = Steady new

-- the phase after an entry
abbrev pub phase_after : Phase → Entry → Phase
phase_after before (Roll time set) = rolled before set
phase_after before (Switch time epoch) = switched before
phase_after before _ = before

-- the phase of a history
abbrev pub phase : List Entry → Phase
phase h = fold phase_after None h

-- the new set of this epoch is being handed out
abbrev pub IsSpreading : Phase → ℕ → Type 0
IsSpreading None epoch = ⊥
IsSpreading (Steady set) epoch = ⊥
IsSpreading (Spreading old new) epoch = new.epoch ≡ epoch

-- the epoch that the next Roll has
abbrev pub IsNextEpoch : Phase → ℕ → Type 0
IsNextEpoch None epoch = epoch ≡ 1
IsNextEpoch (Steady set) epoch = epoch ≡ set.epoch + 1
IsNextEpoch (Spreading old new) epoch = ⊥

-- a Roll may bring this set
pub record IsNextSet (before : Phase) (set : KeySet) : Type 0 where
  pub epoch : IsNextEpoch before set.epoch
  pub epoch_fits : set.epoch < 2 ^ 32
  pub some_keys : 1 ≤ length set.keys.items
  pub few_keys : length set.keys.items ≤ 4
  pub keys_of_16 : All (λ key. length key ≡ 16) set.keys.items
