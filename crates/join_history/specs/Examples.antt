-- Short histories that fix the numbers of the rules: each is shown at its number and one beside it.
use Rattle.std.specs.Prelude.{◌≡◌, ℕ, ◌+◌, ◌-◌, ◌^◌, List, [], ◌∷◌, ◌++◌, Some, None, replicate}
use Rattle.edge_traits.specs.declared.names.PledgeId.{PledgeId}
use Rattle.key_sets.specs.declared.set.KeySet.{KeySet}
use Rattle.journal_text.specs.declared.settings.Settings.{Settings}
use Rattle.journal_text.specs.declared.refusal.Refusal.TheVariants.{Form, Malformed, Unsupported, NoAddress}
use Rattle.key_sets.specs.declared.phase.Phase.TheVariants.{None as NoKeys, Steady, Spreading}
use Rattle.join_history.specs.Answers.{refusal_answer, grant_answer}
use Rattle.join_history.specs.Updates.{update_message}
use Rattle.join_history.specs.Summary.{IsSumGrant}
use Rattle.journal_text.specs.declared.entry.Entry.{Entry}
use Rattle.journal_text.specs.declared.entry.Entry.TheVariants.{Settings as SettingsEntry, Enroll, Grant, Refuse, Block, Roll, Given, Stale, Switch, Release}
use Rattle.join_history.specs.declared.due.Due.TheVariants.{Again, Quiet}
use Rattle.join_history.specs.declared.due.Quiet.TheVariants.{Late}
use Rattle.join_history.specs.declared.due.Want.TheVariants.{Join}
use Rattle.join_history.specs.Contexts.{pledge_of, context_count, HasCheck}
use Rattle.join_history.specs.Decisions.{IsFresh}
use Rattle.join_history.specs.Leases.{lease_end, Holds, IsLive, IsNotLive, IsInPool}
use Rattle.join_history.specs.Blocks.{block_end}
use Rattle.join_history.specs.Epochs.{Has}
use Rattle.join_history.specs.Legal.{IsInRange, IsTimely, MayFollow}
use Rattle.join_history.specs.Due.{IsDue}

-- the pledge 00000000000000a1
abbrev pub a1 : PledgeId
a1 = record { 0 = 0 ∷ 0 ∷ 0 ∷ 0 ∷ 0 ∷ 0 ∷ 0 ∷ 161 ∷ [] }

-- a pool and a lease time in hours
abbrev pub pool : ℕ → ℕ → ℕ → Settings
pool first count hours = record { first = first; count = count; hours = hours; rate = None; jrc = None; refused = record { items = [] } }

-- a set of an epoch with these keys
abbrev pub set_of : ℕ → List (List ℕ) → KeySet
set_of epoch keys = record { epoch = epoch; keys = record { items = keys } }

-- the key of 16 zeros
abbrev pub zeros : List ℕ
zeros = replicate 16 0

-- a set of an epoch with that key alone
abbrev pub single : ℕ → KeySet
single epoch = set_of epoch (zeros ∷ [])

-- the pledge a1 has context 0, with a pool of the addresses 1 and 2
abbrev pub enrolled : ℕ → List Entry
enrolled hours = SettingsEntry 0 (pool 1 2 hours) ∷ Enroll 0 a1 [] ∷ []

-- a1 was granted the address 1 at 0 for its request of this number
abbrev pub granted : ℕ → ℕ → List Entry
granted hours number = SettingsEntry 0 (pool 1 2 hours) ∷ Enroll 0 a1 [] ∷ Grant 0 0 number 1 (lease_end 0 hours) ∷ []

-- an hour has 3600 seconds; a lease of 0 hours ends at no time that a clock shows
pub record Hours : Type 0 where
  pub one : lease_end 5 1 ≡ 3605
  pub most : lease_end 0 65535 ≡ 235926000
  pub none : lease_end 5 0 ≡ 18446744073709551615

-- a lease of one hour is live at 3599 and not at 3600
pub record LeaseLives : Type 0 where
  pub before_end : IsLive (granted 1 0) 3599 a1 1
  pub at_end : IsNotLive (granted 1 0) 3600 a1

-- its address is held at 7199 and not at 7200; without an end it is held on
pub record AddressIsHeld : Type 0 where
  pub in_grace : Holds (granted 1 0) 7199 1 a1
  pub after_grace : Holds (granted 1 0) 7200 1 a1 → ⊥
  pub endless : Holds (granted 0 0) (2 ^ 40 - 1) 1 a1

-- a repeat is answered again for 600 seconds
pub record Repeats : Type 0 where
  pub again : IsDue (granted 1 0) 600 0 0 Join Again
  pub late : IsDue (granted 1 0) 601 0 0 Join (Quiet Late)

-- after the number 40 the number 9 is fresh and the number 8 isn't
pub record Window : Type 0 where
  pub fresh : IsFresh (granted 1 40) 0 9
  pub old : IsFresh (granted 1 40) 0 8 → ⊥
  pub taken : IsFresh (granted 1 40) 0 40 → ⊥
  pub other : IsFresh (granted 1 40) 1 8

-- there are 32,768 contexts at most, with numbers in turn
pub record Contexts : Type 0 where
  pub last : (g : List Entry) → context_count g ≡ 32767 → (HasCheck g [] → ⊥) → MayFollow g (Enroll 32767 a1 [])
  pub too_many : (g : List Entry) → context_count g ≡ 32768 → MayFollow g (Enroll 32768 a1 []) → ⊥
  pub in_turn : MayFollow (enrolled 1) (Enroll 2 a1 (7 ∷ [])) → ⊥

-- a pool lies within 0x0001 to 0xFFFD, and hours fit 16 bits
pub record Pools : Type 0 where
  pub widest : IsInRange (pool 1 65533 65535)
  pub too_wide : IsInRange (pool 1 65534 1) → ⊥
  pub last : IsInRange (pool 65533 1 0)
  pub past : IsInRange (pool 65534 1 1) → ⊥
  pub zero_address : IsInRange (pool 0 1 1) → ⊥
  pub empty : IsInRange (pool 1 0 1) → ⊥
  pub too_long : IsInRange (pool 1 1 65536) → ⊥
  pub last_address : IsInPool (enrolled 1) 2
  pub past_last : IsInPool (enrolled 1) 3 → ⊥

-- settings with this rate, this address of the registrar and these refused pledges
abbrev pub telling : ℕ → List ℕ → List PledgeId → Settings
telling rate jrc refused = record { first = 1; count = 1; hours = 0; rate = Some rate; jrc = Some jrc; refused = record { items = refused } }

-- a rate has 32 bits, the registrar's address 16 bytes and an identifier 8, and 16 pledges are refused at most
pub record Widths : Type 0 where
  pub widest : IsInRange (telling (2 ^ 32 - 1) zeros (replicate 16 a1))
  pub rate_past : IsInRange (telling (2 ^ 32) zeros []) → ⊥
  pub short_address : IsInRange (telling 1 (replicate 15 0) []) → ⊥
  pub long_address : IsInRange (telling 1 (replicate 17 0) []) → ⊥
  pub many_refused : IsInRange (telling 1 zeros (replicate 17 a1)) → ⊥
  pub long_identifier : IsInRange (telling 1 zeros (record { 0 = replicate 9 0 } ∷ [])) → ⊥

-- times and numbers are below 2^40
pub record Below : Type 0 where
  pub last_time : IsTimely [] (2 ^ 40 - 1)
  pub time_past : IsTimely [] (2 ^ 40) → ⊥
  pub last_number : MayFollow (enrolled 1) (Refuse 0 0 (2 ^ 40 - 1) Form)
  pub number_past : MayFollow (enrolled 1) (Refuse 0 0 (2 ^ 40) Form) → ⊥

-- a Block adds 64 numbers, up to 2^40
pub record Blocks : Type 0 where
  pub first : MayFollow (enrolled 1) (Block 0 64)
  pub less : MayFollow (enrolled 1) (Block 0 63) → ⊥
  pub more : MayFollow (enrolled 1) (Block 0 65) → ⊥
  pub last : (g : List Entry) (c : ℕ) → pledge_of g c ≡ Some a1 → block_end g c ≡ 2 ^ 40 - 64 → MayFollow g (Block c (2 ^ 40))
  pub past : (g : List Entry) (c : ℕ) → block_end g c ≡ 2 ^ 40 → MayFollow g (Block c (2 ^ 40 + 64)) → ⊥

-- a pledge is released 601 seconds after its last decision, not 600
pub record Releases : Type 0 where
  pub after : MayFollow (granted 0 0) (Release 601 a1)
  pub within : MayFollow (granted 0 0) (Release 600 a1) → ⊥
  pub nothing_held : MayFollow (enrolled 0) (Release 601 a1) → ⊥

-- a set has 1 to 4 keys of 16 bytes, and the first epoch is 1
pub record Rolls : Type 0 where
  pub four_keys : MayFollow [] (Roll 0 (set_of 1 (zeros ∷ zeros ∷ zeros ∷ zeros ∷ [])))
  pub five_keys : MayFollow [] (Roll 0 (set_of 1 (zeros ∷ zeros ∷ zeros ∷ zeros ∷ zeros ∷ []))) → ⊥
  pub no_key : MayFollow [] (Roll 0 (set_of 1 [])) → ⊥
  pub short_key : MayFollow [] (Roll 0 (set_of 1 (replicate 15 0 ∷ []))) → ⊥
  pub long_key : MayFollow [] (Roll 0 (set_of 1 (replicate 17 0 ∷ []))) → ⊥
  pub epoch_zero : MayFollow [] (Roll 0 (single 0)) → ⊥
  pub epoch_two : MayFollow [] (Roll 0 (single 2)) → ⊥

-- a1's lease of one hour and its first Block, before the Rolls of the epochs 1 and 2
abbrev pub spreading : List Entry
spreading = granted 1 0 ++ Block 0 64 ∷ Roll 1 (single 1) ∷ Roll 2 (single 2) ∷ []

-- a Grant before the Roll brings no keys of it, and a Switch waits for live leases alone
pub record Switches : Type 0 where
  pub granted_before : Has spreading a1 2 → ⊥
  pub while_live : MayFollow spreading (Switch 3599 2) → ⊥
  pub lease_over : MayFollow spreading (Switch 3600 2)
  pub other_epoch : MayFollow spreading (Switch 3600 1) → ⊥

-- the bytes of answers: refusals, an address without an end, and one for 24 hours with the keys of one and two epochs
pub record AnswerBytes : Type 0 where
  pub malformed_role : refusal_answer (Malformed 1) ≡ 128 ∷ 255 ∷ 131 ∷ 1 ∷ 1 ∷ 246 ∷ []
  pub unsupported_role : refusal_answer (Unsupported 1) ≡ 128 ∷ 255 ∷ 131 ∷ 0 ∷ 1 ∷ 246 ∷ []
  pub form : refusal_answer Form ≡ 128 ∷ []
  pub no_address : refusal_answer NoAddress ≡ 163 ∷ []
  pub endless : grant_answer NoKeys (pool 1 1 0) 1 ≡ 68 ∷ 255 ∷ 161 ∷ 3 ∷ 129 ∷ 66 ∷ 0 ∷ 1 ∷ []
  pub one_key : grant_answer (Steady (set_of 1 ((7 ∷ []) ∷ []))) (pool 1 2 24) 1
      ≡ 68 ∷ 255 ∷ 162 ∷ 2 ∷ 130 ∷ 5 ∷ 65 ∷ 7 ∷ 3 ∷ 130 ∷ 66 ∷ 0 ∷ 1 ∷ 24 ∷ 24 ∷ []
  pub two_keys : grant_answer (Spreading (set_of 1 ((7 ∷ []) ∷ [])) (set_of 2 ((8 ∷ []) ∷ []))) (pool 1 2 24) 1
      ≡ 68 ∷ 255 ∷ 162 ∷ 2 ∷ 132 ∷ 5 ∷ 65 ∷ 7 ∷ 9 ∷ 65 ∷ 8 ∷ 3 ∷ 130 ∷ 66 ∷ 0 ∷ 1 ∷ 24 ∷ 24 ∷ []
  pub update : update_message (set_of 1 ((7 ∷ []) ∷ [])) (set_of 2 ((8 ∷ []) ∷ []))
      ≡ 2 ∷ 177 ∷ 106 ∷ 255 ∷ 161 ∷ 2 ∷ 132 ∷ 5 ∷ 65 ∷ 7 ∷ 9 ∷ 65 ∷ 8 ∷ []

-- an update's number lies below the block end, and only who waits is given keys
pub record Updates : Type 0 where
  pub below_end : MayFollow spreading (Given 3 0 63 2)
  pub at_end : MayFollow spreading (Given 3 0 64 2) → ⊥
  pub older_epoch : MayFollow spreading (Given 3 0 63 1) → ⊥
  pub after_lease : MayFollow spreading (Given 3600 0 63 2) → ⊥
  pub stale : MayFollow spreading (Stale 3 a1 2)
  pub stale_twice : MayFollow (spreading ++ Stale 3 a1 2 ∷ []) (Stale 4 a1 2) → ⊥

-- a1 answered its update to the epoch 2
abbrev pub given : List Entry
given = spreading ++ Given 3 0 63 2 ∷ []

-- an update's answer counts for its epoch and for no older one
pub record Answered : Type 0 where
  pub newest : Has given a1 2
  pub older : Has given a1 1 → ⊥

-- a summary keeps a Grant as long as its address is held
pub record SummaryGrants : Type 0 where
  pub in_grace : IsSumGrant (granted 1 0 ++ Roll 7199 (single 1) ∷ []) (record { id = a1; address = 1; until = 3600 })
  pub after_grace : IsSumGrant (granted 1 0 ++ Roll 7200 (single 1) ∷ []) (record { id = a1; address = 1; until = 3600 }) → ⊥
  pub released : IsSumGrant (granted 1 0 ++ Release 601 a1 ∷ []) (record { id = a1; address = 1; until = 3600 }) → ⊥
