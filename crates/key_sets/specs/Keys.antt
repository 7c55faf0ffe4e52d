-- Key ids and the keys in force (RFC 9031, 8.4.3).
use Rattle.std.specs.Prelude.{ℕ, ◌+◌, ◌*◌, ◌%◌, List, [], ◌∷◌, ◌++◌, codes, decimal}
use Rattle.key_sets.specs.declared.set.KeySet.{KeySet}
use Rattle.key_sets.specs.declared.phase.Phase.{Phase}
use Rattle.key_sets.specs.declared.phase.Phase.TheVariants.{None, Steady, Spreading}

-- the id of the key at this place of an epoch's set: 1 to 252
abbrev pub key_id : ℕ → ℕ → ℕ
key_id epoch place = 1 + (4 * epoch + place) % 252

-- an epoch's keys from this place on, each with its id
abbrev pub numbered : ℕ → ℕ → List (List ℕ) → List (ℕ × List ℕ)
numbered epoch place [] = []
numbered epoch place (key ∷ keys) = (key_id epoch place, key) ∷ numbered epoch (place + 1) keys

-- the keys of a set, each with its id
abbrev pub keys_of : KeySet → List (ℕ × List ℕ)
keys_of set = numbered set.epoch 0 set.keys.items

-- the keys in force, the older set's first
abbrev pub in_force : Phase → List (ℕ × List ℕ)
in_force None = []
in_force (Steady set) = keys_of set
in_force (Spreading old new) = keys_of old ++ keys_of new

-- the epoch of the newest set, or 0
abbrev pub epoch_of : Phase → ℕ
epoch_of None = 0
epoch_of (Steady set) = set.epoch
epoch_of (Spreading old new) = new.epoch

-- a set as it is shown: its epoch, and no key
abbrev pub shown_set : ℕ → List ℕ
shown_set epoch = codes "KeySet { epoch: " ++ decimal epoch ++ codes ", .. }"
