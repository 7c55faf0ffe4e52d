-- The update that hands out new keys, and to whom it is owed (RFC 9031, 8.2 and 8.4.3).
use Rattle.std.specs.Prelude.{◌≡◌, ◌==◌, if◌then◌else◌, ℕ, ◌+◌, ◌<◌, List, [], ◌∷◌, ◌++◌, Option, Some, None, map}
use Rattle.std.specs.Int.{w64, from_be_bytes}
use Rattle.key_sets.specs.declared.set.KeySet.{KeySet}
use Rattle.key_sets.specs.Keys.{keys_of}
use Rattle.edge_traits.specs.declared.names.PledgeId.{PledgeId}
use Rattle.cbor_cojp.specs.declared.config.Configuration.{Configuration}
use Rattle.cbor_cojp.specs.Spelling.{config_text}
use Rattle.journal_text.specs.declared.entry.Entry.{Entry}
use Rattle.journal_text.specs.declared.entry.Entry.TheVariants.{Grant, Roll}
use Rattle.join_history.specs.declared.job.Job.{Job}
use Rattle.join_history.specs.Last.{IsLast}
use Rattle.join_history.specs.Leases.{IsLeaseOf, IsLive}
use Rattle.join_history.specs.Phases.{phase, IsSpreading}
use Rattle.join_history.specs.Epochs.{Has, IsStaleFor}
use Rattle.join_history.specs.Answers.{link_key, link_keys}

-- the key set that the Roll of an epoch brought
abbrev pub rolled_set : List Entry → ℕ → Option KeySet
rolled_set [] epoch = None
rolled_set (Roll time set ∷ h) epoch = if set.epoch == epoch then Some set else rolled_set h epoch
rolled_set (_ ∷ h) epoch = rolled_set h epoch

-- a Configuration with these two sets and nothing else
abbrev pub two_sets : KeySet → KeySet → Configuration
two_sets old new = record {
  keys = record { items = map link_key (keys_of old ++ keys_of new) };
  short = None;
  jrc = None;
  refused = record { items = [] };
  rate = None;
}

-- the inner message of an update: POST, the path `j`, and the two sets
unfoldable pub update_message : KeySet → KeySet → List ℕ
update_message old new = 2 ∷ 177 ∷ 106 ∷ 255 ∷ config_text (two_sets old new)

-- the bytes are the inner message of the update to this epoch
abbrev pub IsUpdate : List Entry → ℕ → List ℕ → Type 0
IsUpdate h epoch bytes = (old new : KeySet) × (before : ℕ) × (epoch ≡ before + 1)
    × (rolled_set h before ≡ Some old) × (rolled_set h epoch ≡ Some new) × (bytes ≡ update_message old new)

-- At t the pledge waits for the keys of the epoch: it is live, hasn't them, and isn't stale for them.
pub record Waits (h : List Entry) (t : ℕ) (p : PledgeId) (epoch : ℕ) : Type 0 where
  pub spreading : IsSpreading (phase h) epoch
  pub address : ℕ
  pub live : IsLive h t p address
  pub lacks : Has h p epoch → ⊥
  pub not_stale : IsStaleFor h p epoch → ⊥

-- the update that is owed to the pledge at t, under the context of its last Grant
pub record IsJob (h : List Entry) (t : ℕ) (p : PledgeId) (job : Job) : Type 0 where
  pub waits : Waits h t p job.epoch
  pub pledge : job.id ≡ p
  pub time : ℕ
  pub number : ℕ
  pub until : ℕ
  pub last : IsLast (IsLeaseOf h p) h (Grant time job.context number job.address until)
  pub keys : job.keys.items ≡ link_keys (phase h)

-- the first pledge that waits at t, in the order of identifiers
pub record IsFirstWaiting (h : List Entry) (t : ℕ) (p : PledgeId) : Type 0 where
  pub epoch : ℕ
  pub waits : Waits h t p epoch
  pub first : (q : PledgeId) → Waits h t q epoch → from_be_bytes w64 q.0 < from_be_bytes w64 p.0 → ⊥
