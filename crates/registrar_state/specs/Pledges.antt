-- What the pledges of the state say of a history.
use Rattle.std.specs.Prelude.{⊤, ℕ, ◌+◌, List, length, vec_capacity}
use Rattle.edge_traits.specs.declared.names.PledgeId.{PledgeId}
use Rattle.journal_text.specs.declared.entry.Entry.{Entry}
use Rattle.journal_text.specs.declared.entry.Entry.TheVariants.{Settings as SettingsEntry, Enroll, Refuse, Block, Switch}
use Rattle.join_history.specs.Legal.{IsLegal, MayFollow}
use Rattle.registrar_state.specs.declared.pledges.Pledges.{Pledges}
use Rattle.registrar_state.specs.LastGrants.{IsNewIn, AreLastGrants, AreEpochs, AreQueued}

-- what is kept of the pledges is what the history says of them
unfoldable pub KnowPledges : List Entry → Pledges → Type 0
KnowPledges h pledges = AreLastGrants h pledges.grants.items × AreEpochs h pledges.holders
    × AreQueued h pledges.grants.items pledges.holders pledges.queue.waiters

-- the last Grants and the epochs are what the history says of them
unfoldable pub KnowGrants : List Entry → Pledges → Type 0
KnowGrants h pledges = AreLastGrants h pledges.grants.items × AreEpochs h pledges.holders

-- how many more pledges fit
unfoldable pub room_of : Pledges → ℕ
room_of pledges = pledges.room

-- how many pledges fit in all
unfoldable pub limit_of : Pledges → ℕ
limit_of pledges = length pledges.grants.items + pledges.room

-- for how many pledges memory was reserved
unfoldable pub capacity_of : Pledges → ℕ
capacity_of pledges = vec_capacity pledges.grants

-- no Grant of the pledge is kept
unfoldable pub IsNewPledge : Pledges → PledgeId → Type 0
IsNewPledge pledges p = IsNewIn pledges.grants.items p

-- the entry says nothing of a pledge's lease or epochs, and brings no keys
abbrev pub IsAside : Entry → Type 0
IsAside (SettingsEntry time settings) = ⊤
IsAside (Enroll context id check) = ⊤
IsAside (Refuse time context number why) = ⊤
IsAside (Block context to) = ⊤
IsAside (Switch time epoch) = ⊤
IsAside _ = ⊥

-- The entry may follow a legal history, and the pledges are what this history says of them.
pub record KnowsBefore (pledges : Pledges) (h : List Entry) (e : Entry) : Type 0 where
  pub legal : IsLegal h
  pub know : KnowPledges h pledges
  pub may_follow : MayFollow h e
