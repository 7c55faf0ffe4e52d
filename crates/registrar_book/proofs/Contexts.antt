-- Contexts and room, one entry more.
use Rattle.std.proofs.Common.{◌≡◌, ℕ, ◌+◌, ◌<◌, ◌≤◌, Bool, true, false, List, [], ◌∷◌, ◌++◌, arith}
use Rattle.std.specs.Prelude.{IsTrue}
use Rattle.journal_text.specs.declared.entry.Entry.{Entry}
use Rattle.journal_text.specs.declared.entry.Entry.TheVariants.{Settings, Enroll, Grant, Refuse, Block, Roll, Given, Stale, Switch, Release}
use Rattle.join_history.specs.Limits.{context_limit}
use Rattle.join_history.specs.Contexts.{context_count}
use Rattle.registrar_state.specs.declared.room.Room.{Room}
use Rattle.join_history.specs.Legal.{MayFollow}
use Rattle.registrar_state.specs.Room.{HasRoomFor, TakesRoom}
use Rattle.registrar_state.specs.State.{StandsFor, CanFollow}
use Rattle.registrar_state.specs.declared.state.RegState.{RegState}
use Rattle.registrar_state.proofs.LegalLemmas.{settings_there, enroll_there}
use Rattle.registrar_book.specs.Known.{IsOpening}

pub not_true : (b : Bool) → b ≡ false → IsTrue b → ⊥
not_true true f t = absurd (cc f)
not_true false f t = cc t

-- how many contexts there are with one entry more
pub context_count-push : (h : List Entry) (e : Entry) → context_count (h ++ e ∷ []) ≡ context_count h + context_count (e ∷ [])
context_count-push [] e = omega arith
context_count-push (Enroll context p k ∷ h) e = omega (arith, context_count-push h e)
context_count-push (_ ∷ h) e = context_count-push h e

-- what is left of the room for an entry more
pub room_more : (old new : Room) (e : Entry) (h : List Entry) (most i : ℕ) → TakesRoom old new e → old.contexts + context_count h ≡ context_limit → most ≤ old.entries + i
    → (new.contexts + context_count (h ++ e ∷ []) ≡ context_limit) × (most ≤ new.entries + (i + 1))
room_more old new (Enroll context id check) h most i takes contexts entries =
    (omega (arith, takes.contexts, contexts, context_count-push h (Enroll context id check)), omega (arith, takes.entries, entries))
room_more old new (Settings time settings) h most i takes contexts entries =
    (omega (arith, takes.contexts, contexts, context_count-push h (Settings time settings)), omega (arith, takes.entries, entries))
room_more old new (Grant time context number address until) h most i takes contexts entries =
    (omega (arith, takes.contexts, contexts, context_count-push h (Grant time context number address until)), omega (arith, takes.entries, entries))
room_more old new (Refuse time context number why) h most i takes contexts entries =
    (omega (arith, takes.contexts, contexts, context_count-push h (Refuse time context number why)), omega (arith, takes.entries, entries))
room_more old new (Block context to) h most i takes contexts entries =
    (omega (arith, takes.contexts, contexts, context_count-push h (Block context to)), omega (arith, takes.entries, entries))
room_more old new (Roll time set) h most i takes contexts entries =
    (omega (arith, takes.contexts, contexts, context_count-push h (Roll time set)), omega (arith, takes.entries, entries))
room_more old new (Given time context number epoch) h most i takes contexts entries =
    (omega (arith, takes.contexts, contexts, context_count-push h (Given time context number epoch)), omega (arith, takes.entries, entries))
room_more old new (Stale time id epoch) h most i takes contexts entries =
    (omega (arith, takes.contexts, contexts, context_count-push h (Stale time id epoch)), omega (arith, takes.entries, entries))
room_more old new (Switch time epoch) h most i takes contexts entries =
    (omega (arith, takes.contexts, contexts, context_count-push h (Switch time epoch)), omega (arith, takes.entries, entries))
room_more old new (Release time id) h most i takes contexts entries =
    (omega (arith, takes.contexts, contexts, context_count-push h (Release time id)), omega (arith, takes.entries, entries))

-- an entry takes the room of one entry at most
pub most_room : (old new : Room) (e : Entry) → TakesRoom old new e → old.entries ≤ new.entries + 1
most_room old new (Enroll context id check) takes = omega (arith, takes.entries)
most_room old new (Settings time settings) takes = omega (arith, takes.entries)
most_room old new (Grant time context number address until) takes = omega (arith, takes.entries)
most_room old new (Refuse time context number why) takes = omega (arith, takes.entries)
most_room old new (Block context to) takes = omega (arith, takes.entries)
most_room old new (Roll time set) takes = omega (arith, takes.entries)
most_room old new (Given time context number epoch) takes = omega (arith, takes.entries)
most_room old new (Stale time id epoch) takes = omega (arith, takes.entries)
most_room old new (Switch time epoch) takes = omega (arith, takes.entries)
most_room old new (Release time id) takes = omega (arith, takes.entries)

-- an entry that may follow has room where some is left for entries, and where the contexts and their room make the limit
pub has_room : (room : Room) (e : Entry) (h : List Entry) → MayFollow h e → room.contexts + context_count h ≡ context_limit → 0 < room.entries
    → HasRoomFor room e
has_room room (Enroll context id check) h may contexts entries = let next = may.0 in let below = may.1 in omega (arith, next, below, contexts)
has_room room (Settings time settings) h may contexts entries = entries
has_room room (Grant time context number address until) h may contexts entries = entries
has_room room (Refuse time context number why) h may contexts entries = entries
has_room room (Block context to) h may contexts entries = entries
has_room room (Roll time set) h may contexts entries = entries
has_room room (Given time context number epoch) h may contexts entries = entries
has_room room (Stale time id epoch) h may contexts entries = entries
has_room room (Switch time epoch) h may contexts entries = entries
has_room room (Release time id) h may contexts entries = entries

-- what opening adds after one history of a state may follow each
pub opening_follows : (state : RegState) (h : List Entry) (e : Entry) → IsOpening e → StandsFor state h → MayFollow h e → CanFollow state e
opening_follows state h (Settings time settings) kind stands may =
    record { history = h; stands = stands; each = λ g stands'. settings_there state h g time settings stands stands' may }
opening_follows state h (Enroll context id check) kind stands may =
    record { history = h; stands = stands; each = λ g stands'. enroll_there state h g context id check stands stands' may }
opening_follows state h _ kind stands may = absurd kind
