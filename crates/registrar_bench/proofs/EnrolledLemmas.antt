-- Settings and enrolled contexts stay, whatever follows.
use Rattle.std.proofs.Common.{◌≡◌, ℕ, ◌+◌, ◌≤◌, List, [], ◌∷◌, ◌++◌, Option, Some, refl, ◌∙◌, below_more}
use Rattle.edge_traits.specs.declared.names.PledgeId.{PledgeId}
use Rattle.journal_text.specs.declared.settings.Settings.{Settings}
use Rattle.journal_text.specs.declared.entry.Entry.{Entry}
use Rattle.journal_text.specs.declared.entry.Entry.TheVariants.{Settings as SettingsEntry, Enroll}
use Rattle.join_history.specs.declared.due.Due.TheVariants.{Add}
use Rattle.join_history.specs.declared.due.Want.{Want}
use Rattle.join_history.specs.Due.{IsDue}
use Rattle.join_history.specs.Leases.{settings_after, current_settings}
use Rattle.join_history.proofs.KnownLemmas.{enrolled_pledge}
use Rattle.join_history.proofs.LeaseLemmas.{pledge_of-append}
use Rattle.join_history.proofs.ListLemmas.{Contains-middle}
use Rattle.join_history.proofs.SettingsLemmas.{current_settings-push}
use Rattle.registrar_state.specs.declared.room.Room.{Room}
use Rattle.registrar_state.specs.declared.state.RegState.{RegState}
use Rattle.registrar_state.specs.Room.{TakesRoom, TakesEntry}
use Rattle.registrar_state.specs.State.{StandsFor, IsEnrolled, HasSettings, spare_room}
use Rattle.registrar_state.proofs.StateLemmas.{IsLegal-stands}
use Rattle.registrar_bench.specs.States.{AreEnrolled}

-- where there were settings before an entry there are some after it
settings_stay : (before : Option Settings) (e : Entry) (s : Settings) → before ≡ Some s
    → (t : Settings) × (settings_after before e ≡ Some t)
settings_stay before (SettingsEntry time settings) s is = (settings, refl)
settings_stay before _ s is = (s, is)

HasSettings-more : (old new : RegState) (e : Entry) → ((h : List Entry) → StandsFor old h → StandsFor new (h ++ e ∷ []))
    → HasSettings old → HasSettings new
HasSettings-more old new e stands was =
    let stay = settings_stay (current_settings was.0) e was.1 was.3 in
    (was.0 ++ e ∷ [], stay.0, stands was.0 was.2, current_settings-push was.0 e ∙ stay.1)

IsEnrolled-more : (old new : RegState) (e : Entry) (c : ℕ) → ((h : List Entry) → StandsFor old h → StandsFor new (h ++ e ∷ []))
    → IsEnrolled old c → IsEnrolled new c
IsEnrolled-more old new e c stands was =
    (was.0 ++ e ∷ [], was.1, stands was.0 was.2, pledge_of-append was.0 (e ∷ []) c was.1 was.3)

-- settings and contexts stay, where the room for contexts does
pub AreEnrolled-more : (old new : RegState) (n : ℕ) (e : Entry)
    → ((h : List Entry) → StandsFor old h → StandsFor new (h ++ e ∷ []))
    → AreEnrolled old n → 16384 ≤ n + (spare_room new).contexts → AreEnrolled new n
AreEnrolled-more old new n e stands are room = record {
  settings = HasSettings-more old new e stands are.settings;
  each = λ c below. IsEnrolled-more old new e c stands (are.each c below);
  room = room;
}

-- an Enroll adds its context
pub AreEnrolled-next : (old new : RegState) (n : ℕ) (id : PledgeId) (check : List ℕ)
    → ((h : List Entry) → StandsFor old h → StandsFor new (h ++ Enroll n id check ∷ []))
    → AreEnrolled old n → 16384 ≤ n + 1 + (spare_room new).contexts → AreEnrolled new (n + 1)
AreEnrolled-next old new n id check stands are room =
    let e = Enroll n id check in
    let h = are.settings.0 in
    let after = stands h are.settings.2 in
    record {
      settings = HasSettings-more old new e stands are.settings;
      each = below_more (IsEnrolled new) n (λ c below. IsEnrolled-more old new e c stands (are.each c below))
          (h ++ e ∷ [], id, after, enrolled_pledge (h ++ e ∷ []) n id check (IsLegal-stands new (h ++ e ∷ []) after) (Contains-middle h e []));
      room = room;
    }

-- what is due isn't an Enroll, so it takes the room of another entry
pub takes_entry-due : (old new : Room) (h : List Entry) (now c n : ℕ) (wish : Want) (e : Entry) → IsDue h now c n wish (Add e)
    → TakesRoom old new e → TakesEntry old new
takes_entry-due old new h now c n wish (Enroll context id check) due takes = absurd due.1
takes_entry-due old new h now c n wish _ due takes = takes
