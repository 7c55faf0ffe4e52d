-- Reading an entry from the left. A fault is the place of the first field that goes past the end, or has no meaning.
use Rattle.std.specs.Prelude.{◌≡◌, ◌≤◌, ◌==◌, ℕ, zero, suc, ◌-◌, List, [], ◌∷◌, length, take, drop, Option, Some, None, Result, Ok, Err, nat_lt, if◌then◌else◌}
use Rattle.edge_traits.specs.declared.names.PledgeId.{PledgeId}
use Rattle.journal_text.specs.declared.settings.Settings.{Settings}
use Rattle.journal_text.specs.declared.refusal.Refusal.{Refusal}
use Rattle.journal_text.specs.declared.refusal.Refusal.TheVariants as refusal
use Rattle.journal_text.specs.declared.entry.Entry.{Entry}
use Rattle.journal_text.specs.declared.entry.Entry.TheVariants.{Settings as SettingsEntry, Enroll, Grant, Refuse, Block, Roll, Given, Stale, Switch, Release}
use Rattle.journal_text.specs.declared.fault.Bad.{Bad}
use Rattle.journal_text.specs.declared.kind.Kind.{Kind}
use Rattle.journal_text.specs.declared.kind.Kind.TheVariants as kind
use Rattle.journal_text.specs.Kinds.{kind_of}
use Rattle.journal_text.specs.Codes.{code_of}
use Rattle.journal_text.specs.Numbers.{number_of}

-- the place of what is left of an input of `end` bytes
abbrev pub place : ℕ → List ℕ → ℕ
place end left = end - length left

infixl 10 ◌>>=◌
abbrev pub ◌>>=◌ : {A B : Type 0} → Result A ℕ → (A → Result B ℕ) → Result B ℕ
(Ok x) >>= f = f x
(Err at) >>= f = Err at

-- what a function returned, seen by view, is what reading gives
abbrev pub Gives : {X Y : Type 0} → (X → Y) → Result X Bad → Result Y ℕ → Type 0
Gives view (Ok x) read = read ≡ Ok (view x)
Gives view (Err bad) read = read ≡ Err bad.0

-- ---- fields

abbrev pub number_at : ℕ → ℕ → List ℕ → Result (ℕ × List ℕ) ℕ
number_at size end bytes =
    if nat_lt (length bytes) size then Err (place end bytes) else Ok (number_of size bytes, drop size bytes)

abbrev pub bytes_at : ℕ → ℕ → List ℕ → Result (List ℕ × List ℕ) ℕ
bytes_at size end bytes =
    if nat_lt (length bytes) size then Err (place end bytes) else Ok (take size bytes, drop size bytes)

-- the rate and the address after these flags, which are at this place
abbrev pub options_by : ℕ → ℕ → ℕ → List ℕ → Result ((Option ℕ × Option (List ℕ)) × List ℕ) ℕ
options_by flags at end bytes =
    if flags == 0 then Ok ((None, None), bytes)
    else (if flags == 1 then (number_at 4 end bytes >>= λ rate. Ok ((Some rate.0, None), rate.1))
    else (if flags == 2 then (bytes_at 16 end bytes >>= λ address. Ok ((None, Some address.0), address.1))
    else (if flags == 3 then (number_at 4 end bytes >>= λ rate. (bytes_at 16 end rate.1 >>= λ address. Ok ((Some rate.0, Some address.0), address.1)))
    else Err at)))

unfoldable pub options_at : ℕ → List ℕ → Result ((Option ℕ × Option (List ℕ)) × List ℕ) ℕ
options_at end [] = Err (place end [])
options_at end (flags ∷ bytes) = options_by flags (place end (flags ∷ bytes)) end bytes

-- `n` items of one size, each of its bytes
abbrev pub items_at : {X : Type 0} → (List ℕ → X) → ℕ → ℕ → ℕ → List ℕ → Result (List X × List ℕ) ℕ
items_at of size zero end bytes = Ok ([], bytes)
items_at of size (suc count) end bytes =
    bytes_at size end bytes >>= λ item. (items_at of size count end item.1 >>= λ rest. Ok (of item.0 ∷ rest.0, rest.1))

-- a count, which is at most the limit, and that many items
unfoldable pub list_at : {X : Type 0} → (List ℕ → X) → ℕ → ℕ → ℕ → List ℕ → Result (List X × List ℕ) ℕ
list_at of size most end [] = Err (place end [])
list_at of size most end (count ∷ bytes) =
    if nat_lt most count then Err (place end (count ∷ bytes)) else items_at of size count end bytes

abbrev pub id_of : List ℕ → PledgeId
id_of bytes = record { 0 = bytes }

abbrev pub key_of : List ℕ → List ℕ
key_of bytes = bytes

unfoldable pub settings_at : ℕ → List ℕ → Result (Settings × List ℕ) ℕ
settings_at end bytes = do
  first ← number_at 2 end bytes
  count ← number_at 2 end first.1
  hours ← number_at 2 end count.1
  options ← options_at end hours.1
  refused ← list_at id_of 8 16 end options.1
  Ok (
    record {
      first = first.0;
      count = count.0;
      hours = hours.0;
      rate = options.0.0;
      jrc = options.0.1;
      refused = record { items = refused.0 };
    },
    refused.1,
  )

-- the reason of this code and label
abbrev pub bad_request_of : ℕ → Option Refusal
bad_request_of label =
    if label == 0 then Some refusal.Form
    else (if label == 1 then Some (refusal.Malformed 1)
    else (if label == 5 then Some (refusal.Malformed 5)
    else (if label == 8 then Some (refusal.Malformed 8)
    else (if label == 65 then Some (refusal.Unsupported 1) else None))))

abbrev pub denied_of : ℕ → Option Refusal
denied_of rule =
    if rule == 1 then Some (refusal.Denied 1)
    else (if rule == 2 then Some (refusal.Denied 2)
    else (if rule == 3 then Some (refusal.Denied 3)
    else (if rule == 4 then Some (refusal.Denied 4) else None)))

abbrev pub plain_of : Refusal → ℕ → Option Refusal
plain_of why label = if label == 0 then Some why else None

abbrev pub reason_of : ℕ → ℕ → Option Refusal
reason_of code label =
    if code == code_of refusal.Form then bad_request_of label
    else (if code == code_of refusal.Option then plain_of refusal.Option label
    else (if code == code_of (refusal.Denied label) then denied_of label
    else (if code == code_of refusal.Path then plain_of refusal.Path label
    else (if code == code_of refusal.Method then plain_of refusal.Method label
    else (if code == code_of refusal.NoAddress then plain_of refusal.NoAddress label else None)))))

-- what was found at this place, or nothing
abbrev pub found_at : {X : Type 0} → ℕ → Option X → List ℕ → Result (X × List ℕ) ℕ
found_at at None bytes = Err at
found_at at (Some x) bytes = Ok (x, bytes)

-- a code and a label, which have a meaning together
unfoldable pub reason_at : ℕ → List ℕ → Result (Refusal × List ℕ) ℕ
reason_at end [] = Err (place end [])
reason_at end (code ∷ []) = Err (place end (code ∷ []))
reason_at end (code ∷ label ∷ bytes) = found_at (place end (code ∷ label ∷ bytes)) (reason_of code label) bytes

-- ---- entries, after their kind byte

unfoldable pub settings_entry_at : ℕ → List ℕ → Result (Entry × List ℕ) ℕ
settings_entry_at end bytes = do
  time ← number_at 8 end bytes
  settings ← settings_at end time.1
  Ok (SettingsEntry time.0 settings.0, settings.1)

unfoldable pub enroll_at : ℕ → List ℕ → Result (Entry × List ℕ) ℕ
enroll_at end bytes = do
  context ← number_at 4 end bytes
  id ← bytes_at 8 end context.1
  check ← bytes_at 32 end id.1
  Ok (Enroll context.0 (id_of id.0) check.0, check.1)

unfoldable pub grant_at : ℕ → List ℕ → Result (Entry × List ℕ) ℕ
grant_at end bytes = do
  time ← number_at 8 end bytes
  context ← number_at 4 end time.1
  number ← number_at 5 end context.1
  address ← number_at 2 end number.1
  until ← number_at 8 end address.1
  Ok (Grant time.0 context.0 number.0 address.0 until.0, until.1)

unfoldable pub refuse_at : ℕ → List ℕ → Result (Entry × List ℕ) ℕ
refuse_at end bytes = do
  time ← number_at 8 end bytes
  context ← number_at 4 end time.1
  number ← number_at 5 end context.1
  why ← reason_at end number.1
  Ok (Refuse time.0 context.0 number.0 why.0, why.1)

unfoldable pub block_at : ℕ → List ℕ → Result (Entry × List ℕ) ℕ
block_at end bytes = do
  context ← number_at 4 end bytes
  to ← number_at 8 end context.1
  Ok (Block context.0 to.0, to.1)

unfoldable pub roll_at : ℕ → List ℕ → Result (Entry × List ℕ) ℕ
roll_at end bytes = do
  time ← number_at 8 end bytes
  epoch ← number_at 4 end time.1
  keys ← list_at key_of 16 4 end epoch.1
  Ok (Roll time.0 (record { epoch = epoch.0; keys = record { items = keys.0 } }), keys.1)

unfoldable pub given_at : ℕ → List ℕ → Result (Entry × List ℕ) ℕ
given_at end bytes = do
  time ← number_at 8 end bytes
  context ← number_at 4 end time.1
  number ← number_at 5 end context.1
  epoch ← number_at 4 end number.1
  Ok (Given time.0 context.0 number.0 epoch.0, epoch.1)

unfoldable pub stale_at : ℕ → List ℕ → Result (Entry × List ℕ) ℕ
stale_at end bytes = do
  time ← number_at 8 end bytes
  id ← bytes_at 8 end time.1
  epoch ← number_at 4 end id.1
  Ok (Stale time.0 (id_of id.0) epoch.0, epoch.1)

unfoldable pub switch_at : ℕ → List ℕ → Result (Entry × List ℕ) ℕ
switch_at end bytes = do
  time ← number_at 8 end bytes
  epoch ← number_at 4 end time.1
  Ok (Switch time.0 epoch.0, epoch.1)

unfoldable pub release_at : ℕ → List ℕ → Result (Entry × List ℕ) ℕ
release_at end bytes = do
  time ← number_at 8 end bytes
  id ← bytes_at 8 end time.1
  Ok (Release time.0 (id_of id.0), id.1)

-- the entry of this kind after its first byte, which is at this place
abbrev pub fields_of : Option Kind → ℕ → ℕ → List ℕ → Result (Entry × List ℕ) ℕ
fields_of (Some kind.Settings) at end bytes = settings_entry_at end bytes
fields_of (Some kind.Enroll) at end bytes = enroll_at end bytes
fields_of (Some kind.Grant) at end bytes = grant_at end bytes
fields_of (Some kind.Refuse) at end bytes = refuse_at end bytes
fields_of (Some kind.Block) at end bytes = block_at end bytes
fields_of (Some kind.Roll) at end bytes = roll_at end bytes
fields_of (Some kind.Given) at end bytes = given_at end bytes
fields_of (Some kind.Stale) at end bytes = stale_at end bytes
fields_of (Some kind.Switch) at end bytes = switch_at end bytes
fields_of (Some kind.Release) at end bytes = release_at end bytes
fields_of None at end bytes = Err at

-- the entry at the start of the last bytes of an input of `end` bytes, and the bytes after it
unfoldable pub entry_at : ℕ → List ℕ → Result (Entry × List ℕ) ℕ
entry_at end [] = Err (place end [])
entry_at end (code ∷ bytes) = fields_of (kind_of code) (place end (code ∷ bytes)) end bytes

-- ---- the answer of a call

-- an entry and how many bytes it takes, or the place of the first fault
abbrev pub IsEntryRead : List ℕ → Result (Entry × ℕ) Bad → Type 0
IsEntryRead bytes (Ok (e, size)) = (entry_at (length bytes) bytes ≡ Ok (e, drop size bytes)) × (size ≤ length bytes)
IsEntryRead bytes (Err bad) = entry_at (length bytes) bytes ≡ Err bad.0
