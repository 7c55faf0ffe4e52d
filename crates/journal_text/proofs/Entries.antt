-- An entry that is read is spelled so, and what is spelled is read again. So no spelling begins another.
use Rattle.std.proofs.Common.{◌≡◌, ◌⊎◌, ℕ, ◌^◌, ◌<◌, ◌≤◌, ◌+◌, ◌-◌, drop, length-append, Bool, true, false, cond, eqb, List, [], ◌∷◌, ◌++◌, length, Option, Some, None, Ok, Err, refl, sym, ap, subst, ◌∙◌, arith, inl, inr}
use Rattle.std.proofs.lemmas.Bool.{eqb-true}
use Rattle.std.proofs.lemmas.List.{drop_at}
use Rattle.edge_traits.specs.declared.names.PledgeId.{PledgeId}
use Rattle.key_sets.specs.declared.set.KeySet.{KeySet}
use Rattle.journal_text.specs.declared.settings.Settings.{Settings}
use Rattle.journal_text.specs.declared.refusal.Refusal.{Refusal}
use Rattle.journal_text.specs.declared.entry.Entry.{Entry}
use Rattle.journal_text.specs.declared.entry.Entry.TheVariants.{Settings as SettingsEntry, Enroll, Grant, Refuse, Block, Roll, Given, Stale, Switch, Release}
use Rattle.journal_text.specs.declared.kind.Kind.{Kind}
use Rattle.journal_text.specs.declared.kind.Kind.TheVariants as kind
use Rattle.journal_text.specs.Kinds.{kind_code, kind_of}
use Rattle.journal_text.specs.Codes.{IsReason}
use Rattle.journal_text.specs.Numbers.{number_text}
use Rattle.journal_text.specs.Text.{list_text, key_text, settings_text, reason_text, entry_text, AreItems, SettingsFit, Fits}
use Rattle.journal_text.specs.Reading.{place, number_at, bytes_at, list_at, id_of, key_of, reason_at, settings_at, settings_entry_at, enroll_at, grant_at, refuse_at, block_at, roll_at, given_at, stale_at, switch_at, release_at, fields_of, entry_at}
use Rattle.journal_text.proofs.Fields.{IsBytes, IsBytes-rest, ok_is, finished, err_is_not_ok, Taken, Taken-then, Taken-byte, IsField, step, then_again, last_again, number2, number4, number5, number8, bytes, same}
use Rattle.journal_text.proofs.Parts.{keys, reason, settings}

-- the entry's spelling was taken from the start
abbrev pub TakesEntry : List ℕ → Entry → List ℕ → Type 0
TakesEntry input e rest = Taken input (entry_text e) rest × Fits e

-- ---- kind 1

settings_entry_takes : (end : ℕ) (input : List ℕ) (e : Entry) (rest : List ℕ) → IsBytes input → settings_entry_at end input ≡ Ok (e, rest) → TakesEntry (1 ∷ input) e rest
unfolding settings_entry_at entry_text
settings_entry_takes end input e rest fits is =
    let x0 = step (number_at 8) (number_text 8) (λ n. n < 256 ^ 8) number8 end input _ _ fits is in
    let x1 = step settings_at settings_text SettingsFit settings end x0.rest _ _ x0.taken.rest_fits x0.on in
    finished (TakesEntry (1 ∷ input)) (SettingsEntry x0.value x1.value) e x1.rest rest x1.on (Taken-byte 1 input _ x1.rest (Taken-then input _ x0.rest _ x1.rest x0.taken x1.taken), (x0.fits, x1.fits))

settings_entry_again : (end : ℕ) (time : ℕ) (s : Settings) (rest : List ℕ) → Fits (SettingsEntry time s) → settings_entry_at end ((number_text 8 time ++ (settings_text s)) ++ rest) ≡ Ok (SettingsEntry time s, rest)
unfolding settings_entry_at
settings_entry_again end time s rest fit =
    then_again (number_at 8) (number_text 8) (λ n. n < 256 ^ 8) number8 end time _ rest _ fit.0
    ∙ last_again settings_at settings_text SettingsFit settings end s rest _ fit.1

-- ---- kind 2

enroll_takes : (end : ℕ) (input : List ℕ) (e : Entry) (rest : List ℕ) → IsBytes input → enroll_at end input ≡ Ok (e, rest) → TakesEntry (2 ∷ input) e rest
unfolding enroll_at entry_text
enroll_takes end input e rest fits is =
    let x0 = step (number_at 4) (number_text 4) (λ n. n < 256 ^ 4) number4 end input _ _ fits is in
    let x1 = step (bytes_at 8) same (λ x. length x ≡ 8) (bytes 8) end x0.rest _ _ x0.taken.rest_fits x0.on in
    let x2 = step (bytes_at 32) same (λ x. length x ≡ 32) (bytes 32) end x1.rest _ _ x1.taken.rest_fits x1.on in
    finished (TakesEntry (2 ∷ input)) (Enroll x0.value (id_of x1.value) x2.value) e x2.rest rest x2.on (Taken-byte 2 input _ x2.rest (Taken-then input _ x0.rest _ x2.rest x0.taken (Taken-then x0.rest _ x1.rest _ x2.rest x1.taken x2.taken)), (x0.fits, x1.fits, x2.fits))

enroll_again : (end : ℕ) (context : ℕ) (id : PledgeId) (check : List ℕ) (rest : List ℕ) → Fits (Enroll context id check) → enroll_at end ((number_text 4 context ++ (id.0 ++ (check))) ++ rest) ≡ Ok (Enroll context id check, rest)
unfolding enroll_at
enroll_again end context id check rest fit =
    then_again (number_at 4) (number_text 4) (λ n. n < 256 ^ 4) number4 end context _ rest _ fit.0
    ∙ then_again (bytes_at 8) same (λ x. length x ≡ 8) (bytes 8) end id.0 _ rest _ fit.1
    ∙ last_again (bytes_at 32) same (λ x. length x ≡ 32) (bytes 32) end check rest _ fit.2

-- ---- kind 3

grant_takes : (end : ℕ) (input : List ℕ) (e : Entry) (rest : List ℕ) → IsBytes input → grant_at end input ≡ Ok (e, rest) → TakesEntry (3 ∷ input) e rest
unfolding grant_at entry_text
grant_takes end input e rest fits is =
    let x0 = step (number_at 8) (number_text 8) (λ n. n < 256 ^ 8) number8 end input _ _ fits is in
    let x1 = step (number_at 4) (number_text 4) (λ n. n < 256 ^ 4) number4 end x0.rest _ _ x0.taken.rest_fits x0.on in
    let x2 = step (number_at 5) (number_text 5) (λ n. n < 256 ^ 5) number5 end x1.rest _ _ x1.taken.rest_fits x1.on in
    let x3 = step (number_at 2) (number_text 2) (λ n. n < 256 ^ 2) number2 end x2.rest _ _ x2.taken.rest_fits x2.on in
    let x4 = step (number_at 8) (number_text 8) (λ n. n < 256 ^ 8) number8 end x3.rest _ _ x3.taken.rest_fits x3.on in
    finished (TakesEntry (3 ∷ input)) (Grant x0.value x1.value x2.value x3.value x4.value) e x4.rest rest x4.on (Taken-byte 3 input _ x4.rest (Taken-then input _ x0.rest _ x4.rest x0.taken (Taken-then x0.rest _ x1.rest _ x4.rest x1.taken (Taken-then x1.rest _ x2.rest _ x4.rest x2.taken (Taken-then x2.rest _ x3.rest _ x4.rest x3.taken x4.taken)))), (x0.fits, x1.fits, x2.fits, x3.fits, x4.fits))

grant_again : (end : ℕ) (time : ℕ) (context : ℕ) (number : ℕ) (address : ℕ) (until : ℕ) (rest : List ℕ) → Fits (Grant time context number address until) → grant_at end ((number_text 8 time ++ (number_text 4 context ++ (number_text 5 number ++ (number_text 2 address ++ (number_text 8 until))))) ++ rest) ≡ Ok (Grant time context number address until, rest)
unfolding grant_at
grant_again end time context number address until rest fit =
    then_again (number_at 8) (number_text 8) (λ n. n < 256 ^ 8) number8 end time _ rest _ fit.0
    ∙ then_again (number_at 4) (number_text 4) (λ n. n < 256 ^ 4) number4 end context _ rest _ fit.1
    ∙ then_again (number_at 5) (number_text 5) (λ n. n < 256 ^ 5) number5 end number _ rest _ fit.2
    ∙ then_again (number_at 2) (number_text 2) (λ n. n < 256 ^ 2) number2 end address _ rest _ fit.3
    ∙ last_again (number_at 8) (number_text 8) (λ n. n < 256 ^ 8) number8 end until rest _ fit.4

-- ---- kind 4

refuse_takes : (end : ℕ) (input : List ℕ) (e : Entry) (rest : List ℕ) → IsBytes input → refuse_at end input ≡ Ok (e, rest) → TakesEntry (4 ∷ input) e rest
unfolding refuse_at entry_text
refuse_takes end input e rest fits is =
    let x0 = step (number_at 8) (number_text 8) (λ n. n < 256 ^ 8) number8 end input _ _ fits is in
    let x1 = step (number_at 4) (number_text 4) (λ n. n < 256 ^ 4) number4 end x0.rest _ _ x0.taken.rest_fits x0.on in
    let x2 = step (number_at 5) (number_text 5) (λ n. n < 256 ^ 5) number5 end x1.rest _ _ x1.taken.rest_fits x1.on in
    let x3 = step reason_at reason_text IsReason reason end x2.rest _ _ x2.taken.rest_fits x2.on in
    finished (TakesEntry (4 ∷ input)) (Refuse x0.value x1.value x2.value x3.value) e x3.rest rest x3.on (Taken-byte 4 input _ x3.rest (Taken-then input _ x0.rest _ x3.rest x0.taken (Taken-then x0.rest _ x1.rest _ x3.rest x1.taken (Taken-then x1.rest _ x2.rest _ x3.rest x2.taken x3.taken))), (x0.fits, x1.fits, x2.fits, x3.fits))

refuse_again : (end : ℕ) (time : ℕ) (context : ℕ) (number : ℕ) (why : Refusal) (rest : List ℕ) → Fits (Refuse time context number why) → refuse_at end ((number_text 8 time ++ (number_text 4 context ++ (number_text 5 number ++ (reason_text why)))) ++ rest) ≡ Ok (Refuse time context number why, rest)
unfolding refuse_at
refuse_again end time context number why rest fit =
    then_again (number_at 8) (number_text 8) (λ n. n < 256 ^ 8) number8 end time _ rest _ fit.0
    ∙ then_again (number_at 4) (number_text 4) (λ n. n < 256 ^ 4) number4 end context _ rest _ fit.1
    ∙ then_again (number_at 5) (number_text 5) (λ n. n < 256 ^ 5) number5 end number _ rest _ fit.2
    ∙ last_again reason_at reason_text IsReason reason end why rest _ fit.3

-- ---- kind 5

block_takes : (end : ℕ) (input : List ℕ) (e : Entry) (rest : List ℕ) → IsBytes input → block_at end input ≡ Ok (e, rest) → TakesEntry (5 ∷ input) e rest
unfolding block_at entry_text
block_takes end input e rest fits is =
    let x0 = step (number_at 4) (number_text 4) (λ n. n < 256 ^ 4) number4 end input _ _ fits is in
    let x1 = step (number_at 8) (number_text 8) (λ n. n < 256 ^ 8) number8 end x0.rest _ _ x0.taken.rest_fits x0.on in
    finished (TakesEntry (5 ∷ input)) (Block x0.value x1.value) e x1.rest rest x1.on (Taken-byte 5 input _ x1.rest (Taken-then input _ x0.rest _ x1.rest x0.taken x1.taken), (x0.fits, x1.fits))

block_again : (end : ℕ) (context : ℕ) (to : ℕ) (rest : List ℕ) → Fits (Block context to) → block_at end ((number_text 4 context ++ (number_text 8 to)) ++ rest) ≡ Ok (Block context to, rest)
unfolding block_at
block_again end context to rest fit =
    then_again (number_at 4) (number_text 4) (λ n. n < 256 ^ 4) number4 end context _ rest _ fit.0
    ∙ last_again (number_at 8) (number_text 8) (λ n. n < 256 ^ 8) number8 end to rest _ fit.1

-- ---- kind 6

roll_takes : (end : ℕ) (input : List ℕ) (e : Entry) (rest : List ℕ) → IsBytes input → roll_at end input ≡ Ok (e, rest) → TakesEntry (6 ∷ input) e rest
unfolding roll_at entry_text
roll_takes end input e rest fits is =
    let x0 = step (number_at 8) (number_text 8) (λ n. n < 256 ^ 8) number8 end input _ _ fits is in
    let x1 = step (number_at 4) (number_text 4) (λ n. n < 256 ^ 4) number4 end x0.rest _ _ x0.taken.rest_fits x0.on in
    let x2 = step (list_at key_of 16 4) (list_text key_text) (AreItems key_text 16 4) keys end x1.rest _ _ x1.taken.rest_fits x1.on in
    finished (TakesEntry (6 ∷ input)) (Roll x0.value (record { epoch = x1.value; keys = record { items = x2.value } })) e x2.rest rest x2.on (Taken-byte 6 input _ x2.rest (Taken-then input _ x0.rest _ x2.rest x0.taken (Taken-then x0.rest _ x1.rest _ x2.rest x1.taken x2.taken)), (x0.fits, x1.fits, x2.fits))

roll_again : (end : ℕ) (time : ℕ) (set : KeySet) (rest : List ℕ) → Fits (Roll time set) → roll_at end ((number_text 8 time ++ (number_text 4 set.epoch ++ (list_text key_text set.keys.items))) ++ rest) ≡ Ok (Roll time set, rest)
unfolding roll_at
roll_again end time set rest fit =
    then_again (number_at 8) (number_text 8) (λ n. n < 256 ^ 8) number8 end time _ rest _ fit.0
    ∙ then_again (number_at 4) (number_text 4) (λ n. n < 256 ^ 4) number4 end set.epoch _ rest _ fit.1
    ∙ last_again (list_at key_of 16 4) (list_text key_text) (AreItems key_text 16 4) keys end set.keys.items rest _ fit.2

-- ---- kind 7

given_takes : (end : ℕ) (input : List ℕ) (e : Entry) (rest : List ℕ) → IsBytes input → given_at end input ≡ Ok (e, rest) → TakesEntry (7 ∷ input) e rest
unfolding given_at entry_text
given_takes end input e rest fits is =
    let x0 = step (number_at 8) (number_text 8) (λ n. n < 256 ^ 8) number8 end input _ _ fits is in
    let x1 = step (number_at 4) (number_text 4) (λ n. n < 256 ^ 4) number4 end x0.rest _ _ x0.taken.rest_fits x0.on in
    let x2 = step (number_at 5) (number_text 5) (λ n. n < 256 ^ 5) number5 end x1.rest _ _ x1.taken.rest_fits x1.on in
    let x3 = step (number_at 4) (number_text 4) (λ n. n < 256 ^ 4) number4 end x2.rest _ _ x2.taken.rest_fits x2.on in
    finished (TakesEntry (7 ∷ input)) (Given x0.value x1.value x2.value x3.value) e x3.rest rest x3.on (Taken-byte 7 input _ x3.rest (Taken-then input _ x0.rest _ x3.rest x0.taken (Taken-then x0.rest _ x1.rest _ x3.rest x1.taken (Taken-then x1.rest _ x2.rest _ x3.rest x2.taken x3.taken))), (x0.fits, x1.fits, x2.fits, x3.fits))

given_again : (end : ℕ) (time : ℕ) (context : ℕ) (number : ℕ) (epoch : ℕ) (rest : List ℕ) → Fits (Given time context number epoch) → given_at end ((number_text 8 time ++ (number_text 4 context ++ (number_text 5 number ++ (number_text 4 epoch)))) ++ rest) ≡ Ok (Given time context number epoch, rest)
unfolding given_at
given_again end time context number epoch rest fit =
    then_again (number_at 8) (number_text 8) (λ n. n < 256 ^ 8) number8 end time _ rest _ fit.0
    ∙ then_again (number_at 4) (number_text 4) (λ n. n < 256 ^ 4) number4 end context _ rest _ fit.1
    ∙ then_again (number_at 5) (number_text 5) (λ n. n < 256 ^ 5) number5 end number _ rest _ fit.2
    ∙ last_again (number_at 4) (number_text 4) (λ n. n < 256 ^ 4) number4 end epoch rest _ fit.3

-- ---- kind 8

stale_takes : (end : ℕ) (input : List ℕ) (e : Entry) (rest : List ℕ) → IsBytes input → stale_at end input ≡ Ok (e, rest) → TakesEntry (8 ∷ input) e rest
unfolding stale_at entry_text
stale_takes end input e rest fits is =
    let x0 = step (number_at 8) (number_text 8) (λ n. n < 256 ^ 8) number8 end input _ _ fits is in
    let x1 = step (bytes_at 8) same (λ x. length x ≡ 8) (bytes 8) end x0.rest _ _ x0.taken.rest_fits x0.on in
    let x2 = step (number_at 4) (number_text 4) (λ n. n < 256 ^ 4) number4 end x1.rest _ _ x1.taken.rest_fits x1.on in
    finished (TakesEntry (8 ∷ input)) (Stale x0.value (id_of x1.value) x2.value) e x2.rest rest x2.on (Taken-byte 8 input _ x2.rest (Taken-then input _ x0.rest _ x2.rest x0.taken (Taken-then x0.rest _ x1.rest _ x2.rest x1.taken x2.taken)), (x0.fits, x1.fits, x2.fits))

stale_again : (end : ℕ) (time : ℕ) (id : PledgeId) (epoch : ℕ) (rest : List ℕ) → Fits (Stale time id epoch) → stale_at end ((number_text 8 time ++ (id.0 ++ (number_text 4 epoch))) ++ rest) ≡ Ok (Stale time id epoch, rest)
unfolding stale_at
stale_again end time id epoch rest fit =
    then_again (number_at 8) (number_text 8) (λ n. n < 256 ^ 8) number8 end time _ rest _ fit.0
    ∙ then_again (bytes_at 8) same (λ x. length x ≡ 8) (bytes 8) end id.0 _ rest _ fit.1
    ∙ last_again (number_at 4) (number_text 4) (λ n. n < 256 ^ 4) number4 end epoch rest _ fit.2

-- ---- kind 9

switch_takes : (end : ℕ) (input : List ℕ) (e : Entry) (rest : List ℕ) → IsBytes input → switch_at end input ≡ Ok (e, rest) → TakesEntry (9 ∷ input) e rest
unfolding switch_at entry_text
switch_takes end input e rest fits is =
    let x0 = step (number_at 8) (number_text 8) (λ n. n < 256 ^ 8) number8 end input _ _ fits is in
    let x1 = step (number_at 4) (number_text 4) (λ n. n < 256 ^ 4) number4 end x0.rest _ _ x0.taken.rest_fits x0.on in
    finished (TakesEntry (9 ∷ input)) (Switch x0.value x1.value) e x1.rest rest x1.on (Taken-byte 9 input _ x1.rest (Taken-then input _ x0.rest _ x1.rest x0.taken x1.taken), (x0.fits, x1.fits))

switch_again : (end : ℕ) (time : ℕ) (epoch : ℕ) (rest : List ℕ) → Fits (Switch time epoch) → switch_at end ((number_text 8 time ++ (number_text 4 epoch)) ++ rest) ≡ Ok (Switch time epoch, rest)
unfolding switch_at
switch_again end time epoch rest fit =
    then_again (number_at 8) (number_text 8) (λ n. n < 256 ^ 8) number8 end time _ rest _ fit.0
    ∙ last_again (number_at 4) (number_text 4) (λ n. n < 256 ^ 4) number4 end epoch rest _ fit.1

-- ---- kind 10

release_takes : (end : ℕ) (input : List ℕ) (e : Entry) (rest : List ℕ) → IsBytes input → release_at end input ≡ Ok (e, rest) → TakesEntry (10 ∷ input) e rest
unfolding release_at entry_text
release_takes end input e rest fits is =
    let x0 = step (number_at 8) (number_text 8) (λ n. n < 256 ^ 8) number8 end input _ _ fits is in
    let x1 = step (bytes_at 8) same (λ x. length x ≡ 8) (bytes 8) end x0.rest _ _ x0.taken.rest_fits x0.on in
    finished (TakesEntry (10 ∷ input)) (Release x0.value (id_of x1.value)) e x1.rest rest x1.on (Taken-byte 10 input _ x1.rest (Taken-then input _ x0.rest _ x1.rest x0.taken x1.taken), (x0.fits, x1.fits))

release_again : (end : ℕ) (time : ℕ) (id : PledgeId) (rest : List ℕ) → Fits (Release time id) → release_at end ((number_text 8 time ++ (id.0)) ++ rest) ≡ Ok (Release time id, rest)
unfolding release_at
release_again end time id rest fit =
    then_again (number_at 8) (number_text 8) (λ n. n < 256 ^ 8) number8 end time _ rest _ fit.0
    ∙ last_again (bytes_at 8) same (λ x. length x ≡ 8) (bytes 8) end id.0 rest _ fit.1

-- ---- whichever kind

way : {A : Type 0} (b : Bool) (x y z : A) → cond b x y ≡ z → ((b ≡ true) × (x ≡ z)) ⊎ (y ≡ z)
way true x y z e = inl (refl, e)
way false x y z e = inr e

some_is : (x y : Kind) → Some x ≡ Some y → x ≡ y
some_is x y e = cc

none_is_not_some : (x : Kind) → None ≡ Some x → ⊥
none_is_not_some x e = cc

-- a kind was found in this test, or in the others
coded : (code : ℕ) (k found : Kind) (others : Option Kind) → (others ≡ Some found → code ≡ kind_code found)
    → cond (eqb code (kind_code k)) (Some k) others ≡ Some found → code ≡ kind_code found
coded code k found others other is =
    elim (way (eqb code (kind_code k)) (Some k) others (Some found) is) [
      | inl here ↦ eqb-true code (kind_code k) here.0 ∙ ap kind_code (some_is k found here.1)
      | inr later ↦ other later
    ]

-- the code of a kind that was found
kind_is : (code : ℕ) (found : Kind) → kind_of code ≡ Some found → code ≡ kind_code found
kind_is code found =
    coded code kind.Settings found _
    (coded code kind.Enroll found _
    (coded code kind.Grant found _
    (coded code kind.Refuse found _
    (coded code kind.Block found _
    (coded code kind.Roll found _
    (coded code kind.Given found _
    (coded code kind.Stale found _
    (coded code kind.Switch found _
    (coded code kind.Release found _
    (λ is. absurd (none_is_not_some found is)))))))))))

-- what the fields of a kind give takes its code and the fields
fields_take : (kind : Kind) (at end : ℕ) (input : List ℕ) (e : Entry) (rest : List ℕ) → IsBytes input
    → fields_of (Some kind) at end input ≡ Ok (e, rest) → TakesEntry (kind_code kind ∷ input) e rest
fields_take kind.Settings at end input e rest fits is = settings_entry_takes end input e rest fits is
fields_take kind.Enroll at end input e rest fits is = enroll_takes end input e rest fits is
fields_take kind.Grant at end input e rest fits is = grant_takes end input e rest fits is
fields_take kind.Refuse at end input e rest fits is = refuse_takes end input e rest fits is
fields_take kind.Block at end input e rest fits is = block_takes end input e rest fits is
fields_take kind.Roll at end input e rest fits is = roll_takes end input e rest fits is
fields_take kind.Given at end input e rest fits is = given_takes end input e rest fits is
fields_take kind.Stale at end input e rest fits is = stale_takes end input e rest fits is
fields_take kind.Switch at end input e rest fits is = switch_takes end input e rest fits is
fields_take kind.Release at end input e rest fits is = release_takes end input e rest fits is

found_takes : (code : ℕ) (found : Option Kind) (at end : ℕ) (input : List ℕ) (e : Entry) (rest : List ℕ) → kind_of code ≡ found → IsBytes input
    → fields_of found at end input ≡ Ok (e, rest) → TakesEntry (code ∷ input) e rest
found_takes code (Some found) at end input e rest same fits is =
    subst (λ (c : ℕ). TakesEntry (c ∷ input) e rest) (sym (kind_is code found same)) (fields_take found at end input e rest fits is)
found_takes code None at end input e rest same fits is = absurd (err_is_not_ok at (e, rest) is)

entry_takes : (end : ℕ) (input : List ℕ) (e : Entry) (rest : List ℕ) → IsBytes input → entry_at end input ≡ Ok (e, rest) → TakesEntry input e rest
unfolding entry_at
entry_takes end [] e rest fits is = absurd (err_is_not_ok (place end []) (e, rest) is)
entry_takes end (code ∷ input) e rest fits is =
    found_takes code (kind_of code) (place end (code ∷ input)) end input e rest refl (IsBytes-rest code input fits) is

entry_again : (end : ℕ) (e : Entry) (rest : List ℕ) → Fits e → entry_at end (entry_text e ++ rest) ≡ Ok (e, rest)
unfolding entry_at entry_text
entry_again end (SettingsEntry time s) rest fit = settings_entry_again end time s rest fit
entry_again end (Enroll context id check) rest fit = enroll_again end context id check rest fit
entry_again end (Grant time context number address until) rest fit = grant_again end time context number address until rest fit
entry_again end (Refuse time context number why) rest fit = refuse_again end time context number why rest fit
entry_again end (Block context to) rest fit = block_again end context to rest fit
entry_again end (Roll time set) rest fit = roll_again end time set rest fit
entry_again end (Given time context number epoch) rest fit = given_again end time context number epoch rest fit
entry_again end (Stale time id epoch) rest fit = stale_again end time id epoch rest fit
entry_again end (Switch time epoch) rest fit = switch_again end time epoch rest fit
entry_again end (Release time id) rest fit = release_again end time id rest fit

-- reading an entry is its spelling
pub entry : IsField entry_at entry_text Fits
entry = record { takes = entry_takes; again = entry_again }

-- two entries at the start of the same bytes are one
pub one_spelling : (e f : Entry) (x y : List ℕ) → Fits e → Fits f → entry_text e ++ x ≡ entry_text f ++ y → (e ≡ f) × (x ≡ y)
one_spelling e f x y fit fit' is =
    let read = sym (entry_again 0 e x fit) ∙ ap (entry_at 0) is ∙ entry_again 0 f y fit' in
    let pair = ok_is (e, x) (f, y) read in
    (ap (λ (p : Entry × List ℕ). p.0) pair, ap (λ (p : Entry × List ℕ). p.1) pair)

-- an entry that was read from the start, and how many bytes it took
pub record IsSized (input : List ℕ) (e : Entry) (rest : List ℕ) : Type 0 where
  pub fits : Fits e
  pub size : length input - length rest ≡ length (entry_text e)
  pub within : length rest ≤ length input
  pub back : drop (length input - length rest) input ≡ rest
  pub parts : input ≡ entry_text e ++ rest

pub sized : (input : List ℕ) (e : Entry) (rest : List ℕ) → IsBytes input → entry_at (length input) input ≡ Ok (e, rest) → IsSized input e rest
sized input e rest fits is =
    let t = entry_takes (length input) input e rest fits is in
    let len : length input ≡ length (entry_text e) + length rest = ap length t.0.parts ∙ length-append (entry_text e) rest in
    let size : length input - length rest ≡ length (entry_text e) = omega arith in
    record {
      fits = t.1;
      size = size;
      within = omega arith;
      back = ap (λ (n : ℕ). drop n input) size ∙ ap (λ (xs : List ℕ). drop (length (entry_text e)) xs) t.0.parts ∙ drop_at (entry_text e) rest (length (entry_text e)) refl;
      parts = t.0.parts;
    }

-- what is spelled at the start is what was read
pub only_entry : (input : List ℕ) (e f : Entry) (rest more : List ℕ) → entry_at (length input) input ≡ Ok (e, rest) → Fits f → input ≡ entry_text f ++ more
    → (e ≡ f) × (rest ≡ more)
only_entry input e f rest more is fit spelled =
    let pair = ok_is (e, rest) (f, more) (sym is ∙ ap (entry_at (length input)) spelled ∙ entry_again (length input) f more fit) in
    (ap (λ (p : Entry × List ℕ). p.0) pair, ap (λ (p : Entry × List ℕ). p.1) pair)

-- nothing is spelled at the start of what has a fault
pub no_entry : (input : List ℕ) (at : ℕ) (f : Entry) (more : List ℕ) → entry_at (length input) input ≡ Err at → Fits f → input ≡ entry_text f ++ more → ⊥
no_entry input at f more is fit spelled =
    err_is_not_ok at (f, more) (sym is ∙ ap (entry_at (length input)) spelled ∙ entry_again (length input) f more fit)
