-- A document, stage by stage.
use Rattle.std.proofs.Common.{◌≡◌, ◌≤◌, ℕ, List, [], length, Some, None, Result, Ok, Err, inl, inr, refl, sym, ap, ◌∙◌, arith}
use Rattle.std.specs.Prelude.{◌⊎◌, IfOk, IfErr}
use Rattle.std.proofs.lemmas.Bool.Decides.{nat_tests}
use Rattle.toml.specs.Data.{Data, Items}
use Rattle.edge_traits.specs.declared.names.PledgeId.{PledgeId}
use Rattle.join_policy.specs.declared.fault.InventoryFault.{InventoryFault}
use Rattle.join_policy.specs.declared.fault.InventoryFault.TheVariants.{Field, TwiceId, NoMemory}
use Rattle.join_policy.specs.declared.field.FieldName.{FieldName}
use Rattle.join_policy.specs.declared.head.Head.{Head}
use Rattle.join_policy.specs.declared.row.Row.{Row}
use Rattle.join_policy.specs.Reading.{Gives, GivesInMemory, max_bytes, document_at, inventory_at, within_row, head_at, pledges_at, all_rows_at, policy_of, policy_at, ◌>>=◌}
use Rattle.join_policy.specs.Policy.{Policy}
use Rattle.join_policy.specs.Rows.{twice_after}
use Rattle.join_policy.specs.Sound.{IsSoundHead, IsSound}
use Rattle.join_policy.proofs.Distinct.{distinct}

module _ (d : Data) where
  pub stops_at_head : (e : InventoryFault) → within_row 0 (head_at d) ≡ Err e → policy_at d ≡ Err e
  unfolding policy_at
  stops_at_head e h = rw h refl

  pub stops_at_pledges : (head : Head) (e : InventoryFault) → within_row 0 (head_at d) ≡ Ok head → within_row 0 (pledges_at d) ≡ Err e → policy_at d ≡ Err e
  unfolding policy_at
  stops_at_pledges head e h p = rw (h, p) refl

  module _ (head : Head) (pledges : Items) (head_is : within_row 0 (head_at d) ≡ Ok head) (pledges_is : within_row 0 (pledges_at d) ≡ Ok pledges) where
    pub stops_at_rows : (e : InventoryFault) → all_rows_at pledges ≡ Err e → policy_at d ≡ Err e
    unfolding policy_at
    stops_at_rows e r = rw (head_is, pledges_is, r) refl

    pub stops_at_twice : (rows : List Row) (id : PledgeId) → all_rows_at pledges ≡ Ok rows → twice_after [] rows ≡ Some id → policy_at d ≡ Err (TwiceId id)
    unfolding policy_at
    stops_at_twice rows id r t = rw (head_is, pledges_is, r, t) refl

    pub whole : (rows : List Row) → all_rows_at pledges ≡ Ok rows → twice_after [] rows ≡ None → policy_at d ≡ Ok (policy_of head rows)
    unfolding policy_at
    whole rows r t = rw (head_is, pledges_is, r, t) refl

-- ---- from the bytes

pub within_limit : (bytes : List ℕ) → length bytes ≤ max_bytes → inventory_at bytes ≡ (document_at bytes >>= policy_at)
unfolding inventory_at
within_limit bytes le = grind (arith, nat_tests)

pub stops_at_document : (bytes : List ℕ) (e : InventoryFault) → length bytes ≤ max_bytes → (e ≡ NoMemory) ⊎ (document_at bytes ≡ Err e)
    → (e ≡ NoMemory) ⊎ (inventory_at bytes ≡ Err e)
stops_at_document bytes e le (inl memory) = inl memory
stops_at_document bytes e le (inr bad) = inr (within_limit bytes le ∙ rw bad refl)

pub goes_on : (bytes : List ℕ) (d : Data) → length bytes ≤ max_bytes → document_at bytes ≡ Ok d → inventory_at bytes ≡ policy_at d
goes_on bytes d le h = within_limit bytes le ∙ rw h refl

pub given_ok : (r read whole : Result Policy InventoryFault) → GivesInMemory (λ i. i) r read → whole ≡ read → IfOk r (λ policy. whole ≡ Ok policy)
given_ok (Ok policy) read whole h e = e ∙ h
given_ok (Err fault) read whole h e = tt

pub given_err : (r read whole : Result Policy InventoryFault) → GivesInMemory (λ i. i) r read → whole ≡ read → IfErr r (λ e. (e ≡ NoMemory) ⊎ (whole ≡ Err e))
given_err (Ok policy) read whole h e = tt
given_err (Err fault) read whole (inl memory) e = inl memory
given_err (Err fault) read whole (inr bad) e = inr (e ∙ bad)

-- ---- what calls on the document give

pub head_given : {X : Type 0} (r read : Result X FieldName) (x : X) → r ≡ read → Ok x ≡ within_row 0 r → within_row 0 read ≡ Ok x
head_given r read x h e = rw (← h) (sym e)

pub head_refused : {X : Type 0} (r read : Result X FieldName) (fault : InventoryFault) → r ≡ read → Err fault ≡ within_row 0 r → within_row 0 read ≡ Err fault
head_refused r read fault h e = rw (← h) (sym e)

pub seen_given : {X Y : Type 0} (view : X → Y) (r : Result X FieldName) (read : Result Y FieldName) (x : X) → Gives view r read → Ok x ≡ within_row 0 r
    → within_row 0 read ≡ Ok (view x)
seen_given view (Ok y) read x h e = let same : x ≡ y = cc e in rw (h, same) refl
seen_given view (Err name) read x h e = cc e

pub seen_refused : {X Y : Type 0} (view : X → Y) (r : Result X FieldName) (read : Result Y FieldName) (fault : InventoryFault) → Gives view r read
    → Err fault ≡ within_row 0 r → within_row 0 read ≡ Err fault
seen_refused view (Ok y) read fault h e = cc e
seen_refused view (Err name) read fault h e = let same : fault ≡ Field 0 name = cc e in rw (h, same) refl

pub ok_within : {X : Type 0} (r : Result X FieldName) (x : X) → Ok x ≡ within_row 0 r → r ≡ Ok x
ok_within (Ok y) x e = let same : y ≡ x = cc e in ap Ok same
ok_within (Err name) x e = cc e

pub all_sound : (head : Head) (rows seen : List Row) → IsSoundHead head.network.items head.keys head.settings → length rows ≤ 16384 → seen ≡ rows
    → twice_after [] seen ≡ None → IsSound (policy_of head rows)
all_sound head rows seen sound few same fresh = record { head = sound; few = few; distinct = distinct rows (rw same at fresh) }
