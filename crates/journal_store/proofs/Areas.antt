-- Areas and their logs: one batch more, and what a write that was cut short leaves.
use Rattle.std.proofs.Common.{◌≡◌, ◌≢◌, ◌⊎◌, ℕ, ◌+◌, ◌≤◌, List, [], ◌∷◌, ◌++◌, length, get_or, take, drop, refl, sym, ap, subst, ◌∙◌, append_assoc, append-nil, arith, inl, inr, length-append, take-append-drop}
use Rattle.std.proofs.lemmas.List.{take_at, drop_at, drop_more}
use Rattle.std.proofs.lemmas.Bool.{cases_eq}
use Rattle.std.proofs.lemmas.List.Concat.{flat_map-append}
use Rattle.std.proofs.Math.Seq.{get_or-append_seam}
use Rattle.std.specs.List.{flat_map, AllByRecursion}
use Rattle.edge_traits.specs.Disk.{Overwrites, Torn}
use Rattle.journal_text.specs.declared.entry.Entry.{Entry}
use Rattle.journal_store.specs.Area.{IsBatch, body_text, tail_text, batch_text, prefix_text, IsRead, IsLog, MayHave, end_with}

abbrev Batches : Type 0
Batches = List (List Entry)

pub All-push : {X : Type 0} (P : X → Type 0) (xs : List X) (x : X) → AllByRecursion P xs → P x → AllByRecursion P (xs ++ x ∷ [])
All-push P [] x all p = (p, tt)
All-push P (y ∷ ys) x all p = (all.0, All-push P ys x all.1 p)

module _ (header : List ℕ) where
  -- ---- one batch more

  front_text-push : (batches : Batches) (entries : List Entry) → prefix_text header (batches ++ entries ∷ []) ≡ prefix_text header batches ++ batch_text entries
  unfolding prefix_text
  front_text-push batches entries =
      ap (λ (xs : List ℕ). header ++ xs) (flat_map-append batch_text batches (entries ∷ []) ∙ ap (λ (xs : List ℕ). flat_map batch_text batches ++ xs) (append-nil (batch_text entries)))
      ∙ sym (append_assoc header (flat_map batch_text batches) (batch_text entries))

  log-push : (batches : Batches) (entries : List Entry) → flat_map (λ x. x) batches ++ entries ≡ flat_map (λ x. x) (batches ++ entries ∷ [])
  log-push batches entries =
      sym (flat_map-append (λ (x : List Entry). x) batches (entries ∷ []) ∙ ap (λ (xs : List Entry). flat_map (λ x. x) batches ++ xs) (append-nil entries))

  pub batch_more : (end : ℕ) (log : List Entry) (area : List ℕ) (entries : List Entry) (behind : List ℕ) → IsRead header end log area (1 ∷ (body_text entries ++ behind)) → IsBatch entries
      → IsRead header (end + 1 + length (body_text entries)) (log ++ entries) area behind
  batch_more end log area entries behind read batch =
      let prefix = front_text-push read.batches entries in
      record {
        batches = read.batches ++ entries ∷ [];
        whole = All-push IsBatch read.batches entries read.whole batch;
        holds = ap (λ (xs : List Entry). xs ++ entries) read.holds ∙ log-push read.batches entries;
        text = read.text ∙ sym (append_assoc (prefix_text header read.batches) (batch_text entries) behind) ∙ ap (λ (xs : List ℕ). xs ++ behind) (sym prefix);
        ends = omega (arith, read.ends, ap length prefix, length-append (prefix_text header read.batches) (batch_text entries));
      }

  -- the batch after a gate that was opened is in the log
  pub opened : (end : ℕ) (log entries : List Entry) (area more : List ℕ) → IsRead header end log area (1 ∷ (tail_text entries ++ more)) → IsBatch entries
      → IsLog header (end_with end entries) (log ++ entries) area
  opened end log entries area more read batch =
      let again : IsRead header end log area (1 ∷ (body_text entries ++ 0 ∷ more)) = subst (λ (xs : List ℕ). IsRead header end log area (1 ∷ xs)) (append_assoc (body_text entries) (0 ∷ []) more) read in
      let next = batch_more end log area entries (0 ∷ more) again batch in
      let ends : end + 1 + length (body_text entries) ≡ end_with end entries = omega (arith, length-append (body_text entries) (0 ∷ [])) in
      record { gate = 0; behind = more; read = subst (λ (n : ℕ). IsRead header n (log ++ entries) area (0 ∷ more)) ends next; closed = omega arith }

  -- ---- the gate

  pub gate_is : (end : ℕ) (log : List Entry) (area : List ℕ) (gate : ℕ) (behind : List ℕ) → IsRead header end log area (gate ∷ behind) → get_or area end 0 ≡ gate
  gate_is end log area gate behind read =
      ap (λ (xs : List ℕ). get_or xs end 0) read.text ∙ ap (λ (n : ℕ). get_or (prefix_text header read.batches ++ gate ∷ behind) n 0) read.ends ∙ get_or-append_seam (prefix_text header read.batches) gate behind 0

  pub gate_inside : (end : ℕ) (log : List Entry) (area : List ℕ) (gate : ℕ) (behind : List ℕ) → IsRead header end log area (gate ∷ behind) → end + 1 ≤ length area
  gate_inside end log area gate behind read = omega (arith, read.ends, ap length read.text, length-append (prefix_text header read.batches) (gate ∷ behind))

  pub by_open_gate : (end : ℕ) (log entries : List Entry) (area : List ℕ) → MayHave header end log entries area → IsBatch entries → get_or area end 0 ≡ 1 → IsLog header (end_with end entries) (log ++ entries) area
  by_open_gate end log entries area may batch is =
      let gate : may.gate ≡ 1 = sym (gate_is end log area may.gate may.behind may.read) ∙ is in
      let more = may.before gate in
      let read = subst (λ (xs : List ℕ). IsRead header end log area xs) (ap (λ (g : ℕ). g ∷ may.behind) gate ∙ ap (λ (xs : List ℕ). 1 ∷ xs) more.1) may.read in
      opened end log entries area more.0 read batch

  pub by_closed_gate : (end : ℕ) (log entries : List Entry) (area : List ℕ) → MayHave header end log entries area → get_or area end 0 ≢ 1 → IsLog header end log area
  by_closed_gate end log entries area may shut =
      record { gate = may.gate; behind = may.behind; read = may.read; closed = λ is. shut (gate_is end log area may.gate may.behind may.read ∙ is) }

  -- without the batch, or with it
  pub either : (end : ℕ) (log entries : List Entry) (area : List ℕ) → MayHave header end log entries area → IsBatch entries → IsLog header end log area ⊎ IsLog header (end_with end entries) (log ++ entries) area
  either end log entries area may batch =
      elim (cases_eq (get_or area end 0) 1) [
        | inl is ↦ inr (by_open_gate end log entries area may batch is)
        | inr shut ↦ inl (by_closed_gate end log entries area may shut)
      ]

  pub may_have : (end : ℕ) (log entries : List Entry) (area : List ℕ) → IsLog header end log area → MayHave header end log entries area
  may_have end log entries area is = record { gate = is.gate; behind = is.behind; read = is.read; before = λ open_gate. absurd (is.closed open_gate) }

  -- ---- a write after the closed gate

  -- the area up to and with the gate
  to_gate : (end : ℕ) (log : List Entry) (area : List ℕ) (gate : ℕ) (behind : List ℕ) (read : IsRead header end log area (gate ∷ behind)) → take (end + 1) area ≡ prefix_text header read.batches ++ gate ∷ []
  to_gate end log area gate behind read =
      ap (λ (xs : List ℕ). take (end + 1) xs) (read.text ∙ sym (append_assoc (prefix_text header read.batches) (gate ∷ []) behind))
      ∙ take_at (prefix_text header read.batches ++ gate ∷ []) behind (end + 1) (omega (arith, read.ends, length-append (prefix_text header read.batches) (gate ∷ [])))

  past_gate : (end : ℕ) (log : List Entry) (area : List ℕ) (gate : ℕ) (behind : List ℕ) (read : IsRead header end log area (gate ∷ behind)) → drop (end + 1) area ≡ behind
  past_gate end log area gate behind read =
      ap (λ (xs : List ℕ). drop (end + 1) xs) (read.text ∙ sym (append_assoc (prefix_text header read.batches) (gate ∷ []) behind))
      ∙ drop_at (prefix_text header read.batches ++ gate ∷ []) behind (end + 1) (omega (arith, read.ends, length-append (prefix_text header read.batches) (gate ∷ [])))

  up_to : (end : ℕ) (log : List Entry) (area : List ℕ) (gate : ℕ) (behind : List ℕ) (read : IsRead header end log area (gate ∷ behind)) → take end area ≡ prefix_text header read.batches
  up_to end log area gate behind read =
      ap (λ (xs : List ℕ). take end xs) read.text ∙ take_at (prefix_text header read.batches) (gate ∷ behind) end (sym read.ends)

  -- the same prefix, and other bytes after it
  with_behind : (end : ℕ) (log : List Entry) (area new behind more : List ℕ) (read : IsRead header end log area behind) → new ≡ prefix_text header read.batches ++ more → IsRead header end log new more
  with_behind end log area new behind more read text =
      record { batches = read.batches; whole = read.whole; holds = read.holds; text = text; ends = read.ends }

  pub behind_torn : (end n : ℕ) (log : List Entry) (old new : List ℕ) → IsLog header end log old → Torn (end + 1) n old new → IsLog header end log new
  behind_torn end n log old new is torn =
      let prefix : take (end + 1) new ≡ prefix_text header is.read.batches ++ is.gate ∷ [] = torn.before ∙ to_gate end log old is.gate is.behind is.read in
      let text : new ≡ prefix_text header is.read.batches ++ is.gate ∷ drop (end + 1) new
      = sym (take-append-drop (end + 1) new) ∙ ap (λ (xs : List ℕ). xs ++ drop (end + 1) new) prefix ∙ append_assoc (prefix_text header is.read.batches) (is.gate ∷ []) (drop (end + 1) new) in
      record { gate = is.gate; behind = drop (end + 1) new; read = with_behind end log old new (is.gate ∷ is.behind) (is.gate ∷ drop (end + 1) new) is.read text; closed = is.closed }

  -- the closed gate, and the batch after it
  pub record IsStaged (end : ℕ) (log : List Entry) (tail area : List ℕ) : Type 0 where
    pub gate : ℕ
    pub more : List ℕ
    pub read : IsRead header end log area (gate ∷ (tail ++ more))
    pub closed : gate ≢ 1

  pub behind_written : (end : ℕ) (log : List Entry) (tail old new : List ℕ) → IsLog header end log old → Overwrites (end + 1) tail old new → IsStaged end log tail new
  behind_written end log tail old new is over =
      let F = prefix_text header is.read.batches in
      let more = drop (end + 1 + length tail) old in
      let text : new ≡ F ++ is.gate ∷ (tail ++ more)
      = over ∙ append_assoc (take (end + 1) old) tail more ∙ ap (λ (xs : List ℕ). xs ++ (tail ++ more)) (to_gate end log old is.gate is.behind is.read) ∙ append_assoc F (is.gate ∷ []) (tail ++ more) in
      record { gate = is.gate; more = more; read = with_behind end log old new (is.gate ∷ is.behind) (is.gate ∷ (tail ++ more)) is.read text; closed = is.closed }

  -- ---- a write of the gate

  pub gate_torn : (end : ℕ) (log entries : List Entry) (old new : List ℕ) → IsStaged end log (tail_text entries) old → Torn end 1 old new → MayHave header end log entries new
  gate_torn end log entries old new is torn =
      let F = prefix_text header is.read.batches in
      let back = tail_text entries ++ is.more in
      let inside = gate_inside end log old is.gate back is.read in
      let rest : drop end new ≡ get_or new end 0 ∷ back
      = drop_more new end 0 (omega (arith, torn.no_shorter, inside)) ∙ ap (λ (xs : List ℕ). get_or new end 0 ∷ xs) (torn.after ∙ past_gate end log old is.gate back is.read) in
      let text : new ≡ F ++ get_or new end 0 ∷ back
      = sym (take-append-drop end new) ∙ ap (λ (xs : List ℕ). xs ++ drop end new) (torn.before ∙ up_to end log old is.gate back is.read) ∙ ap (λ (xs : List ℕ). F ++ xs) rest in
      record { gate = get_or new end 0; behind = back; read = with_behind end log old new (is.gate ∷ back) (get_or new end 0 ∷ back) is.read text; before = λ _. (is.more, refl) }

  pub gate_written : (end : ℕ) (log entries : List Entry) (old new : List ℕ) → IsStaged end log (tail_text entries) old → Overwrites end (1 ∷ []) old new → IsBatch entries
      → IsLog header (end_with end entries) (log ++ entries) new
  gate_written end log entries old new is over batch =
      let F = prefix_text header is.read.batches in
      let back = tail_text entries ++ is.more in
      let text : new ≡ F ++ 1 ∷ back
      = over ∙ append_assoc (take end old) (1 ∷ []) (drop (end + 1) old) ∙ ap (λ (xs : List ℕ). xs ++ 1 ∷ drop (end + 1) old) (up_to end log old is.gate back is.read)
      ∙ ap (λ (xs : List ℕ). F ++ 1 ∷ xs) (past_gate end log old is.gate back is.read) in
      opened end log entries new is.more (with_behind end log old new (is.gate ∷ back) (1 ∷ back) is.read text) batch
