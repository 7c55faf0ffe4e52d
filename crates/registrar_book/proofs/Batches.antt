-- Entries that are written in batches, one after another.
use Rattle.std.proofs.Common.{◌≡◌, ℕ, ◌≤◌, List, [], ◌++◌, length, refl, sym, ap, subst, ◌∙◌, append_assoc, append-nil, arith, length-append, inl}
use Rattle.edge_traits.specs.Disk.{Areas, LeavesOnly}
use Rattle.edge_traits.proofs.Moments.{LeavesOnly-map}
use Rattle.journal_text.specs.declared.entry.Entry.{Entry}
use Rattle.journal_store.specs.declared.journal.Journal.{Journal}
use Rattle.journal_store.specs.Store.{disk_of}
use Rattle.registrar_book.specs.Journals.{HasLog, HasPrefix, AreSmall}
use Rattle.registrar_book.proofs.Prefixes.{longer_prefix, settled_then, stayed}

module _ {D : Type 0} (may_leave : D → Areas → Type 0) (moment : D → ℕ) (left_since : D → ℕ → Areas → Type 0) where
  -- a prefix of the entries is written, and these are left
  pub record ArePut (told : Type 0) (old new : Journal D) (entries rest : List Entry) : Type 0 where
    pub prefix : List Entry
    pub parts : entries ≡ prefix ++ rest
    pub stands : told → (log : List Entry) → HasLog may_leave old log → HasLog may_leave new (log ++ prefix)
    pub any_moment : told → (log : List Entry) → HasLog may_leave old log
        → LeavesOnly moment left_since (disk_of old) (disk_of new) (HasPrefix (length log) (log ++ prefix))

  pub none_put : (told : Type 0) (old : Journal D) (entries : List Entry)
      → ((image : Areas) → left_since (disk_of old) (moment (disk_of old)) image → may_leave (disk_of old) image) → ArePut told old old entries entries
  none_put told old entries only_now = record {
    prefix = [];
    parts = refl;
    stands = λ t log stands. subst (λ (l : List Entry). HasLog may_leave old l) (sym (append-nil log)) stands;
    any_moment = λ t log stands. subst (λ (l : List Entry). LeavesOnly moment left_since (disk_of old) (disk_of old) (HasPrefix (length log) l)) (sym (append-nil log))
        (stayed may_leave moment left_since old log (length log) (inl (stands, refl)) only_now);
  }

  module _ (told : Type 0) (old mid new : Journal D) (entries rest batch after : List Entry) (so : ArePut told old mid entries rest) (cut : rest ≡ batch ++ after)
      (any : told → (log : List Entry) → HasLog may_leave mid log → LeavesOnly moment left_since (disk_of mid) (disk_of new) (HasPrefix (length log) (log ++ batch))) where
    cut_parts : entries ≡ (so.prefix ++ batch) ++ after
    cut_parts = so.parts ∙ ap (λ (l : List Entry). so.prefix ++ l) cut ∙ sym (append_assoc so.prefix batch after)

    more_moments : told → (log : List Entry) → HasLog may_leave old log
        → LeavesOnly moment left_since (disk_of old) (disk_of new) (HasPrefix (length log) (log ++ (so.prefix ++ batch)))
    more_moments t log stands =
        let same : log ++ (so.prefix ++ batch) ≡ (log ++ so.prefix) ++ batch = sym (append_assoc log so.prefix batch) in
        let second = any t (log ++ so.prefix) (so.stands t log stands) in
        settled_then may_leave moment left_since (disk_of old) (disk_of mid) (disk_of new) (length log) (length (log ++ so.prefix)) (log ++ so.prefix) batch (log ++ (so.prefix ++ batch)) same
        (omega (arith, length-append log so.prefix)) (so.any_moment t log stands)
        (subst (λ (l : List Entry). LeavesOnly moment left_since (disk_of mid) (disk_of new) (HasPrefix (length (log ++ so.prefix)) l)) (sym same) second)

    pub more_put : (told → (log : List Entry) → HasLog may_leave mid log → HasLog may_leave new (log ++ batch)) → ArePut told old new entries after
    more_put ok = record {
      prefix = so.prefix ++ batch;
      parts = cut_parts;
      stands = λ t log stands. subst (λ (l : List Entry). HasLog may_leave new l) (append_assoc log so.prefix batch) (ok t (log ++ so.prefix) (so.stands t log stands));
      any_moment = more_moments;
    }

    -- the batch may have arrived
    pub cut_put : told → (log : List Entry) → HasLog may_leave old log
        → LeavesOnly moment left_since (disk_of old) (disk_of new) (HasPrefix (length log) (log ++ entries))
    cut_put t log stands =
        let same : log ++ entries ≡ (log ++ (so.prefix ++ batch)) ++ after = ap (λ (l : List Entry). log ++ l) cut_parts ∙ sym (append_assoc log (so.prefix ++ batch) after) in
        LeavesOnly-map moment left_since (disk_of old) (disk_of new) (HasPrefix (length log) (log ++ (so.prefix ++ batch)))
        (HasPrefix (length log) (log ++ entries)) (more_moments t log stands)
        (λ image has. longer_prefix (length log) (log ++ (so.prefix ++ batch)) after (log ++ entries) image same has)

  pub all_put : (told : Type 0) (old new : Journal D) (entries rest : List Entry) → rest ≡ [] → (so : ArePut told old new entries rest) → so.prefix ≡ entries
  all_put told old new entries rest none so = sym (so.parts ∙ ap (λ (l : List Entry). so.prefix ++ l) none ∙ append-nil so.prefix)

-- what is left after a batch
pub small_after : (rest batch after : List Entry) → AreSmall rest → rest ≡ batch ++ after → AreSmall after
small_after rest batch after small cut prefix b back is =
    small (batch ++ prefix) b back (cut ∙ ap (λ (l : List Entry). batch ++ l) is ∙ sym (append_assoc batch prefix (b ++ back)))
