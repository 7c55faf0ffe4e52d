-- Lemmas about a run from its opening on.
use Rattle.std.proofs.Common.{◌≡◌, ◌⊎◌, ℕ, ◌≤◌, List, [], ◌∷◌, ◌++◌, Option, Some, None, length, map, refl, sym, ◌∙◌, ap, subst, append_assoc, append-nil, arith, length-append, inl, inr}
use Rattle.std.specs.Prelude.{IsTrue}
use Rattle.std.specs.List.{AllZip}
use Rattle.edge_traits.specs.declared.names.PledgeId.{PledgeId}
use Rattle.edge_traits.specs.declared.disk.Disk.{Ghosts}
use Rattle.edge_traits.specs.Disk.{Areas, LeavesOnly}
use Rattle.edge_traits.proofs.Moments.{joined, LeavesOnly-map}
use Rattle.journal_text.specs.declared.settings.Settings.{Settings}
use Rattle.journal_text.specs.declared.entry.Entry.{Entry}
use Rattle.journal_text.specs.declared.entry.Entry.TheVariants.{Settings as SettingsEntry, Enroll}
use Rattle.join_history.specs.Contexts.{context_count}
use Rattle.join_history.specs.Leases.{current_settings}
use Rattle.join_history.specs.Opening.{EnrollsRows, IsOpened}
use Rattle.join_history.proofs.SettingsLemmas.{current_settings-push}
use Rattle.registrar_state.proofs.StateLemmas.{IsLegal-stands}
use Rattle.registrar_book.specs.declared.book.Book.{Book}
use Rattle.registrar_book.specs.Journals.{HasPrefix}
use Rattle.registrar_book.specs.Opening.{Row, HasContext, opening_time}
use Rattle.registrar_book.specs.Books.{log_of, state_of, durable_of, book_disk, IsKept, IsOpenOn}
use Rattle.registrar_book.proofs.Prefixes.{held_prefix, longer_prefix}
use Rattle.tool_text.specs.declared.line.Line.{Line}
use Rattle.registrar_tool.specs.Script.{ListsOnce, IsScript, IsWrongAt, AreGoodLines}
use Rattle.registrar_tool.specs.Told.{Standing, decide_row, AreMoments}
use Rattle.registrar_tool.specs.Opened.{HasIdContext, IsReady, standing_of}
use Rattle.registrar_tool.specs.Run.{IsStart, LeavesPrefixes, IsWhole, IsWrongFrom, IsCut, AreDone, AreCutShort, script_limit}

-- ---- opened histories

enrolls_grow : (g : List Entry) (rows : List Row) (h : List Entry) → EnrollsRows g rows h → (more : List Entry) × (h ≡ g ++ more)
enrolls_grow g [] h is = ([], is ∙ sym (append-nil g))
enrolls_grow g ((id, check) ∷ rows) h (inl found) = enrolls_grow g rows h found.2
enrolls_grow g ((id, check) ∷ rows) h (inr new) =
    let more = enrolls_grow (g ++ Enroll (context_count g) id check ∷ []) rows h new.1 in
    (Enroll (context_count g) id check ∷ more.0, more.1 ∙ append_assoc g (Enroll (context_count g) id check ∷ []) more.0)

opened_grows : (g : List Entry) (time : ℕ) (settings : Settings) (rows : List Row) (h : List Entry) → IsOpened g time settings rows h → (more : List Entry) × (h ≡ g ++ more)
opened_grows g time settings rows h (between, inl same, rows_are) =
    let more = enrolls_grow between rows h rows_are in
    (more.0, more.1 ∙ ap (λ (x : List Entry). x ++ more.0) same.1)
opened_grows g time settings rows h (between, inr new, rows_are) =
    let more = enrolls_grow between rows h rows_are in
    (SettingsEntry time settings ∷ more.0, more.1 ∙ ap (λ (x : List Entry). x ++ more.0) new.1 ∙ append_assoc g (SettingsEntry time settings ∷ []) more.0)

enrolls_settings : (g : List Entry) (rows : List Row) (h : List Entry) → EnrollsRows g rows h → current_settings h ≡ current_settings g
enrolls_settings g [] h is = ap current_settings is
enrolls_settings g ((id, check) ∷ rows) h (inl found) = enrolls_settings g rows h found.2
enrolls_settings g ((id, check) ∷ rows) h (inr new) =
    enrolls_settings (g ++ Enroll (context_count g) id check ∷ []) rows h new.1 ∙ current_settings-push g (Enroll (context_count g) id check)

opened_settings : (g : List Entry) (time : ℕ) (settings : Settings) (rows : List Row) (h : List Entry) → IsOpened g time settings rows h → current_settings h ≡ Some settings
opened_settings g time settings rows h (between, inl same, rows_are) = enrolls_settings between rows h rows_are ∙ ap current_settings same.1 ∙ same.0
opened_settings g time settings rows h (between, inr new, rows_are) = enrolls_settings between rows h rows_are ∙ ap current_settings new.1 ∙ current_settings-push g (SettingsEntry time settings)

id_contexts : (h : List Entry) (ids : List PledgeId) (contexts : List ℕ) → AllZip (HasContext h) (map decide_row ids) contexts → AllZip (HasIdContext h) ids contexts
id_contexts h [] [] all = tt
id_contexts h [] (c ∷ contexts) all = absurd all
id_contexts h (id ∷ ids) [] all = absurd all
id_contexts h (id ∷ ids) (c ∷ contexts) all = (all.0, id_contexts h ids contexts all.1)

-- ---- a book that was opened

module _ {D : Type 0} {ghosts : Ghosts D} (disk : D) (settings : Settings) (ids : List PledgeId) (book : Book D ghosts) (contexts : List ℕ)
    (opened : IsOpenOn disk settings (map decide_row ids) None book contexts) (kept : IsTrue (ghosts.tells disk) → IsKept ghosts.may_leave book)
    (tells : ghosts.tells (book_disk book) ≡ ghosts.tells disk) (counted : ghosts.fault_count disk ≤ ghosts.fault_count (book_disk book)) where
  starts : (lines : List Line) → ListsOnce [] lines ids → IsStart ghosts disk settings lines (standing_of book)
  unfolding IsKept
  starts lines listed = record {
    log = opened.log;
    log_is = opened.log_is;
    ids = ids;
    listed = listed;
    opened = opened.is_open.opened;
    legal = IsLegal-stands (state_of book) (log_of book) opened.is_open.stands;
    most = opened.is_open.most;
    durable = opened.is_open.durable;
    counted = counted;
    safe = λ told image left. held_prefix ghosts.may_leave book.press.journal (log_of book) (durable_of book) (kept (subst IsTrue tells told)) image left;
    tells = tells;
  }

  pub is_ready : IsReady book ids contexts
  is_ready = record {
    stands = opened.is_open.stands;
    enrolled = id_contexts (log_of book) ids contexts opened.is_open.each;
    settings = settings;
    current = opened_settings opened.log (opening_time opened.log None) settings (map decide_row ids) (log_of book) opened.is_open.opened;
    kept = λ told. kept (subst IsTrue tells told);
  }

  -- what a crash leaves of a whole run
  run_prefixes : (last : Standing D) (end : D) → last.disk ≡ end → AreMoments ghosts (standing_of book) last
      → LeavesPrefixes ghosts disk opened.log last.history end
  run_prefixes last end is moments told =
      let first = opened.any_moment told in
      let log = opened.log in
      let log_is = opened.log_is told in
      let grown = opened_grows log (opening_time log None) settings (map decide_row ids) (log_of book) opened.is_open.opened in
      let second = subst (λ (d : D). LeavesOnly ghosts.moment ghosts.left_since (book_disk book) d (HasPrefix (durable_of book) last.history)) is
      (moments.any_moment (subst IsTrue (sym tells) told)) in
      let P : Areas → Type 0 = λ image. ghosts.may_leave disk image ⊎ HasPrefix (length log) last.history image in
      joined ghosts.moment ghosts.left_since disk (book_disk book) end P (HasPrefix (durable_of book) last.history)
      (LeavesOnly-map ghosts.moment ghosts.left_since disk (book_disk book)
      (λ image. ghosts.may_leave disk image ⊎ HasPrefix (length log) (log_of book) image) P first
      (λ image was. elim was [
        | inl left ↦ inl left
        | inr has ↦ inr (longer_prefix (length log) (log_of book) moments.more last.history image moments.history has)
      ])) second
      (λ image has. inr (record {
        count = has.count;
        least = omega (arith, has.least, opened.is_open.durable, ap length grown.1, length-append log grown.0);
        most = has.most;
        has = has.has;
      }))

  module _ (bytes : List ℕ) (lines : List Line) (listed : ListsOnce [] lines ids) (written now : Option (List ℕ)) (end : D) where
    pub is_whole : IsScript script_limit bytes lines → AreDone ghosts (standing_of book) lines written now end → IsWhole ghosts settings bytes disk end written now
    unfolding starts
    is_whole script done = record {
      lines = lines;
      start = standing_of book;
      script = script;
      starts = starts lines listed;
      done = done;
      moments = run_prefixes done.last end done.disk done.moments;
    }

    pub is_wrong_from : (k : ℕ) → IsWrongAt script_limit bytes lines k → AreDone ghosts (standing_of book) lines written now end → IsWrongFrom ghosts settings bytes disk end written now k
    unfolding starts
    is_wrong_from k wrong done = record {
      lines = lines;
      start = standing_of book;
      wrong = wrong;
      starts = starts lines listed;
      done = done;
      moments = run_prefixes done.last end done.disk done.moments;
    }

    pub is_cut : AreGoodLines script_limit bytes lines → AreCutShort ghosts (standing_of book) lines written now end → IsCut ghosts settings bytes disk end written now
    unfolding starts
    is_cut good cut = record {
      lines = lines;
      start = standing_of book;
      good = good;
      starts = starts lines listed;
      cut = cut;
      moments = run_prefixes cut.last end cut.disk cut.moments;
    }
