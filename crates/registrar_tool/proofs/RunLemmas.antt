-- Lemmas about lines that are done one after another.
use Rattle.std.proofs.Common.{◌≡◌, ℕ, ◌≤◌, List, [], ◌∷◌, ◌++◌, Option, Result, Ok, Err, length, refl, sym, ◌∙◌, ap, subst, append_assoc, append-nil, arith, length-append}
use Rattle.std.specs.Prelude.{IsTrue, OnOk}
use Rattle.edge_traits.specs.Sink.{Appends}
use Rattle.edge_traits.specs.Disk.{Areas}
use Rattle.edge_traits.specs.declared.disk.Disk.{Ghosts}
use Rattle.edge_traits.proofs.Moments.{started}
use Rattle.journal_text.specs.declared.entry.Entry.{Entry}
use Rattle.join_history.specs.Legal.{IsLegal}
use Rattle.registrar_book.specs.Journals.{HasPrefix}
use Rattle.registrar_book.proofs.Prefixes.{settled_then}
use Rattle.tool_text.specs.declared.line.Line.{Line}
use Rattle.tool_text.specs.declared.line.Line.TheVariants.{Skipped, Ask}
use Rattle.tool_text.specs.declared.outcome.Outcome.{Outcome}
use Rattle.tool_text.specs.declared.outcome.Outcome.TheVariants as outcome
use Rattle.tool_text.specs.Outcome.{outcome_text}
use Rattle.edge_traits.proofs.Appends.{Appends-nothing, Appends-append}
use Rattle.registrar_tool.specs.Told.{Standing, IsSafe, HasDurability, IsAnswered, IsTold, IsToldLine, AreMoments}
use Rattle.registrar_tool.specs.Run.{text_of, AreDone, AreCutShort}
use Rattle.registrar_tool.specs.Lines.{IsLineDone, IsLineCut}

-- what follows from a fact about an `Ok`
pub OnOk-map : {T E : Type 0} (r : Result T E) (P Q : Type 0) → (P → Q) → OnOk r P → OnOk r Q
OnOk-map (Ok x) P Q f p = f p
OnOk-map (Err e) P Q f p = tt

-- the text of outcomes and more outcomes
pub text_of-append : (xs ys : List Outcome) → text_of (xs ++ ys) ≡ text_of xs ++ text_of ys
text_of-append [] ys = refl
text_of-append (x ∷ xs) ys =
    ap (λ (z : List ℕ). outcome_text x ++ z) (text_of-append xs ys) ∙ sym (append_assoc (outcome_text x) (text_of xs) (text_of ys))

module _ {D : Type 0} (ghosts : Ghosts D) where
  -- one more line was done
  pub IsTold-push : (start : Standing D) (lines : List Line) (outcomes : List Outcome) (between : Standing D) (line : Line)
      (more : List Outcome) (new : Standing D) → IsTold ghosts start lines outcomes between → IsToldLine ghosts between line more new
      → IsTold ghosts start (lines ++ line ∷ []) (outcomes ++ more) new
  IsTold-push start [] outcomes between line more new told next = (
    new,
    more,
    [],
    subst (λ (x : Standing D). IsToldLine ghosts x line more new) told.1 next,
    (refl, refl),
    ap (λ (x : List Outcome). x ++ more) told.0 ∙ sym (append-nil more),
  )
  IsTold-push start (first ∷ lines) outcomes between line more new told next = (
    told.0,
    told.1,
    told.2 ++ more,
    told.3,
    IsTold-push told.0 lines told.2 between line more new told.4 next,
    ap (λ (x : List Outcome). x ++ more) told.5 ∙ append_assoc told.1 told.2 more,
  )

  -- some lines were done, and the rest can be done
  pub record AreDoneBefore (start : Standing D) (lines rest : List Line) (written now : Option (List ℕ)) (between : Standing D) : Type 0 where
    pub before : List Line
    pub outcomes : List Outcome
    pub lines_are : lines ≡ before ++ rest
    pub told : IsTold ghosts start before outcomes between
    pub appended : Appends written now (text_of outcomes)

  -- none was done yet
  pub AreDoneBefore-none : (start : Standing D) (lines : List Line) (written : Option (List ℕ)) → AreDoneBefore start lines lines written written start
  AreDoneBefore-none start lines written = record {
    before = [];
    outcomes = [];
    lines_are = refl;
    told = (refl, refl);
    appended = Appends-nothing written;
  }

  module _ (start : Standing D) (lines : List Line) (line : Line) (rest : List Line) (written before now : Option (List ℕ))
      (between new : Standing D) (so_far : AreDoneBefore start lines (line ∷ rest) written before between) where
    -- one more was done
    pub AreDoneBefore-more : IsLineDone ghosts between line before now new → AreDoneBefore start lines rest written now new
    AreDoneBefore-more done = record {
      before = so_far.before ++ line ∷ [];
      outcomes = so_far.outcomes ++ done.outcomes;
      lines_are = so_far.lines_are ∙ sym (append_assoc so_far.before (line ∷ []) rest);
      told = IsTold-push start so_far.before so_far.outcomes between line done.outcomes new so_far.told done.told;
      appended =
          subst (Appends written now) (sym (text_of-append so_far.outcomes done.outcomes))
          (Appends-append written before now (text_of so_far.outcomes) (text_of done.outcomes) so_far.appended done.appended);
    }

    -- the next one was cut short
    pub AreCutShort-next : IsLineCut ghosts between line before now new → AreMoments ghosts start new → AreCutShort ghosts start lines written now new.disk
    AreCutShort-next cut moments = record {
      before = so_far.before;
      line = line;
      after = rest;
      outcomes = so_far.outcomes;
      between = between;
      outcome = cut.outcome;
      last = new;
      prefix = cut.appended.prefix;
      missing = cut.appended.rest;
      lines_are = so_far.lines_are;
      told = so_far.told;
      told_last = cut.told;
      moments = moments;
      disk = refl;
      text = cut.appended.parts;
      some_missing = cut.appended.missing;
      appended =
          Appends-append written before now (text_of so_far.outcomes) cut.appended.prefix so_far.appended cut.appended.appended;
    }

  -- all were done
  pub AreDone-all : (start : Standing D) (lines rest : List Line) (written now : Option (List ℕ)) (last : Standing D)
      → rest ≡ [] → AreDoneBefore start lines rest written now last → AreMoments ghosts start last → AreDone ghosts start lines written now last.disk
  AreDone-all start lines rest written now last end so_far moments = record {
    outcomes = so_far.outcomes;
    last = last;
    told =
        let all : lines ≡ so_far.before = so_far.lines_are ∙ ap (λ (x : List Line). so_far.before ++ x) end ∙ append-nil so_far.before in
        subst (λ (x : List Line). IsTold ghosts start x so_far.outcomes last) (sym all) so_far.told;
    moments = moments;
    disk = refl;
    appended = so_far.appended;
  }

  -- ---- moments

  pub AreMoments-none : (start : Standing D) → IsLegal start.history → start.durable ≡ length start.history → IsSafe ghosts start
      → ((image : Areas) → ghosts.left_since start.disk (ghosts.moment start.disk) image → ghosts.may_leave start.disk image) → AreMoments ghosts start start
  AreMoments-none start legal durable safe only_now = record {
    more = [];
    history = sym (append-nil start.history);
    legal = legal;
    least = omega arith;
    most = omega (arith, durable);
    any_moment = λ told. started ghosts.moment ghosts.left_since start.disk (HasPrefix start.durable start.history)
        (λ image left. safe told image (only_now image left));
    tells = refl;
  }

  settled_most : (old new : Standing D) (o : Outcome) (more : List Entry) → new.history ≡ old.history ++ more → old.durable ≤ length old.history → HasDurability ghosts old o more new → new.durable ≤ length new.history
  settled_most old new (outcome.Unsure faults) [] is most settled = omega (arith, settled.3, most, ap length is, length-append old.history [])
  settled_most old new (outcome.Unsure faults) (e ∷ more) is most settled = omega (arith, settled.2, ap length is, length-append old.history (e ∷ more))
  settled_most old new (outcome.Grant address until) more is most settled = omega (arith, settled)
  settled_most old new (outcome.Refuse code) more is most settled = omega (arith, settled)
  settled_most old new (outcome.AgainGrant address until) more is most settled = omega (arith, settled)
  settled_most old new (outcome.AgainRefuse code) more is most settled = omega (arith, settled)
  settled_most old new (outcome.Quiet why) more is most settled = omega (arith, settled)
  settled_most old new (outcome.Full entries) more is most settled = omega (arith, settled)

  settled_least : (old new : Standing D) (o : Outcome) (more : List Entry) → new.history ≡ old.history ++ more → old.durable ≤ length old.history → HasDurability ghosts old o more new → old.durable ≤ new.durable
  settled_least old new (outcome.Unsure faults) [] is most settled = omega (arith, settled.3)
  settled_least old new (outcome.Unsure faults) (e ∷ more) is most settled = omega (arith, settled.2, most)
  settled_least old new (outcome.Grant address until) more is most settled = omega (arith, settled, most, ap length is, length-append old.history more)
  settled_least old new (outcome.Refuse code) more is most settled = omega (arith, settled, most, ap length is, length-append old.history more)
  settled_least old new (outcome.AgainGrant address until) more is most settled = omega (arith, settled, most, ap length is, length-append old.history more)
  settled_least old new (outcome.AgainRefuse code) more is most settled = omega (arith, settled, most, ap length is, length-append old.history more)
  settled_least old new (outcome.Quiet why) more is most settled = omega (arith, settled, most, ap length is, length-append old.history more)
  settled_least old new (outcome.Full entries) more is most settled = omega (arith, settled, most, ap length is, length-append old.history more)

  module _ (start between new : Standing D) (so_far : AreMoments ghosts start between) where
    answered_moments : (time c n : ℕ) (o : Outcome) → IsAnswered ghosts between time c n o new → AreMoments ghosts start new
    answered_moments time c n o is = record {
      more = so_far.more ++ is.more;
      history = is.history ∙ ap (λ (h : List Entry). h ++ is.more) so_far.history ∙ append_assoc start.history so_far.more is.more;
      legal = is.legal;
      least = omega (arith, so_far.least, settled_least between new o is.more is.history so_far.most is.settled);
      most = settled_most between new o is.more is.history so_far.most is.settled;
      any_moment = λ told.
          settled_then ghosts.may_leave ghosts.moment ghosts.left_since start.disk between.disk new.disk start.durable between.durable between.history is.more new.history is.history so_far.least
          (so_far.any_moment told) (is.any_moment (subst IsTrue (sym so_far.tells) told));
      tells = is.tells ∙ so_far.tells;
    }

    pub AreMoments-more : (line : Line) (outcomes : List Outcome) → IsToldLine ghosts between line outcomes new → AreMoments ghosts start new
    AreMoments-more Skipped outcomes told = subst (AreMoments ghosts start) (sym told.1) so_far
    AreMoments-more (Ask time id number) outcomes told = answered_moments time told.0 number told.1 told.3
