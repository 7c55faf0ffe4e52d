-- Each entry is judged after those before it.
use Rattle.std.proofs.Common.{◌≡◌, ◌+◌, ◌++◌, ◌∷◌, [], List, take, drop, ◌∙◌, sym, ap, subst, arith, take-append-drop}
use Rattle.std.proofs.lemmas.List.{take_more, drop_more, length-take-le}
use Rattle.journal_text.specs.declared.entry.Entry.{Entry}
use Rattle.join_history.specs.Limits.{context_limit, entry_limit}
use Rattle.join_history.specs.Contexts.{context_count}
use Rattle.registrar_state.specs.State.{StandsFor, spare_room}
use Rattle.registrar_state.proofs.StateLemmas.{IsLegal-stands}
use Rattle.registrar_book.proofs.Contexts.{not_true, room_more, most_room, has_room}
use Rattle.registrar_book.proofs.replay.replay.Goals as goal

pub returns-then-not-may_follow-clause-err : goal.returns-then-not-may_follow-clause-err
returns-then-not-may_follow-clause-err c settings rows now =
    let log = c.args.log.now in
    let i = c.loop-index.index in
    let e = c.index-log-index.result in
    let prefix = take i log in
    let rest : drop i log ≡ e ∷ drop (i + 1) log = drop_more log i e c.loop-index-test.true ∙ ap (λ (x : Entry). x ∷ drop (i + 1) log) (sym c.index-log-index.is) in
    record {
      before = prefix;
      entry = e;
      after = drop (i + 1) log;
      parts = sym (take-append-drop i log) ∙ ap (λ (l : List Entry). prefix ++ l) rest;
      legal = IsLegal-stands c.loop-index.state prefix c.loop-index.invariant.stands;
      refused = λ may. not_true c.may_follow.result c.if-not-may_follow.true ((c.may_follow.ensures prefix c.loop-index.invariant.stands).1 may);
      told = sym (length-take-le i log (omega (arith, c.loop-index-test.true)));
    }

pub apply-requires-clause-room : goal.apply-requires-clause-room
apply-requires-clause-room c =
    let at = c.loop-index.invariant in
    let i = c.loop-index.index in
    let short = at.short in
    let within = c.loop-index-test.true in
    let may = (c.may_follow.ensures (take i c.args.log.now) at.stands).0 c.if-not-may_follow.false in
    has_room (spare_room c.loop-index.state) c.index-log-index.result (take i c.args.log.now) may at.contexts (omega (arith, short, within))

pub loop-index-preserved : goal.loop-index-preserved
loop-index-preserved c =
    let log = c.args.log.now in
    let i = c.loop-index.index in
    let e = c.index-log-index.result in
    let more : take i log ++ e ∷ [] ≡ take (i + 1) log = sym (take_more log i e c.loop-index-test.true ∙ ap (λ (x : Entry). take i log ++ x ∷ []) (sym c.index-log-index.is)) in
    let room = room_more (spare_room c.loop-index.state) (spare_room c.apply.new.self) e (take i log) entry_limit i c.apply.ensures.room c.loop-index.invariant.contexts c.loop-index.invariant.room in
    record {
      stands = subst (λ (l : List Entry). StandsFor c.apply.new.self l) more (c.apply.ensures.stands (take i log) c.loop-index.invariant.stands);
      contexts = subst (λ (l : List Entry). (spare_room c.apply.new.self).contexts + context_count l ≡ context_limit) more room.0;
      room = room.1;
      short = omega (arith, most_room (spare_room c.loop-index.state) (spare_room c.apply.new.self) e c.apply.ensures.room, c.loop-index.invariant.short);
    }
