-- Each answer of the book is the outcome of the request.
use Rattle.std.proofs.Common.{sym, subst}
use Rattle.std.proofs.lemmas.Bool.{some_since}
use Rattle.std.proofs.lemmas.Slice.Zip.{AllZip-long}
use Rattle.registrar_state.specs.State.{StandsFor}
use Rattle.registrar_state.proofs.StateLemmas.{IsLegal-stands}
use Rattle.registrar_book.specs.Books.{log_of, state_of}
use Rattle.registrar_book.specs.declared.answers.Decided.TheVariants as decided
use Rattle.tool_text.specs.declared.outcome.Outcome.{Outcome}
use Rattle.tool_text.specs.declared.outcome.Outcome.TheVariants as outcome
use Rattle.registrar_tool.specs.Told.{IsAnswered, decide_check, granted_of, again_of}
use Rattle.registrar_tool.specs.Opened.{HasIdContext, standing_of}
use Rattle.registrar_tool.proofs.ContextLemmas.{enrolled_pledge}
use Rattle.registrar_tool.proofs.AnswerLemmas.{answered, ready_next, made_told, again_told, quiet_told, full_told, unsure_told, unsure_settled, made_last, again_last}
use Rattle.registrar_tool.proofs.decide.decide_ask.Goals as goal

pub context_of-requires : goal.context_of-requires
context_of-requires g c = sym (AllZip-long (HasIdContext (log_of c.args.book.now)) c.args.ids.now c.args.contexts.now c.requires.ready.enrolled)

pub decide-requires-clause-context : goal.decide-requires-clause-context
decide-requires-clause-context g c =
    let log = log_of c.args.book.now in
    let found = rw c.unwrap-context.ensures at c.context_of.ensures.found in (
      log,
      c.args.id,
      c.requires.ready.stands,
      enrolled_pledge log (IsLegal-stands (state_of c.args.book.now) log c.requires.ready.stands) c.unwrap-context.result c.args.id (decide_check c.args.id) (found log c.requires.ready.enrolled),
    )

pub last_of-requires : goal.last_of-requires
last_of-requires g c =
    let old = c.args.book.now in
    let new = c.decide.new.self in
    let adds = c.decide.ensures.adds (log_of old) c.requires.ready.stands in
    let found = rw c.unwrap-context.ensures at c.context_of.ensures.found in
    let ready = ready_next old new c.args.time c.unwrap-context.result c.args.number c.decide.result c.args.ids.now c.args.contexts.now c.requires.ready adds c.decide.ensures.kept c.decide.ensures.any_moment c.decide.ensures.tells c.decide.ensures.counted in (
      log_of new,
      c.args.id,
      subst (λ s. StandsFor s (log_of new)) (sym c.state.ensures) ready.stands,
      enrolled_pledge (log_of new) (IsLegal-stands (state_of new) (log_of new) ready.stands) c.unwrap-context.result c.args.id (decide_check c.args.id) (found (log_of new) ready.enrolled),
    )

pub unwrap-requires : goal.unwrap-requires
unwrap-requires g c =
    let old = c.args.book.now in
    let new = c.decide.new.self in
    let adds = c.decide.ensures.adds (log_of old) c.requires.ready.stands in
    let found = rw c.unwrap-context.ensures at c.context_of.ensures.found in
    let ready = ready_next old new c.args.time c.unwrap-context.result c.args.number c.decide.result c.args.ids.now c.args.contexts.now c.requires.ready adds c.decide.ensures.kept c.decide.ensures.any_moment c.decide.ensures.tells c.decide.ensures.counted in
    let last = made_last old new c.args.time c.unwrap-context.result c.args.number c.in-Made.field-0 (c.in-Made.ensures.adds (log_of old) c.requires.ready.stands) in
    some_since _ _ _ (c.last_of.ensures (log_of new) (subst (λ s. StandsFor s (log_of new)) (sym c.state.ensures) ready.stands)) (λ none. none last.0 last.1)

pub last_of-requires-in-Again : goal.last_of-requires-in-Again
last_of-requires-in-Again g c =
    let old = c.args.book.now in
    let new = c.decide.new.self in
    let adds = c.decide.ensures.adds (log_of old) c.requires.ready.stands in
    let found = rw c.unwrap-context.ensures at c.context_of.ensures.found in
    let ready = ready_next old new c.args.time c.unwrap-context.result c.args.number c.decide.result c.args.ids.now c.args.contexts.now c.requires.ready adds c.decide.ensures.kept c.decide.ensures.any_moment c.decide.ensures.tells c.decide.ensures.counted in (
      log_of new,
      c.args.id,
      subst (λ s. StandsFor s (log_of new)) (sym c.state-in-Again.ensures) ready.stands,
      enrolled_pledge (log_of new) (IsLegal-stands (state_of new) (log_of new) ready.stands) c.unwrap-context.result c.args.id (decide_check c.args.id) (found (log_of new) ready.enrolled),
    )

pub unwrap-requires-in-Again : goal.unwrap-requires-in-Again
unwrap-requires-in-Again g c =
    let old = c.args.book.now in
    let new = c.decide.new.self in
    let adds = c.decide.ensures.adds (log_of old) c.requires.ready.stands in
    let found = rw c.unwrap-context.ensures at c.context_of.ensures.found in
    let ready = ready_next old new c.args.time c.unwrap-context.result c.args.number c.decide.result c.args.ids.now c.args.contexts.now c.requires.ready adds c.decide.ensures.kept c.decide.ensures.any_moment c.decide.ensures.tells c.decide.ensures.counted in
    let last = again_last old new c.args.time c.unwrap-context.result c.args.number c.in-Again.field-0 (c.in-Again.ensures.adds (log_of old) c.requires.ready.stands) in
    some_since _ _ _ (c.last_of-in-Again.ensures (log_of new) (subst (λ s. StandsFor s (log_of new)) (sym c.state-in-Again.ensures) ready.stands)) (λ none. none last.0 last.1)

pub returns-in-Made-clause-told : goal.returns-in-Made-clause-told
returns-in-Made-clause-told g c =
    let old = c.args.book.now in
    let new = c.decide.new.self in
    let adds = c.decide.ensures.adds (log_of old) c.requires.ready.stands in
    let found = rw c.unwrap-context.ensures at c.context_of.ensures.found in
    let ready = ready_next old new c.args.time c.unwrap-context.result c.args.number c.decide.result c.args.ids.now c.args.contexts.now c.requires.ready adds c.decide.ensures.kept c.decide.ensures.any_moment c.decide.ensures.tells c.decide.ensures.counted in
    let adds' = c.in-Made.ensures.adds (log_of old) c.requires.ready.stands in
    let stands = subst (λ s. StandsFor s (log_of new)) (sym c.state.ensures) ready.stands in
    let last = rw c.unwrap.ensures at (c.last_of.ensures (log_of new) stands) in
    let told = made_told old new c.args.time c.unwrap-context.result c.args.number c.in-Made.field-0 c.unwrap.result adds' c.in-Made.ensures.sure last in (
      c.unwrap-context.result,
      found (log_of old) c.requires.ready.enrolled,
      subst (λ (o : Outcome). IsAnswered g.D.Disk (standing_of old) c.args.time c.unwrap-context.result c.args.number o (standing_of new)) (sym c.granted_outcome.ensures)
          (answered old new c.args.time c.unwrap-context.result c.args.number (decided.Made c.in-Made.field-0) c.args.ids.now c.args.contexts.now c.requires.ready adds' c.decide.ensures.kept c.decide.ensures.any_moment c.decide.ensures.tells c.decide.ensures.counted (granted_of c.unwrap.result) told.0 told.1),
    )

pub returns-in-Again-clause-told : goal.returns-in-Again-clause-told
returns-in-Again-clause-told g c =
    let old = c.args.book.now in
    let new = c.decide.new.self in
    let adds = c.decide.ensures.adds (log_of old) c.requires.ready.stands in
    let found = rw c.unwrap-context.ensures at c.context_of.ensures.found in
    let ready = ready_next old new c.args.time c.unwrap-context.result c.args.number c.decide.result c.args.ids.now c.args.contexts.now c.requires.ready adds c.decide.ensures.kept c.decide.ensures.any_moment c.decide.ensures.tells c.decide.ensures.counted in
    let adds' = c.in-Again.ensures.adds (log_of old) c.requires.ready.stands in
    let stands = subst (λ s. StandsFor s (log_of new)) (sym c.state-in-Again.ensures) ready.stands in
    let last = rw c.unwrap-in-Again.ensures at (c.last_of-in-Again.ensures (log_of new) stands) in
    let told = again_told old new c.args.time c.unwrap-context.result c.args.number c.in-Again.field-0 c.unwrap-in-Again.result adds' c.in-Again.ensures.sure last in (
      c.unwrap-context.result,
      found (log_of old) c.requires.ready.enrolled,
      subst (λ (o : Outcome). IsAnswered g.D.Disk (standing_of old) c.args.time c.unwrap-context.result c.args.number o (standing_of new)) (sym c.again_outcome.ensures)
          (answered old new c.args.time c.unwrap-context.result c.args.number (decided.Again c.in-Again.field-0) c.args.ids.now c.args.contexts.now c.requires.ready adds' c.decide.ensures.kept c.decide.ensures.any_moment c.decide.ensures.tells c.decide.ensures.counted (again_of c.unwrap-in-Again.result) told.0 told.1),
    )

pub returns-in-Made-clause-ready : goal.returns-in-Made-clause-ready
returns-in-Made-clause-ready g c =
    let old = c.args.book.now in
    let new = c.decide.new.self in
    let adds = c.decide.ensures.adds (log_of old) c.requires.ready.stands in
    let found = rw c.unwrap-context.ensures at c.context_of.ensures.found in
    let ready = ready_next old new c.args.time c.unwrap-context.result c.args.number c.decide.result c.args.ids.now c.args.contexts.now c.requires.ready adds c.decide.ensures.kept c.decide.ensures.any_moment c.decide.ensures.tells c.decide.ensures.counted in
    ready

pub returns-in-Unsure-clause-ready : goal.returns-in-Unsure-clause-ready
returns-in-Unsure-clause-ready g c =
    let old = c.args.book.now in
    let new = c.decide.new.self in
    let adds = c.decide.ensures.adds (log_of old) c.requires.ready.stands in
    let found = rw c.unwrap-context.ensures at c.context_of.ensures.found in
    let ready = ready_next old new c.args.time c.unwrap-context.result c.args.number c.decide.result c.args.ids.now c.args.contexts.now c.requires.ready adds c.decide.ensures.kept c.decide.ensures.any_moment c.decide.ensures.tells c.decide.ensures.counted in
    ready

pub returns-in-Quiet-clause-told : goal.returns-in-Quiet-clause-told
returns-in-Quiet-clause-told g c =
    let old = c.args.book.now in
    let new = c.decide.new.self in
    let adds = c.decide.ensures.adds (log_of old) c.requires.ready.stands in
    let found = rw c.unwrap-context.ensures at c.context_of.ensures.found in
    let ready = ready_next old new c.args.time c.unwrap-context.result c.args.number c.decide.result c.args.ids.now c.args.contexts.now c.requires.ready adds c.decide.ensures.kept c.decide.ensures.any_moment c.decide.ensures.tells c.decide.ensures.counted in
    let adds' = c.in-Quiet.ensures.adds (log_of old) c.requires.ready.stands in
    (c.unwrap-context.result, found (log_of old) c.requires.ready.enrolled, answered old new c.args.time c.unwrap-context.result c.args.number (decided.Quiet c.in-Quiet.why c.in-Quiet.field-1) c.args.ids.now c.args.contexts.now c.requires.ready adds' c.decide.ensures.kept c.decide.ensures.any_moment c.decide.ensures.tells c.decide.ensures.counted (outcome.Quiet c.in-Quiet.why) (quiet_told old new c.args.time c.unwrap-context.result c.args.number c.in-Quiet.why c.in-Quiet.field-1 adds' c.in-Quiet.ensures.sure).0 (quiet_told old new c.args.time c.unwrap-context.result c.args.number c.in-Quiet.why c.in-Quiet.field-1 adds' c.in-Quiet.ensures.sure).1)

pub returns-in-Unsure-clause-told : goal.returns-in-Unsure-clause-told
returns-in-Unsure-clause-told g c =
    let old = c.args.book.now in
    let new = c.decide.new.self in
    let adds = c.decide.ensures.adds (log_of old) c.requires.ready.stands in
    let found = rw c.unwrap-context.ensures at c.context_of.ensures.found in
    let ready = ready_next old new c.args.time c.unwrap-context.result c.args.number c.decide.result c.args.ids.now c.args.contexts.now c.requires.ready adds c.decide.ensures.kept c.decide.ensures.any_moment c.decide.ensures.tells c.decide.ensures.counted in
    let adds' = c.in-Unsure.ensures.adds (log_of old) c.requires.ready.stands in
    (c.unwrap-context.result, found (log_of old) c.requires.ready.enrolled, answered old new c.args.time c.unwrap-context.result c.args.number (decided.Unsure c.in-Unsure.field-0 c.in-Unsure.faults) c.args.ids.now c.args.contexts.now c.requires.ready adds' c.decide.ensures.kept c.decide.ensures.any_moment c.decide.ensures.tells c.decide.ensures.counted (outcome.Unsure c.in-Unsure.faults) (unsure_told old new c.args.time c.unwrap-context.result c.args.number c.in-Unsure.field-0 c.in-Unsure.faults adds') (unsure_settled old new c.args.time c.unwrap-context.result c.args.number c.in-Unsure.field-0 c.in-Unsure.faults adds' c.in-Unsure.ensures.cause))

pub returns-in-Full-clause-told : goal.returns-in-Full-clause-told
returns-in-Full-clause-told g c =
    let old = c.args.book.now in
    let new = c.decide.new.self in
    let adds = c.decide.ensures.adds (log_of old) c.requires.ready.stands in
    let found = rw c.unwrap-context.ensures at c.context_of.ensures.found in
    let ready = ready_next old new c.args.time c.unwrap-context.result c.args.number c.decide.result c.args.ids.now c.args.contexts.now c.requires.ready adds c.decide.ensures.kept c.decide.ensures.any_moment c.decide.ensures.tells c.decide.ensures.counted in
    let adds' = c.in-Full.ensures.adds (log_of old) c.requires.ready.stands in
    (c.unwrap-context.result, found (log_of old) c.requires.ready.enrolled, answered old new c.args.time c.unwrap-context.result c.args.number (decided.Full c.in-Full.entries) c.args.ids.now c.args.contexts.now c.requires.ready adds' c.decide.ensures.kept c.decide.ensures.any_moment c.decide.ensures.tells c.decide.ensures.counted (outcome.Full c.in-Full.entries) (full_told old new c.args.time c.unwrap-context.result c.args.number c.in-Full.entries adds') c.in-Full.ensures.sure)
