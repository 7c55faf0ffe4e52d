-- Each short history, by its lemma.
use Rattle.join_history.proofs.ExampleLemmas as example
use Rattle.join_history.proofs.laws.history_examples.Goals as goal

pub returns-clause-hours : goal.returns-clause-hours
returns-clause-hours c = example.hours

pub returns-clause-lease_lives : goal.returns-clause-lease_lives
returns-clause-lease_lives c = example.lease_lives

pub returns-clause-address_is_held : goal.returns-clause-address_is_held
returns-clause-address_is_held c = example.address_is_held

pub returns-clause-repeats : goal.returns-clause-repeats
returns-clause-repeats c = example.repeats

pub returns-clause-window : goal.returns-clause-window
returns-clause-window c = example.window

pub returns-clause-contexts : goal.returns-clause-contexts
returns-clause-contexts c = example.contexts

pub returns-clause-pools : goal.returns-clause-pools
returns-clause-pools c = example.pools

pub returns-clause-widths : goal.returns-clause-widths
returns-clause-widths c = example.widths

pub returns-clause-below : goal.returns-clause-below
returns-clause-below c = example.below

pub returns-clause-blocks : goal.returns-clause-blocks
returns-clause-blocks c = example.blocks

pub returns-clause-releases : goal.returns-clause-releases
returns-clause-releases c = example.releases

pub returns-clause-rolls : goal.returns-clause-rolls
returns-clause-rolls c = example.rolls

pub returns-clause-switches : goal.returns-clause-switches
returns-clause-switches c = example.switches

pub returns-clause-answer_bytes : goal.returns-clause-answer_bytes
returns-clause-answer_bytes c = example.answer_bytes

pub returns-clause-updates : goal.returns-clause-updates
returns-clause-updates c = example.updates

pub returns-clause-summary_grants : goal.returns-clause-summary_grants
returns-clause-summary_grants c = example.summary_grants

pub returns-clause-answered : goal.returns-clause-answered
returns-clause-answered c = example.answered
