-- Each law of legal histories, by its lemma.
use Rattle.std.proofs.Common.{refl}
use Rattle.journal_text.specs.declared.entry.Entry.TheVariants.{Grant, Refuse}
use Rattle.join_history.proofs.LegalLemmas.{IsLegal-nil, IsLegal-push, IsLegal-prefix}
use Rattle.join_history.proofs.HolderLemmas.{one_holder, one_live_lease}
use Rattle.join_history.proofs.DecisionLemmas.{one_decision, one_check, keeps_address}
use Rattle.join_history.proofs.ContextLemmas.{one_number}
use Rattle.join_history.proofs.TotalLemmas.{due_something}
use Rattle.join_history.proofs.DueLemmas.{one_due, MayFollow-due}
use Rattle.join_history.proofs.laws.history_laws.Goals as goal

pub returns-clause-one_holder : goal.returns-clause-one_holder
returns-clause-one_holder c = one_holder

pub returns-clause-one_live_lease : goal.returns-clause-one_live_lease
returns-clause-one_live_lease c = one_live_lease

pub returns-clause-decides_once : goal.returns-clause-decides_once
returns-clause-decides_once c = record {
  two_grants = λ before between after c n t u a b until end legal.
      one_decision before between after (Grant t c n a until) (Grant u c n b end) c n legal (refl, refl) (refl, refl);
  grant_then_refuse = λ before between after c n t u a until why legal.
      one_decision before between after (Grant t c n a until) (Refuse u c n why) c n legal (refl, refl) (refl, refl);
  refuse_then_grant = λ before between after c n t u a until why legal.
      one_decision before between after (Refuse t c n why) (Grant u c n a until) c n legal (refl, refl) (refl, refl);
  two_refuses = λ before between after c n t u why reason legal.
      one_decision before between after (Refuse t c n why) (Refuse u c n reason) c n legal (refl, refl) (refl, refl);
}

pub returns-clause-one_number : goal.returns-clause-one_number
returns-clause-one_number c = one_number

pub returns-clause-due_something : goal.returns-clause-due_something
returns-clause-due_something c = due_something

pub returns-clause-one_check : goal.returns-clause-one_check
returns-clause-one_check c = one_check

pub returns-clause-keeps_address : goal.returns-clause-keeps_address
returns-clause-keeps_address c = keeps_address

pub returns-clause-one_due : goal.returns-clause-one_due
returns-clause-one_due c = one_due

pub returns-clause-due_may_follow : goal.returns-clause-due_may_follow
returns-clause-due_may_follow c = MayFollow-due

pub returns-clause-empty_is_legal : goal.returns-clause-empty_is_legal
returns-clause-empty_is_legal c = IsLegal-nil

pub returns-clause-grows_legal : goal.returns-clause-grows_legal
returns-clause-grows_legal c = IsLegal-push

pub returns-clause-prefix_is_legal : goal.returns-clause-prefix_is_legal
returns-clause-prefix_is_legal c = IsLegal-prefix
