use Rattle.registrar_state.proofs.state.RegState.may_follow.Goals as goal

pub returns-in-Grant : goal.returns-in-Grant
returns-in-Grant c = rw c.in-Grant.is c.may_grant.ensures

pub returns-in-Given : goal.returns-in-Given
returns-in-Given c = rw c.in-Given.is c.may_give.ensures

pub returns-in-Stale : goal.returns-in-Stale
returns-in-Stale c = rw c.in-Stale.is c.may_be_stale.ensures

pub returns-in-Switch : goal.returns-in-Switch
returns-in-Switch c = rw c.in-Switch.is c.may_switch.ensures

pub returns-in-Release : goal.returns-in-Release
returns-in-Release c = rw c.in-Release.is c.may_release.ensures
