use Rattle.conc_run_desk.proofs.Permits.{go-runs, no-rivals, permit-runs, recorded-runs}
use Rattle.conc_run_desk.proofs.laws.a_permit_is_a_run.Goals as goal

pub returns-clause-between_calls : goal.returns-clause-between_calls
returns-clause-between_calls c = go-runs

pub returns-clause-once_recorded : goal.returns-clause-once_recorded
returns-clause-once_recorded c = recorded-runs

pub returns-clause-permits : goal.returns-clause-permits
returns-clause-permits c = permit-runs

pub returns-clause-rivals : goal.returns-clause-rivals
returns-clause-rivals c = no-rivals
