use Rattle.serial_run.proofs.Keeping.{after_each, after_each_of_one}
use Rattle.serial_run.proofs.laws.after_each_call.Goals as goal

pub returns-clause-run : goal.returns-clause-run
returns-clause-run c = after_each

pub returns-clause-one : goal.returns-clause-one
returns-clause-one c = after_each_of_one
