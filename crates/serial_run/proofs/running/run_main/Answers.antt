use Rattle.std.proofs.Common.{refl}
use Rattle.serial_run.proofs.Others.{does_text, does_complete, does_cut, does_read_fault, does_write_fault}
use Rattle.serial_run.proofs.Others.{does_keeper_fault, does_words, does_not_read, does_still, does_unopened, does_refused}
use Rattle.serial_run.proofs.Others.{does_others}
use Rattle.serial_run.proofs.running.run_main.Goals as goal

pub returns-clause-text : goal.returns-clause-text
returns-clause-text g c = does_text _ _ _ _ _ _ c.run.ensures refl

pub returns-clause-complete : goal.returns-clause-complete
returns-clause-complete g c = does_complete _ _ _ _ _ _ c.run.ensures refl

pub returns-clause-cut : goal.returns-clause-cut
returns-clause-cut g c = does_cut _ _ _ _ _ c.run.ensures

pub returns-clause-read_fault : goal.returns-clause-read_fault
returns-clause-read_fault g c = does_read_fault _ _ _ _ _ c.run.ensures

pub returns-clause-write_fault : goal.returns-clause-write_fault
returns-clause-write_fault g c = does_write_fault _ _ _ _ _ c.run.ensures

pub returns-clause-keeper_fault : goal.returns-clause-keeper_fault
returns-clause-keeper_fault g c = does_keeper_fault _ _ _ _ _ c.run.ensures

pub returns-clause-words : goal.returns-clause-words
returns-clause-words g c = does_words _ _ _ _ _ c.run.ensures

pub returns-clause-not_read : goal.returns-clause-not_read
returns-clause-not_read g c = does_not_read _ _ _ _ _ c.run.ensures

pub returns-clause-still : goal.returns-clause-still
returns-clause-still g c = does_still _ _ _ _ _ c.run.ensures

pub returns-clause-unopened : goal.returns-clause-unopened
returns-clause-unopened g c = does_unopened _ _ _ _ _ c.run.ensures

pub returns-clause-refused : goal.returns-clause-refused
returns-clause-refused g c = does_refused _ _ _ _ _ _ c.run.ensures refl

pub returns-clause-others : goal.returns-clause-others
returns-clause-others g c = does_others _ _ _ _ _ c.run.ensures
