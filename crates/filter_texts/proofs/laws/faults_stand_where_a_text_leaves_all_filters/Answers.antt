use Rattle.filter_texts.proofs.Readings.{faults, long}
use Rattle.filter_texts.proofs.laws.faults_stand_where_a_text_leaves_all_filters.Goals as goal

pub returns-clause-place : goal.returns-clause-place
returns-clause-place c = faults

pub returns-clause-long : goal.returns-clause-long
returns-clause-long c = long
