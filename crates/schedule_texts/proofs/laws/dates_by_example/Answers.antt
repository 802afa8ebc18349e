use Rattle.schedule_texts.proofs.Computed.{month, month_and_day, monday, friday_13, saturday}
use Rattle.schedule_texts.proofs.laws.dates_by_example.Goals as goal

pub returns-clause-month : goal.returns-clause-month
returns-clause-month c = month

pub returns-clause-day : goal.returns-clause-day
returns-clause-day c = month_and_day

pub returns-clause-monday : goal.returns-clause-monday
returns-clause-monday c = monday

pub returns-clause-friday_13 : goal.returns-clause-friday_13
returns-clause-friday_13 c = friday_13

pub returns-clause-saturday : goal.returns-clause-saturday
returns-clause-saturday c = saturday
