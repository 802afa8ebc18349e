use Rattle.schedule_texts.proofs.Dates.{date_of_is, day_of_date_of, date_of_day_of}
use Rattle.schedule_texts.proofs.laws.days_have_dates.Goals as goal

pub returns-clause-dates : goal.returns-clause-dates
returns-clause-dates c = date_of_is

pub returns-clause-days : goal.returns-clause-days
returns-clause-days c = day_of_date_of

pub returns-clause-back : goal.returns-clause-back
returns-clause-back c = date_of_day_of
