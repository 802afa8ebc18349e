use Rattle.rest_json.proofs.Calendar.{epoch}
use Rattle.rest_json.proofs.moments.first_date.Goals as goal

pub returns : goal.returns
returns c = epoch c.in-Ok.date c.in-Ok.ensures.value
