use Rattle.rest_routes.proofs.Events.{events-stand}
use Rattle.rest_routes.proofs.path_laws.events_stand_at_one_path.Goals as goal

pub returns : goal.returns
returns c = events-stand
