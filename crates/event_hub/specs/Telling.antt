-- What is told of an operation as it was at a moment.
use Rattle.std.specs.Prelude.{ℕ, ◌≤◌, List, length}
use Rattle.records.specs.declared.commands.Target.{Target}
use Rattle.records.specs.declared.notices.EventBody.TheVariants as body
use Rattle.records.specs.declared.notices.Untold.{Untold}
use Rattle.records.specs.declared.replies.OpView.{OpView}
use Rattle.event_hub.specs.declared.progress.About.{About}
use Rattle.event_hub.specs.declared.progress.Progress.{Progress}
use Rattle.event_hub.specs.Short.{most_bytes}

-- the object that it is about
abbrev pub object_in : About → Target
object_in about = record {
  kind = about.kind;
  pool = about.pool.now;
  instance = about.instance.now;
  name = about.name.now;
}

-- how it was then
abbrev pub view_by : Progress → List ℕ → Target → OpView
view_by at project target = record {
  number = at.number;
  status = at.status;
  may_cancel = at.may_cancel;
  created = at.created;
  updated = at.updated;
  fault = at.fault;
  project = project;
  target = target;
}

-- its notice
abbrev pub told_by : Progress → List ℕ → Target → Untold
told_by at project target =
    record { moment = at.moment; project = project; body = body.Op (view_by at project target) }

abbrev pub told_about : Progress → About → Untold
told_about at about = told_by at about.project.now (object_in about)

-- no text of what it is about is longer than a name
pub record IsShort (about : About) : Type 0 where
  pub project : length about.project.now ≤ most_bytes
  pub pool : length about.pool.now ≤ most_bytes
  pub instance : length about.instance.now ≤ most_bytes
  pub name : length about.name.now ≤ most_bytes
