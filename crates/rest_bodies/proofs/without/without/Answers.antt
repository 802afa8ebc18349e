use Rattle.std.proofs.Common.{sym, ap, ◌∙◌}
use Rattle.serde_json.proofs.Views.{view-Object}
use Rattle.serde_json.specs.Data.{object}
use Rattle.serde_json.specs.View.{members_view}
use Rattle.rest_bodies.proofs.Removed.{removed}
use Rattle.rest_bodies.specs.Without.{without}
use Rattle.rest_bodies.proofs.without.without.Goals as goal

pub returns-in-Object : goal.returns-in-Object
returns-in-Object c =
    rw c.in-Object.is
    (view-Object c.remove.new.self
    ∙ ap (λ es. object (members_view es)) c.remove.ensures.entries
    ∙ ap object (removed c.args.key.now c.in-Object.members.entries)
    ∙ sym (ap (without c.args.key.now) (view-Object c.in-Object.members)))
