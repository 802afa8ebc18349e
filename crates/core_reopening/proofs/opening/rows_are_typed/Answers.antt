use Rattle.std.proofs.Common.{subst}
use Rattle.plain_lists.specs.Members.{Each}
use Rattle.row_codec.specs.Rows.{HasTypedParts}
use Rattle.row_machine.specs.machine.State.{State}
use Rattle.row_machine.specs.opening.Records.{rows_of}
use Rattle.row_readings.specs.Lent.{state_in}
use Rattle.core_reopening.proofs.Together.{all-typed}
use Rattle.core_reopening.proofs.opening.rows_are_typed.Goals as goal

pub returns : goal.returns
returns c =
    subst (λ (s : State). Each HasTypedParts (rows_of s)) c.view.view_is
    (all-typed (state_in c.view.inside) c.projects_are_typed.ensures c.profiles_are_typed.ensures c.networks_are_typed.ensures c.pools_are_typed.ensures
    c.volumes_are_typed.ensures c.instances_are_typed.ensures c.snapshots_are_typed.ensures)
