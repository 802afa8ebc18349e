use Rattle.std.specs.Prelude.{Bool, true, false, Option, Some, None, List, [], ◌∷◌}
use Rattle.std.specs.Option.{option_to_list}
use Rattle.size_values.specs.declared.kinds.Action.{Action}
use Rattle.size_values.specs.declared.kinds.Action.TheVariants as action
use Rattle.size_values.specs.declared.kinds.Deed.{Deed}
use Rattle.size_values.specs.declared.kinds.Deed.TheVariants as deed
use Rattle.instance_states.specs.declared.plan.CallName.{CallName}
use Rattle.instance_states.specs.declared.plan.CallName.TheVariants.{Clear, MakeRoot, CopyRoot, Start, Stop, Freeze}
use Rattle.instance_states.specs.declared.plan.CallName.TheVariants.{Thaw, Apply, Rename, Snap, Unsnap, Restore}
use Rattle.instance_states.specs.declared.plan.Plan.{Plan}
use Rattle.host_model.specs.declared.call.HostCall.{HostCall}
use Rattle.host_model.specs.declared.call.HostCall.TheVariants as call

-- the calls of a plan, in their order
abbrev pub calls_in : Plan → List CallName
calls_in plan = plan.first ∷ option_to_list plan.second

-- the calls of an action; an ephemeral instance that stops is deleted
abbrev pub calls_of_action : Action → Bool → List CallName
calls_of_action action.Start ephemeral = Start ∷ []
calls_of_action action.Stop true = Stop ∷ Clear ∷ []
calls_of_action action.Stop false = Stop ∷ []
calls_of_action action.Restart ephemeral = Stop ∷ Start ∷ []
calls_of_action action.Freeze ephemeral = Freeze ∷ []
calls_of_action action.Unfreeze ephemeral = Thaw ∷ []

-- the calls of a deed, in their order
abbrev pub calls_of : Deed → List CallName
calls_of deed.Create = Clear ∷ MakeRoot ∷ []
calls_of deed.Copy = Clear ∷ CopyRoot ∷ []
calls_of deed.Update = Apply ∷ []
calls_of deed.Restore = Restore ∷ []
calls_of deed.Rename = Rename ∷ []
calls_of deed.Delete = Clear ∷ []
calls_of (deed.Act action ephemeral) = calls_of_action action ephemeral
calls_of deed.Snap = Snap ∷ []
calls_of deed.Unsnap = Unsnap ∷ []
calls_of deed.CopyVolume = Clear ∷ CopyRoot ∷ []

-- the call that takes a deed back, where it may be cancelled
abbrev pub undo_of : Deed → Option CallName
undo_of deed.Create = Some Clear
undo_of deed.Copy = Some Clear
undo_of deed.Update = None
undo_of deed.Restore = None
undo_of deed.Rename = None
undo_of deed.Delete = None
undo_of (deed.Act action ephemeral) = None
undo_of deed.Snap = Some Unsnap
undo_of deed.Unsnap = None
undo_of deed.CopyVolume = Some Clear

-- the name of a host's call
abbrev pub name_of : HostCall → CallName
name_of (call.Clear at) = Clear
name_of (call.MakeRoot at origin) = MakeRoot
name_of (call.CopyRoot from snapshot to) = CopyRoot
name_of (call.Start at spec) = Start
name_of (call.Stop at) = Stop
name_of (call.Freeze at) = Freeze
name_of (call.Thaw at) = Thaw
name_of (call.Apply at spec) = Apply
name_of (call.Rename from to) = Rename
name_of (call.Snap at name) = Snap
name_of (call.Unsnap at name) = Unsnap
name_of (call.Restore at name) = Restore
