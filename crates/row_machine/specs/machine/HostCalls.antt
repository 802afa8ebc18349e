-- The calls on the host that each operation makes, fixed when it begins.
use Rattle.std.specs.Prelude.{◌∷◌}
use Rattle.row_machine.specs.Words.{ℕ, Bool, true, false, List, [], Action, Expanded, Place, Spec, HostCall, Clear}
use Rattle.row_machine.specs.Words.{MakeRoot, CopyRoot, Start, Stop, Freeze, Thaw, Action as action}

abbrev pub place_of : List ℕ → List ℕ → Place
place_of project name = record { volume = false; project = project; pool = []; name = name }

abbrev pub volume_place : List ℕ → List ℕ → List ℕ → Place
volume_place project pool name = record { volume = true; project = project; pool = pool; name = name }

abbrev pub spec_of : Expanded → Spec
spec_of expanded = record { config = expanded.config; devices = expanded.devices }

abbrev pub create_calls : Place → List ℕ → List HostCall
create_calls at image = Clear at ∷ MakeRoot at image ∷ []

abbrev pub copy_calls : Place → List ℕ → Place → List HostCall
copy_calls from snapshot to = Clear to ∷ CopyRoot from snapshot to ∷ []

-- A change of state. An instance is started with what it has, and an ephemeral one that stops is deleted.
abbrev pub act_calls : Action → Bool → Place → Spec → List HostCall
act_calls action.Start ephemeral at spec = Start at spec ∷ []
act_calls action.Stop true at spec = Stop at ∷ Clear at ∷ []
act_calls action.Stop false at spec = Stop at ∷ []
act_calls action.Restart ephemeral at spec = Stop at ∷ Start at spec ∷ []
act_calls action.Freeze ephemeral at spec = Freeze at ∷ []
act_calls action.Unfreeze ephemeral at spec = Thaw at ∷ []
