use Rattle.std.proofs.Common.{◌≡◌, map, take}
use Rattle.expansion.specs.Layers.{expanded}
use Rattle.row_machine.specs.machine.Rows.{profile_named}
use Rattle.row_machine.specs.machine.Expansions.{layer_of}
use Rattle.row_readings.proofs.state_ref.StateRef.profiles_laid.Given as goal

abbrev pub invariant-loop-name : goal.invariant-loop-name
invariant-loop-name l =
    l.expanded ≡ expanded (map (λ name. layer_of (profile_named l.self.profiles l.home name)) (take l.name-index l.names))
