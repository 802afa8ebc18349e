-- A gate that owns its server, and all that the server works on.
use Rattle.std.specs.Prelude.{ℕ, List, Option}
use Rattle.http_front.specs.Clocks.{Readings}
use Rattle.host_model.specs.declared.root.HostRoot.{HostRoot}
use Rattle.record_keeper.specs.Store.{Store}
use Rattle.serial_steps.specs.Steps.{SerialWorld, hosted, serial, serial_world}
use Rattle.gates.specs.History.{Contents, contents_as}
use Rattle.gates.specs.declared.alone.AloneGate.{AloneGate}

-- the server of a gate with the call in its worker's hand, its store, its host and its clock at one moment, by what
-- keeper, host and clock tell
abbrev pub serial_world_of : {R H C : Type 0} → (R → Store) → (H → Option (List HostRoot)) → (H → ℕ) → (C → Readings)
    → AloneGate R H C → SerialWorld
serial_world_of store contents failures readings gate =
    serial_world (serial gate.daemon gate.hand) (store gate.keeper) (hosted contents failures gate.host)
    (readings gate.clock)

-- what it shows
abbrev pub contents_at : SerialWorld → Contents
contents_at world = contents_as world.serial.state world.store
