-- How the server opens.
use Rattle.std.specs.Prelude.{Result, Ok, Err}
use Rattle.record_keeper.specs.Store.{Store}
use Rattle.row_machine.specs.machine.State.{State}
use Rattle.core_instances.specs.core_rows.specs.Opening.{OpensTo, Refuses}
use Rattle.core_instances.specs.core_rows.specs.declared.opening.OpenFault.{OpenFault}

-- The entries of the keeper open to this state, and are its records now; or the opening was refused.
abbrev pub Opens : Result State OpenFault → Store → Store → Type 0
Opens (Ok state) store store' = OpensTo state store store'
Opens (Err why) store store' = Refuses why store store'
