-- Why a server is not begun.
use Rattle.std.specs.Prelude.{◌≡◌, ℕ, true, Option, Some, None}
use Rattle.record_keeper.specs.Store.{Store}
use Rattle.row_machine.specs.machine.State.{State}
use Rattle.row_machine.specs.opening.Opening.{Opening}
use Rattle.core_rows.specs.Opening.{OpensTo, OpensToNone, Refuses, is_refused}
use Rattle.core_rows.specs.declared.opening.OpenFault.{OpenFault}
use Rattle.core_rows.specs.declared.opening.OpenFault.TheVariants as fault
use Rattle.start_faults.specs.declared.fault.StartFault.{StartFault}
use Rattle.start_faults.specs.declared.fault.StartFault.TheVariants as start

-- the exit status of a program that begins no server
abbrev pub start_status : StartFault → ℕ
start_status start.KeeperFailed = 6
start_status start.Unopened = 7
start_status start.Words = 8
start_status start.NoMemory = 9

-- a refused opening as a reason to begin none
abbrev pub start_fault : OpenFault → StartFault
start_fault fault.KeeperFailed = start.KeeperFailed
start_fault (fault.Damaged kind key) = start.Unopened
start_fault (fault.Broken rule kind key) = start.Unopened
start_fault fault.NoMemory = start.NoMemory

-- an entry is damaged or the rows break a rule, and the keeper is as it was but for one load
abbrev pub IsUnopened : Store → Store → Type 0
IsUnopened keeper keeper' = (opening : Opening) × (is_refused opening ≡ true) × OpensToNone opening keeper keeper'

-- why the entries of a keeper open to no rows; none where they open
abbrev pub Explains : Option OpenFault → Store → Store → Type 0
Explains None keeper keeper' = (state : State) × OpensTo state keeper keeper'
Explains (Some why) keeper keeper' = Refuses why keeper keeper'
