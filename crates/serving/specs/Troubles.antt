-- Why a server stops before all of its links have come.
use Rattle.std.specs.Prelude.{ℕ, Result, Ok, Err}
use Rattle.size_values.specs.Causes.{Rose}
use Rattle.size_values.specs.declared.memory.Or.{Or}
use Rattle.size_values.specs.declared.memory.Or.TheVariants as or
use Rattle.serving.specs.declared.door.DoorsFailed.{DoorsFailed}
use Rattle.serving.specs.declared.spawner.StartFailed.{StartFailed}
use Rattle.serving.specs.declared.trouble.Trouble.{Trouble}
use Rattle.serving.specs.declared.trouble.Trouble.TheVariants as trouble

-- The count of the doors rose, or that of the spawner. Out of memory has no cause.
abbrev pub IsCaused : Trouble → ℕ → ℕ → ℕ → ℕ → Type 0
IsCaused trouble.NoMemory doors doors' starts starts' = Unit {0}
IsCaused trouble.Accept doors doors' starts starts' = Rose doors doors'
IsCaused trouble.Start doors doors' starts starts' = Rose starts starts'

-- the trouble of an accept, and that of a start
abbrev pub of_doors : Or DoorsFailed → Trouble
of_doors or.NoMemory = trouble.NoMemory
of_doors (or.Why failed) = trouble.Accept

abbrev pub of_spawner : Or StartFailed → Trouble
of_spawner or.NoMemory = trouble.NoMemory
of_spawner (or.Why failed) = trouble.Start

-- the exit status of a server
abbrev pub status_of : Result (Unit {0}) Trouble → ℕ
status_of (Ok unit) = 0
status_of (Err trouble.NoMemory) = 9
status_of (Err trouble.Accept) = 11
status_of (Err trouble.Start) = 12
