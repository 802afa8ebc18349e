-- What counts for limits at one time, apart from the state: what is kept of it while a change is made.
use Rattle.std.specs.Prelude.{ℕ, List, map}
use Rattle.row_machine.specs.machine.State.{State}
use Rattle.row_machine.specs.machine.Usage.{Load, loads}
use Rattle.row_readings.specs.Loads.{AreSmall}
use Rattle.rules_limits.specs.declared.usage.Usage.TheInside.{Inside}

-- instances, volumes and the shares of live operations, each with its project; and the project of each network
pub record Counts : Type 0 where
  pub loads : List Load
  pub networks : List (List ℕ)

-- what counts in a state
abbrev pub counts_in : State → Counts
counts_in state = record { loads = loads state; networks = map (λ network. network.project) state.networks }

-- what contracts see of it
abbrev pub counts_of : Inside → Counts
counts_of counting = record { loads = counting.loads.items; networks = counting.networks.items }

-- no part of what counts reaches 2^63, so that sums of it stay in range
abbrev pub AreLow : Inside → Type 0
AreLow counting = AreSmall counting.loads.items
