-- A server that works alone has few steps to do.
use Rattle.std.proofs.Common.{◌≤◌, arith}
use Rattle.plain_lists.proofs.Elements.{Each-map}
use Rattle.row_machine.specs.machine.State.{State}
use Rattle.row_machine.specs.facts.Whole.{IsWhole}
use Rattle.machine_laws.proofs.WaitsEnding.{steps_of, steps-few, sum-few}
use Rattle.serial_steps.specs.Steps.{most_steps}

-- never more than four for each of the most operations that can be live
pub few-left : (s : State) → IsWhole s → steps_of s ≤ most_steps
few-left s h = omega (arith, sum-few s.operations.live (Each-map steps-few h.under_way), h.operations.kept.few_live)
