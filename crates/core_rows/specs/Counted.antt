-- What reports and cancels make of what projects are known to use.
use Rattle.std.specs.Prelude.{ℕ, Option, if◌then◌else◌}
use Rattle.std.specs.Option.{option_map_or}
use Rattle.operations.specs.declared.operation.Operation.{Operation}
use Rattle.operations.specs.OperationTable.{live_at}
use Rattle.operations.specs.Statuses.{is_pending}
use Rattle.row_machine.specs.machine.State.{State}
use Rattle.row_machine.specs.machine.Task.{Task}
use Rattle.core_judging.specs.core_reports.specs.declared.jobs.Turned.{Turned}
use Rattle.core_judging.specs.core_reports.specs.declared.jobs.Turned.TheVariants as turned
use Rattle.core_judging.specs.core_totals.specs.declared.ends.Counted.{Counted}
use Rattle.core_judging.specs.core_totals.specs.declared.totals.Totals.{Totals}
use Rattle.core_judging.specs.core_totals.specs.Ends.{held_given_back, after_end}

-- after a report of an operation that counted for this, and is kept so
abbrev pub after_turn : Turned → Option (Operation Task) → Counted → Totals → Totals
after_turn turned.Ended kept counted totals = after_end kept counted totals
after_turn other kept counted totals = totals

-- after the cancel of an operation, by the rows before it: one that waits ends
abbrev pub counted_out : State → ℕ → Totals → Totals
counted_out state number totals = option_map_or
    (λ operation.
    if is_pending operation.status then held_given_back state number operation.work totals else totals)
    (live_at state.operations number) totals
