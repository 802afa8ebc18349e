-- What steps come to in all: when they were made, what they did on the host, and how often the host and the keeper
-- failed.
use Rattle.std.specs.Prelude.{◌≡◌, ◌<◌, ◌≤◌, ℕ, List, [], ◌∷◌, map, Option, Some, None}
use Rattle.std.specs.List.{All, filter_map, sum_by}
use Rattle.size_values.specs.Causes.{RoseBy}
use Rattle.size_values.specs.Moments.{moment_limit}
use Rattle.host_model.specs.declared.call.HostCall.{HostCall}
use Rattle.host_model.specs.declared.report.Report.{Report}
use Rattle.host_model.specs.declared.report.Report.TheVariants as report
use Rattle.host_model.specs.declared.root.HostRoot.{HostRoot}
use Rattle.host_model.specs.Reports.{roots_after}
use Rattle.http_front.specs.Clocks.{Reads}
use Rattle.row_machine.specs.machine.Step.{Outcome, well, keeper_failed, no_memory}
use Rattle.core_turns.specs.core_reports.specs.Stores.{KeepsRecords}
use Rattle.serial_steps.specs.Steps.{SerialWorld, Step, took, reported, StepsTo}

-- ---- of one step

-- the moment at which a step was made
abbrev pub moment_of : Step → ℕ
moment_of (took moment) = moment
moment_of (reported report moment outcome) = moment

-- the report of the call that a step made
abbrev pub report_of : Step → Option Report
report_of (took moment) = None
report_of (reported report moment outcome) = Some report

-- a call of the host failed, or none did
abbrev pub failed_calls : Report → ℕ
failed_calls report.Done = 0
failed_calls (report.Failed rise) = 1
failed_calls report.NoMemory = 0

abbrev pub host_failure : Step → ℕ
host_failure (took moment) = 0
host_failure (reported report moment outcome) = failed_calls report

-- a call of the keeper failed, or none did
abbrev pub failed_commits : Outcome → ℕ
failed_commits well = 0
failed_commits (keeper_failed rise) = 1
failed_commits no_memory = 0

abbrev pub keeper_failure : Step → ℕ
keeper_failure (took moment) = 0
keeper_failure (reported report moment outcome) = failed_commits outcome

-- ---- of several

abbrev pub moments_in : List Step → List ℕ
moments_in steps = map moment_of steps

abbrev pub reports_in : List Step → List Report
reports_in steps = filter_map report_of steps

abbrev pub host_failures_in : List Step → ℕ
host_failures_in steps = sum_by host_failure steps

abbrev pub keeper_failures_in : List Step → ℕ
keeper_failures_in steps = sum_by keeper_failure steps

-- the roots that a host shows after these calls, each with its report
abbrev pub roots_by : List (Report × HostCall) → Option (List HostRoot) → Option (List HostRoot)
roots_by [] roots = roots
roots_by (made ∷ more) roots = roots_by more (roots_after made.0 made.1 roots)

-- calls with these reports, one for each, made these roots of those
pub record Makes (reports : List Report) (roots roots' : Option (List HostRoot)) : Type 0 where
  pub made : List (Report × HostCall)
  pub reports_are : map (λ (pair : Report × HostCall). pair.0) made ≡ reports
  pub roots_are : roots' ≡ roots_by made roots

-- What steps came to. The clock was read once for each, in their order, before the year 10000; the host's roots
-- are those that the calls made; the counts of the host and of the keeper rose at least by the failures that the steps
-- tell of, and never fell; and entries that were the records of the rows are so afterwards.
pub record ComesTo (world : SerialWorld) (steps : List Step) (later : SerialWorld) : Type 0 where
  pub clock : Reads world.clock (moments_in steps) later.clock
  pub early : All (λ moment. moment < moment_limit) (moments_in steps)
  pub host : Makes (reports_in steps) world.host.roots later.host.roots
  pub host_failed : RoseBy (host_failures_in steps) world.host.failures later.host.failures
  pub host_later : world.host.failures ≤ later.host.failures
  pub keeper_failed : RoseBy (keeper_failures_in steps) world.store.failures later.store.failures
  pub keeper_later : world.store.failures ≤ later.store.failures
  pub kept : KeepsRecords world.store.contents world.serial.state later.store.contents later.serial.state

abbrev pub StepsComeTo : Type 0
StepsComeTo =
    (world : SerialWorld) (steps : List Step) (later : SerialWorld) → StepsTo world steps later
    → ComesTo world steps later
