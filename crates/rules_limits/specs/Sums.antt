-- What each project uses of all that counts, in a table with a line for each project; and the limits by such tables.
use Rattle.std.specs.Prelude.{ℕ, List, map, Option}
use Rattle.std.specs.List.{sum_by, zip}
use Rattle.plain_lists.specs.Firsts.{first_of}
use Rattle.size_values.specs.Amounts.{part}
use Rattle.size_values.specs.declared.amounts.Amounts.{Amounts}
use Rattle.size_values.specs.declared.amounts.Part.{Part}
use Rattle.size_values.specs.declared.amounts.Part.TheVariants as part_of
use Rattle.project_limits.specs.Admission.{key_of, limit_on, parts}
use Rattle.project_limits.specs.Limits.{limits_of}
use Rattle.records.specs.declared.refusals.Refusal.{Refusal}
use Rattle.records.specs.declared.rows.Project.{Project}
use Rattle.row_machine.specs.machine.LimitRules.{limit_exceeded}
use Rattle.row_machine.specs.machine.Usage.{Load, amount_for}

-- what a project uses, part by part
unfoldable pub sums_for : List Load → List ℕ → Amounts
sums_for loads project = record {
  instances = sum_by (amount_for project part_of.Instances) loads;
  containers = sum_by (amount_for project part_of.Containers) loads;
  machines = sum_by (amount_for project part_of.Machines) loads;
  cpu = sum_by (amount_for project part_of.Cpu) loads;
  memory = sum_by (amount_for project part_of.Memory) loads;
  processes = sum_by (amount_for project part_of.Processes) loads;
  disk = sum_by (amount_for project part_of.Disk) loads;
}

-- the same of each project, in their order
abbrev pub sums_of : List Load → List Project → List Amounts
sums_of loads projects = map (λ project. sums_for loads project.name) projects

-- a project with what it uses before and after a change
abbrev pub Line : Type 0
Line = Project × (Amounts × Amounts)

-- each project with what stands at its place
abbrev pub lines : List Project → List Amounts → List Amounts → List Line
lines projects before after = zip projects (zip before after)

-- one part of what a project uses
abbrev pub line_over : Part → Line → Option Refusal
line_over a_part line =
    limit_exceeded line.0 (key_of a_part) (limit_on a_part (limits_of line.0.config)) (part a_part line.1.0)
    (part a_part line.1.1)

-- the first part, and the first project at which it is exceeded
abbrev pub lines_over : List Line → Option Refusal
lines_over of_all = first_of (λ a_part. first_of (line_over a_part) of_all) parts
