-- What an accepted command's rules say, group by group.
use Rattle.std.proofs.Common.{◌≡◌, ℕ, List, None, subst}
use Rattle.std.specs.Option.{option_to_list}
use Rattle.plain_lists.proofs.FirstLemmas.{none_both}
use Rattle.records.specs.declared.commands.Command.{Command}
use Rattle.row_machine.specs.declared.changes.RowChange.{RowChange}
use Rattle.row_machine.specs.machine.Task.{Task}
use Rattle.row_machine.specs.machine.State.{State}
use Rattle.row_machine.specs.machine.Changes.{applied, rows_put}
use Rattle.row_machine.specs.machine.Operations.{claiming}
use Rattle.row_machine.specs.machine.Rules.{names_broken}
use Rattle.row_machine.specs.machine.Rules.{standing_broken}
use Rattle.row_machine.specs.machine.SettingRules.{settings_broken}
use Rattle.row_machine.specs.machine.PolicyRules.{policy_broken, snapshot_blocked}
use Rattle.row_machine.specs.machine.LimitRules.{counts_broken, limits_broken}
use Rattle.row_machine.specs.machine.TableRules.{entry_broken, tables_broken}
use Rattle.row_machine.specs.machine.Plans.{Plan, changes, starts, plan_of}
use Rattle.row_machine.specs.machine.Rules.{broken, plan_broken, after_broken}
use Rattle.machine_laws.proofs.Cases.{IsAccepted, IsJudged, IsEntryJudged}

-- the three groups of rules, the last by the plan
pub groups : (s : State) (c : Command) (moment : ℕ) (p : Plan) → broken s c moment ≡ None → plan_of s c moment ≡ p
    → (names_broken s c ≡ None) × ((standing_broken s c ≡ None) × (plan_broken s c p moment ≡ None))
unfolding broken
groups s c moment p e is =
    let names = none_both (names_broken s c) _ e in
    let standing = none_both (standing_broken s c) _ names.1 in
    let plan = none_both (plan_broken s c (plan_of s c moment) moment) None standing.1 in
    (names.0, (standing.0, subst (λ q. plan_broken s c q moment ≡ None) is plan.0))

pub judged : {s : State} {c : Command} {moment : ℕ} {cs : List RowChange} → IsAccepted s c moment (changes cs) → IsJudged s c cs
judged {s} {c} {moment} {cs} h =
    let all = groups s c moment (changes cs) h.unbroken h.plan in
    let plan = none_both (after_broken s c (applied s cs) (rows_put cs)) _ all.1.1 in
    let tables = none_both (tables_broken (applied s cs) (rows_put cs)) None plan.1 in
    let settings = none_both (settings_broken (applied s cs) (rows_put cs)) _ plan.0 in
    let policy = none_both (policy_broken (applied s cs)) _ settings.1 in
    let snapshots = none_both (snapshot_blocked s c) _ policy.1 in
    let counts = none_both (counts_broken (applied s cs)) _ snapshots.1 in
    let limits = none_both (limits_broken s (applied s cs)) None counts.1 in
    record {
      names = all.0;
      standing = all.1.0;
      settings = settings.0;
      policy = policy.0;
      snapshots = snapshots.0;
      counts = counts.0;
      limits = limits.0;
      tables = tables.0;
    }

pub entry_judged : {s : State} {c : Command} {moment : ℕ} {task : Task} → IsAccepted s c moment (starts task) → IsEntryJudged s c task moment
entry_judged {s} {c} {moment} {task} h =
    let all = groups s c moment (starts task) h.unbroken h.plan in
    let later = claiming s task moment in
    let rows = option_to_list task.claim in
    let plan = none_both (after_broken s c later rows) _ all.1.1 in
    let entry = none_both (entry_broken s) _ plan.1 in
    let tables = none_both (tables_broken later rows) None entry.1 in
    let settings = none_both (settings_broken later rows) _ plan.0 in
    let policy = none_both (policy_broken later) _ settings.1 in
    let snapshots = none_both (snapshot_blocked s c) _ policy.1 in
    let counts = none_both (counts_broken later) _ snapshots.1 in
    let limits = none_both (limits_broken s later) None counts.1 in
    record {
      names = all.0;
      standing = all.1.0;
      settings = settings.0;
      policy = policy.0;
      snapshots = snapshots.0;
      counts = counts.0;
      limits = limits.0;
      entry = entry.0;
      tables = tables.0;
    }
