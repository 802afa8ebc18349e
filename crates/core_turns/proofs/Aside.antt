-- Nothing that the machine reads of a state, and no rule, depends on its notices.
use Rattle.std.proofs.Common.{◌≡◌, ℕ, List, [], ◌∷◌, Option, None, refl, ap, ◌∙◌}
use Rattle.std.specs.Option.{option_to_list}
use Rattle.plain_lists.specs.Firsts.{first}
use Rattle.size_values.specs.declared.kinds.ObjectKind.TheVariants as kind
use Rattle.records.specs.declared.commands.Command.{Command}
use Rattle.records.specs.declared.commands.What.{What}
use Rattle.records.specs.declared.refusals.Refusal.{Refusal}
use Rattle.records.specs.declared.rows.Row.{Row}
use Rattle.records.specs.declared.rows.Row.TheVariants as row
use Rattle.row_machine.specs.declared.changes.RowChange.{RowChange}
use Rattle.row_machine.specs.declared.changes.RowChange.TheVariants as change
use Rattle.row_machine.specs.machine.Changes.{applied, changed, rows_put}
use Rattle.row_machine.specs.machine.Claims.{judged_instances, judged_volumes, amounts_of_instance, part_of_instance, part_of_share, share_of}
use Rattle.row_machine.specs.machine.Holders.{busy_with, holder_of, first_user_of}
use Rattle.row_machine.specs.machine.LimitRules.{instance_without_amount, counts_broken, part_exceeds, networks_exceed, pools_exceed, limits_broken}
use Rattle.row_machine.specs.machine.NameRules.{project_missing, what_is_missing, name_broken}
use Rattle.row_machine.specs.machine.Plans.{Plan, nothing, changes, starts, plan_of}
use Rattle.row_machine.specs.machine.PolicyRules.{forbids_instance, policy_broken, snapshot_blocked}
use Rattle.row_machine.specs.machine.Expectations.{not_as_expected}
use Rattle.row_machine.specs.machine.Rules.{names_broken, standing_broken, after_broken, plan_broken, broken}
use Rattle.row_machine.specs.machine.SettingRules.{root_missing, profile_missing, devices_miss, instance_settings, profile_settings, row_settings, settings_broken}
use Rattle.row_machine.specs.machine.StandingRules.{instance_busy, wrong_state, object_protected, object_used, project_occupied, profile_held}
use Rattle.row_machine.specs.machine.State.{State}
use Rattle.row_machine.specs.machine.TableRules.{cancel_broken, entry_broken, tables_broken}
use Rattle.row_machine.specs.machine.Usage.{loads, usage_of, networks_of}
use Rattle.row_machine.specs.machine.Operations.{claiming}
use Rattle.row_machine.specs.shown.Views.{used_by, usage_view, read}
use Rattle.event_hub.specs.Recent.{Recent, with_recent}

-- ---- changes of rows

changed-aside : (c : RowChange) (s : State) (r : Recent) → changed (with_recent r s) c ≡ with_recent r (changed s c)
changed-aside (change.Put (row.Project x)) s r = refl
changed-aside (change.Put (row.Profile x)) s r = refl
changed-aside (change.Put (row.Network x)) s r = refl
changed-aside (change.Put (row.Pool x)) s r = refl
changed-aside (change.Put (row.Volume x)) s r = refl
changed-aside (change.Put (row.Instance x)) s r = refl
changed-aside (change.Put (row.Snapshot x)) s r = refl
changed-aside (change.Remove kind.Project key) s r = refl
changed-aside (change.Remove kind.Profile key) s r = refl
changed-aside (change.Remove kind.Network key) s r = refl
changed-aside (change.Remove kind.Pool key) s r = refl
changed-aside (change.Remove kind.Volume key) s r = refl
changed-aside (change.Remove kind.Instance key) s r = refl
changed-aside (change.Remove kind.Snapshot key) s r = refl
changed-aside (change.Remove kind.Operation key) s r = refl

pub applied-aside : (cs : List RowChange) (s : State) (r : Recent) → applied (with_recent r s) cs ≡ with_recent r (applied s cs)
applied-aside [] s r = refl
applied-aside (c ∷ cs) s r = ap (λ t. applied t cs) (changed-aside c s r) ∙ applied-aside cs (changed s c) r

-- ---- the rules

names-aside : (s : State) (c : Command) (r : Recent) → names_broken (with_recent r s) c ≡ names_broken s c
unfolding names_broken project_missing what_is_missing not_as_expected name_broken
names-aside s c r = refl

standing-aside : (s : State) (c : Command) (r : Recent) → standing_broken (with_recent r s) c ≡ standing_broken s c
unfolding standing_broken instance_busy wrong_state object_protected object_used project_occupied profile_held busy_with holder_of first_user_of
standing-aside s c r = refl

settings-aside : (s : State) (rows : List Row) (r : Recent) → settings_broken (with_recent r s) rows ≡ settings_broken s rows
unfolding settings_broken row_settings profile_settings instance_settings devices_miss profile_missing root_missing judged_instances
settings-aside s rows r = refl

policy-aside : (s : State) (r : Recent) → policy_broken (with_recent r s) ≡ policy_broken s
unfolding policy_broken forbids_instance judged_instances
policy-aside s r = refl

blocked-aside : (s : State) (c : Command) (r : Recent) → snapshot_blocked (with_recent r s) c ≡ snapshot_blocked s c
unfolding snapshot_blocked
blocked-aside s c r = refl

counts-aside : (s : State) (r : Recent) → counts_broken (with_recent r s) ≡ counts_broken s
unfolding counts_broken instance_without_amount judged_instances judged_volumes
counts-aside s r = refl

limits-aside : (s t : State) (r : Recent) → limits_broken (with_recent r s) (with_recent r t) ≡ limits_broken s t
unfolding limits_broken part_exceeds networks_exceed pools_exceed usage_of networks_of loads share_of amounts_of_instance part_of_share part_of_instance
limits-aside s t r = refl

tables-aside : (s : State) (rows : List Row) (r : Recent) → tables_broken (with_recent r s) rows ≡ tables_broken s rows
unfolding tables_broken
tables-aside s rows r = refl

entry-aside : (s : State) (r : Recent) → entry_broken (with_recent r s) ≡ entry_broken s
unfolding entry_broken
entry-aside s r = refl

cancel-aside : (s : State) (w : What) (r : Recent) → cancel_broken (with_recent r s) w ≡ cancel_broken s w
unfolding cancel_broken
cancel-aside s w r = refl

pub plan-aside : (s : State) (c : Command) (moment : ℕ) (r : Recent) → plan_of (with_recent r s) c moment ≡ plan_of s c moment
unfolding plan_of
plan-aside s c moment r = refl

pub read-aside : (s : State) (project : List ℕ) (w : What) (r : Recent) → read (with_recent r s) project w ≡ read s project w
unfolding read usage_view used_by usage_of networks_of loads share_of amounts_of_instance part_of_share part_of_instance
read-aside s project w r = refl

-- ---- all of them

after-aside : (s t : State) (c : Command) (rows : List Row) (r : Recent) → after_broken (with_recent r s) c (with_recent r t) rows ≡ after_broken s c t rows
after-aside s t c rows r = λ i. first
    (settings-aside t rows r i
    ∷ policy-aside t r i
    ∷ blocked-aside s c r i
    ∷ counts-aside t r i
    ∷ limits-aside s t r i
    ∷ [])

-- what the state after a change breaks
judged-aside : (s t : State) (c : Command) (rows : List Row) (number number' : Option Refusal) (r : Recent) → number' ≡ number
    → first (after_broken (with_recent r s) c (with_recent r t) rows ∷ number' ∷ tables_broken (with_recent r t) rows ∷ [])
    ≡ first (after_broken s c t rows ∷ number ∷ tables_broken t rows ∷ [])
judged-aside s t c rows number number' r same = λ i. first (after-aside s t c rows r i ∷ same i ∷ tables-aside t rows r i ∷ [])

plan_broken-aside : (s : State) (c : Command) (p : Plan) (moment : ℕ) (r : Recent) → plan_broken (with_recent r s) c p moment ≡ plan_broken s c p moment
plan_broken-aside s c nothing moment r = cancel-aside s c.what r
plan_broken-aside s c (changes cs) moment r =
    ap (λ t. first (after_broken (with_recent r s) c t (rows_put cs) ∷ None ∷ tables_broken t (rows_put cs) ∷ [])) (applied-aside cs s r)
    ∙ judged-aside s (applied s cs) c (rows_put cs) None None r refl
plan_broken-aside s c (starts task) moment r =
    judged-aside s (claiming s task moment) c (option_to_list task.claim) (entry_broken s) (entry_broken (with_recent r s)) r (entry-aside s r)

pub broken-aside : (s : State) (c : Command) (moment : ℕ) (r : Recent) → broken (with_recent r s) c moment ≡ broken s c moment
unfolding broken
broken-aside s c moment r = λ i. first
    (names-aside s c r i
    ∷ standing-aside s c r i
    ∷ (ap (λ p. plan_broken (with_recent r s) c p moment) (plan-aside s c moment r) ∙ plan_broken-aside s c (plan_of s c moment) moment r) i
    ∷ [])
