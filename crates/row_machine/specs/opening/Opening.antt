-- Opening: the state that kept entries give, or why they give none.
use Rattle.std.specs.Prelude.{ℕ, ◌==◌, Bool, false, not, ◌&&◌, ◌||◌, List, [], ◌∷◌, filter, slice_get, fold, Option}
use Rattle.std.specs.Prelude.{Some, None, is_none, Result, Ok, Err, if◌then◌else◌, codes, unwrap_or, option_map}
use Rattle.std.specs.Prelude.{option_and_then}
use Rattle.std.specs.List.{list_all}
use Rattle.std.specs.Str.{bytes_eq}
use Rattle.row_machine.specs.Words.{first, first_of, Entry, ObjectKind, instance_fault, project_fault, network_fault}
use Rattle.row_machine.specs.Words.{pool_fault, volume_fault, parts, are_profiles, Rule, Refusal, Row, Damaged}
use Rattle.row_machine.specs.Words.kind
use Rattle.row_machine.specs.Words.scope
use Rattle.row_machine.specs.Words.rule
use Rattle.row_machine.specs.Words.row
use Rattle.records.specs.declared.rows.Project.{Project}
use Rattle.row_codec.specs.Spelling.{key_of, kind_of}
use Rattle.row_codec.specs.Reading.{row_of}
use Rattle.row_machine.specs.machine.State.{State, empty_state}
use Rattle.row_machine.specs.machine.Rows.{default_name, project_named, profile_named, pool_named, instance_named}
use Rattle.row_machine.specs.machine.Homes.{home_of, is_on}
use Rattle.row_machine.specs.machine.Changes.{with_row}
use Rattle.row_machine.specs.machine.Claims.{project_of_row}
use Rattle.row_machine.specs.shown.Urls.{target_of}
use Rattle.row_machine.specs.machine.NewRows.{default_profile}
use Rattle.row_machine.specs.machine.StandingRules.{feature_keys}
use Rattle.row_machine.specs.machine.SettingRules.{tables_break, scope_of, root_missing, profile_missing, devices_miss}
use Rattle.row_machine.specs.machine.Expansions.{expanded_of}
use Rattle.row_machine.specs.machine.PolicyRules.{forbids_profile, forbids_instance}
use Rattle.row_machine.specs.machine.LimitRules.{instance_without_amount, volume_lacks_amount, part_exceeds}
use Rattle.row_machine.specs.machine.LimitRules.{networks_exceed, pools_exceed}
use Rattle.row_machine.specs.machine.TableRules.{row_kinds, too_large}
use Rattle.row_machine.specs.machine.Kinds.{kind_number, cap_of}

-- what opening gives
pub data Opening : Type 0 where
  opened : State → Opening
  damaged : ℕ → List ℕ → Opening
  broken : Rule → ℕ → List ℕ → Opening

-- ---- a server without entries

-- the project `default`, which has all features
abbrev pub default_project : Project
default_project = record {
  name = default_name;
  description = [];
  config =
      (codes "features.images", codes "true")
      ∷ (codes "features.networks", codes "true")
      ∷ (codes "features.profiles", codes "true")
      ∷ (codes "features.storage.buckets", codes "true")
      ∷ (codes "features.storage.volumes", codes "true")
      ∷ [];
}

-- the rows of a server without entries
abbrev pub first_rows : List Row
first_rows = row.Project default_project ∷ row.Profile (default_profile default_name) ∷ []

-- ---- rows

-- the rows of entries, or the first entry that is none
abbrev pub rows_in : List Entry → Result (List Row) Entry
rows_in [] = Ok []
rows_in (entry ∷ entries) = one (row_of entry) (rows_in entries) where
  one : Result Row Damaged → Result (List Row) Entry → Result (List Row) Entry
  one (Err why) rest = Err entry
  one (Ok row) (Ok rows) = Ok (row ∷ rows)
  one (Ok row) (Err other) = Err other

-- a state with these rows alone: every instance is stopped, and there are no operations and no notices
abbrev pub with_rows : List Row → State
with_rows rows = fold (λ state row. with_row row state) empty_state rows

-- ---- the rules on rows, each told of one row

-- this rule, where it is broken
abbrev pub if_so : Bool → Rule → Option Rule
if_so breaks rule = if breaks then Some rule else None

-- a row's project is missing, or is not its own home for rows of this kind
abbrev pub home_missing : State → Row → Option Rule
home_missing state row = if_so (lacks_home (target_of row).kind) rule.N1 where
  lacks_home : ObjectKind → Bool
  lacks_home kind.Project = false
  lacks_home kind.Pool = false
  lacks_home kind =
      is_none (project_named state.projects (project_of_row row))
      || not (bytes_eq (home_of state.projects (project_of_row row) kind) (project_of_row row))

-- a volume's pool or a snapshot's instance is missing
abbrev pub parent_row_missing : State → Row → Option Rule
parent_row_missing state (row.Volume volume) = if_so (is_none (pool_named state.pools volume.pool)) rule.N2
parent_row_missing state (row.Snapshot snapshot) =
    if_so (is_none (instance_named state.instances snapshot.project snapshot.instance)) rule.N2
parent_row_missing state other = None

-- an instance or a snapshot names too many profiles, or one twice
abbrev pub profiles_malformed : State → Row → Option Rule
profiles_malformed state (row.Instance instance) = if_so (not (are_profiles instance.profiles)) rule.N3
profiles_malformed state (row.Snapshot snapshot) = if_so (not (are_profiles snapshot.profiles)) rule.N3
profiles_malformed state other = None

-- whether a project has every feature
abbrev pub has_all_features : Project → Bool
has_all_features project = list_all (is_on project.config) feature_keys

-- the project `default` lacks a feature, or a project with profiles of its own has no profile `default`
abbrev pub defaults_missing : State → Row → Option Rule
defaults_missing state (row.Project project) =
    if_so
    ((bytes_eq project.name default_name && not (has_all_features project))
    || (is_on project.config (codes "features.profiles")
    && is_none (profile_named state.profiles project.name default_name)))
    rule.B3
defaults_missing state other = None

-- the rule of a refusal
abbrev pub rule_of : Option Refusal → Option Rule
rule_of refusal = option_map (λ refused. refused.rule) refusal

-- a setting is refused by the tables
abbrev pub settings_invalid : State → Row → Option Rule
settings_invalid state (row.Project project) = rule_of (tables_break project.config (project_fault project.config) [])
settings_invalid state (row.Profile profile) =
    rule_of (tables_break profile.config (instance_fault profile.config scope.Any) [])
settings_invalid state (row.Network network) = rule_of (tables_break network.config (network_fault network.config) [])
settings_invalid state (row.Pool pool) = rule_of (tables_break pool.config (pool_fault pool.config) [])
settings_invalid state (row.Volume volume) = rule_of (tables_break volume.config (volume_fault volume.config) [])
settings_invalid state (row.Instance instance) =
    rule_of (tables_break instance.config (instance_fault instance.config (scope_of instance.kind)) [])
settings_invalid state (row.Snapshot snapshot) = None

-- a device is refused by the tables
abbrev pub devices_invalid : State → Row → Option Rule
devices_invalid state (row.Profile profile) = rule_of (tables_break [] None profile.devices)
devices_invalid state (row.Instance instance) = rule_of (tables_break [] None instance.devices)
devices_invalid state other = None

-- an instance has not exactly one root disk
abbrev pub root_disk_missing : State → Row → Option Rule
root_disk_missing state (row.Instance instance) = rule_of (root_missing state instance)
root_disk_missing state other = None

-- what a profile or an instance names is missing
abbrev pub named_row_missing : State → Row → Option Rule
named_row_missing state (row.Profile profile) = rule_of (devices_miss state profile.project profile.devices)
named_row_missing state (row.Instance instance) =
    rule_of
    (first
    (profile_missing state instance
    ∷ devices_miss state instance.project (expanded_of state.projects state.profiles instance).devices
    ∷ []))
named_row_missing state other = None

-- the policy of its project forbids a profile or an instance something
abbrev pub forbidden : ℕ → State → Row → Option Rule
forbidden number state (row.Profile profile) =
    rule_of (option_and_then (λ project. forbids_profile project number profile)
    (project_named state.projects profile.project))
forbidden number state (row.Instance instance) =
    rule_of (option_and_then (λ project. forbids_instance state project number instance)
    (project_named state.projects instance.project))
forbidden number state other = None

-- an instance or a volume is not countable for the limits of its project
abbrev pub row_lacks_amount : State → Row → Option Rule
row_lacks_amount state (row.Volume volume) =
    rule_of
    (option_and_then (λ project. volume_lacks_amount project volume) (project_named state.projects volume.project))
row_lacks_amount state (row.Instance instance) =
    rule_of (option_and_then (λ project. instance_without_amount state project instance)
    (project_named state.projects instance.project))
row_lacks_amount state other = None

-- the rules in their order
abbrev pub row_rules : List (State → Row → Option Rule)
row_rules =
    home_missing
    ∷ parent_row_missing
    ∷ profiles_malformed
    ∷ defaults_missing
    ∷ settings_invalid
    ∷ devices_invalid
    ∷ root_disk_missing
    ∷ named_row_missing
    ∷ forbidden 1
    ∷ forbidden 2
    ∷ forbidden 3
    ∷ forbidden 4
    ∷ forbidden 5
    ∷ forbidden 6
    ∷ forbidden 7
    ∷ row_lacks_amount
    ∷ []

-- ---- the first rule that the rows break, with the row

-- a rule that is broken at a row, which its kind and key tell
abbrev pub broken_at : Row → Rule → Opening
broken_at row why = broken why (kind_of row) (key_of row)

-- the project `default` is missing
abbrev pub default_missing : State → Option Opening
default_missing state =
    if is_none (project_named state.projects default_name) then Some (broken rule.N1 1 default_name) else None

-- the first row that breaks this rule
abbrev pub row_breaks : State → List Row → (State → Row → Option Rule) → Option Opening
row_breaks state rows rule = first_of (λ row. option_map (broken_at row) (rule state row)) rows

-- a project's usage is above a limit of its own, on a pool after all others
abbrev pub limit_breaks : State → List Row → Option Opening
limit_breaks state rows = first
    (first_of (λ part. first_of (λ project. at project (part_exceeds state state part project)) state.projects) parts
    ∷ first_of (λ project. at project (networks_exceed state state project)) state.projects
    ∷ first_of (λ project. at project (pools_exceed state state project)) state.projects
    ∷ []) where
      at : Project → Option Refusal → Option Opening
      at project refusal = option_map (λ refused. broken refused.rule 1 project.name) refusal

-- the first row of a kind after the last one that there may be
abbrev pub past_cap : List Row → ObjectKind → Option Opening
past_cap rows which =
    option_map (λ row. broken_at row rule.C1)
    (slice_get (filter (λ row. kind_of row == kind_number which) rows) (cap_of which))

-- the first row that is too large
abbrev pub size_breaks : List Row → Option Opening
size_breaks rows = first_of (λ row. option_map (λ why. broken_at row rule.C2) (too_large row)) rows

-- the first rule that the rows break, with the row
unfoldable pub rows_break : State → List Row → Option Opening
rows_break state rows = first
    (default_missing state
    ∷ first_of (row_breaks state rows) row_rules
    ∷ limit_breaks state rows
    ∷ first_of (past_cap rows) row_kinds
    ∷ size_breaks rows
    ∷ [])

-- what rows open to
abbrev pub opening_with : List Row → Opening
opening_with rows = unwrap_or (rows_break (with_rows rows) rows) (opened (with_rows rows))

-- what the rows of entries open to
abbrev pub opening_by : Result (List Row) Entry → Opening
opening_by (Ok rows) = opening_with rows
opening_by (Err entry) = damaged entry.kind entry.key

-- What entries open to, in the order of kind and key: a server without any gets its first rows.
unfoldable pub opening_of : List Entry → Opening
opening_of [] = opened (with_rows first_rows)
opening_of (entry ∷ entries) = opening_by (rows_in (entry ∷ entries))
