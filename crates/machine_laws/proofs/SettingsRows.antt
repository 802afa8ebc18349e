-- Settings of rows: what the tables say of a row, and of the rows that a success puts.
use Rattle.std.proofs.Common.{◌≡◌, Bool, true, false, Option, Some, None, List, [], ◌∷◌, ◌++◌, refl, sym, ◌∙◌, ap, subst}
use Rattle.std.specs.Prelude.{map}
use Rattle.std.specs.Option.{option_map, option_map_or, option_or, option_to_list}
use Rattle.plain_lists.specs.Members.{Mem, Each}
use Rattle.plain_lists.specs.Firsts.{first_of}
use Rattle.plain_lists.proofs.Elements.{Each-none, Each-cons, Each-map}
use Rattle.plain_lists.proofs.FirstLemmas.{none_both, not_mapped, first_of-none}
use Rattle.size_values.specs.declared.kinds.Action.{Action}
use Rattle.size_values.specs.declared.kinds.Action.TheVariants as action
use Rattle.size_values.specs.declared.kinds.Deed.{Deed}
use Rattle.size_values.specs.declared.kinds.Deed.TheVariants as deed
use Rattle.config_lists.specs.Settings.{Settings}
use Rattle.config_lists.specs.Devices.{NamedDevices}
use Rattle.option_tables.specs.Checks.{devices_fault, instance_fault, project_fault}
use Rattle.option_tables.specs.declared.tables.Scope.TheVariants as scope
use Rattle.records.specs.declared.rows.Instance.{Instance}
use Rattle.records.specs.declared.rows.Snapshot.{Snapshot}
use Rattle.records.specs.declared.rows.Row.{Row}
use Rattle.records.specs.declared.rows.Row.TheVariants as row
use Rattle.row_machine.specs.declared.changes.RowChange.{RowChange}
use Rattle.row_machine.specs.declared.changes.RowChange.TheVariants as change
use Rattle.row_machine.specs.machine.Task.{Task}
use Rattle.row_machine.specs.machine.State.{State}
use Rattle.row_machine.specs.machine.Changes.{removal, rows_put}
use Rattle.row_machine.specs.machine.Claims.{claimed_instance, judged_instances}
use Rattle.row_machine.specs.machine.Holders.{names_profile}
use Rattle.machine_laws.proofs.LimitsBroken.{Mem-filter}
use Rattle.records.specs.declared.rows.Profile.{Profile}
use Rattle.row_machine.specs.machine.SettingRules.{naming, tables_break, setting_refusal, scope_of, root_missing, instance_settings, profile_settings, row_settings, settings_broken}
use Rattle.row_machine.specs.opening.Opening.{settings_invalid, devices_invalid, rule_of}
use Rattle.row_machine.specs.machine.Operations.{success_changes, renames_instance}
use Rattle.row_machine.specs.machine.Asked.{snapshots_of}
use Rattle.row_machine.specs.machine.Rows.{instance_named, snapshot_named}
use Rattle.machine_laws.proofs.ExpansionsNamed.{claim-is}

-- what the tables say of a row, in any state
pub record IsTabled (s : State) (r : Row) : Type 0 where
  pub settings : settings_invalid s r ≡ None
  pub devices : devices_invalid s r ≡ None

-- no row of the state is read
pub accepted-any : (s t : State) (r : Row) → IsTabled s r → IsTabled t r
accepted-any s t (row.Project r) h = record { settings = h.settings; devices = h.devices }
accepted-any s t (row.Profile r) h = record { settings = h.settings; devices = h.devices }
accepted-any s t (row.Network r) h = record { settings = h.settings; devices = h.devices }
accepted-any s t (row.Pool r) h = record { settings = h.settings; devices = h.devices }
accepted-any s t (row.Volume r) h = record { settings = h.settings; devices = h.devices }
accepted-any s t (row.Instance r) h = record { settings = h.settings; devices = h.devices }
accepted-any s t (row.Snapshot r) h = record { settings = h.settings; devices = h.devices }

-- ---- what the rules on settings say

-- settings and devices by themselves
tables-parts : (config : Settings) (fault : Option _) (devices : NamedDevices) → tables_break config fault devices ≡ None
    → (tables_break config fault [] ≡ None) × (tables_break [] None devices ≡ None)
unfolding devices_fault
tables-parts config fault devices h =
    let both = none_both fault (devices_fault devices) (not_mapped (setting_refusal config devices) (option_or fault (devices_fault devices)) h) in
    (ap (λ f. option_map (setting_refusal config []) (option_or f None)) both.0, ap (option_map (setting_refusal [] devices)) both.1)

by-tables : (s : State) (r : Row) → row_settings s r ≡ None → IsTabled s r
unfolding row_settings profile_settings instance_settings
by-tables s (row.Project r) h = record { settings = ap rule_of (none_both (tables_break r.config (project_fault r.config) []) _ h).0; devices = refl }
by-tables s (row.Profile r) h =
    let own = none_both (profile_settings s r) _ h in
    let tables = none_both (tables_break r.config (instance_fault r.config scope.Any) r.devices) _ own.0 in
    let parts = tables-parts r.config (instance_fault r.config scope.Any) r.devices tables.0 in
    record { settings = ap rule_of parts.0; devices = ap rule_of parts.1 }
by-tables s (row.Network r) h = record { settings = ap rule_of h; devices = refl }
by-tables s (row.Pool r) h = record { settings = ap rule_of h; devices = refl }
by-tables s (row.Volume r) h = record { settings = ap rule_of h; devices = refl }
by-tables s (row.Instance r) h =
    let tables = none_both (tables_break r.config (instance_fault r.config (scope_of r.kind)) r.devices) _ h in
    let parts = tables-parts r.config (instance_fault r.config (scope_of r.kind)) r.devices tables.0 in
    record { settings = ap rule_of parts.0; devices = ap rule_of parts.1 }
by-tables s (row.Snapshot r) h = record { settings = refl; devices = refl }

-- each row that is put is accepted
pub puts-accepted : (s : State) (rows : List Row) → settings_broken s rows ≡ None → Each (IsTabled s) rows
unfolding settings_broken
puts-accepted s rows h = Each-map (λ r none. by-tables s r none) (first_of-none (row_settings s) rows h)

-- an instance that is judged has its root disk
pub instance-root : (s : State) (i : Instance) → instance_settings s i ≡ None → root_missing s i ≡ None
unfolding instance_settings
instance-root s i h =
    (none_both (root_missing s i) _ (none_both (tables_break i.config (instance_fault i.config (scope_of i.kind)) i.devices) _ h).1).0

-- an instance that is put has its root disk
pub put-root : (s : State) (rows : List Row) (i : Instance) → settings_broken s rows ≡ None → Mem (row.Instance i) rows → root_missing s i ≡ None
unfolding settings_broken row_settings
put-root s rows i h m = instance-root s i ((first_of-none (row_settings s) rows h).at (row.Instance i) m)

-- an instance that names a profile which is put has its root disk
pub named-root : (s : State) (rows : List Row) (r : Profile) (i : Instance) → settings_broken s rows ≡ None → Mem (row.Profile r) rows
    → Mem i (judged_instances s) → names_profile s r.project r.name i ≡ true → root_missing s i ≡ None
unfolding settings_broken row_settings
named-root s rows r i h m judged names =
    let own = none_both (profile_settings s r) _ ((first_of-none (row_settings s) rows h).at (row.Profile r) m) in
    let of = none_both (first_of (instance_settings s) (naming s r)) None own.1 in
    instance-root s i ((first_of-none (instance_settings s) (naming s r) of.0).at i (Mem-filter (names_profile s r.project r.name) i (judged_instances s) judged names))

-- ---- what a success puts

-- rows that are put
pub rows-put_all : (rows : List Row) → rows_put (map change.Put rows) ≡ rows
rows-put_all [] = refl
rows-put_all (r ∷ rows) = ap (λ rs. r ∷ rs) (rows-put_all rows)

rows-removed : (rows : List Row) (more : List RowChange) → rows_put (map removal rows ++ more) ≡ rows_put more
rows-removed [] more = refl
rows-removed (r ∷ rows) more = rows-removed rows more

none-removed : (rows : List Row) → rows_put (map removal rows) ≡ []
none-removed [] = refl
none-removed (r ∷ rows) = none-removed rows

-- a fact on rows that the claim meets, and each snapshot
module _ (P : Row → Type 0) (snapshots : (r : Snapshot) → P (row.Snapshot r)) (s : State) where
  claimed : (c : Option Row) → ((r : Row) → c ≡ Some r → P r) → Each P (rows_put (map change.Put (option_to_list c)))
  claimed None h = Each-none
  claimed (Some r) h = Each-cons P (h r refl) Each-none

  of-snapshots : (f : Snapshot → Snapshot) (rs : List Snapshot) → Each P (map (λ r. row.Snapshot (f r)) rs)
  of-snapshots f [] = Each-none
  of-snapshots f (r ∷ rs) = Each-cons P (snapshots (f r)) (of-snapshots f rs)

  removed : (rows : List Row) → Each P (rows_put (map removal rows))
  removed rows = subst (Each P) (sym (none-removed rows)) Each-none

  acts : (task : Task) (a : Action) (ephemeral : Bool) → Each P (rows_put (success_changes s (record task { deed = deed.Act a ephemeral })))
  acts task action.Stop true = removed
      (map row.Snapshot (snapshots_of s task.project task.target.name) ++ map row.Instance (option_to_list (instance_named s.instances task.project task.target.name)))
  acts task action.Stop false = Each-none
  acts task action.Start ephemeral = Each-none
  acts task action.Restart ephemeral = Each-none
  acts task action.Freeze ephemeral = Each-none
  acts task action.Unfreeze ephemeral = Each-none

  renamed : (task : Task) (i : Option Instance) → ((j : Instance) → i ≡ Some j → P (row.Instance j)) → Each P (rows_put (option_map_or (renames_instance s task) i []))
  renamed task None h = Each-none
  renamed task (Some i) h = subst (Each P)
      (sym (rows-removed (map row.Snapshot (snapshots_of s task.project task.target.name) ++ map row.Instance (option_to_list (instance_named s.instances task.project task.target.name))) _
      ∙ rows-put_all _))
      (Each-cons P (h i refl) (of-snapshots (λ r. record r { instance = i.name; project = i.project }) (snapshots_of s task.project task.target.name)))

  by-deed : (task : Task) (d : Deed) → ((r : Row) → task.claim ≡ Some r → P r) → Each P (rows_put (success_changes s (record task { deed = d })))
  by-deed task deed.Create h = claimed task.claim h
  by-deed task deed.Copy h = claimed task.claim h
  by-deed task deed.Update h = claimed task.claim h
  by-deed task deed.Restore h = claimed task.claim h
  by-deed task deed.Rename h = renamed task (claimed_instance task) (λ j is. h (row.Instance j) (claim-is task j is))
  by-deed task deed.Delete h = removed
      (map row.Snapshot (snapshots_of s task.project task.target.name) ++ map row.Instance (option_to_list (instance_named s.instances task.project task.target.name)))
  by-deed task (deed.Act a ephemeral) h = acts task a ephemeral
  by-deed task deed.Snap h = claimed task.claim h
  by-deed task deed.Unsnap h = removed (map row.Snapshot (option_to_list (snapshot_named s.snapshots task.project task.target.instance task.target.name)))
  by-deed task deed.CopyVolume h = claimed task.claim h

  -- each row that a success puts meets it
  pub success-puts : (task : Task) → ((r : Row) → task.claim ≡ Some r → P r) → Each P (rows_put (success_changes s task))
  success-puts task h = by-deed task task.deed h
