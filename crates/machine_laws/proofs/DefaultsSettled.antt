-- What the rules on settings say of the first row that changes put.
use Rattle.std.proofs.Common.{◌≡◌, None, List, [], ◌∷◌}
use Rattle.plain_lists.proofs.FirstLemmas.{none_both}
use Rattle.option_tables.specs.Checks.{project_fault}
use Rattle.records.specs.declared.rows.Project.{Project}
use Rattle.records.specs.declared.rows.Row.{Row}
use Rattle.records.specs.declared.rows.Row.TheVariants as row
use Rattle.row_machine.specs.machine.State.{State}
use Rattle.row_machine.specs.machine.SettingRules.{settings_broken, row_settings, tables_break}

-- the first row that is put keeps the rules on settings
pub first-settled : (t : State) (r : Row) (rows : List Row) → settings_broken t (r ∷ rows) ≡ None
    → row_settings t r ≡ None
unfolding settings_broken
first-settled t r rows e = (none_both (row_settings t r) _ e).0

pub project-accepted : (t : State) (r : Project) → row_settings t (row.Project r) ≡ None
    → tables_break r.config (project_fault r.config) [] ≡ None
unfolding row_settings
project-accepted t r e = (none_both (tables_break r.config (project_fault r.config) []) _ e).0
