-- Where no feature changes, and the tables accept the settings, each feature reads as before.
use Rattle.std.proofs.Common.{◌≡◌, ℕ, ◌+◌, Bool, true, false, cond, not, Option, Some, None, List, [], ◌∷◌, refl, sym, ◌∙◌, ap, subst}
use Rattle.std.specs.Prelude.{Result, Ok, Err}
use Rattle.std.specs.List.{enumerate_from}
use Rattle.std.specs.Map.{lookup}
use Rattle.std.specs.Option.{option_map, option_map_or}
use Rattle.std.specs.Result.{result_ok, result_err}
use Rattle.std.specs.Str.{bytes_eq}
use Rattle.plain_lists.specs.Members.{Mem, Each}
use Rattle.plain_lists.proofs.Elements.{Each-none, Each-cons}
use Rattle.plain_lists.specs.Firsts.{first_of}
use Rattle.plain_lists.proofs.FirstLemmas.{none_both, not_mapped}
use Rattle.plain_lists.proofs.Searches.{any-none}
use Rattle.size_values.specs.Boolean.{boolean_of}
use Rattle.size_values.specs.declared.fault.ValueFault.{ValueFault}
use Rattle.config_lists.proofs.Keys.{same}
use Rattle.config_lists.specs.Entries.{value_of}
use Rattle.config_lists.specs.Settings.{Settings, setting}
use Rattle.option_tables.specs.Checks.{fault_at, keys_fault, project_fault}
use Rattle.option_tables.specs.Faults.{setting_fault}
use Rattle.option_tables.specs.Forms.{value_fault}
use Rattle.option_tables.specs.Tables.{form_of, listed_form, project_lines}
use Rattle.option_tables.specs.declared.faults.KeyFault.{KeyFault}
use Rattle.option_tables.specs.declared.faults.KeyFault.TheVariants as bad
use Rattle.option_tables.specs.declared.form.Form.TheVariants as form
use Rattle.option_tables.specs.declared.tables.Table.TheVariants as table
use Rattle.restrictions.specs.Words.{is_true, read_true}
use Rattle.records.specs.declared.rows.Project.{Project}
use Rattle.row_machine.specs.machine.Homes.{is_on}
use Rattle.row_machine.specs.machine.SettingRules.{tables_break}
use Rattle.row_machine.specs.machine.StandingRules.{feature_keys, feature_changes, changes_features}

-- a value that reads as a boolean
abbrev ReadsBoolean : List ℕ → Type 0
ReadsBoolean text = (boolean : Bool) × (boolean_of text ≡ Ok boolean)

reads : (text : List ℕ) → value_fault form.Boolean text ≡ None → ReadsBoolean text
unfolding value_fault
reads text e = at (boolean_of text) refl e where
  at : (r : Result Bool ValueFault) → boolean_of text ≡ r → result_err r ≡ None → ReadsBoolean text
  at (Ok boolean) is e = (boolean, is)
  at (Err why) is e = cc

-- the rule on each setting, by its place
abbrev fault_by : ℕ × (List ℕ × List ℕ) → Option KeyFault
fault_by x = fault_at x.0 (form_of table.Project x.1.0) x.1.1

-- a setting that the table takes as a boolean reads as one
reads_in : (config : Settings) (n : ℕ) (key text : List ℕ) → form_of table.Project key ≡ Some form.Boolean
    → first_of fault_by (enumerate_from n config) ≡ None → lookup (bytes_eq key) config ≡ Some text → ReadsBoolean text
reads_in [] n key text listed e found = cc
reads_in (x ∷ config) n key text listed e found =
    at (bytes_eq key x.0) refl found (λ rest found. reads_in config (n + 1) key text listed rest found) where
      parts : (fault_by (n, x) ≡ None) × (first_of fault_by (enumerate_from (n + 1) config) ≡ None)
      parts = none_both (fault_by (n, x)) _ e

      at : (b : Bool) → bytes_eq key x.0 ≡ b → cond b (Some x.1) (lookup (bytes_eq key) config) ≡ Some text
          → (first_of fault_by (enumerate_from (n + 1) config) ≡ None → lookup (bytes_eq key) config ≡ Some text → ReadsBoolean text)
          → ReadsBoolean text
      at false is found more = more parts.1 found
      at true is found more =
          let form_is : form_of table.Project x.0 ≡ Some form.Boolean = ap (form_of table.Project) (sym (same key x.0 is)) ∙ listed in
          let value : x.1 ≡ text = cc in
          let fault : option_map (bad.Bad n) (value_fault form.Boolean x.1) ≡ None = ap (λ o. fault_at n o x.1) (sym form_is) ∙ parts.0 in
          subst ReadsBoolean value (reads x.1 (not_mapped (bad.Bad n) (value_fault form.Boolean x.1) fault))

-- each feature is taken as a boolean
feature_form : Each (λ key. form_of table.Project key ≡ Some form.Boolean) feature_keys
unfolding form_of listed_form project_lines
feature_form = Each-cons _ refl (Each-cons _ refl (Each-cons _ refl (Each-cons _ refl (Each-cons _ refl Each-none))))

-- what the tables accept
accepted_settings : (config : Settings) → project_fault config ≡ None
    → first_of fault_by (enumerate_from 0 config) ≡ None
unfolding project_fault keys_fault
accepted_settings config e = not_mapped setting_fault _ e

pub tables-accept : (r : Project) → tables_break r.config (project_fault r.config) [] ≡ None
    → project_fault r.config ≡ None
tables-accept r e = (none_both (project_fault r.config) _ (not_mapped _ _ e)).0

feature_reads : (config : Settings) (key text : List ℕ) → Mem key feature_keys → project_fault config ≡ None
    → setting config key ≡ Some text → ReadsBoolean text
unfolding value_of
feature_reads config key text m e found =
    reads_in config 0 key text (feature_form.at key m) (accepted_settings config e) found

reads_as : (text : List ℕ) (boolean : Bool) → boolean_of text ≡ Ok boolean → is_true text ≡ boolean
unfolding is_true
reads_as text boolean is = ap read_true is

-- whether a feature changes, by its new value
abbrev changes_by : Settings → List ℕ → Option (List ℕ) → Bool
changes_by old key None = is_on old key
changes_by old key (Some text) =
    option_map_or (λ boolean. cond boolean (not (is_on old key)) (is_on old key)) (result_ok (boolean_of text)) false

-- Each feature reads as before where none changes and the tables accept the settings.
pub features-same : (old new : Project) → changes_features old new ≡ false → project_fault new.config ≡ None
    → Each (λ key. is_on new.config key ≡ is_on old.config key) feature_keys
features-same old new stays accepted = record {
  at = λ key m. by_setting key m (setting new.config key) refl
      ((any-none (feature_changes old.config new.config) feature_keys stays).at key m);
} where
  by_boolean : (boolean was : Bool) → cond boolean (not was) was ≡ false → boolean ≡ was
  by_boolean true true e = refl
  by_boolean true false e = cc
  by_boolean false true e = cc
  by_boolean false false e = refl

  by_setting : (key : List ℕ) → Mem key feature_keys → (o : Option (List ℕ)) → setting new.config key ≡ o
      → changes_by old.config key o ≡ false
      → is_on new.config key ≡ is_on old.config key
  by_setting key m None is fails = ap (λ o. option_map_or is_true o false) is ∙ sym fails
  by_setting key m (Some text) is fails =
      let read = feature_reads new.config key text m accepted is in
      let same_boolean : read.0 ≡ is_on old.config key = by_boolean read.0 (is_on old.config key)
      (ap (λ r. option_map_or (λ boolean. cond boolean (not (is_on old.config key)) (is_on old.config key)) (result_ok r) false) (sym read.1) ∙ fails)
      in
      ap (λ o. option_map_or is_true o false) is ∙ reads_as text read.0 read.1 ∙ same_boolean
