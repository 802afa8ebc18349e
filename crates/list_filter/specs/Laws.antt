-- What the values of fields and the tests on them are, in the words of the objects.
use Rattle.std.specs.Prelude.{◌≡◌, ℕ, true, false, not, List, ◌++◌, Ok, Some, None, ◌↔◌, map, codes}
use Rattle.std.specs.Char.{to_ascii_lowercase}
use Rattle.size_values.specs.declared.kinds.Power.{Power}
use Rattle.config_lists.specs.Devices.{NamedDevices}
use Rattle.config_lists.specs.Entries.{KeysRise}
use Rattle.config_lists.specs.Settings.{Settings, setting}
use Rattle.records.specs.declared.rows.Instance.{Instance}
use Rattle.records.specs.declared.replies.View.TheVariants as view
use Rattle.serde_json.specs.Data.{Data}
use Rattle.serde_json.specs.Find.{get}
use Rattle.filter_texts.specs.Grammar.{Filter, IsFilter}
use Rattle.filter_texts.specs.Meaning.{meaning}
use Rattle.filter_texts.specs.Reading.{choice_read}
use Rattle.filter_texts.specs.Tokens.{tokens_of}
use Rattle.filter_texts.specs.declared.choice.Step.{Step}
use Rattle.filter_texts.specs.declared.choice.Comparison.TheVariants.{Equal, Unequal}
use Rattle.filter_texts.specs.declared.choice.Test.{Test}
use Rattle.rest_json.specs.declared.terms.Dialect.{Dialect}
use Rattle.rest_json.specs.declared.terms.Dialect.TheVariants as dialect
use Rattle.rest_json.specs.declared.terms.Terms.{Terms}
use Rattle.rest_json.specs.Views.{view_data}
use Rattle.list_filter.specs.Values.{member_of, value_of}
use Rattle.list_filter.specs.Taking.{holds, is_taken}

-- the member of a name is the one that JSON's own look-up finds
abbrev pub MembersAreLookedUp : Type 0
MembersAreLookedUp = (name : List ℕ) (shown : Data) → member_of name shown ≡ get name shown

-- A text that is read is a filter, and its steps take an object just where the filter is true of it, each of its tests by
-- the value of a field.
abbrev pub TakenAsMeant : Type 0
TakenAsMeant = (dialect : Dialect) (shown : Data) (text : List ℕ) (steps : List Step) → choice_read text ≡ Ok steps
    → (f : Filter) × IsFilter 0 (tokens_of text) f × (is_taken dialect shown steps ≡ meaning (holds dialect shown) f)

-- a field is to have a value
abbrev pub equal : List ℕ → List ℕ → Test
equal field value = record { field = field; comparison = Equal; value = value }

-- a field is to have another value or none
abbrev pub unequal : List ℕ → List ℕ → Test
unequal field value = record { field = field; comparison = Unequal; value = value }

-- `ne` holds just where `eq` does not
abbrev pub UnequalIsNotEqual : Type 0
UnequalIsNotEqual = (dialect : Dialect) (shown : Data) (field value : List ℕ)
    → holds dialect shown (unequal field value) ≡ not (holds dialect shown (equal field value))

-- where a field has no value, `eq` does not hold, and `ne` does
abbrev pub AbsentIsUnequal : Type 0
AbsentIsUnequal = (dialect : Dialect) (shown : Data) (field value : List ℕ) → value_of shown field ≡ None
    → (holds dialect shown (equal field value) ≡ false) × (holds dialect shown (unequal field value) ≡ true)

-- in the plain dialect `eq` holds just where the field has this value
abbrev pub PlainComparesBytes : Type 0
PlainComparesBytes = (shown : Data) (field value : List ℕ)
    → (holds dialect.Plain shown (equal field value) ≡ true) ↔ (value_of shown field ≡ Some value)

-- in the client's dialect `eq` holds where the value and the wanted one have the same small letters
abbrev pub ClientIgnoresCase : Type 0
ClientIgnoresCase = (shown : Data) (field found value : List ℕ) → value_of shown field ≡ Some found
    → (holds dialect.Client shown (equal field value) ≡ true)
    ↔ (map to_ascii_lowercase found ≡ map to_ascii_lowercase value)

-- `config.K` of an instance is the value of K in its own settings, `expanded_config.K` that in the expanded ones; K may
-- have dots
abbrev pub SettingsAreNamed : Type 0
SettingsAreNamed = (terms : Terms) (row : Instance) (config : Settings) (devices : NamedDevices) (power : Power)
    (key : List ℕ) → KeysRise row.config → KeysRise config
    → (value_of (view_data terms (view.Instance row config devices power)) (codes "config." ++ key)
    ≡ setting row.config key)
    × (value_of (view_data terms (view.Instance row config devices power)) (codes "expanded_config." ++ key)
    ≡ setting config key)

-- lists and objects within an instance have no value
abbrev pub ListsHaveNoValue : Type 0
ListsHaveNoValue = (terms : Terms) (row : Instance) (config : Settings) (devices : NamedDevices) (power : Power)
    → let shown = view_data terms (view.Instance row config devices power) in
    (value_of shown (codes "config") ≡ None) × (value_of shown (codes "devices") ≡ None)
    × (value_of shown (codes "expanded_config") ≡ None) × (value_of shown (codes "expanded_devices") ≡ None)
    × (value_of shown (codes "profiles") ≡ None)
