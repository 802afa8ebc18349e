use Rattle.std.specs.Prelude.{ℕ, ◌==◌, Bool, true, false, List, [], ◌∷◌, length, Option, Result, is_none, unwrap_or}
use Rattle.std.specs.Prelude.{find, codes}
use Rattle.std.specs.Option.{option_map}
use Rattle.std.specs.Str.{str_eq_ignore_ascii_case}
use Rattle.size_values.specs.Reading.{reading, fault_if}
use Rattle.size_values.specs.declared.fault.ValueFault.{ValueFault}
use Rattle.size_values.specs.declared.fault.ValueFault.TheVariants.{Empty, OutOfRange}

-- the words for true and false
abbrev pub booleans : List (List ℕ × Bool)
booleans =
    (codes "true", true) ∷ (codes "1", true) ∷ (codes "yes", true) ∷ (codes "on", true)
    ∷ (codes "false", false) ∷ (codes "0", false) ∷ (codes "no", false) ∷ (codes "off", false) ∷ []

-- the boolean that a text names in any ASCII case, if it names one
abbrev pub boolean_named : List ℕ → Option Bool
boolean_named text = option_map (λ row. row.1) (find (λ row. str_eq_ignore_ascii_case row.0 text) booleans)

-- The boolean that a text names, or the first fault.
unfoldable pub boolean_of : List ℕ → Result Bool ValueFault
boolean_of text =
    reading (unwrap_or (boolean_named text) false) (
    fault_if (length text == 0) Empty
    ∷ fault_if (is_none (boolean_named text)) OutOfRange
    ∷ [])
