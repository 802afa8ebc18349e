-- What is printed.
use Rattle.std.specs.Prelude.{ℕ, ◌-◌, ◌==◌, max, Bool, true, false, List, [], ◌∷◌, ◌++◌, length, Option, Some, None, codes, decimal, replicate}
use Rattle.std.specs.List.{flat_map}
use Rattle.std.specs.Str.{byte}
use Rattle.std.specs.List.{list_any}
use Rattle.std.specs.Option.{option_and_then}
use Rattle.serde_json.specs.Data.{Data, Members, member, no_members}
use Rattle.serde_json.specs.Find.{as_number, as_object, as_str, as_u64}
use Rattle.serde_json.specs.Written.{compact_text}
use Rattle.client_words.specs.declared.words.Format.{Format}
use Rattle.client_words.specs.declared.words.Format.TheVariants.{Json, Plain, Table}
use Rattle.client_steps.specs.declared.lines.Widths.{Widths}
use Rattle.client_steps.specs.declared.cells.Cells.{Cells}

-- a cell with spaces behind it, up to a width
abbrev pub padded : ℕ → List ℕ → List ℕ
padded width cell = cell ++ replicate (width - length cell) (byte " ")

-- the cells behind the first one
abbrev pub rest_of_line : ℕ → List ℕ → Option (List ℕ) → List ℕ
rest_of_line width second (Some third) = padded width second ++ codes " " ++ third
rest_of_line width second None = second

-- A row as a line: a space after each cell but the last, and cells that are followed by one as wide as their column.
abbrev pub line : Widths → Cells → List ℕ
line widths row = padded widths.first row.first ++ codes " " ++ rest_of_line widths.second row.second row.third ++ codes "\n"

-- no width at all, so that cells stand as they are
abbrev pub no_widths : Widths
no_widths = record { first = 0; second = 0 }

-- the length of the longest cell of a column
abbrev pub widest : (Cells → List ℕ) → List Cells → ℕ
widest cell [] = 0
widest cell (row ∷ more) = max (length (cell row)) (widest cell more)

-- as wide as the longest cell of each column
abbrev pub widths_of : List Cells → Widths
widths_of rows = record { first = widest (λ row. row.first) rows; second = widest (λ row. row.second) rows }

abbrev pub lines : Widths → List Cells → List ℕ
lines widths rows = flat_map (line widths) rows

-- the rows under a heading, or the metadata that they were read of
abbrev pub text_of : Format → Cells → List Cells → Data → List ℕ
text_of Plain heading rows body = lines no_widths rows
text_of Table heading rows body = lines (widths_of (heading ∷ rows)) (heading ∷ rows)
text_of Json heading rows body = compact_text body ++ codes "\n"

-- ---- what is printed where something went wrong

-- a value in words: a text as it is, a number that is not negative in decimal, and a dash for anything else
abbrev pub worded_as : Option (List ℕ) → Option ℕ → List ℕ
worded_as (Some text) number = text
worded_as None (Some number) = decimal number
worded_as None None = codes "-"

abbrev pub worded : Data → List ℕ
worded value = worded_as (as_str value) (option_and_then as_u64 (as_number value))

-- keys with their values in words, each behind a mark: this one at the first, and a comma at the others
abbrev pub parts_behind : List ℕ → Members → List ℕ
parts_behind mark no_members = []
parts_behind mark (member key value more) =
    mark ++ key ++ codes " " ++ worded value ++ parts_behind (codes ", ") more

-- the parts that an error keeps, in the order of the members; nothing where it keeps no object
abbrev pub kept_parts : Option Members → List ℕ
kept_parts (Some members) = parts_behind (codes ": ") members
kept_parts None = []

-- a text that goes on behind a colon says the parts itself, as the server's texts for the stock client do
abbrev pub says_parts : List ℕ → Bool
says_parts text = list_any (λ byte. byte == 58) text

-- the parts that are kept, where the text does not say them
abbrev pub unsaid_parts : Bool → Option Data → List ℕ
unsaid_parts true kept = []
unsaid_parts false kept = kept_parts (option_and_then as_object kept)

-- what is said of it, and the parts that are kept
abbrev pub error_line : List ℕ → Option Data → List ℕ
error_line text kept = codes "error: " ++ text ++ unsaid_parts (says_parts text) kept ++ codes "\n"
