-- The words of restrictions, booleans, and which subjects a line judges.
use Rattle.std.specs.Prelude.{ℕ, ◌==◌, Bool, true, false, List, [], ◌∷◌, Option, Ok, Err, Result, find, codes}
use Rattle.std.specs.Prelude.{unwrap_or}
use Rattle.std.specs.Option.{option_map, option_and_then}
use Rattle.std.specs.Str.{bytes_eq}
use Rattle.size_values.specs.declared.fault.ValueFault.{ValueFault}
use Rattle.size_values.specs.Boolean.{boolean_of}
use Rattle.config_lists.specs.Settings.{Settings, setting}
use Rattle.restrictions.specs.declared.rows.Word.{Word}
use Rattle.restrictions.specs.declared.rows.Word.TheVariants.{Block, Allow, Managed, Unprivileged, Isolated, Full}
use Rattle.restrictions.specs.declared.rows.Subject.{Subject}
use Rattle.restrictions.specs.declared.rows.Subject.TheVariants.{Profile, Container, Machine}
use Rattle.restrictions.specs.declared.rows.Judged.{Judged}
use Rattle.restrictions.specs.declared.rows.Judged.TheVariants as judged

-- the words with their texts
abbrev pub words : List (List ℕ × Word)
words = (codes "block", Block) ∷ (codes "allow", Allow) ∷ (codes "managed", Managed)
    ∷ (codes "unprivileged", Unprivileged) ∷ (codes "isolated", Isolated) ∷ (codes "full", Full) ∷ []

-- the word of a text
unfoldable pub word_named : List ℕ → Option Word
word_named text = option_map (λ row. row.1) (find (λ row. bytes_eq text row.0) words)

-- the word of a project's key, or its default
abbrev pub word_of : Settings → List ℕ → Word → Word
word_of project key default = unwrap_or (option_and_then word_named (setting project key)) default

-- the place of a word in their list
abbrev pub word_number : Word → ℕ
word_number Block = 0
word_number Allow = 1
word_number Managed = 2
word_number Unprivileged = 3
word_number Isolated = 4
word_number Full = 5

-- whether two words are one
abbrev pub is_word : Word → Word → Bool
is_word word other = word_number word == word_number other

-- what was read is true
abbrev pub read_true : Result Bool ValueFault → Bool
read_true (Ok boolean) = boolean
read_true (Err fault) = false

-- whether a text reads as true
unfoldable pub is_true : List ℕ → Bool
is_true text = read_true (boolean_of text)

-- whether a line for these subjects judges this one
abbrev pub is_judged : Judged → Subject → Bool
is_judged judged.Containers Profile = true
is_judged judged.Containers Container = true
is_judged judged.Containers Machine = false
is_judged judged.ContainersAlone Profile = false
is_judged judged.ContainersAlone Container = true
is_judged judged.ContainersAlone Machine = false
is_judged judged.Machines Profile = true
is_judged judged.Machines Container = false
is_judged judged.Machines Machine = true
is_judged judged.MachinesAlone Profile = false
is_judged judged.MachinesAlone Container = false
is_judged judged.MachinesAlone Machine = true
