-- Where rows are kept, as the options of a program say: in memory, or in a file.
use Rattle.std.specs.Prelude.{ℕ, ◌==◌, Bool, true, not, ◌&&◌, ◌||◌, List, [], ◌∷◌, length, is_some, codes}
use Rattle.std.specs.List.{list_all}
use Rattle.std.specs.Option.{option_map_or}
use Rattle.clap.specs.Words.{Row, first_of}
use Rattle.command_words.specs.declared.rows_path.RowsPath.{RowsPath}
use Rattle.command_words.specs.declared.rows_path.RowsPath.TheVariants.{Database, Journal, Memory}

-- an option: its name, and whether a value is one that it takes
abbrev pub Taking : Type 0
Taking = List ℕ × (List ℕ → Bool)

-- whether each value that is given is one that its option takes
abbrev pub are_values : List Taking → List Row → Bool
are_values options given = list_all (λ option. option_map_or option.1 (first_of option.0 given) true) options

-- whether an option is given
abbrev pub is_given : List ℕ → List Row → Bool
is_given name given = is_some (first_of name given)

-- a path is any text but the empty one
abbrev pub is_path : List ℕ → Bool
is_path value = not (length value == 0)

-- the options that name the file of the rows
abbrev pub store_options : List Taking
store_options = (codes "db", is_path) ∷ (codes "journal", is_path) ∷ []

-- whether they name one file at most
abbrev pub is_one_file : List Row → Bool
is_one_file given = not (is_given (codes "db") given && is_given (codes "journal") given)

-- whether they name a file
abbrev pub is_file : List Row → Bool
is_file given = is_given (codes "db") given || is_given (codes "journal") given

-- where rows are kept: in the file that an option names, or else in memory
abbrev pub rows_path : List Row → RowsPath
rows_path given =
    option_map_or Database (first_of (codes "db") given)
    (option_map_or Journal (first_of (codes "journal") given) Memory)
