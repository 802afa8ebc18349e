-- What a program is asked in place of work.
use Rattle.std.specs.Prelude.{ℕ, List, [], ◌∷◌, Option, Some, None, if◌then◌else◌, codes}
use Rattle.std.specs.Str.{bytes_eq}
use Rattle.program_start.specs.declared.questions.Question.{Question}
use Rattle.program_start.specs.declared.questions.Question.TheVariants.{Help, Version}

-- the question that the words after the program's name ask: only one word does
abbrev pub question_of : List (List ℕ) → Option Question
question_of [] = None
question_of (word ∷ []) =
    if bytes_eq word (codes "--help") then Some Help
    else if bytes_eq word (codes "--version") then Some Version
    else None
question_of (word ∷ other ∷ words) = None
