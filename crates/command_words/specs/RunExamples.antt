-- Lists of words, each with what it says, or with nothing where it is not read.
use Rattle.std.specs.Prelude.{◌≡◌, [], ◌∷◌, Some, None, codes}
use Rattle.rest_json.specs.declared.terms.Dialect.TheVariants.{Client, Plain}
use Rattle.command_words.specs.RunWords.{no_setup, setup_of, words_of}
use Rattle.command_words.specs.declared.rows_path.RowsPath.TheVariants.{Database, Journal}
use Rattle.command_words.specs.declared.run_words.CommandWords.TheVariants.{Check, Drill, Make, Run}
use Rattle.command_words.specs.declared.run_words.Pace.TheVariants.{All, Steps}
use Rattle.command_words.specs.declared.run_words.RunWords.{RunWords}

-- a run of which nothing is said
abbrev pub plain : RunWords
plain = record { now = None; pace = All; boot = None; dialect = Plain }

pub record AreWorked : Type 0 where
  -- a command alone, in both forms of an option, and with options in any order
  pub alone : words_of (codes "run" ∷ []) ≡ Some (Run plain)
  pub apart : words_of (codes "run" ∷ codes "--now" ∷ codes "5" ∷ []) ≡ Some (Run (record plain { now = Some 5 }))
  pub joined : words_of (codes "run" ∷ codes "--steps=3" ∷ []) ≡ Some (Run (record plain { pace = Steps 3 }))
  pub mixed : words_of (codes "run" ∷ codes "--boot=9" ∷ codes "--now" ∷ codes "0" ∷ [])
      ≡ Some (Run (record plain { now = Some 0; boot = Some 9 }))
  -- both dialects, and a word that is none
  pub as_plain : words_of (codes "run" ∷ codes "--dialect=plain" ∷ []) ≡ Some (Run plain)
  pub as_client : words_of (codes "run" ∷ codes "--dialect" ∷ codes "client" ∷ [])
      ≡ Some (Run (record plain { dialect = Client }))
  pub no_dialect : words_of (codes "run" ∷ codes "--dialect=Client" ∷ []) ≡ None
  pub drilled_dialect : words_of (codes "drill" ∷ codes "7" ∷ codes "40" ∷ codes "--dialect=client" ∷ []) ≡ None
  -- the other commands
  pub make : words_of (codes "make" ∷ codes "7" ∷ codes "40" ∷ []) ≡ Some (Make 7 40)
  pub drill : words_of (codes "drill" ∷ codes "7" ∷ codes "--db" ∷ codes "f" ∷ codes "40" ∷ []) ≡ Some (Drill 7 40)
  pub check : words_of (codes "check" ∷ codes "--db=f" ∷ []) ≡ Some Check
  -- no command, another one, or a second one
  pub nothing : words_of [] ≡ None
  pub help : words_of (codes "run" ∷ codes "--help" ∷ []) ≡ None
  pub second : words_of (codes "check" ∷ codes "check" ∷ []) ≡ None
  -- an option before the command, one given twice, one without its value, and a sign that none follows
  pub before : words_of (codes "--now=5" ∷ codes "run" ∷ []) ≡ None
  pub twice : words_of (codes "run" ∷ codes "--now=5" ∷ codes "--now" ∷ codes "5" ∷ []) ≡ None
  pub valueless : words_of (codes "run" ∷ codes "--now" ∷ []) ≡ None
  pub dashes : words_of (codes "run" ∷ codes "--" ∷ []) ≡ None
  -- a number with a zero in front, and too many instances
  pub zero_in_front : words_of (codes "run" ∷ codes "--now=05" ∷ []) ≡ None
  pub too_many : words_of (codes "make" ∷ codes "7" ∷ codes "10001" ∷ []) ≡ None
  -- failing calls of the keeper do not stand with a file, and those of the host do
  pub file_and_keeper : words_of (codes "run" ∷ codes "--db=f" ∷ codes "--fail-keeper=4" ∷ []) ≡ None
  pub journal_and_keeper : words_of (codes "run" ∷ codes "--journal=f" ∷ codes "--fail-keeper=4" ∷ []) ≡ None
  pub file_and_host : setup_of (codes "run" ∷ codes "--db=f" ∷ codes "--fail-host" ∷ codes "2,3" ∷ [])
      ≡ record { rows = Database (codes "f"); fail_host = 2 ∷ 3 ∷ []; fail_keeper = [] }
  pub no_file : setup_of (codes "run" ∷ codes "--db=" ∷ []) ≡ no_setup
  -- a journal, and one beside a database
  pub journal : setup_of (codes "check" ∷ codes "--journal" ∷ codes "f" ∷ [])
      ≡ record { rows = Journal (codes "f"); fail_host = []; fail_keeper = [] }
  pub two_files : words_of (codes "run" ∷ codes "--db=f" ∷ codes "--journal=g" ∷ []) ≡ None
  pub drill_of_two : words_of (codes "drill" ∷ codes "7" ∷ codes "40" ∷ codes "--journal=g" ∷ codes "--db=f" ∷ []) ≡ None
  pub check_of_two : words_of (codes "check" ∷ codes "--db=f" ∷ codes "--journal=f" ∷ []) ≡ None
  pub no_journal : setup_of (codes "check" ∷ codes "--journal=" ∷ []) ≡ no_setup
