-- What the program does by its words: a run, or another command.
use Rattle.std.specs.Prelude.{◌≡◌, ◌⊎◌, ℕ, List, false, Option, Some, None}
use Rattle.size_values.specs.declared.entry.Entry.{Entry}
use Rattle.record_keeper.specs.Store.{Store}
use Rattle.row_machine.specs.machine.State.{State}
use Rattle.row_machine.specs.opening.Opening.{opened, opening_of}
use Rattle.http_heads.specs.Messages.{Splits, ended}
use Rattle.http_heads.specs.declared.request.Request.{Request}
use Rattle.rest_json.specs.declared.terms.Dialect.TheVariants.{Plain}
use Rattle.rest_json.specs.declared.terms.Terms.{Terms}
use Rattle.command_words.specs.RunWords.{words_of}
use Rattle.command_words.specs.declared.run_words.CommandWords.{CommandWords}
use Rattle.command_words.specs.declared.run_words.CommandWords.TheVariants.{Check, Drill, Make, Run}
use Rattle.serial_run.specs.Commands.{Checks, Drills, DrillsText, Tells}
use Rattle.serial_run.specs.Worlds.{Outside}
use Rattle.workload.specs.Stream.{stream_of}
use Rattle.serial_run.specs.Runs.{Runs}

-- requests were written, and nothing else of the outside was called
pub record Makes (seed count : ℕ) (before after : Outside) (status : ℕ) : Type 0 where
  pub tells : Tells status (stream_of seed count) before.sink after.sink
  pub source : after.source ≡ before.source
  pub keeper : after.keeper ≡ before.keeper
  pub host : after.host ≡ before.host
  pub clock : after.clock ≡ before.clock

-- what the keeper has was told
pub record ChecksOnly (before after : Outside) (status : ℕ) : Type 0 where
  pub checks : Checks status before.sink after.sink before.keeper after.keeper
  pub source : after.source ≡ before.source
  pub host : after.host ≡ before.host
  pub clock : after.clock ≡ before.clock

-- the terms of a drill: the boot word that is handed in, and the plain dialect
abbrev pub drill_terms : ℕ → Terms
drill_terms handed = record { boot = handed; dialect = Plain; refuses_origin = false }

-- made requests were answered on these terms, and what they came to was told
pub record DrillsOnly (handed seed count : ℕ) (before after : Outside) (status : ℕ) : Type 0 where
  pub drills : Drills (drill_terms handed) (stream_of seed count) status before.keeper before.host before.clock before.sink
      after.keeper after.host after.clock after.sink
  pub text : (messages : List Request) → Splits (stream_of seed count) messages ended → (status ≡ 0) ⊎ (status ≡ 5)
      → DrillsText (drill_terms handed) messages status before.keeper before.host before.clock before.sink
      after.keeper after.host after.clock after.sink
  pub source : after.source ≡ before.source

-- a command that is no run did this
abbrev pub DoesOther : CommandWords → ℕ → Outside → Outside → ℕ → Type 0
DoesOther (Run run) handed before after status = ⊥
DoesOther (Make seed count) handed before after status = Makes seed count before after status
DoesOther (Drill seed count) handed before after status = DrillsOnly handed seed count before after status
DoesOther Check handed before after status = ChecksOnly before after status

-- the words name another command than `run`, and it was carried out
pub record Carried (words : List (List ℕ)) (handed : ℕ) (before after : Outside) (status : ℕ) : Type 0 where
  pub command : CommandWords
  pub said : words_of words ≡ Some command
  pub does : DoesOther command handed before after status

-- what the words ask for was done: a run, or another command; or they were not read
abbrev pub Does : List (List ℕ) → ℕ → Outside → Outside → ℕ → Type 0
Does words handed before after status = Runs words handed before after status ⊎ Carried words handed before after status

-- ---- another command than a run can be carried out

-- the keeper tells entries that open to rows
pub record OpensToRows (keeper : Store) : Type 0 where
  pub entries : List Entry
  pub told : keeper.contents ≡ Some entries
  pub state : State
  pub opens : opening_of entries ≡ opened state

-- The words say another command than a run, and what it opens are entries that open to rows; `make` opens nothing.
abbrev pub IsReadyFor : Option CommandWords → Store → Type 0
IsReadyFor None keeper = ⊥
IsReadyFor (Some (Run run)) keeper = ⊥
IsReadyFor (Some (Make seed count)) keeper = Unit {0}
IsReadyFor (Some (Drill seed count)) keeper = OpensToRows keeper
IsReadyFor (Some Check) keeper = OpensToRows keeper
