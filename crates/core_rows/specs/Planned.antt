-- What a command is to do, and that it was carried out.
use Rattle.std.specs.Prelude.{◌≡◌, ℕ, ◌<◌, true, [], ◌∷◌, List, None}
use Rattle.row_machine.specs.machine.Task.{Task}
use Rattle.size_values.specs.Moments.{moment_limit}
use Rattle.record_keeper.specs.Store.{Store}
use Rattle.records.specs.Forms.{is_formed}
use Rattle.records.specs.declared.commands.Command.{Command}
use Rattle.records.specs.declared.notices.Untold.{Untold}
use Rattle.records.specs.declared.replies.Reply.{Reply}
use Rattle.row_machine.specs.declared.changes.RowChange.{RowChange}
use Rattle.row_machine.specs.machine.State.{State}
use Rattle.row_machine.specs.machine.Plans.{changes, starts, plan_of}
use Rattle.row_machine.specs.shown.Notices.{change_notices}
use Rattle.row_machine.specs.machine.Rules.{names_broken}
use Rattle.row_machine.specs.machine.Rules.{standing_broken}
use Rattle.core_rows.specs.Asked.{IsAsked}
use Rattle.core_judging.specs.core_reports.specs.Stores.{KeepsRecords}

-- A command that a client can give, before the year 10000, which breaks no rule on names and on what stands in the
-- way, with the changes that it is to make at once and the notice of them.
pub record IsToDo (state : State) (command : Command) (moment : ℕ) (row_changes : List RowChange)
    (untold : Untold) : Type 0 where
  pub formed : is_formed command ≡ true
  pub early : moment < moment_limit
  pub names : names_broken state command ≡ None
  pub standing : standing_broken state command ≡ None
  pub plan : plan_of state command moment ≡ changes row_changes
  pub notice : change_notices state command moment ≡ untold ∷ []

-- A command that a client can give, before the year 10000, which breaks no rule on names and on what stands in the
-- way, with the background operation that it is to begin.
pub record IsToStart (state : State) (command : Command) (moment : ℕ) (task : Task) : Type 0 where
  pub formed : is_formed command ≡ true
  pub early : moment < moment_limit
  pub names : names_broken state command ≡ None
  pub standing : standing_broken state command ≡ None
  pub plan : plan_of state command moment ≡ starts task

-- A command was carried out as one step of the machine, and entries that were the records of the rows are so
-- afterwards.
pub record Follows (state : State) (command : Command) (moment : ℕ) (later : State) (untold : List Untold)
    (reply : Reply) (store store' : Store) : Type 0 where
  pub asked : IsAsked state command moment later untold reply store store'
  pub kept : KeepsRecords store.contents state store'.contents later
