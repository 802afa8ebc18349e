-- The first rule that a command breaks: all rules, in the order in which they are judged.
use Rattle.std.specs.Prelude.{◌∷◌}
use Rattle.row_machine.specs.Words.{ℕ, List, [], Option, None, option_and_then, first, Refusal, Row, Command}
use Rattle.row_machine.specs.Estate.{State}
use Rattle.row_machine.specs.Readings.{applied, new_name_of}
use Rattle.row_machine.specs.Doings.{Plan, nothing, changes, starts, plan_of, rows_of_plan, claiming}
use Rattle.row_machine.specs.machine.NameRules.{project_missing, what_is_missing, name_broken}
use Rattle.row_machine.specs.machine.Expectations.{not_as_expected}
use Rattle.row_machine.specs.machine.StandingRules.{instance_busy, wrong_state, object_protected, object_used}
use Rattle.row_machine.specs.machine.StandingRules.{project_occupied, profile_held}
use Rattle.row_machine.specs.machine.SettingRules.{settings_broken}
use Rattle.row_machine.specs.machine.PolicyRules.{policy_broken, snapshot_blocked}
use Rattle.row_machine.specs.machine.LimitRules.{counts_broken, limits_broken}
use Rattle.row_machine.specs.machine.TableRules.{cancel_broken, entry_broken, tables_broken}

-- Rules on names: the project is missing (N1), another object is (N2), the object is not as the request expects it
-- (E1), or the new name is malformed, taken or held (N3 to N5).
unfoldable pub names_broken : State → Command → Option Refusal
names_broken state command = first
    (project_missing state command
    ∷ what_is_missing state command.project command.what
    ∷ not_as_expected state command
    ∷ option_and_then (name_broken state command.project) (new_name_of state command.project command.what)
    ∷ [])

-- Rules on what stands in the way: the instance is busy (B1) or in the wrong state (B2), the object is protected (B3)
-- or in use (B4), the project is not empty (B5), or an operation holds the profile (B6).
unfoldable pub standing_broken : State → Command → Option Refusal
standing_broken state command = first
    (instance_busy state command
    ∷ wrong_state state command
    ∷ object_protected state command
    ∷ object_used state command
    ∷ project_occupied state command
    ∷ profile_held state command
    ∷ [])

-- the state with the change made, or with the claim added
abbrev pub after : State → Plan → ℕ → State
after state nothing moment = state
after state (changes row_changes) moment = applied state row_changes
after state (starts task) moment = claiming state task moment

-- Settings (V1 to V5), policy (F1 to F7, and F8 of a new snapshot) and limits (L0, then L1 to L9) are judged over the
-- state after the change, by one definition for all commands.
abbrev pub after_broken : State → Command → State → List Row → Option Refusal
after_broken state command later rows = first
    (settings_broken later rows
    ∷ policy_broken later
    ∷ snapshot_blocked state command
    ∷ counts_broken later
    ∷ limits_broken state later
    ∷ [])

-- only a background operation takes a number (O4, O5)
abbrev pub number_broken : State → Plan → Option Refusal
number_broken state nothing = None
number_broken state (changes row_changes) = None
number_broken state (starts task) = entry_broken state

-- What a plan breaks: of a cancel O1 to O3; of a change the rules on the state after it, on numbers, and on tables.
abbrev pub plan_broken : State → Command → Plan → ℕ → Option Refusal
plan_broken state command nothing moment = cancel_broken state command.what
plan_broken state command plan moment = first
    (after_broken state command (after state plan moment) (rows_of_plan plan)
    ∷ number_broken state plan
    ∷ tables_broken (after state plan moment) (rows_of_plan plan)
    ∷ [])

-- The first rule that a command breaks. The moment is that of the rows that it would make; no rule depends on it.
unfoldable pub broken : State → Command → ℕ → Option Refusal
broken state command moment =
    first
    (names_broken state command
    ∷ standing_broken state command
    ∷ plan_broken state command (plan_of state command moment) moment
    ∷ [])
