-- The rule on what a request expects: E1.
use Rattle.std.specs.Prelude.{if◌then◌else◌}
use Rattle.row_machine.specs.Words.{ℕ, Bool, false, List, Option, Some, None, option_and_then, option_map_or, bytes_eq}
use Rattle.row_machine.specs.Words.{Row, Target, Command, What, Refusal, tag_of, What as what, Rule as rule}
use Rattle.row_machine.specs.Estate.{State, on_object_of}
use Rattle.row_machine.specs.Readings.{object_of}
use Rattle.row_machine.specs.machine.Plans.{row_of}

-- the object that a command reads or changes at its own path: a list and a creation have none
abbrev pub object_at : What → Option Target
object_at (what.List of recursion) = None
object_at (what.Create of body) = None
object_at other = object_of other

-- whether the row is of the version that a tag names
abbrev pub has_tag : List ℕ → Row → Bool
has_tag tag row = option_map_or (bytes_eq tag) (tag_of row) false

abbrev pub changed_unless : Bool → Target → List ℕ → Option Refusal
changed_unless same of project = if same then None else Some (on_object_of rule.E1 of.kind of.name project)

-- an object is not of the version that a tag names
abbrev pub version_passed : State → List ℕ → List ℕ → Target → Option Refusal
version_passed state project tag of =
    option_and_then (λ row. changed_unless (has_tag tag row) of project) (row_of state project of)

-- E1: the object of a command is not as the command expects it.
unfoldable pub not_as_expected : State → Command → Option Refusal
not_as_expected state command =
    option_and_then (λ tag. option_and_then (version_passed state command.project tag) (object_at command.what))
    command.expects
