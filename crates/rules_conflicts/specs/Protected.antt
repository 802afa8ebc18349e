-- What protects single objects, and what is told of an object with a user.
use Rattle.std.specs.Prelude.{ℕ, ◌&&◌, ◌||◌, Bool, List, codes}
use Rattle.std.specs.Str.{bytes_eq}
use Rattle.records.specs.declared.refusals.Rule.TheVariants as rule
use Rattle.records.specs.declared.refusals.Refusal.{Refusal}
use Rattle.records.specs.declared.rows.Instance.{Instance}
use Rattle.records.specs.declared.commands.Target.{Target}
use Rattle.records.specs.declared.commands.Command.{Command}
use Rattle.records.specs.declared.commands.What.{What}
use Rattle.row_machine.specs.machine.State.{State}
use Rattle.row_machine.specs.machine.Rows.{default_name}
use Rattle.row_machine.specs.machine.Homes.{is_on}
use Rattle.row_machine.specs.machine.Expansions.{expanded_of}
use Rattle.row_machine.specs.machine.Kinds.{kind_text}
use Rattle.row_machine.specs.machine.Refusals.{no_details}
use Rattle.row_machine.specs.machine.Asked.{renames_or_deletes}
use Rattle.row_machine.specs.machine.StandingRules.{asks_for_features, is_deletion, protects_itself}

-- an instance is protected by its expanded settings
abbrev pub is_kept : State → Instance → Bool
is_kept state instance =
    is_on (expanded_of state.projects state.profiles instance).config (codes "security.protection.delete")

-- the project `default` is not renamed or deleted, and its features stay
abbrev pub project_protected : State → What → List ℕ → Bool
project_protected state asked name = bytes_eq name default_name && (renames_or_deletes asked || asks_for_features state asked)

-- an instance that is protected is not deleted
abbrev pub instance_protected : State → Command → List ℕ → Bool
instance_protected state command name = is_deletion command.what && protects_itself state command.project name

-- B4 of an object, with the URL of its first user
abbrev pub on_user : Target → List ℕ → Refusal
on_user of url = record {
  rule = rule.B4;
  details = record no_details { key = url; kind = kind_text of.kind; name = of.name };
}
