-- The action that a body asks for, which changes the state of an instance.
use Rattle.std.specs.Prelude.{ℕ, List, Option, Some, None, option_and_then, if◌then◌else◌, codes}
use Rattle.std.specs.Str.{bytes_eq}
use Rattle.serde_json.specs.Data.{Data}
use Rattle.serde_json.specs.Find.{as_str}
use Rattle.size_values.specs.declared.kinds.Action.{Action}
use Rattle.size_values.specs.declared.kinds.Action.TheVariants as action
use Rattle.rest_bodies.specs.Members.{non_null_member}

-- the action of this name
unfoldable pub action_of : List ℕ → Option Action
action_of name =
    if bytes_eq name (codes "start") then Some action.Start
    else (if bytes_eq name (codes "stop") then Some action.Stop
    else (if bytes_eq name (codes "restart") then Some action.Restart
    else (if bytes_eq name (codes "freeze") then Some action.Freeze
    else (if bytes_eq name (codes "unfreeze") then Some action.Unfreeze
    else None))))

-- the action that a value names
unfoldable pub action_in : Data → Option Action
action_in value = option_and_then action_of (as_str value)

-- the action in a body, if one is given
unfoldable pub action_at : Data → Option Action
action_at body = option_and_then action_in (non_null_member (codes "action") body)
