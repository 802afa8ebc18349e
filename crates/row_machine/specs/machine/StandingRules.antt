-- Rules on what stands in the way: B1 to B6.
use Rattle.std.specs.Prelude.{◌&&◌, ◌||◌, ◌∷◌, if◌then◌else◌}
use Rattle.row_machine.specs.Words.{ℕ, Bool, true, false, not, List, [], Option, Some, None, codes, option_and_then}
use Rattle.row_machine.specs.Words.{find, option_map, list_any, option_map_or, result_ok, bytes_eq, boolean_of, Power}
use Rattle.row_machine.specs.Words.{Stopped, Frozen, Error, Deed, ObjectKind, Settings, setting, is_allowed, Refusal}
use Rattle.row_machine.specs.Words.{Target, Command, What, Deed as deed, ObjectKind as kind, Rule as rule, What as what}
use Rattle.row_machine.specs.Words.{Project}
use Rattle.row_machine.specs.Estate.{State, default_name, project_named, instance_named, is_power_of, home_of, is_on}
use Rattle.row_machine.specs.Estate.{expanded_of, kind_text, no_details, on_name, on_object, is_of_kind}
use Rattle.row_machine.specs.Readings.{power_line, busy_with, holder_of, first_user_of, instance_changed, renames_or_deletes}
use Rattle.row_machine.specs.machine.NewRows.{put_project, patched_project}

abbrev pub named_instance_busy : State → List ℕ → List ℕ → Option Refusal
named_instance_busy state project name =
    option_map
    (λ operation. record { rule = rule.B1; details = record no_details { name = name; number = operation.number } })
    (busy_with state project name)

-- B1: the instance that a command would change or copy from is busy.
unfoldable pub instance_busy : State → Command → Option Refusal
instance_busy state command =
    option_and_then (named_instance_busy state command.project) (instance_changed command.what)

abbrev pub power_text : Power → List ℕ
power_text power = (power_line power).text

abbrev pub power_of : State → List ℕ → List ℕ → Option Power
power_of state project name =
    option_map (λ instance_power. instance_power.power) (find (is_power_of project name) state.powers)

abbrev pub on_instance : Deed → Target → Option (Deed × List ℕ)
on_instance does of = if is_of_kind kind.Instance of then Some (does, of.name) else None

-- what the command does to which instance, where the instance must have a status for it
abbrev pub deed_asked : What → Option (Deed × List ℕ)
deed_asked (what.Create of body) = if is_of_kind kind.Snapshot of then Some (deed.Snap, of.instance) else None
deed_asked (what.Move of to) = on_instance deed.Rename of
deed_asked (what.Delete of) = on_instance deed.Delete of
deed_asked (what.Act of action) = Some (deed.Act action false, of.name)
deed_asked (what.Restore of snapshot) = Some (deed.Restore, of.name)
deed_asked other = None

abbrev pub in_wrong_state : Deed → List ℕ → Power → Option Refusal
in_wrong_state does name power =
    if is_allowed does power then None
    else Some (record { rule = rule.B2; details = record no_details { key = power_text power; name = name } })

-- B2: the status of the instance does not allow what a command asks for.
unfoldable pub wrong_state : State → Command → Option Refusal
wrong_state state command =
    option_and_then (λ asked. option_and_then (in_wrong_state asked.0 asked.1) (power_of state command.project asked.1))
    (deed_asked command.what)

abbrev pub feature_keys : List (List ℕ)
feature_keys =
    codes "features.profiles"
    ∷ codes "features.networks"
    ∷ codes "features.storage.volumes"
    ∷ codes "features.images"
    ∷ codes "features.storage.buckets"
    ∷ []

-- a feature changes where the new value reads as the other boolean; a value that cannot be read changes nothing
abbrev pub feature_changes : Settings → Settings → List ℕ → Bool
feature_changes old new key = changes (setting new key) where
  changes : Option (List ℕ) → Bool
  changes None = is_on old key
  changes (Some text) =
      option_map_or (λ boolean. if boolean then not (is_on old key) else is_on old key)
      (result_ok (boolean_of text)) false

abbrev pub changes_features : Project → Project → Bool
changes_features old new = list_any (feature_changes old.config new.config) feature_keys

abbrev pub changes_of : State → (Project → Project) → Target → Bool
changes_of state changed of =
    is_of_kind kind.Project of
    && option_map_or (λ project. changes_features project (changed project))
    (project_named state.projects of.name) false

abbrev pub asks_for_features : State → What → Bool
asks_for_features state (what.Put of body) = changes_of state (λ project. put_project project body) of
asks_for_features state (what.Patch of body) = changes_of state (λ project. patched_project project body) of
asks_for_features state other = false

abbrev pub protects_itself : State → List ℕ → List ℕ → Bool
protects_itself state project name =
    option_map_or
    (λ instance. is_on (expanded_of state.projects state.profiles instance).config (codes "security.protection.delete"))
    (instance_named state.instances project name) false

abbrev pub is_deletion : What → Bool
is_deletion (what.Delete of) = true
is_deletion other = false

abbrev pub is_protected : State → Command → Target → Bool
is_protected state command of = protected of.kind where
  protected : ObjectKind → Bool
  protected kind.Project =
      bytes_eq of.name default_name && (renames_or_deletes command.what || asks_for_features state command.what)
  protected kind.Profile = bytes_eq of.name default_name && renames_or_deletes command.what
  protected kind.Instance = is_deletion command.what && protects_itself state command.project of.name
  protected other = false

abbrev pub object_changed : What → Option Target
object_changed (what.Put of body) = Some of
object_changed (what.Patch of body) = Some of
object_changed (what.Move of to) = Some of
object_changed (what.Delete of) = Some of
object_changed other = None

-- B3: the object of a command is protected against it.
unfoldable pub object_protected : State → Command → Option Refusal
object_protected state command =
    option_and_then (λ of. if is_protected state command of then Some (on_object rule.B3 of.kind of.name) else None)
    (object_changed command.what)

abbrev pub used_by_first : State → Command → Target → Option Refusal
used_by_first state command of =
    option_map used_by (first_user_of state (home_of state.projects command.project of.kind) of) where
      used_by : List ℕ → Refusal
      used_by url =
          record {
            rule = rule.B4;
            details = record no_details { key = url; kind = kind_text of.kind; name = of.name };
          }

-- B4: the object that a command renames or deletes has a user.
unfoldable pub object_used : State → Command → Option Refusal
object_used state command =
    if renames_or_deletes command.what then option_and_then (used_by_first state command) (object_changed command.what)
    else None

-- It has an instance, a network, a volume, a profile other than `default`, or a live operation.
abbrev pub is_occupied : State → List ℕ → Bool
is_occupied state name =
    list_any (λ instance. bytes_eq instance.project name) state.instances
    || list_any (λ network. bytes_eq network.project name) state.networks
    || list_any (λ volume. bytes_eq volume.project name) state.volumes
    || list_any (λ profile. bytes_eq profile.project name && not (bytes_eq profile.name default_name)) state.profiles
    || list_any (λ operation. bytes_eq operation.work.project name) state.operations.live

abbrev pub must_be_empty : State → What → Target → Bool
must_be_empty state asked of = is_of_kind kind.Project of && (renames_or_deletes asked || asks_for_features state asked)

-- B5: the project that a command needs empty is not.
unfoldable pub project_occupied : State → Command → Option Refusal
project_occupied state command =
    option_and_then
    (λ of.
    if must_be_empty state command.what of && is_occupied state of.name then Some (on_name rule.B5 of.name) else None)
    (object_changed command.what)

abbrev pub held_profile : State → Command → Target → Option Refusal
held_profile state command of =
    if is_of_kind kind.Profile of
    then option_map
    (λ operation. record { rule = rule.B6; details = record no_details { name = of.name; number = operation.number } })
    (holder_of state (home_of state.projects command.project kind.Profile) of.name)
    else None

-- B6: an operation holds the profile that a command changes.
unfoldable pub profile_held : State → Command → Option Refusal
profile_held state command = option_and_then (held_profile state command) (object_changed command.what)
