-- The commands that requests can ask for: which request there is for which kind of object, which fields its body may
-- have and in which form. What a request does not use is empty.
use Rattle.std.specs.Prelude.{ℕ, ℤ, pos, negsuc, Bool, true, false, ◌&&◌, ◌||◌, ◌==◌, nat_le, not, List, [], ◌∷◌}
use Rattle.std.specs.Prelude.{length, is_some}
use Rattle.std.specs.List.{list_all, list_any}
use Rattle.std.specs.Option.{option_map_or}
use Rattle.std.specs.Str.{bytes_eq}
use Rattle.size_values.specs.declared.kinds.ObjectKind.{ObjectKind}
use Rattle.size_values.specs.declared.kinds.ObjectKind.TheVariants.{Project, Profile}
use Rattle.size_values.specs.declared.kinds.ObjectKind.TheVariants.{Network, Pool, Volume, Instance}
use Rattle.size_values.specs.declared.kinds.ObjectKind.TheVariants.{Snapshot, Operation}
use Rattle.config_lists.specs.Settings.{Settings}
use Rattle.config_lists.specs.Devices.{NamedDevices}
use Rattle.records.specs.declared.commands.Target.{Target}
use Rattle.records.specs.declared.commands.Origin.{Origin}
use Rattle.records.specs.declared.commands.Origin.TheVariants as origin
use Rattle.records.specs.declared.commands.Body.{Body}
use Rattle.records.specs.declared.commands.Command.{Command}
use Rattle.records.specs.declared.commands.What.{What}
use Rattle.records.specs.declared.commands.What.TheVariants as what

-- a text of no bytes
abbrev pub is_empty : List ℕ → Bool
is_empty text = length text == 0

-- ---- which request there is for which kind

-- objects that are made, shown and deleted by their names: all but operations
abbrev pub is_named : ObjectKind → Bool
is_named Project = true
is_named Profile = true
is_named Network = true
is_named Pool = true
is_named Volume = true
is_named Instance = true
is_named Snapshot = true
is_named Operation = false

-- objects that PUT and PATCH change: these without snapshots
abbrev pub is_changeable : ObjectKind → Bool
is_changeable Project = true
is_changeable Profile = true
is_changeable Network = true
is_changeable Pool = true
is_changeable Volume = true
is_changeable Instance = true
is_changeable Snapshot = false
is_changeable Operation = false

-- objects that are renamed: these without pools
abbrev pub is_renamable : ObjectKind → Bool
is_renamable Project = true
is_renamable Profile = true
is_renamable Network = true
is_renamable Pool = false
is_renamable Volume = true
is_renamable Instance = true
is_renamable Snapshot = false
is_renamable Operation = false

-- objects with a state of their own: the usage of a project, the status of an instance
abbrev pub has_state : ObjectKind → Bool
has_state Project = true
has_state Profile = false
has_state Network = false
has_state Pool = false
has_state Volume = false
has_state Instance = true
has_state Snapshot = false
has_state Operation = false

-- instances alone
abbrev pub is_instance : ObjectKind → Bool
is_instance Project = false
is_instance Profile = false
is_instance Network = false
is_instance Pool = false
is_instance Volume = false
is_instance Instance = true
is_instance Snapshot = false
is_instance Operation = false

-- a volume stands in its pool and a snapshot in its instance; other objects name neither
abbrev pub stands_in : ObjectKind → List ℕ → List ℕ → Bool
stands_in Project pool instance = is_empty pool && is_empty instance
stands_in Profile pool instance = is_empty pool && is_empty instance
stands_in Network pool instance = is_empty pool && is_empty instance
stands_in Pool pool instance = is_empty pool && is_empty instance
stands_in Volume pool instance = is_empty instance
stands_in Instance pool instance = is_empty pool && is_empty instance
stands_in Snapshot pool instance = is_empty pool
stands_in Operation pool instance = is_empty pool && is_empty instance

-- one object, of a kind that passes the test
abbrev pub is_object : (ObjectKind → Bool) → Target → Bool
is_object test of = test of.kind && stands_in of.kind of.pool of.instance

-- all objects of a kind, without a name
abbrev pub is_list : Target → Bool
is_list of = stands_in of.kind of.pool of.instance && is_empty of.name

-- ---- which fields a body may have

-- the fields of a body, true for each that it may have
pub record Fields : Type 0 where
  pub description : Bool
  pub config : Bool
  pub devices : Bool
  pub profiles : Bool
  pub ephemeral : Bool
  pub kind : Bool
  pub driver : Bool

-- a body that says nothing of the object
abbrev pub no_fields : Fields
no_fields = record {
  description = false;
  config = false;
  devices = false;
  profiles = false;
  ephemeral = false;
  kind = false;
  driver = false;
}

-- what every body has but that of a new snapshot
abbrev pub plain_fields : Fields
plain_fields = record no_fields { description = true; config = true }

-- PUT and PATCH have the fields of the row
abbrev pub changed_fields : ObjectKind → Fields
changed_fields Project = plain_fields
changed_fields Profile = record plain_fields { devices = true }
changed_fields Network = plain_fields
changed_fields Pool = plain_fields
changed_fields Volume = plain_fields
changed_fields Instance = record plain_fields { devices = true; profiles = true; ephemeral = true }
changed_fields Snapshot = no_fields
changed_fields Operation = no_fields

-- a creation has besides the driver of a pool, and the type of an instance that is no copy
abbrev pub created_fields : ObjectKind → Origin → Fields
created_fields Project from = plain_fields
created_fields Profile from = record plain_fields { devices = true }
created_fields Network from = plain_fields
created_fields Pool from = record plain_fields { driver = true }
created_fields Volume from = plain_fields
created_fields Instance origin.None =
    record plain_fields { devices = true; profiles = true; ephemeral = true; kind = true }
created_fields Instance (origin.Image alias) =
    record plain_fields { devices = true; profiles = true; ephemeral = true; kind = true }
created_fields Instance (origin.Copy from snapshot pool) =
    record plain_fields { devices = true; profiles = true; ephemeral = true }
created_fields Snapshot from = no_fields
created_fields Operation from = no_fields

-- a field that is there is one of those that may be
abbrev pub if_allowed : Bool → Bool → Bool
if_allowed there may_be = not there || may_be

-- the body has no field beyond these
abbrev pub has_only : Fields → Body → Bool
has_only fields body =
    if_allowed (is_some body.description) fields.description
    && if_allowed (is_some body.config) fields.config
    && if_allowed (is_some body.devices) fields.devices
    && if_allowed (is_some body.profiles) fields.profiles
    && if_allowed (is_some body.ephemeral) fields.ephemeral
    && if_allowed (is_some body.kind) fields.kind
    && if_allowed (is_some body.driver) fields.driver

-- ---- the forms of the fields

-- settings without an empty key
abbrev pub are_settings : Settings → Bool
are_settings settings = list_all (λ entry. not (is_empty entry.0)) settings

-- devices whose settings have no empty key
abbrev pub are_devices : NamedDevices → Bool
are_devices devices = list_all (λ device. are_settings device.1) devices

-- no text comes twice
abbrev pub are_distinct : List (List ℕ) → Bool
are_distinct [] = true
are_distinct (text ∷ texts) = not (list_any (bytes_eq text) texts) && are_distinct texts

-- the most profiles that an instance may name
abbrev pub most_profiles : ℕ
most_profiles = 64

-- no more profiles than that, each once
abbrev pub are_profiles : List (List ℕ) → Bool
are_profiles profiles = nat_le (length profiles) most_profiles && are_distinct profiles

-- each field that is there has its form
abbrev pub has_forms : Body → Bool
has_forms body =
    option_map_or are_settings body.config true
    && option_map_or are_devices body.devices true
    && option_map_or are_profiles body.profiles true

-- a slash stands in the text
abbrev pub has_slash : List ℕ → Bool
has_slash text = list_any (λ byte. byte == 47) text

-- made from nothing
abbrev pub is_none_origin : Origin → Bool
is_none_origin origin.None = true
is_none_origin (origin.Image alias) = false
is_none_origin (origin.Copy from snapshot pool) = false

-- What a new object may be made from. An instance is copied from `NAME` or `NAME/SNAPSHOT`, a volume from a volume of
-- its own or another pool.
abbrev pub may_come_from : ObjectKind → Origin → Bool
may_come_from Instance origin.None = true
may_come_from Instance (origin.Image alias) = true
may_come_from Instance (origin.Copy from snapshot pool) =
    not (is_empty from) && not (has_slash from) && not (has_slash snapshot) && is_empty pool
may_come_from Volume origin.None = true
may_come_from Volume (origin.Image alias) = false
may_come_from Volume (origin.Copy from snapshot pool) = is_empty snapshot
may_come_from kind from = is_none_origin from

-- the driver of a new pool is there
abbrev pub has_needed : ObjectKind → Body → Bool
has_needed Pool body = is_some body.driver
has_needed kind body = true

-- the body of a new object of this kind
abbrev pub is_creation : ObjectKind → Body → Bool
is_creation kind body =
    has_only (created_fields kind body.origin) body && has_forms body && may_come_from kind body.origin
    && has_needed kind body

-- the body of PUT or PATCH of an object of this kind
abbrev pub is_change : ObjectKind → Body → Bool
is_change kind body = has_only (changed_fields kind) body && has_forms body && is_none_origin body.origin

-- the longest time to wait, in seconds
abbrev pub longest_wait : ℕ
longest_wait = 1000000

-- seconds to wait, or -1 for no end
abbrev pub is_timeout : ℤ → Bool
is_timeout (pos seconds) = nat_le seconds longest_wait
is_timeout (negsuc n) = n == 0

-- ---- the requests

-- each request with its object, its body and its number in their forms
abbrev pub is_request : What → Bool
is_request what.Root = true
is_request what.Server = true
is_request (what.List of recursion) = is_list of
is_request (what.Get of) = is_object is_named of
is_request (what.State of) = is_object has_state of
is_request (what.Create of body) = is_object is_named of && is_creation of.kind body
is_request (what.Put of body) = is_object is_changeable of && is_change of.kind body
is_request (what.Patch of body) = is_object is_changeable of && is_change of.kind body
is_request (what.Move of to) = is_object is_renamable of
is_request (what.Delete of) = is_object is_named of
is_request (what.Act of action) = is_object is_instance of
is_request (what.Restore of snapshot) = is_object is_instance of
is_request (what.GetOp number) = true
is_request (what.Cancel number) = true
is_request (what.Wait number timeout) = is_timeout timeout

-- A command that a request can give. Its project is any text of a query.
abbrev pub is_formed : Command → Bool
is_formed command = is_request command.what
