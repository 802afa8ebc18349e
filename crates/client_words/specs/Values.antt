-- What the values of options and the words behind a command say.
use Rattle.std.specs.Prelude.{ℕ, Bool, ◌&&◌, if◌then◌else◌, List, length, Option, Some, None, codes, nat_le, option_map}
use Rattle.std.specs.Str.{bytes_eq}
use Rattle.size_values.specs.declared.kinds.ObjectKind.TheVariants.{Instance, Project}
use Rattle.estate_rules.specs.Names.{good_name_of}
use Rattle.client_replies.specs.Forms.{is_id}
use Rattle.command_words.specs.ServeWords.{port_said}
use Rattle.client_words.specs.declared.words.Door.{Door}
use Rattle.client_words.specs.declared.words.Door.TheVariants.{Port, Socket}
use Rattle.client_words.specs.declared.words.Format.{Format}
use Rattle.client_words.specs.declared.words.Format.TheVariants.{Json, Plain, Table}

-- a value, where it is one that passes the test
abbrev pub passed : (List ℕ → Bool) → List ℕ → Option (List ℕ)
passed test value = if test value then Some value else None

-- the name of an instance
abbrev pub instance_said : List ℕ → Option (List ℕ)
instance_said value = passed (good_name_of Instance) value

-- the id of an operation
abbrev pub id_said : List ℕ → Option (List ℕ)
id_said value = passed is_id value

-- the path of a socket file: the address of a socket has room for 107 bytes and a zero behind them
abbrev pub is_socket_path : List ℕ → Bool
is_socket_path value = nat_le 1 (length value) && nat_le (length value) 107

-- the socket file at a path
abbrev pub socket_said : List ℕ → Option Door
socket_said value = option_map Socket (passed is_socket_path value)

-- where the server listens, by the values of --port and of --socket: one of them is given, and not both
abbrev pub door_said : Option (List ℕ) → Option (List ℕ) → Option Door
door_said (Some port) (Some path) = None
door_said (Some port) None = option_map Port (port_said port)
door_said None (Some path) = socket_said path
door_said None None = None

-- the project: `default`, where --project is not given
abbrev pub project_said : Option (List ℕ) → Option (List ℕ)
project_said (Some value) = passed (good_name_of Project) value
project_said None = Some (codes "default")

-- how replies are printed: plain, where --format is not given
abbrev pub format_said : Option (List ℕ) → Option Format
format_said (Some value) =
    if bytes_eq value (codes "plain") then Some Plain
    else if bytes_eq value (codes "json") then Some Json
    else if bytes_eq value (codes "table") then Some Table
    else None
format_said None = Some Plain
