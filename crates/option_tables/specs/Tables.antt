-- The tables, read: which form the values of a key have.
use Rattle.std.specs.Prelude.{ℕ, ◌-◌, ◌==◌, Bool, true, false, ◌&&◌, List, [], map, length, take, drop, slice_index, Option}
use Rattle.std.specs.Prelude.{Some, None, if◌then◌else◌, find, codes, nat_eq, nat_le, nat_lt}
use Rattle.std.specs.List.{starts_with}
use Rattle.std.specs.Option.{option_map}
use Rattle.std.specs.Str.{bytes_eq, byte}
use Rattle.size_values.specs.declared.kinds.ObjectKind.TheVariants.{Pool}
use Rattle.estate_rules.specs.Names.{good_name_of}
use Rattle.option_tables.specs.declared.form.Form.{Form}
use Rattle.option_tables.specs.declared.form.Form.TheVariants as form
use Rattle.option_tables.specs.declared.tables.Scope.{Scope}
use Rattle.option_tables.specs.declared.tables.Scope.TheVariants as scope
use Rattle.option_tables.specs.declared.tables.Table.{Table}
use Rattle.option_tables.specs.declared.tables.Table.TheVariants as table
use Rattle.option_tables.specs.declared.tables.DeviceType.{DeviceType}
use Rattle.option_tables.specs.declared.tables.DeviceType.TheVariants as device
use Rattle.option_tables.specs.declared.tables.TheConstants.{INSTANCE, PROJECT, NETWORK, POOL, VOLUME, DEVICE_TYPES}
use Rattle.option_tables.specs.declared.tables.TheConstants.{DISK, NIC, GPU, PROXY, UNIX, USB}

-- the line without its last byte
abbrev pub front_of : List ℕ → List ℕ
front_of line = take (length line - 1) line

-- whether the line ends in a star
abbrev pub has_star : List ℕ → Bool
has_star line = nat_lt 0 (length line) && slice_index line (length line - 1) == byte "*"

-- whether the line ends in the sign for the name of a pool
abbrev pub has_sign : List ℕ → Bool
has_sign line = nat_lt 0 (length line) && slice_index line (length line - 1) == byte "#"

-- whether a key begins so and goes on with a good name of a pool
abbrev pub takes_pool : List ℕ → List ℕ → Bool
takes_pool front key = starts_with nat_eq key front && good_name_of Pool (drop (length front) key)

-- whether a line without that sign stands for a key: it is the same, or it ends in a star and the key is longer and
-- begins alike
abbrev pub takes_plainly : List ℕ → List ℕ → Bool
takes_plainly line key = if has_star line then nat_lt (length (front_of line)) (length key)
    && starts_with nat_eq key (front_of line) else bytes_eq line key

-- whether the key of a line stands for a key
abbrev pub takes : List ℕ → List ℕ → Bool
takes line key = if has_sign line then takes_pool (front_of line) key else takes_plainly line key

-- whether a check for these instances takes an option for those
abbrev pub is_for : Scope → Scope → Bool
is_for scope.Container scope.Machine = false
is_for scope.Machine scope.Container = false
is_for checked option = true

-- the form that the first line for a key gives it
abbrev pub form_in : List (List ℕ × Form) → List ℕ → Option Form
form_in lines key = option_map (λ line. line.1) (find (λ line. takes line.0 key) lines)

-- the same of lines for some instances
abbrev pub scoped_form_in : List (List ℕ × Form × Scope) → Scope → List ℕ → Option Form
scoped_form_in lines checked key =
    option_map (λ line. line.1) (find (λ line. is_for checked line.2 && takes line.0 key) lines)

-- the lines of the tables, with their keys as lists of bytes
unfoldable pub instance_lines : List (List ℕ × Form × Scope)
instance_lines = map (λ line. (line.0.now, line.1, line.2)) INSTANCE.now

unfoldable pub project_lines : List (List ℕ × Form)
project_lines = map (λ line. (line.0.now, line.1)) PROJECT.now

unfoldable pub network_lines : List (List ℕ × Form)
network_lines = map (λ line. (line.0.now, line.1)) NETWORK.now

unfoldable pub pool_lines : List (List ℕ × Form)
pool_lines = map (λ line. (line.0.now, line.1)) POOL.now

unfoldable pub volume_lines : List (List ℕ × Form)
volume_lines = map (λ line. (line.0.now, line.1)) VOLUME.now

-- the options of devices of a type
unfoldable pub device_lines : DeviceType → List (List ℕ × Form)
device_lines device.None = []
device_lines device.Disk = map (λ line. (line.0.now, line.1)) DISK.now
device_lines device.Nic = map (λ line. (line.0.now, line.1)) NIC.now
device_lines device.Gpu = map (λ line. (line.0.now, line.1)) GPU.now
device_lines device.Proxy = map (λ line. (line.0.now, line.1)) PROXY.now
device_lines device.Unix = map (λ line. (line.0.now, line.1)) UNIX.now
device_lines device.Usb = map (λ line. (line.0.now, line.1)) USB.now

-- the form of an option of devices of a type; each has `type`
unfoldable pub device_form : DeviceType → List ℕ → Option Form
device_form kind key = if bytes_eq key (codes "type") then Some form.Text else form_in (device_lines kind) key

-- the type that the first line of this name gives
abbrev pub type_in : List (List ℕ × DeviceType) → List ℕ → Option DeviceType
type_in types name = option_map (λ row. row.1) (find (λ row. bytes_eq row.0 name) types)

-- the type of a device by its name
unfoldable pub device_type : List ℕ → Option DeviceType
device_type = type_in (map (λ row. (row.0.now, row.1)) DEVICE_TYPES.now)

-- the form of a key of at most 255 bytes in a table
unfoldable pub listed_form : Table → List ℕ → Option Form
listed_form (table.Instance checked) key = scoped_form_in instance_lines checked key
listed_form table.Project key = form_in project_lines key
listed_form table.Network key = form_in network_lines key
listed_form table.Pool key = form_in pool_lines key
listed_form table.Volume key = form_in volume_lines key
listed_form (table.Device kind) key = device_form kind key

-- the form of a key in a table, if the table takes the key; a longer key than 255 bytes is in none
unfoldable pub form_of : Table → List ℕ → Option Form
form_of table key = if nat_le (length key) 255 then listed_form table key else None
