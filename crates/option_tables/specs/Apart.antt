-- Two lines of a table that may take one key, and tables in which no two do.
use Rattle.std.specs.Prelude.{ℕ, Bool, true, not, ◌&&◌, ◌||◌, List, [], ◌∷◌, if◌then◌else◌, nat_eq}
use Rattle.std.specs.List.{list_all, starts_with}
use Rattle.option_tables.specs.declared.form.Form.{Form}
use Rattle.option_tables.specs.declared.tables.DeviceType.TheVariants as device
use Rattle.option_tables.specs.Tables.{front_of, has_sign, has_star, takes, project_lines, network_lines}
use Rattle.option_tables.specs.Tables.{pool_lines, volume_lines, device_lines}

-- whether a line stands for other keys than itself
abbrev pub is_front : List ℕ → Bool
is_front line = has_sign line || has_star line

-- whether some key may be taken by both lines
abbrev pub meet : List ℕ → List ℕ → Bool
meet line other = if is_front line && is_front other then starts_with nat_eq (front_of line) (front_of other)
    || starts_with nat_eq (front_of other) (front_of line) else takes line other || takes other line

-- no line meets one after it
abbrev pub are_apart : List (List ℕ) → Bool
are_apart [] = true
are_apart (line ∷ lines) = list_all (λ other. not (meet line other)) lines && are_apart lines

-- the tables, but for that of instances, whose lines have a scope
abbrev pub plain_tables : List (List (List ℕ × Form))
plain_tables = project_lines ∷ network_lines ∷ pool_lines ∷ volume_lines ∷ device_lines device.Disk
    ∷ device_lines device.Nic ∷ device_lines device.Gpu ∷ device_lines device.Proxy ∷ device_lines device.Unix
    ∷ device_lines device.Usb ∷ []
