-- Parts of a row read from the front of bytes: the part and the bytes after it, or the place that cannot be read.
use Rattle.std.specs.Prelude.{◌≡◌, ℕ, zero, suc, ◌==◌, ◌&&◌, nat_lt, nat_le, Bool, true, false, List, [], ◌∷◌, ◌++◌}
use Rattle.std.specs.Prelude.{length, take, drop, Option, Some, None, Result, Ok, Err, if◌then◌else◌}
use Rattle.std.specs.Cmp.Lexicographic.{slice_cmp}
use Rattle.std.specs.Int.{w32, w64, from_be_bytes}
use Rattle.std.specs.Ordering.{nat_cmp, is_lt}
use Rattle.std.specs.Str.{is_utf8}
use Rattle.size_values.specs.Moments.{moment_limit}
use Rattle.size_values.specs.declared.kinds.Kind.{Kind}
use Rattle.size_values.specs.declared.kinds.Kind.TheVariants as container
use Rattle.size_values.specs.declared.memory.Or.{Or}
use Rattle.size_values.specs.declared.memory.Or.TheVariants as or
use Rattle.config_lists.specs.Entries.{KeysRise}
use Rattle.config_lists.specs.Settings.{Settings}
use Rattle.config_lists.specs.Devices.{NamedDevices}
use Rattle.records.specs.declared.rows.Driver.{Driver}
use Rattle.records.specs.declared.rows.Driver.TheVariants as driver
use Rattle.row_codec.specs.declared.unreadable.Unreadable.{Unreadable}
use Rattle.row_codec.specs.declared.parts.Shape.{Shape}

-- What is read next from what was read, or the first damage.
infixl 10 ◌>>=◌
abbrev pub ◌>>=◌ : {A B E : Type 0} → Result A E → (A → Result B E) → Result B E
(Ok value) >>= f = f value
(Err error) >>= f = Err error

-- An error is the one that reading gives, unless memory ran out.
abbrev pub Fails : {Y E : Type 0} → Or E → Result Y E → Type 0
Fails or.NoMemory read = Unit {0}
Fails (or.Why error) read = read ≡ Err error

-- What a function returned, seen by view, is what reading gives, unless memory ran out.
abbrev pub Gives : {X Y E : Type 0} → (X → Y) → Result X (Or E) → Result Y E → Type 0
Gives view (Ok value) read = read ≡ Ok (view value)
Gives view (Err error) read = Fails error read

-- the same of a function that takes no memory
abbrev pub IsRead : {X Y E : Type 0} → (X → Y) → Result X E → Result Y E → Type 0
IsRead view (Ok value) read = read ≡ Ok (view value)
IsRead view (Err error) read = read ≡ Err error

-- A part that is read, and the bytes after it. A part that cannot be read is named by the bytes that are left where it
-- begins.
abbrev pub Read : Type 0 → Type 0
Read A = Result (A × List ℕ) Unreadable

-- nothing from here on can be read
abbrev pub stops_at : {A : Type 0} → List ℕ → Result A Unreadable
stops_at bytes = Err (record { left = length bytes })

-- ---- numbers, bytes and texts

-- a count: four bytes, highest first
unfoldable pub count_at : List ℕ → Read ℕ
count_at bytes = if nat_lt (length bytes) 4 then stops_at bytes else Ok (from_be_bytes w32 (take 4 bytes), drop 4 bytes)

-- a number: eight bytes, highest first
unfoldable pub number_at : List ℕ → Read ℕ
number_at bytes = if nat_lt (length bytes) 8
    then stops_at bytes else Ok (from_be_bytes w64 (take 8 bytes), drop 8 bytes)

-- a number that is a moment
unfoldable pub moment_at : List ℕ → Read ℕ
moment_at bytes = do
  moment ← number_at bytes
  if nat_lt moment.0 moment_limit then Ok moment else stops_at bytes

-- the boolean that a byte stands for, if any
abbrev pub boolean_of : ℕ → Option Bool
boolean_of byte = if byte == 0 then Some false else (if byte == 1 then Some true else None)

-- the same as the kind of an instance
abbrev pub instance_kind_of : ℕ → Option Kind
instance_kind_of byte = if byte == 0
    then Some container.Container else (if byte == 1 then Some container.Machine else None)

-- the same as the driver of a pool
abbrev pub driver_of : ℕ → Option Driver
driver_of byte =
    if byte == 0 then Some driver.Dir
    else (if byte == 1 then Some driver.Btrfs
    else (if byte == 2 then Some driver.Lvm
    else (if byte == 3 then Some driver.Zfs
    else None)))

-- what a byte stands for, and the bytes after it
abbrev pub meant_at : {A : Type 0} → Option A → List ℕ → List ℕ → Read A
meant_at None rest bytes = stops_at bytes
meant_at (Some value) rest bytes = Ok (value, rest)

-- the first byte, which stands for something
unfoldable pub code_at : {A : Type 0} → (ℕ → Option A) → List ℕ → Read A
code_at meaning [] = stops_at []
code_at meaning (byte ∷ rest) = meant_at (meaning byte) rest (byte ∷ rest)

-- a count, and as many bytes of UTF-8
unfoldable pub text_at : List ℕ → Read (List ℕ)
text_at bytes = do
  len ← count_at bytes
  if nat_le len.0 (length len.1)
      && is_utf8 (take len.0 len.1) then Ok (take len.0 len.1, drop len.0 len.1) else stops_at bytes

-- ---- lists

-- items one after the other, each read with the one before it
unfoldable pub items_at : {X : Type 0} → (Option X → List ℕ → Read X) → ℕ → Option X → List ℕ → Read (List X)
items_at item zero before bytes = Ok ([], bytes)
items_at item (suc n) before bytes = do
  first ← item before bytes
  others ← items_at item n (Some first.0) first.1
  Ok (first.0 ∷ others.0, others.1)

-- a count, and as many items
unfoldable pub list_at : {X : Type 0} → (Option X → List ℕ → Read X) → List ℕ → Read (List X)
list_at item bytes = do
  count ← count_at bytes
  items_at item count.0 None count.1

-- the last item, if there is one
abbrev pub last_of : {X : Type 0} → List X → Option X
last_of [] = None
last_of (item ∷ []) = Some item
last_of (item ∷ other ∷ rest) = last_of (other ∷ rest)

-- the items with the one that is read at their end
abbrev pub added : {X : Type 0} → List X → Read X → Read (List X)
added items read = read >>= λ next. Ok (items ++ next.0 ∷ [], next.1)

-- whether a key is above the one before it
abbrev pub is_next : {V : Type 0} → Option (List ℕ × V) → List ℕ → Bool
is_next None key = true
is_next (Some before) key = is_lt (slice_cmp nat_cmp before.0 key)

-- a key that stands after all keys of entries whose keys rise
pub record IsLast {V : Type 0} (entries : List (List ℕ × V)) (key : List ℕ) : Type 0 where
  pub rising : KeysRise entries
  pub above : is_next (last_of entries) key ≡ true

-- a text of no bytes
abbrev pub is_empty : List ℕ → Bool
is_empty text = length text == 0

-- a text that is not empty
unfoldable pub filled_at : List ℕ → Read (List ℕ)
filled_at bytes = do
  text ← text_at bytes
  if is_empty text.0 then stops_at bytes else Ok text

-- a text that is above the key before it
unfoldable pub next_at : {V : Type 0} → Option (List ℕ × V) → List ℕ → Read (List ℕ)
next_at before bytes = do
  text ← text_at bytes
  if is_next before text.0 then Ok text else stops_at bytes

-- a text that is both
unfoldable pub next_filled_at : {V : Type 0} → Option (List ℕ × V) → List ℕ → Read (List ℕ)
next_filled_at before bytes = do
  text ← next_at before bytes
  if is_empty text.0 then stops_at bytes else Ok text

-- a key and its value
unfoldable pub setting_at : Option (List ℕ × List ℕ) → List ℕ → Read (List ℕ × List ℕ)
setting_at before bytes = do
  key ← next_filled_at before bytes
  value ← filled_at key.1
  Ok ((key.0, value.0), value.1)

-- settings whose keys rise, neither key nor value empty
abbrev pub settings_at : List ℕ → Read Settings
settings_at bytes = list_at setting_at bytes

-- a name and the settings of its device
unfoldable pub device_at : Option (List ℕ × Settings) → List ℕ → Read (List ℕ × Settings)
device_at before bytes = do
  name ← next_at before bytes
  config ← settings_at name.1
  Ok ((name.0, config.0), config.1)

-- devices whose names rise, each with its settings
abbrev pub devices_at : List ℕ → Read NamedDevices
devices_at bytes = list_at device_at bytes

-- texts in any order
abbrev pub texts_at : List ℕ → Read (List (List ℕ))
texts_at bytes = list_at (λ before. text_at) bytes

-- the profiles, settings and devices of an instance or a snapshot
unfoldable pub shape_at : List ℕ → Read Shape
shape_at bytes = do
  profiles ← texts_at bytes
  config ← settings_at profiles.1
  devices ← devices_at config.1
  Ok (record { profiles = profiles.0; config = config.0; devices = devices.0 }, devices.1)
