-- The keys that have a meaning in bodies, and in the sources that they name.
use Rattle.std.specs.Prelude.{ℕ, List, [], ◌∷◌, Option, codes}
use Rattle.std.specs.List.{find}
use Rattle.std.specs.Str.{bytes_eq}
use Rattle.rest_bodies.specs.declared.keys.Key.{Key}
use Rattle.rest_bodies.specs.declared.keys.Key.TheVariants as key

-- a key as bodies spell it
abbrev pub word_of : Key → List ℕ
word_of key.Action = codes "action"
word_of key.Alias = codes "alias"
word_of key.Config = codes "config"
word_of key.Description = codes "description"
word_of key.Devices = codes "devices"
word_of key.Driver = codes "driver"
word_of key.Ephemeral = codes "ephemeral"
word_of key.Fingerprint = codes "fingerprint"
word_of key.Migration = codes "migration"
word_of key.Name = codes "name"
word_of key.Pool = codes "pool"
word_of key.Profiles = codes "profiles"
word_of key.Project = codes "project"
word_of key.Restore = codes "restore"
word_of key.Source = codes "source"
word_of key.Start = codes "start"
word_of key.Stateful = codes "stateful"
word_of key.Type = codes "type"

-- all keys
abbrev pub all_keys : List Key
all_keys =
    key.Action ∷ key.Alias ∷ key.Config ∷ key.Description ∷ key.Devices ∷ key.Driver ∷ key.Ephemeral ∷ key.Fingerprint ∷ key.Migration ∷ key.Name ∷ key.Pool ∷ key.Profiles ∷ key.Project ∷ key.Restore ∷ key.Source ∷ key.Start ∷ key.Stateful ∷ key.Type ∷ []

-- the place of a key among all
abbrev pub place_of : Key → ℕ
place_of key.Action = 0
place_of key.Alias = 1
place_of key.Config = 2
place_of key.Description = 3
place_of key.Devices = 4
place_of key.Driver = 5
place_of key.Ephemeral = 6
place_of key.Fingerprint = 7
place_of key.Migration = 8
place_of key.Name = 9
place_of key.Pool = 10
place_of key.Profiles = 11
place_of key.Project = 12
place_of key.Restore = 13
place_of key.Source = 14
place_of key.Start = 15
place_of key.Stateful = 16
place_of key.Type = 17

-- the key of this spelling
unfoldable pub key_named : List ℕ → Option Key
key_named text = find (λ key. bytes_eq text (word_of key)) all_keys
