-- Changes of settings: a list of keys and values like settings, in which a value may be empty.
use Rattle.std.specs.Prelude.{◌≢◌, ℕ, Bool, not, List, [], ◌∷◌, Option, Some, None, All, filter, if◌then◌else◌, ◌==◌}
use Rattle.std.specs.Prelude.{length}
use Rattle.config_lists.specs.Entries.{put, without, KeysRise}
use Rattle.config_lists.specs.Settings.{Settings}

-- what every `Changes` is: keys rise, and none is empty
pub record IsChanges (changes : Settings) : Type 0 where
  pub rising : KeysRise changes
  pub named : All (λ change. change.0 ≢ []) changes

-- whether a change has a value, and so sets its key
abbrev pub has_value : List ℕ × List ℕ → Bool
has_value change = not (length change.1 == 0)

-- the changes alone as settings: those that have a value
unfoldable pub settled : Settings → Settings
settled changes = filter has_value changes

-- the settings after one change: its key has its value, or is gone where that is empty
abbrev pub changed : Settings → List ℕ × List ℕ → Settings
changed config change = if has_value change then put config change.0 change.1 else without config change.0

-- the settings after each change
unfoldable pub patched : Settings → Settings → Settings
patched config [] = config
patched config (change ∷ changes) = patched (changed config change) changes

-- what a change makes of the value of its key
abbrev pub value_after : Option (List ℕ) → Option (List ℕ) → Option (List ℕ)
value_after None old = old
value_after (Some []) old = None
value_after (Some (byte ∷ rest)) old = Some (byte ∷ rest)
