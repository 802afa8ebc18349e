-- What a text that is kept in place is seen as, and what is true of its fields.
use Rattle.std.specs.Prelude.{ℕ, ◌≤◌, List, take}
use Rattle.std.specs.Str.{IsUtf8}
use Rattle.event_hub.specs.declared.short_text.ShortText.TheInside.{Inside}
use Rattle.event_hub.specs.Short.{most_bytes}

-- its first bytes
abbrev pub bytes_in : Inside → List ℕ
bytes_in text = take text.len text.bytes

-- there are no more bytes than that, and they spell a text
pub record IsShortText (text : Inside) : Type 0 where
  pub few : text.len ≤ most_bytes
  pub utf8 : IsUtf8 (bytes_in text)
