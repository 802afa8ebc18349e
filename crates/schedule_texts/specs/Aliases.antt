-- Aliases: words that stand for five fields.
use Rattle.std.specs.Prelude.{ℕ, Bool, not, ◌||◌, if◌then◌else◌, List, [], ◌∷◌, map, codes, slice_index, Option, Some, None}
use Rattle.std.specs.List.{list_all, list_any, slice_split}
use Rattle.std.specs.Str.{bytes_eq}
use Rattle.schedule_texts.specs.Signs.{is_comma, is_space}
use Rattle.schedule_texts.specs.declared.aliases.AliasSet.{AliasSet}

abbrev pub is_hourly : List ℕ → Bool
is_hourly name = bytes_eq name (codes "@hourly")

abbrev pub is_daily : List ℕ → Bool
is_daily name = bytes_eq name (codes "@daily") || bytes_eq name (codes "@midnight")

abbrev pub is_weekly : List ℕ → Bool
is_weekly name = bytes_eq name (codes "@weekly")

abbrev pub is_monthly : List ℕ → Bool
is_monthly name = bytes_eq name (codes "@monthly")

abbrev pub is_yearly : List ℕ → Bool
is_yearly name = bytes_eq name (codes "@annually") || bytes_eq name (codes "@yearly")

abbrev pub is_alias : List ℕ → Bool
is_alias name = is_hourly name || is_daily name || is_weekly name || is_monthly name || is_yearly name

-- the aliases that are among the names
abbrev pub named_by : List (List ℕ) → AliasSet
named_by names = record {
  hourly = list_any is_hourly names;
  daily = list_any is_daily names;
  weekly = list_any is_weekly names;
  monthly = list_any is_monthly names;
  yearly = list_any is_yearly names;
}

-- a text without the space at its front, if one is there
abbrev pub without_space : List ℕ → List ℕ
without_space [] = []
without_space (sign ∷ signs) = if is_space sign then signs else sign ∷ signs

-- aliases with a comma between them, and one space or none behind each comma
unfoldable pub aliases_of : List ℕ → Option AliasSet
aliases_of text =
    let names = map without_space (slice_split is_comma text) in
    if is_space (slice_index text 0) || not (list_all is_alias names) then None else Some (named_by names)

-- the same with one more alias, if it is one
abbrev pub with_alias : List ℕ → AliasSet → Option AliasSet
with_alias name set = if not (is_alias name) then None else Some (record {
  hourly = set.hourly || is_hourly name;
  daily = set.daily || is_daily name;
  weekly = set.weekly || is_weekly name;
  monthly = set.monthly || is_monthly name;
  yearly = set.yearly || is_yearly name;
})
