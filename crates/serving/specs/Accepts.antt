-- What an accept does to what doors tell, and to the links that they have left.
use Rattle.std.specs.Prelude.{◌≡◌, ℕ, ◌+◌, Bool, true, List, [], ◌∷◌, Option}
use Rattle.std.specs.Prelude.{Some, None, IfSome, option_map, Result, Ok, Err}
use Rattle.size_values.specs.Calls.{Calls}

-- How many links were given, whether an accept answered that none is left, and how many accepts failed.
pub record Seen : Type 0 where
  pub given : ℕ
  pub none_left : Bool
  pub failed : ℕ

-- An accept gives one link, or answers that none is left, or fails; nothing else is changed of these two.
abbrev pub Gives : {T E : Type 0} → Seen → Seen → Result (Option T) E → Type 0
Gives old new (Ok (Some link)) = (new.given ≡ old.given + 1) × (new.none_left ≡ old.none_left)
Gives old new (Ok None) = (new.given ≡ old.given) × (new.none_left ≡ true)
Gives old new (Err error) = (new.given ≡ old.given) × (new.none_left ≡ old.none_left)

-- Where the links to come are told, the first of them is given; none is given only where there is none.
abbrev pub Takes : {T E : Type 0} → Option (List T) → Option (List T) → Result (Option T) E → Type 0
Takes old new (Ok (Some link)) = old ≡ option_map (λ links. link ∷ links) new
Takes old new (Ok None) = (new ≡ old) × IfSome old (λ links. links ≡ [])
Takes old new (Err error) = new ≡ old

-- Doors over a list: the links to come, what was given, and the accepts, of which the listed ones fail.
pub record Listed (T : Type 0) : Type 0 where
  pub links : List T
  pub given : ℕ
  pub none_left : Bool
  pub calls : Calls

-- what they tell
abbrev pub seen_of : {T : Type 0} → Listed T → Seen
seen_of listed = record { given = listed.given; none_left = listed.none_left; failed = listed.calls.failed }
