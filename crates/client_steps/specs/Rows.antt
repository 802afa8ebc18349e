-- What is read of the metadata of a reply.
use Rattle.std.specs.Prelude.{ℕ, ◌==◌, Bool, false, List, [], ◌∷◌, Option, Some, None, option_map, codes, decimal, if◌then◌else◌}
use Rattle.std.specs.Prelude.{ℤ, negsuc, pos}
use Rattle.std.specs.Option.{option_and_then}
use Rattle.serde_json.specs.Data.{Data, Items, no_items, item, Members, no_members, member}
use Rattle.serde_json.specs.Find.{as_array, as_i64, as_number, as_object, as_str, as_u64, get}
use Rattle.client_words.specs.declared.words.Asks.{Asks}
use Rattle.client_words.specs.declared.words.Asks.TheVariants as asks
use Rattle.client_steps.specs.declared.cells.Cells.{Cells}

-- ---- parts

-- the text of a member
abbrev pub text_at : List ℕ → Data → Option (List ℕ)
text_at key value = option_and_then as_str (get key value)

-- two things as one, where both are there
abbrev pub both_as : {A B C : Type 0} → (A → B → C) → Option A → Option B → Option C
both_as join (Some a) (Some b) = Some (join a b)
both_as join (Some a) None = None
both_as join None b = None

-- a row of two cells
abbrev pub two : List ℕ → List ℕ → Cells
two first second = record { first = first; second = second; third = None }

-- a row before others
abbrev pub before : Cells → List Cells → List Cells
before row rows = row ∷ rows

-- ---- lists of instances

-- an instance, by its name and its status
abbrev pub instance_row : Data → Option Cells
instance_row value = both_as two (text_at (codes "name") value) (text_at (codes "status") value)

abbrev pub instance_rows : Items → Option (List Cells)
instance_rows no_items = Some []
instance_rows (item value more) = both_as before (instance_row value) (instance_rows more)

-- ---- limits

abbrev pub is_minus_one : ℤ → Bool
is_minus_one (pos n) = false
is_minus_one (negsuc n) = n == 0

-- what a limit says, by the number that it is where that is not negative, and by the one that it is with a sign: so much,
-- or -1, which is no limit
abbrev pub limit_by : Option ℕ → Option ℤ → Option (Option ℕ)
limit_by (Some limit) signed = Some (Some limit)
limit_by None (Some signed) = if is_minus_one signed then Some None else None
limit_by None None = None

abbrev pub limit_in : Data → Option (Option ℕ)
limit_in value = limit_by (option_and_then as_u64 (as_number value)) (option_and_then as_i64 (as_number value))

-- a limit as it is printed
abbrev pub limit_text : Option ℕ → List ℕ
limit_text (Some limit) = decimal limit
limit_text None = codes "-"

-- a row of three cells: a key, how much is used of it, and its limit
abbrev pub three : List ℕ → ℕ → Option ℕ → Cells
three key usage limit = record { first = key; second = decimal usage; third = Some (limit_text limit) }

abbrev pub usage_at : Data → Option ℕ
usage_at value = option_and_then as_u64 (option_and_then as_number (get (codes "usage") value))

abbrev pub limit_at : Data → Option (Option ℕ)
limit_at value = option_and_then limit_in (get (codes "limit") value)

abbrev pub limit_row : List ℕ → Data → Option Cells
limit_row key value = both_as (three key) (usage_at value) (limit_at value)

abbrev pub limit_rows : Members → Option (List Cells)
limit_rows no_members = Some []
limit_rows (member key value more) = both_as before (limit_row key value) (limit_rows more)

-- ---- the rows of a command

-- what a command tells once all of its requests were answered well, by the metadata of the last reply; nothing where that
-- has not the form that it has behind such a request
abbrev pub rows_of : Asks → Data → Option (List Cells)
rows_of (asks.List filter) body = option_and_then instance_rows (as_array body)
rows_of (asks.Launch name) body = Some (two name (codes "Running") ∷ [])
rows_of (asks.Start name) body = Some (two name (codes "Running") ∷ [])
rows_of (asks.Stop name) body = Some (two name (codes "Stopped") ∷ [])
rows_of (asks.Delete name) body = Some (two name (codes "deleted") ∷ [])
rows_of (asks.Wait id) body = option_map (λ status. two id status ∷ []) (text_at (codes "status") body)
rows_of (asks.Cancel id) body = Some (two id (codes "cancelled") ∷ [])
rows_of asks.Limits body = option_and_then limit_rows (option_and_then as_object (get (codes "resources") body))

-- what the columns hold
abbrev pub heading_of : Asks → Cells
heading_of (asks.List filter) = two (codes "NAME") (codes "STATUS")
heading_of (asks.Launch name) = two (codes "NAME") (codes "STATUS")
heading_of (asks.Start name) = two (codes "NAME") (codes "STATUS")
heading_of (asks.Stop name) = two (codes "NAME") (codes "STATUS")
heading_of (asks.Delete name) = two (codes "NAME") (codes "STATUS")
heading_of (asks.Wait id) = two (codes "ID") (codes "STATUS")
heading_of (asks.Cancel id) = two (codes "ID") (codes "STATUS")
heading_of asks.Limits = record { first = codes "KEY"; second = codes "USAGE"; third = Some (codes "LIMIT") }
