-- An event as it is printed.
use Rattle.std.specs.Prelude.{ℕ, List, ◌++◌, Option, Some, None, option_map, unwrap_or, codes, if◌then◌else◌}
use Rattle.std.specs.Option.{option_and_then}
use Rattle.std.specs.Str.{bytes_eq}
use Rattle.serde_json.specs.Data.{Data}
use Rattle.serde_json.specs.Find.{as_str, get}
use Rattle.rest_bodies.specs.Members.{object_in}
use Rattle.client_events.specs.declared.columns.EventForm.{EventForm}
use Rattle.client_events.specs.declared.columns.EventForm.TheVariants as form

-- the text of a member
abbrev pub text_at : List ℕ → Data → Option (List ℕ)
text_at key value = option_and_then as_str (get key value)

-- two texts with a space between them, where both are there
abbrev pub spaced : Option (List ℕ) → Option (List ℕ) → Option (List ℕ)
spaced (Some a) (Some b) = Some (a ++ codes " " ++ b)
spaced (Some a) None = None
spaced None b = None

-- a text with another one behind it, where that is there
abbrev pub with_more : Option (List ℕ) → List ℕ → List ℕ
with_more (Some more) text = text ++ codes " " ++ more
with_more None text = text

-- ---- what an event tells, by its metadata

-- an operation by its id and its status, and its description where it has one
abbrev pub operation_told : Data → Option (List ℕ)
operation_told body =
    option_map (with_more (text_at (codes "description") body))
    (spaced (text_at (codes "id") body) (text_at (codes "status") body))

-- what was done, and to which object
abbrev pub life_told : Data → Option (List ℕ)
life_told body = spaced (text_at (codes "action") body) (text_at (codes "source") body)

-- an event of another type tells nothing
abbrev pub told_by : List ℕ → Data → Option (List ℕ)
told_by kind event =
    if bytes_eq kind (codes "operation") then option_and_then operation_told (get (codes "metadata") event)
    else if bytes_eq kind (codes "lifecycle") then option_and_then life_told (get (codes "metadata") event)
    else Some (codes "-")

-- ---- columns

-- what an event tells, behind its project, or a dash where it has none
abbrev pub rest_of : List ℕ → Data → Option (List ℕ)
rest_of kind event = spaced (Some (unwrap_or (text_at (codes "project") event) (codes "-"))) (told_by kind event)

-- the same behind the time and the type
abbrev pub columns_with : Option (List ℕ) → Option (List ℕ) → Data → Option (List ℕ)
columns_with (Some time) (Some kind) event = spaced (Some (time ++ codes " " ++ kind)) (rest_of kind event)
columns_with (Some time) None event = None
columns_with None kind event = None

-- time, type, project and what it tells; nothing where that is no event
abbrev pub columns_of : Data → Option (List ℕ)
columns_of event = columns_with (text_at (codes "timestamp") event) (text_at (codes "type") event) event

-- what is printed of an event: its columns, or its text as it was sent
abbrev pub printed : EventForm → List ℕ → List ℕ → List ℕ
printed form.Columns text columns = columns ++ codes "\n"
printed form.AsSent text columns = text ++ codes "\n"

-- the same of the text of an event; nothing where it is none
abbrev pub event_line : EventForm → List ℕ → Option (List ℕ)
event_line form text = option_map (printed form text) (option_and_then columns_of (object_in text))
