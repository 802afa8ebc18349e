-- Refusals as JSON: what each rule is called, how it is answered, and what is told with it, as members and in words.
use Rattle.std.specs.Prelude.{ℕ, List, [], ◌∷◌, ◌++◌, map, flat_map, codes, decimal}
use Rattle.std.specs.Borrow.{Bor}
use Rattle.records.specs.declared.refusals.Rule.{Rule}
use Rattle.records.specs.declared.refusals.Rule.TheVariants.{H1, H2, H3, H4, H5, A1, A2, A3}
use Rattle.records.specs.declared.refusals.Rule.TheVariants.{A4, A5, A6, N1, N2, E1, N3, N4}
use Rattle.records.specs.declared.refusals.Rule.TheVariants.{N5, B1, B2, B3, B4, B5, B6}
use Rattle.records.specs.declared.refusals.Rule.TheVariants.{V1, V2, V3, V4, V5, F1, F2, F3}
use Rattle.records.specs.declared.refusals.Rule.TheVariants.{F4, F5, F6, F7, F8, L0, L1}
use Rattle.records.specs.declared.refusals.Rule.TheVariants.{L2, L3, L4, L5, L6, L7, L8, L9, O1}
use Rattle.records.specs.declared.refusals.Rule.TheVariants.{O2, O3, O4, O5, C1, C2, K1, M1}
use Rattle.records.specs.declared.refusals.Details.{Details}
use Rattle.records.specs.declared.refusals.Refusal.{Refusal}
use Rattle.rest_replies.specs.declared.refusals.Part.{Part}
use Rattle.rest_replies.specs.declared.refusals.Part.TheVariants as part
use Rattle.serde_json.specs.Data.{Data, string, object, Members, no_members, put}
use Rattle.rest_json.specs.Objects.{object_of, whole}
use Rattle.rest_json.specs.declared.terms.Dialect.{Dialect}
use Rattle.rest_json.specs.declared.terms.Dialect.TheVariants as dialect

-- ---- the table of rules

-- a part of what a rule tells, and what stands before it in words
abbrev pub Phrase : Type 0
Phrase = List ℕ × Part

-- phrases whose words are lent
abbrev pub said_in : List (Bor (List ℕ) × Part) → List Phrase
said_in phrases = map (λ phrase. (phrase.0.now, phrase.1)) phrases

-- the name of a rule, the HTTP status code, what went wrong, for a person, and what is told with it, in words
pub record RuleLine : Type 0 where
  pub name : List ℕ
  pub code : ℕ
  pub text : List ℕ
  pub phrases : List Phrase

-- a line of the table
abbrev pub line : List ℕ → ℕ → List ℕ → List Phrase → RuleLine
line name code text phrases = record { name = name; code = code; text = text; phrases = phrases }

-- what is told of a key, a name, a number or a project alone
abbrev pub key_told : List Phrase
key_told = (codes ": ", part.Key) ∷ []

abbrev pub name_told : List Phrase
name_told = (codes ": ", part.Name) ∷ []

abbrev pub number_told : List Phrase
number_told = (codes ": ", part.Number) ∷ []

abbrev pub project_told : List Phrase
project_told = (codes ": ", part.Project) ∷ []

-- what is told of an object
abbrev pub object_told : List Phrase
object_told = (codes ": ", part.Kind) ∷ (codes " ", part.Name) ∷ []

-- what is told of an object in a project
abbrev pub changed_told : List Phrase
changed_told = (codes ": ", part.Kind) ∷ (codes " ", part.Name) ∷ (codes " of project ", part.Project) ∷ []

-- what is told of an object, and of the link that uses it
abbrev pub used_told : List Phrase
used_told = (codes ": ", part.Kind) ∷ (codes " ", part.Name) ∷ (codes ", used by ", part.Key) ∷ []

-- what is told of a name, and of an instance or a profile, that an operation holds
abbrev pub held_name_told : List Phrase
held_name_told = (codes ": ", part.Kind) ∷ (codes " ", part.Name) ∷ (codes ", operation ", part.Number) ∷ []

abbrev pub held_told : List Phrase
held_told = (codes ": ", part.Name) ∷ (codes ", operation ", part.Number) ∷ []

-- what is told of an instance and its status, and of an operation and its status
abbrev pub state_told : List Phrase
state_told = (codes ": ", part.Name) ∷ (codes ", ", part.Key) ∷ []

abbrev pub ended_told : List Phrase
ended_told = (codes ": ", part.Number) ∷ (codes ", ", part.Key) ∷ []

-- what is told of a value, and of a device
abbrev pub value_told : List Phrase
value_told = (codes ": ", part.Key) ∷ (codes ", reason ", part.Number) ∷ []

abbrev pub device_told : List Phrase
device_told = (codes ": ", part.Name) ∷ (codes ", key ", part.Key) ∷ (codes ", reason ", part.Number) ∷ []

-- what is told of a forbidden setting, or of one that is not countable
abbrev pub setting_told : List Phrase
setting_told = (codes ": ", part.Key) ∷ (codes " of ", part.Name) ∷ (codes " in project ", part.Project) ∷ []

-- what is told of a limit that is exceeded
abbrev pub limit_told : List Phrase
limit_told =
    (codes ": ", part.Key) ∷ (codes " of project ", part.Project) ∷ (codes ", used ", part.Used)
    ∷ (codes ", asked ", part.Asked) ∷ (codes ", limit ", part.Limit) ∷ []

-- what is told of a full table, and of a large row
abbrev pub table_told : List Phrase
table_told = (codes ": ", part.Kind) ∷ (codes ", at most ", part.Number) ∷ []

abbrev pub row_told : List Phrase
row_told = (codes ": ", part.Kind) ∷ (codes ", bytes ", part.Number) ∷ []

-- The table.
abbrev pub rule_line : Rule → RuleLine
rule_line H1 = line (codes "H1") 400 (codes "head is malformed") []
rule_line H2 = line (codes "H2") 400 (codes "head is too long") []
rule_line H3 = line (codes "H3") 400 (codes "length is malformed") []
rule_line H4 = line (codes "H4") 400 (codes "body is too long") []
rule_line H5 = line (codes "H5") 403 (codes "origin is not allowed") []
rule_line A1 = line (codes "A1") 404 (codes "path is unknown") []
rule_line A2 = line (codes "A2") 405 (codes "method is not offered here") []
rule_line A3 = line (codes "A3") 400 (codes "query is malformed") key_told
rule_line A4 = line (codes "A4") 400 (codes "body is no JSON object") []
rule_line A5 = line (codes "A5") 400 (codes "field is malformed") key_told
rule_line A6 = line (codes "A6") 400 (codes "events need a WebSocket") []
rule_line N1 = line (codes "N1") 404 (codes "project is missing") project_told
rule_line N2 = line (codes "N2") 404 (codes "object is missing") object_told
rule_line E1 = line (codes "E1") 412 (codes "object has changed") changed_told
rule_line N3 = line (codes "N3") 400 (codes "name is malformed") object_told
rule_line N4 = line (codes "N4") 409 (codes "name is taken") object_told
rule_line N5 = line (codes "N5") 409 (codes "name is held by an operation") held_name_told
rule_line B1 = line (codes "B1") 409 (codes "instance is busy") held_told
rule_line B2 = line (codes "B2") 400 (codes "instance is in the wrong state") state_told
rule_line B3 = line (codes "B3") 403 (codes "object is protected") object_told
rule_line B4 = line (codes "B4") 400 (codes "object is in use") used_told
rule_line B5 = line (codes "B5") 400 (codes "project is not empty") name_told
rule_line B6 = line (codes "B6") 409 (codes "profile is held by an operation") held_told
rule_line V1 = line (codes "V1") 400 (codes "key is unknown") key_told
rule_line V2 = line (codes "V2") 400 (codes "value is malformed") value_told
rule_line V3 = line (codes "V3") 400 (codes "device is malformed") device_told
rule_line V4 = line (codes "V4") 400 (codes "instance needs exactly one root disk") name_told
rule_line V5 = line (codes "V5") 400 (codes "named object is missing") object_told
rule_line F1 = line (codes "F1") 403 (codes "setting is forbidden") setting_told
rule_line F2 = line (codes "F2") 403 (codes "setting is forbidden") setting_told
rule_line F3 = line (codes "F3") 403 (codes "setting is forbidden") setting_told
rule_line F4 = line (codes "F4") 403 (codes "setting is forbidden") setting_told
rule_line F5 = line (codes "F5") 403 (codes "setting is forbidden") setting_told
rule_line F6 = line (codes "F6") 403 (codes "setting is forbidden") setting_told
rule_line F7 = line (codes "F7") 403 (codes "setting is forbidden") setting_told
rule_line F8 = line (codes "F8") 403 (codes "snapshots are forbidden") project_told
rule_line L0 = line (codes "L0") 403 (codes "setting is not countable") setting_told
rule_line L1 = line (codes "L1") 403 (codes "limit is exceeded") limit_told
rule_line L2 = line (codes "L2") 403 (codes "limit is exceeded") limit_told
rule_line L3 = line (codes "L3") 403 (codes "limit is exceeded") limit_told
rule_line L4 = line (codes "L4") 403 (codes "limit is exceeded") limit_told
rule_line L5 = line (codes "L5") 403 (codes "limit is exceeded") limit_told
rule_line L6 = line (codes "L6") 403 (codes "limit is exceeded") limit_told
rule_line L7 = line (codes "L7") 403 (codes "limit is exceeded") limit_told
rule_line L8 = line (codes "L8") 403 (codes "limit is exceeded") limit_told
rule_line L9 = line (codes "L9") 403 (codes "limit is exceeded") limit_told
rule_line O1 = line (codes "O1") 400 (codes "operation has ended") ended_told
rule_line O2 = line (codes "O2") 400 (codes "operation may not be cancelled") number_told
rule_line O3 = line (codes "O3") 400 (codes "operation is being cancelled") number_told
rule_line O4 = line (codes "O4") 409 (codes "too many live operations") number_told
rule_line O5 = line (codes "O5") 409 (codes "operation numbers are used up") number_told
rule_line C1 = line (codes "C1") 409 (codes "table is full") table_told
rule_line C2 = line (codes "C2") 409 (codes "row is too large") row_told
rule_line K1 = line (codes "K1") 503 (codes "unavailable") []
rule_line M1 = line (codes "M1") 500 (codes "no memory") []

-- the name of a rule
abbrev pub rule_name : Rule → List ℕ
rule_name rule = (rule_line rule).name

-- what went wrong, for a person
abbrev pub rule_text : Rule → List ℕ
rule_text rule = (rule_line rule).text

-- the HTTP status code of a rule
abbrev pub rule_code : Rule → ℕ
rule_code rule = (rule_line rule).code

-- what is told with a rule, in words
abbrev pub phrases_of : Rule → List Phrase
phrases_of rule = (rule_line rule).phrases

-- ---- the parts

-- the key of a part
abbrev pub part_key : Part → List ℕ
part_key part.Asked = codes "asked"
part_key part.Key = codes "key"
part_key part.Kind = codes "kind"
part_key part.Limit = codes "limit"
part_key part.Name = codes "name"
part_key part.Number = codes "number"
part_key part.Project = codes "project"
part_key part.Used = codes "used"

-- a part as a text; numbers and amounts are decimal digits
abbrev pub part_text : Details → Part → List ℕ
part_text details part.Asked = decimal details.asked
part_text details part.Key = details.key
part_text details part.Kind = details.kind
part_text details part.Limit = decimal details.limit
part_text details part.Name = details.name
part_text details part.Number = decimal details.number
part_text details part.Project = details.project
part_text details part.Used = decimal details.used

-- a part as JSON: a number, or a text
abbrev pub part_data : Details → Part → Data
part_data details part.Number = whole details.number
part_data details other = string (part_text details other)

-- parts put one after the other into an object
abbrev pub put_parts : Details → List Phrase → Members → Members
put_parts details [] members = members
put_parts details (phrase ∷ phrases) members =
    put_parts details phrases (put (part_key phrase.1) (part_data details phrase.1) members)

-- the rule, and what is told with it
unfoldable pub details_data : Refusal → Data
details_data refusal = object (put_parts refusal.details (phrases_of refusal.rule)
    (put (codes "rule") (string (rule_name refusal.rule)) no_members))

-- a part in words, of which nothing is said where it is empty
abbrev pub said : List ℕ → List ℕ → List ℕ
said before [] = []
said before text = before ++ text

-- parts in words, one after the other
abbrev pub all_said : Details → List Phrase → List ℕ
all_said details phrases = flat_map (λ phrase. said phrase.0 (part_text details phrase.1)) phrases

-- What went wrong, for a person. The command `incus` prints nothing else, so its dialect adds the parts in words.
unfoldable pub error_text : Dialect → Refusal → List ℕ
error_text dialect.Plain refusal = rule_text refusal.rule
error_text dialect.Client refusal = rule_text refusal.rule ++ all_said refusal.details (phrases_of refusal.rule)

-- a refusal
unfoldable pub refusal_data : Dialect → Refusal → Data
refusal_data dialect refusal = object_of (
    (codes "error", string (error_text dialect refusal))
    ∷ (codes "error_code", whole (rule_code refusal.rule))
    ∷ (codes "metadata", details_data refusal)
    ∷ (codes "type", string (codes "error"))
    ∷ [])
