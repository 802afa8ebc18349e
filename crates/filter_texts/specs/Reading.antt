-- How a filter is read, token by token.
use Rattle.std.specs.Prelude.{ℕ, Bool, true, false, if◌then◌else◌, List, [], ◌∷◌, ◌++◌, length, count_by, codes}
use Rattle.std.specs.Prelude.{Option, Some, None, Result, Ok, Err, nat_lt}
use Rattle.std.specs.Option.{option_map, option_map_or}
use Rattle.std.specs.Str.{bytes_eq}
use Rattle.filter_texts.specs.Tokens.{Token, opening, closing, word, Placed, placed_tokens, value_in}
use Rattle.filter_texts.specs.Grammar.{most_nested}
use Rattle.filter_texts.specs.declared.choice.Comparison.{Comparison}
use Rattle.filter_texts.specs.declared.choice.Comparison.TheVariants.{Equal, Unequal}
use Rattle.filter_texts.specs.declared.choice.Step.{Step}
use Rattle.filter_texts.specs.declared.choice.Step.TheVariants as step
use Rattle.filter_texts.specs.declared.reader.Frame.{Frame}
use Rattle.filter_texts.specs.declared.reader.Frame.TheVariants as frame

-- a text has at most so many bytes
abbrev pub most_bytes : ℕ
most_bytes = 4096

-- what the next token is to be
pub data Stage : Type 0 where
  -- the first of a factor
  factor : Stage
  -- `eq` or `ne`, behind this field
  comparison : List ℕ → Stage
  -- the value that this field is compared with
  value : List ℕ → Comparison → Stage
  -- `and`, `or` or a closing parenthesis
  behind : Stage

-- what has been read: what waits for the end of a factor, the innermost first, and the steps so far
pub record State : Type 0 where
  pub frames : List Frame
  pub stage : Stage
  pub steps : List Step

abbrev pub start : State
start = record { frames = []; stage = factor; steps = [] }

-- what counts for how deep a factor lies
abbrev pub is_nested : Frame → Bool
is_nested frame.Opening = true
is_nested frame.Not = true
is_nested frame.And = false
is_nested frame.Or = false

abbrev pub depth : List Frame → ℕ
depth frames = count_by is_nested frames

-- the step that waits in a frame for the end of a factor
abbrev pub due : Frame → Option Step
due frame.Opening = None
due frame.Not = Some step.Not
due frame.And = Some step.And
due frame.Or = Some step.Or

-- a factor has ended: the steps that waited for it are taken, up to the parenthesis in which it lies
unfoldable pub ended : List Frame → List Step → State
ended [] steps = record { frames = []; stage = behind; steps = steps }
ended (innermost ∷ frames) steps =
    option_map_or (λ waiting. ended frames (steps ++ waiting ∷ [])) (due innermost)
    (record { frames = innermost ∷ frames; stage = behind; steps = steps })

-- one deeper, where that is not too deep
abbrev pub nested : Frame → State → Option State
nested inner s = if nat_lt (depth s.frames) most_nested then Some (record s { frames = inner ∷ s.frames }) else None

-- `not`, a parenthesis, or a field
abbrev pub at_factor : State → Token → Option State
at_factor s opening = nested frame.Opening s
at_factor s (word name) =
    if bytes_eq name (codes "not") then nested frame.Not s else Some (record s { stage = comparison name })
at_factor s token = None

-- the comparison that a word names
abbrev pub comparison_in : List ℕ → Option Comparison
comparison_in name =
    if bytes_eq name (codes "eq") then Some Equal else if bytes_eq name (codes "ne") then Some Unequal else None

-- how the field is compared
abbrev pub at_comparison : List ℕ → State → Token → Option State
at_comparison field s (word name) = option_map (λ by. record s { stage = value field by }) (comparison_in name)
at_comparison field s token = None

-- the test that ends with a value
abbrev pub tested : State → List ℕ → Comparison → List ℕ → State
tested s field by bytes =
    ended s.frames (s.steps ++ step.Test (record { field = field; comparison = by; value = bytes }) ∷ [])

-- what the field is compared with
abbrev pub at_value : List ℕ → Comparison → State → Token → Option State
at_value field by s token = option_map (tested s field by) (value_in token)

-- the end of a parenthesis ends the factor that it is
abbrev pub closed : List Frame → List Step → Option State
closed (frame.Opening ∷ frames) steps = Some (ended frames steps)
closed frames steps = None

-- the frame of a word that joins one more factor
abbrev pub joiner_in : List ℕ → Option Frame
joiner_in name =
    if bytes_eq name (codes "and") then Some frame.And else if bytes_eq name (codes "or") then Some frame.Or else None

-- what stands behind a factor
abbrev pub at_behind : State → Token → Option State
at_behind s closing = closed s.frames s.steps
at_behind s (word name) = option_map (λ joiner. record s { frames = joiner ∷ s.frames; stage = factor }) (joiner_in name)
at_behind s token = None

abbrev pub at_stage : Stage → State → Token → Option State
at_stage factor s token = at_factor s token
at_stage (comparison field) s token = at_comparison field s token
at_stage (value field by) s token = at_value field by s token
at_stage behind s token = at_behind s token

-- the next token has been read, if it can stand there
unfoldable pub advance : State → Token → Option State
advance s token = at_stage s.stage s token

-- the whole filter, if the text may end here
abbrev pub finished : Stage → List Frame → List Step → Option (List Step)
finished behind [] steps = Some steps
finished stage frames steps = None

-- The steps of what the tokens end as a filter, or the place of the first token that cannot stand: the end of the text
-- where more tokens are wanted.
unfoldable pub read_tokens : ℕ → State → List Placed → Result (List Step) ℕ
read_tokens end s [] = option_map_or (λ steps. Ok steps) (finished s.stage s.frames s.steps) (Err end)
read_tokens end s (placed ∷ tokens) =
    option_map_or (λ next. read_tokens end next tokens) (advance s placed.token) (Err placed.place)

-- the steps of a text that is a filter, or the place of its fault
unfoldable pub choice_read : List ℕ → Result (List Step) ℕ
choice_read text =
    if nat_lt most_bytes (length text) then Err most_bytes
    else read_tokens (length text) start (placed_tokens text)
