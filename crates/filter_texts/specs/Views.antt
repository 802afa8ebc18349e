-- What the values of the code stand for, and what their calls answer.
use Rattle.std.specs.Prelude.{ℕ, ◌≡◌, List, reverse, Option, Some, None, Result, Ok, Err}
use Rattle.size_values.specs.declared.memory.Or.{Or}
use Rattle.size_values.specs.declared.memory.Or.TheVariants as or
use Rattle.filter_texts.specs.Tokens.{Token, opening, closing, quoted, word, unclosed}
use Rattle.filter_texts.specs.Reading.{Stage, factor, comparison, value, behind, State}
use Rattle.filter_texts.specs.declared.choice.ChoiceFault.{ChoiceFault}
use Rattle.filter_texts.specs.declared.choice.Step.{Step}
use Rattle.filter_texts.specs.declared.token.Token as token
use Rattle.filter_texts.specs.declared.token.Token.TheVariants as tokens
use Rattle.filter_texts.specs.declared.reader.Stage as stage
use Rattle.filter_texts.specs.declared.reader.Stage.TheVariants as stages
use Rattle.filter_texts.specs.declared.reader.Reader.{Reader}

abbrev pub token_of : token.Token → Token
token_of tokens.Opening = opening
token_of tokens.Closing = closing
token_of (tokens.Quoted bytes) = quoted bytes.now
token_of (tokens.Word bytes) = word bytes.now
token_of tokens.Unclosed = unclosed

abbrev pub stage_of : stage.Stage → Stage
stage_of stages.Factor = factor
stage_of (stages.Comparison field) = comparison field.now
stage_of (stages.Value field by) = value field.now by
stage_of stages.Behind = behind

abbrev pub state_of : Reader → State
state_of reader = record {
  frames = reverse reader.frames.items;
  stage = stage_of reader.stage;
  steps = reader.steps.items;
}

-- a fault that is right where a token was offered at a place; out of memory is free
abbrev pub Faults : Option State → ℕ → Or ChoiceFault → Type 0
Faults next place or.NoMemory = Unit {0}
Faults next place (or.Why fault) = (next ≡ None) × (fault.place ≡ place)

-- a reader that was offered a token at a place: the state after it, or its fault
abbrev pub Takes : {T : Type 0} → Option State → ℕ → State → Result T (Or ChoiceFault) → Type 0
Takes next place state (Ok done) = next ≡ Some state
Takes next place state (Err error) = Faults next place error

-- a choice that was read, or the place of its fault; out of memory is free
abbrev pub Reads : Result (List Step) ℕ → Result (List Step) (Or ChoiceFault) → Type 0
Reads read (Ok steps) = read ≡ Ok steps
Reads read (Err or.NoMemory) = Unit {0}
Reads read (Err (or.Why fault)) = read ≡ Err fault.place
