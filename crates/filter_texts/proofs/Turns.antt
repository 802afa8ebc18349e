-- One turn of the reading: a token, or the place of its fault.
use Rattle.std.proofs.Common.{◌≡◌, ℕ, List, Some, None, Result, Err, refl, sym, ap, ◌∙◌}
use Rattle.size_values.specs.declared.memory.Or.{Or}
use Rattle.size_values.specs.declared.memory.Or.TheVariants as or
use Rattle.filter_texts.specs.declared.choice.ChoiceFault.{ChoiceFault}
use Rattle.filter_texts.specs.declared.choice.Step.{Step}
use Rattle.filter_texts.specs.Tokens.{Token, Placed, with_token}
use Rattle.filter_texts.specs.Reading.{State, advance, read_tokens}
use Rattle.filter_texts.specs.Views.{Faults, Reads}

pub read_more : (end place : ℕ) (s next : State) (token : Token) (tokens : List Placed) → advance s token ≡ Some next
    → read_tokens end s (with_token place (Some token) tokens) ≡ read_tokens end next tokens
unfolding read_tokens
read_more end place s next token tokens e = rw e refl

pub read_stuck : (end place : ℕ) (s : State) (token : Token) (tokens : List Placed) → advance s token ≡ None
    → read_tokens end s (with_token place (Some token) tokens) ≡ Err place
unfolding read_tokens
read_stuck end place s token tokens e = rw e refl

-- the fault of the token is that of the text
pub read_fault : (end place : ℕ) (s : State) (token : Token) (tokens : List Placed) (error : Or ChoiceFault)
    (read : Result (List Step) ℕ) → Faults (advance s token) place error
    → read_tokens end s (with_token place (Some token) tokens) ≡ read → Reads read (Err error)
read_fault end place s token tokens or.NoMemory read h same = tt
read_fault end place s token tokens (or.Why fault) read h same =
    sym same ∙ read_stuck end place s token tokens h.0 ∙ ap (λ p. Err p) (sym h.1)
