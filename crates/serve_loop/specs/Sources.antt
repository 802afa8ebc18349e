-- What one look at the source of a session shows.
use Rattle.std.specs.Prelude.{◌≡◌, ◌<◌, ◌≤◌, ℕ, Bool, true, false, List, [], length, Option, IfSome}
use Rattle.std.specs.Io.KnownBytes.{Consumes, IsAtEnd, Keeps}
use Rattle.size_values.specs.Causes.{Rose}
use Rattle.gates.specs.rest_answers.specs.Links.{Inlet}

-- what is seen of a source at one moment, and whether a read gives something at once, where the source tells it
pub record Feed : Type 0 where
  pub inlet : Inlet
  pub at_once : Option Bool

-- what these members tell of a source
abbrev pub feed : {S : Type 0} → (S → Option (List ℕ)) → (S → Bool) → (S → ℕ) → (S → Option Bool) → S → Feed
feed left ended failures at_once source = record {
  inlet = record { left = left source; ended = ended source; failures = failures source };
  at_once = at_once source;
}

-- What one look showed: that a read would wait, so that none was made; bytes that one read gave; the end; or that the
-- read failed.
pub data Look : Type 0 where
  quiet : Look
  came : List ℕ → Look
  over : Look
  broken : Look

-- the most bytes that one look takes
abbrev pub most_taken : ℕ
most_taken = 4096

-- where the source tells whether a read gives something at once, it tells this
abbrev pub Tells : Feed → Bool → Type 0
Tells source is_ready = IfSome source.at_once (λ told. is_ready ≡ told)

-- one read gave these bytes, which the source has lost
pub record Gives (source : Inlet) (bytes : List ℕ) (later : Inlet) : Type 0 where
  pub taken : Consumes source.left later.left bytes
  pub some : 0 < length bytes
  pub few : length bytes ≤ most_taken
  pub failures : source.failures ≤ later.failures

-- one read showed that the source has ended
pub record HasEnded (source later : Inlet) : Type 0 where
  pub kept : Consumes source.left later.left []
  pub none : IsAtEnd later.left
  pub ended : later.ended ≡ true
  pub failures : source.failures ≤ later.failures

-- a read failed, and took nothing
pub record HasFailed (source later : Inlet) : Type 0 where
  pub kept : Keeps source.left later.left
  pub rose : Rose source.failures later.failures

-- A look at a source showed this.
abbrev pub LooksAt : Feed → Look → Feed → Type 0
LooksAt source quiet later = Tells source false × (later.inlet ≡ source.inlet)
LooksAt source (came bytes) later = Tells source true × Gives source.inlet bytes later.inlet
LooksAt source over later = Tells source true × HasEnded source.inlet later.inlet
LooksAt source broken later = Tells source true × HasFailed source.inlet later.inlet
