-- What a read and a write do to the bytes that a source has left and a sink holds, where they tell them.
use Rattle.std.specs.Prelude.{◌≡◌, ℕ, ◌+◌, ◌<◌, ◌≤◌, ◌==◌, ◌⊎◌, Bool, true, false, ◌||◌, List, ◌++◌, length, take, min}
use Rattle.std.specs.Prelude.{Option, Result, Ok, Err}
use Rattle.std.specs.Io.KnownBytes.{Appends, Consumes, Keeps}
use Rattle.size_values.specs.Calls.{Calls, is_next_failing, after_call, last_number}

-- A read gave the first of the bytes that the source had left, and those are gone; a read that failed took none.
abbrev pub Delivers : {E : Type 0} → Option (List ℕ) → Option (List ℕ) → Result ℕ E → List ℕ → Type 0
Delivers old new (Ok n) buf = (n ≤ length buf) × Consumes old new (take n buf)
Delivers old new (Err error) buf = Keeps old new

-- A source ends at the read that answers 0, and only there.
abbrev pub Ends : {E : Type 0} → Bool → Bool → Result ℕ E → Type 0
Ends old new (Ok n) = new ≡ (old || n == 0)
Ends old new (Err error) = new ≡ old

-- A write appended all of its bytes; one that failed appended some of the first.
abbrev pub Writes : {E : Type 0} → Option (List ℕ) → Option (List ℕ) → Result (Unit {0}) E → List ℕ → Type 0
Writes old new (Ok unit) bytes = Appends old new bytes
Writes old new (Err error) bytes = (n : ℕ) × Appends old new (take n bytes)

-- A source in memory: the bytes to come, the most that one read gives, the calls of read, and whether it has ended.
pub record Tape : Type 0 where
  pub left : List ℕ
  pub piece : ℕ
  pub calls : Calls
  pub ended : Bool

-- Of len bytes those before at were given; a read gives some, and the count of failures is one of 64 bits.
pub record IsTape (len at piece : ℕ) (calls : Calls) : Type 0 where
  pub given : at ≤ len
  pub gives : 0 < piece
  pub counts : calls.failed ≤ last_number

-- A sink in memory: the bytes written, the calls of write, and how many of them were refused memory.
pub record Paper : Type 0 where
  pub held : List ℕ
  pub calls : Calls
  pub refused : ℕ

-- how many writes failed, at a listed call or for lack of memory
abbrev pub faults_of : Paper → ℕ
faults_of paper = min (paper.calls.failed + paper.refused) last_number

-- A write to a sink in memory. A listed call fails, and no bytes are taken. Another call takes all of the bytes, or is
-- refused memory, which is counted apart, and takes none.
abbrev pub WritesToPaper : {E : Type 0} → Paper → Paper → Result (Unit {0}) E → List ℕ → Type 0
WritesToPaper paper later (Ok unit) bytes = (is_next_failing paper.calls ≡ false)
    × (later ≡ record paper { held = paper.held ++ bytes; calls = after_call paper.calls })
WritesToPaper paper later (Err error) bytes =
    ((is_next_failing paper.calls ≡ true) × (later ≡ record paper { calls = after_call paper.calls }))
    ⊎ ((is_next_failing paper.calls ≡ false)
    × (later ≡ record paper { calls = after_call paper.calls; refused = min (paper.refused + 1) last_number }))

-- A source over a reader: the bytes to come, where the reader tells them, whether the source has ended, and how many
-- reads failed.
pub record Reading : Type 0 where
  pub left : Option (List ℕ)
  pub ended : Bool
  pub faults : ℕ

-- A sink over a writer: the bytes written, where the writer tells them, and how many writes failed.
pub record Writing : Type 0 where
  pub held : Option (List ℕ)
  pub faults : ℕ
