-- What is seen of a source of requests and of a sink of replies, and what one request read and one text written do to
-- them.
use Rattle.std.specs.Prelude.{◌≡◌, ◌≤◌, ◌⊎◌, ℕ, List, Bool, true, take, length, Option, IfSome}
use Rattle.std.specs.Io.KnownBytes.{Appends, prepend_known}
use Rattle.size_values.specs.Causes.{Rose}
use Rattle.http_front.specs.Held.{most_held}
use Rattle.http_front.specs.Reading.{IsUnfinished, KeepsHeld, OnEnd, OnReadFault, ReadsNext}
use Rattle.http_front.specs.declared.read.Got.{Got}

-- What is seen of a source at one moment: the bytes that it has left, where it tells them; whether it has ended; and
-- how many reads failed.
pub record Inlet : Type 0 where
  pub left : Option (List ℕ)
  pub ended : Bool
  pub failures : ℕ

-- what these members tell of a source
abbrev pub inlet : {S : Type 0} → (S → Option (List ℕ)) → (S → Bool) → (S → ℕ) → S → Inlet
inlet left ended failures source = record { left = left source; ended = ended source; failures = failures source }

-- what is seen of a sink at one moment: the bytes written, where it tells them, and how many writes failed
pub record Outlet : Type 0 where
  pub held : Option (List ℕ)
  pub failures : ℕ

-- what these members tell of a sink
abbrev pub outlet : {K : Type 0} → (K → Option (List ℕ)) → (K → ℕ) → K → Outlet
outlet held failures sink = record { held = held sink; failures = failures sink }

-- One call of `read_request`, with these bytes held before and after it, answered this of the bytes to come: those
-- held, and then those that the source has left. The source was read only where the bytes held began with no whole
-- message and no malformed place, and afterwards at most one head, one body and one piece is held.
pub record ReadsFrom (before : List ℕ) (source : Inlet) (answer : Got) (after : List ℕ) (source' : Inlet) : Type 0 where
  pub next : IfSome (prepend_known before source.left)
      (λ bytes. ReadsNext bytes (prepend_known after source'.left) after answer)
  pub held : KeepsHeld before after answer
  pub ahead : (source' ≡ source) ⊎ IsUnfinished before
  pub few : length after ≤ most_held
  pub later : source.failures ≤ source'.failures
  pub fault : OnReadFault answer (Rose source.failures source'.failures)
  pub ended : OnEnd answer (source'.ended ≡ true)

-- the sink took all of this text
pub record Takes (sink sink' : Outlet) (text : List ℕ) : Type 0 where
  pub written : Appends sink.held sink'.held text
  pub later : sink.failures ≤ sink'.failures

-- a write of this text failed; the sink took so many bytes of its front
pub record BreaksOff (sink sink' : Outlet) (text : List ℕ) : Type 0 where
  pub count : ℕ
  pub written : Appends sink.held sink'.held (take count text)
  pub later : sink.failures ≤ sink'.failures
  pub rose : Rose sink.failures sink'.failures
