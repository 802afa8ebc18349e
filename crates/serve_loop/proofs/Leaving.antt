-- A message that was asked for, after leave where that was awaited.
use Rattle.std.proofs.Common.{◌≡◌, ◌≤◌, ◌⊎◌, ℕ, List, [], Bool, true, false, sym, subst, ap, inl, inr, arith}
use Rattle.std.specs.Io.KnownBytes.{prepend_known}
use Rattle.size_values.specs.Causes.{Rose}
use Rattle.http_front.specs.Held.{TakesIn}
use Rattle.http_front.specs.Reading.{IsUnfinished, OnReadFault, ReadsNext}
use Rattle.http_front.specs.declared.read.Got.{Got}
use Rattle.http_front.specs.declared.read.Got.TheVariants as got
use Rattle.http_front.proofs.LeaveLemmas.{ahead-after, held-after, input-after}
use Rattle.gates.specs.rest_answers.specs.Links.{Inlet, Outlet, ReadsFrom, Takes}
use Rattle.serve_loop.specs.Leave.{GivesLeave, leave_if}
use Rattle.serve_loop.proofs.Taking.{takes_nothing, rose_after}

-- leave that was given is what the sink took
pub gives_takes : (awaited : Bool) (a b : Outlet) → GivesLeave awaited a b → Takes a b (leave_if awaited)
gives_takes true a b gives = gives
gives_takes false a b same = subst (λ v. Takes a v []) (sym same) (takes_nothing a)

-- the same of a sink that is touched no more
pub gives_still : (awaited : Bool) (a b c : Outlet) → c ≡ b → GivesLeave awaited a b → GivesLeave awaited a c
gives_still awaited a b c same gives = subst (GivesLeave awaited a) (sym same) gives

-- what is seen of a source that was not read, with nothing held but what was, is the same
pub unread_both : {S : Type 0} (see : S → Inlet) (a b : S) (x y : List ℕ) (P : Type 0) → ((b ≡ a) × (y ≡ x)) ⊎ P
    → ((see b ≡ see a) × (y ≡ x)) ⊎ P
unread_both see a b x y P (inl same) = inl (ap see same.0, same.1)
unread_both see a b x y P (inr other) = inr other

-- the same of the source alone
pub unread_source : {S : Type 0} (see : S → Inlet) (a b : S) (x y : List ℕ) (P : Type 0) → ((b ≡ a) × (y ≡ x)) ⊎ P
    → (see b ≡ see a) ⊎ P
unread_source see a b x y P (inl same) = inl (ap see same.0)
unread_source see a b x y P (inr other) = inr other

fault_since : (answer : Got) (a b c : ℕ) → a ≤ b → OnReadFault answer (Rose b c) → OnReadFault answer (Rose a c)
fault_since (got.Request message) a b c later fault = tt
fault_since got.End a b c later fault = tt
fault_since (got.Cut n) a b c later fault = tt
fault_since (got.Malformed f) a b c later fault = tt
fault_since got.ReadFault a b c later fault = rose_after a b c later fault
fault_since got.NoMemory a b c later fault = tt

-- bytes were taken in, and then a request was read: the same as read from the beginning
pub reads_after : (before mid after : List ℕ) (a b c : Inlet) (answer : Got) → TakesIn before mid a.left b.left
    → ((b ≡ a) × (mid ≡ before)) ⊎ IsUnfinished before → a.failures ≤ b.failures → ReadsFrom mid b answer after c
    → ReadsFrom before a answer after c
reads_after before mid after a b c answer takes ahead later reads = record {
  next = input-after (λ bytes. ReadsNext bytes (prepend_known after c.left) after answer) takes reads.next;
  held = held-after after answer takes reads.held;
  ahead = ahead-after ahead reads.ahead;
  few = reads.few;
  later = let then : b.failures ≤ c.failures = reads.later in omega (arith, later, then);
  fault = fault_since answer a.failures b.failures c.failures later reads.fault;
  ended = reads.ended;
}
