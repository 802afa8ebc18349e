use Rattle.std.proofs.Common.{◌≡◌, ℕ, length}
use Rattle.event_hub.specs.Recent.{all_pushed}
use Rattle.core_turns.proofs.hearing.collect_events.Given as goal

-- the rows stay, and what still waits comes after what was told
abbrev pub invariant-loop-waiting : goal.invariant-loop-waiting
invariant-loop-waiting l = record {
  state : l.estate.state ≡ l.fn.estate.state;
  told : all_pushed l.estate.untold l.hub ≡ all_pushed l.fn.estate.untold l.fn.hub;
}

abbrev pub decreases-loop-waiting : goal.decreases-loop-waiting
decreases-loop-waiting l = length l.estate.untold
