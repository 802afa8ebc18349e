-- A turn of the server, as a gate shows it.
use Rattle.std.proofs.Common.{◌≡◌, ◌<◌, ◌≤◌, ℕ, Some, refl, ap, sym, ◌∙◌, subst, arith}
use Rattle.size_values.specs.Moments.{moment_limit}
use Rattle.record_keeper.specs.Store.{Store}
use Rattle.row_machine.specs.declared.events.Answer.{Answer}
use Rattle.row_machine.specs.declared.events.Event.{Event}
use Rattle.row_machine.specs.declared.events.Event.TheVariants as event
use Rattle.row_machine.specs.machine.State.{State}
use Rattle.row_machine.specs.facts.Whole.{IsWhole}
use Rattle.serial_steps.specs.core_turns.specs.Turns.{IsTurn}
use Rattle.gates.specs.History.{MayAnswer, TurnBy, GateTurn, contents_as}
use Rattle.gates.specs.Times.{at_moment, latest_after, no_earlier}

pub turn-by : {s s' : State} {store store' : Store} {e : Event} {a : Answer} (t : IsTurn s store e a s' store')
    → TurnBy (contents_as s store) e t.outcome a (contents_as s' store')
turn-by t = record { turns = t.turns; caused = t.caused; kept = t.kept }

pub turn-contents : {s s' : State} {store store' : Store} {e : Event} {a : Answer} → IsTurn s store e a s' store'
    → GateTurn (Some (contents_as s store)) e a (Some (contents_as s' store'))
turn-contents {s} {s'} {store} {store'} t =
    record { outcome = t.outcome; by = (contents_as s' store', refl, turn-by t) }

-- ---- moments

-- an event that comes first is taken at its own moment
at_first : (e : Event) → no_earlier 0 e ≡ e
at_first (event.Ask c moment) = ap (event.Ask c) (omega arith)
at_first (event.Look number) = refl
at_first (event.Take moment) = ap event.Take (omega arith)
at_first (event.Done number r moment) = ap (event.Done number r) (omega arith)
at_first (event.Fetch cursor filter) = refl
at_first event.Close = refl

-- an event that was taken at the latest moment was taken no earlier than the turns before
taken_so : (before latest : ℕ) (e taken : Event) → latest ≡ latest_after before e → taken ≡ at_moment latest e
    → taken ≡ no_earlier before e
taken_so before latest e taken latest_is taken_is = taken_is ∙ ap (λ moment. at_moment moment e) latest_is

pub turned_so : {s s' : State} {store store' : Store} {a : Answer} (before latest : ℕ) (e taken : Event)
    → latest ≡ latest_after before e → taken ≡ at_moment latest e → IsTurn s store taken a s' store'
    → IsTurn s store (no_earlier before e) a s' store'
turned_so {s} {s'} {store} {store'} {a} before latest e taken latest_is taken_is t =
    subst (λ f. IsTurn s store f a s' store') (taken_so before latest e taken latest_is taken_is) t

-- ---- answers

pub may-answer : {s s' : State} {store store' : Store} {e : Event} {a : Answer} (before : ℕ) → before < moment_limit
    → IsWhole s → IsTurn s store (no_earlier before e) a s' store' → MayAnswer e a
may-answer {s} {s'} {store} {store'} before early whole t = record {
  from = contents_as s store;
  to = contents_as s' store';
  latest = before;
  early = early;
  outcome = t.outcome;
  whole = whole;
  by = turn-by t;
}

-- where others have turns, an event is taken no earlier than theirs
pub may-answer-then : {s s' : State} {store store' : Store} {a : Answer} (before latest : ℕ) (e taken : Event)
    → before ≤ latest → latest < moment_limit → IsWhole s → latest ≡ latest_after before e → taken ≡ at_moment latest e
    → IsTurn s store taken a s' store' → MayAnswer e a
may-answer-then before latest e taken rises early whole latest_is taken_is t =
    may-answer {e = e} before (omega (arith, rises, early)) whole (turned_so before latest e taken latest_is taken_is t)

-- where nobody else has turns, an event is taken at its own moment
pub may-answer-alone : {s s' : State} {store store' : Store} {e : Event} {a : Answer} → IsWhole s
    → IsTurn s store e a s' store' → MayAnswer e a
may-answer-alone {s} {s'} {store} {store'} {e} {a} whole t =
    may-answer {e = e} 0 (omega arith) whole (subst (λ f. IsTurn s store f a s' store') (sym (at_first e)) t)
