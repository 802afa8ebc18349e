-- Walks one after the other.
use Rattle.std.proofs.Common.{◌≡◌, ◌+◌, ◌++◌, Bool, [], ◌∷◌}
use Rattle.row_machine.specs.declared.events.Answer.{Answer}
use Rattle.row_machine.specs.declared.events.Event.{Event}
use Rattle.gates.specs.Chains.{none}
use Rattle.gates.specs.Gates.{Seen, Walk}
use Rattle.gates.specs.History.{Item, GateIdle, GateTurn, capped, idle, idled_after, turn}
use Rattle.gates.proofs.Histories.{between-append, between-none, between-idle, between-turn, chain-append, chain-one}

-- nothing was done
pub walk-none : {P : Type 0} (Due : P → Item → P → Type 0) (s : Seen) (at : P) → Walk Due s s at at
walk-none Due s at = record { history = []; gate = between-none s; due = none }

-- one turn
pub walk-turn : {P : Type 0} (Due : P → Item → P → Type 0) {old new : Seen} {e : Event} {a : Answer} (from to : P)
    (t : GateTurn old.contents e a new.contents) → new.turned ≡ capped (old.turned + 1) → new.idled ≡ old.idled
    → Due from (turn e t.outcome a) to → Walk Due old new from to
walk-turn Due {old} {new} {e} {a} from to t turned idled due = record {
  history = turn e t.outcome a ∷ [];
  gate = between-turn t.by turned idled;
  due = chain-one due;
}

-- it idled once
pub walk-idle : {P : Type 0} (Due : P → Item → P → Type 0) {old new : Seen} {is_up : Bool} (from to : P)
    (t : GateIdle is_up old.contents new.contents) → new.turned ≡ old.turned → new.idled ≡ idled_after is_up old.idled
    → Due from (idle is_up t.events) to → Walk Due old new from to
walk-idle Due {old} {new} {is_up} from to t turned idled due = record {
  history = idle is_up t.events ∷ [];
  gate = between-idle t.by turned idled;
  due = chain-one due;
}

-- one way, and then another
pub walk-append : {P : Type 0} {Due : P → Item → P → Type 0} {a b c : Seen} {from by to : P} → Walk Due a b from by
    → Walk Due b c by to → Walk Due a c from to
walk-append first then = record {
  history = first.history ++ then.history;
  gate = between-append first.gate then.gate;
  due = chain-append first.due then.due;
}
