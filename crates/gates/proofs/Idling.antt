-- With a step of its worker a gate idles once.
use Rattle.std.proofs.Common.{true, Some, refl, [], ◌∷◌, ap}
use Rattle.record_keeper.specs.Store.{Store}
use Rattle.row_machine.specs.declared.events.Event.TheVariants as event
use Rattle.row_machine.specs.machine.Step.{well}
use Rattle.serial_steps.specs.Steps.{SerialWorld, Step, Steps, took, reported}
use Rattle.gates.specs.History.{EventBy, GateIdle}
use Rattle.gates.proofs.Histories.{chain-one}
use Rattle.gates.specs.Alone.{contents_at}

pub step-idles : (w w' : SerialWorld) (s : Step) → Steps w s w'
    → GateIdle true (Some (contents_at w)) (Some (contents_at w'))
step-idles w w' (took moment) t = record {
  events = (event.Take moment, well) ∷ [];
  by = (
    contents_at w',
    refl,
    chain-one {R = EventBy} (
      t.answer,
      record { turns = t.turn; caused = ap (λ (k : Store). k.failures) t.turn.stored; kept = t.kept },
    ),
  );
}
step-idles w w' (reported r moment outcome) t = record {
  events = (event.Done t.number r moment, outcome) ∷ [];
  by = (
    contents_at w',
    refl,
    chain-one {R = EventBy} (t.answer, record { turns = t.turn; caused = t.caused; kept = t.kept }),
  );
}
