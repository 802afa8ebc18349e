use Rattle.serial_steps.proofs.Stepping.{ask-alone}
use Rattle.serial_steps.proofs.serial.SerialDaemon.ask.Goals as goal

pub invariant_of-self : goal.invariant_of-self
invariant_of-self g c = ask-alone _ c.facts_hold.ensures c.self.invariant c.ask.ensures
