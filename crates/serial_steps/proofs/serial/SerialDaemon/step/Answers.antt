use Rattle.serial_steps.proofs.Stepping.{step-alone}
use Rattle.serial_steps.proofs.serial.SerialDaemon.step.Goals as goal

pub invariant_of-self : goal.invariant_of-self
invariant_of-self g c = step-alone c.facts_hold.ensures c.self.invariant c.take-hand.ensures.value c.go_on-next.ensures c.replace.ensures.after
