use Rattle.std.proofs.Common.{refl}
use Rattle.row_machine.specs.machine.State.{State}
use Rattle.core_reports.proofs.Failing.{power-leaves}
use Rattle.core_reports.proofs.success.give_power.Goals as goal

pub returns-in-Some-clause-operations : goal.returns-in-Some-clause-operations
returns-in-Some-clause-operations c =
    power-leaves (λ (s : State). s.operations) c.args.draft.now.state c.set_power_of.new.self.state c.args.number
    c.in-Some.power c.requires.live
    c.set_power_of.ensures.state (λ o. refl)

pub returns-in-Some-clause-held : goal.returns-in-Some-clause-held
returns-in-Some-clause-held c =
    power-leaves (λ (s : State). s.held) c.args.draft.now.state c.set_power_of.new.self.state c.args.number
    c.in-Some.power c.requires.live
    c.set_power_of.ensures.state (λ o. refl)
