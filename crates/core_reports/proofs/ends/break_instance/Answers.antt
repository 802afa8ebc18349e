use Rattle.std.proofs.Common.{refl}
use Rattle.size_values.specs.declared.kinds.Power.TheVariants.{Error}
use Rattle.row_machine.specs.machine.State.{State}
use Rattle.core_reports.proofs.Failing.{power-leaves}
use Rattle.core_reports.proofs.ends.break_instance.Goals as goal

pub returns-then-breaks_at-clause-operations : goal.returns-then-breaks_at-clause-operations
returns-then-breaks_at-clause-operations c =
    power-leaves (λ (s : State). s.operations) c.args.draft.now.state c.set_power_of.new.self.state c.args.number Error c.requires.live c.set_power_of.ensures.state (λ o. refl)

pub returns-then-breaks_at-clause-held : goal.returns-then-breaks_at-clause-held
returns-then-breaks_at-clause-held c =
    power-leaves (λ (s : State). s.held) c.args.draft.now.state c.set_power_of.new.self.state c.args.number Error c.requires.live c.set_power_of.ensures.state (λ o. refl)
