use Rattle.std.proofs.Common.{sym, subst}
use Rattle.row_readings.specs.Rising.{AreRising}
use Rattle.core_drafts.specs.Drafted.{Listed}
use Rattle.core_drafts.specs.Inside.{state_in}
use Rattle.core_drafts.proofs.Risen.{rising-powers}
use Rattle.core_drafts.proofs.lists.Lists.set_power_of.Goals as goal

pub returns-clause-rises : goal.returns-clause-rises
returns-clause-rises c =
    rising-powers (state_in c.self.inside) _ _ _ c.set_power.new.powers.items c.set_power.ensures
    (subst (λ (x : Listed). AreRising x.state) (sym c.self.view_is) c.requires.rises)
