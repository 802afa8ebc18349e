use Rattle.std.proofs.Common.{◌∙◌, sym, ap, subst}
use Rattle.row_machine.specs.facts.Whole.{IsWhole}
use Rattle.core_turns.specs.Turns.{without_notices}
use Rattle.core_turns.proofs.Turning.{as-untold}
use Rattle.core_turns.proofs.daemon.Daemon.view.Goals as goal

pub returns-clause-rows : goal.returns-clause-rows
returns-clause-rows c =
    c.view.ensures.state ∙ sym (as-untold c.self.inside.estate.state c.self.invariant.silent) ∙ ap without_notices c.self.view_is

pub returns-clause-whole : goal.returns-clause-whole
returns-clause-whole c = subst IsWhole c.self.view_is c.self.invariant.whole
