use Rattle.std.proofs.Common.{◌∙◌, ap, sym, subst}
use Rattle.row_machine.specs.declared.events.Event.TheVariants as event
use Rattle.core_turns.specs.Commands.{held_for}
use Rattle.core_turns.specs.Turns.{Comes}
use Rattle.core_turns.proofs.Holding.{hold-comes, unheld}
use Rattle.core_turns.proofs.Turning.{asked-comes}
use Rattle.core_turns.proofs.asking.ask.Goals as goal

pub returns-in-Some : goal.returns-in-Some
returns-in-Some g c =
    hold-comes c.args.estate.now.state c.args.command.now c.args.moment c.in-Some.number c.args.estate.now.untold (g.R.Keeper.store c.args.keeper.now)
    (ap (λ t. held_for t c.args.command.now.what) (sym c.view.ensures.state) ∙ sym c.held_for.ensures ∙ c.in-Some.is)
    c.requires.quiet

pub carry_out-requires : goal.carry_out-requires
carry_out-requires g c = record {
  quiet = c.requires.quiet;
  served = c.requires.served;
  answered = unheld c.args.estate.now.state c.args.command.now.what
      (ap (λ t. held_for t c.args.command.now.what) (sym c.view.ensures.state) ∙ sym c.held_for.ensures ∙ c.in-None.is);
}

pub returns-in-None : goal.returns-in-None
returns-in-None g c =
    let store = g.R.Keeper.store c.args.keeper.now in
    subst (λ a. Comes c.args.estate.now.state store (event.Ask c.args.command.now c.args.moment) a c.carry_out.new.estate.state c.carry_out.new.estate.untold
    (g.R.Keeper.store c.carry_out.new.keeper)) (sym c.answered.ensures) (asked-comes c.carry_out.ensures)
