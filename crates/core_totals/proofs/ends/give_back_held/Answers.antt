use Rattle.std.proofs.Common.{find, sym, ap, ◌∙◌}
use Rattle.std.specs.Option.{option_copied, option_map_or}
use Rattle.reservations.specs.declared.books.Hold.{Hold}
use Rattle.row_machine.specs.machine.State.{State}
use Rattle.row_machine.specs.machine.Operations.{is_held_by}
use Rattle.core_totals.specs.Ends.{given_back}
use Rattle.core_totals.proofs.ends.give_back_held.Goals as goal

pub returns-in-Some : goal.returns-in-Some
returns-in-Some c =
    let totals = c.args.totals.now in
    c.give_back.ensures
    ∙ ap (λ x. option_map_or (λ (h : Hold). given_back c.args.work.now h.share h.part totals) x totals)
    (ap option_copied (sym c.in-Some.is) ∙ c.hold_of.ensures ∙ ap (λ (t : State). find (is_held_by c.args.number) t.held) c.view.view_is)

pub returns-in-None : goal.returns-in-None
returns-in-None c =
    let totals = c.args.totals.now in
    ap (λ x. option_map_or (λ (h : Hold). given_back c.args.work.now h.share h.part totals) x totals)
    (ap option_copied (sym c.in-None.is) ∙ c.hold_of.ensures ∙ ap (λ (t : State). find (is_held_by c.args.number) t.held) c.view.view_is)
