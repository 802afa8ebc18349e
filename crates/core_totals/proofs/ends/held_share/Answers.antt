use Rattle.std.proofs.Common.{Option, find, sym, ap, ◌∙◌}
use Rattle.std.specs.Option.{option_copied, option_map_or}
use Rattle.std.proofs.lemmas.Result.{IfOk-weaker}
use Rattle.size_values.specs.Amounts.{nothing}
use Rattle.size_values.specs.PoolParts.{no_part}
use Rattle.reservations.specs.declared.books.Hold.{Hold}
use Rattle.row_machine.specs.machine.State.{State}
use Rattle.row_machine.specs.machine.Operations.{is_held_by}
use Rattle.row_readings.specs.declared.amounts.Footprint.{Footprint}
use Rattle.core_totals.proofs.ends.held_share.Goals as goal

-- what a hold that there may be is of
abbrev read : Option Hold → Footprint
read hold = record { amounts = option_map_or (λ (h : Hold). h.share) hold nothing; on = option_map_or (λ (h : Hold). h.part) hold no_part }

pub returns-in-Some : goal.returns-in-Some
returns-in-Some c = IfOk-weaker c.share_in.result _ _
    (λ f is. is ∙ ap read
    (ap option_copied (sym c.in-Some.is) ∙ c.hold_of.ensures ∙ ap (λ (t : State). find (is_held_by c.args.number) t.held) c.view.view_is))
    c.share_in.ensures

pub returns-in-None : goal.returns-in-None
returns-in-None c = c.none.ensures ∙ ap read
    (ap option_copied (sym c.in-None.is) ∙ c.hold_of.ensures ∙ ap (λ (t : State). find (is_held_by c.args.number) t.held) c.view.view_is)
