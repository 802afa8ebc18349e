use Rattle.std.proofs.Common.{◌∙◌, ap, sym, subst, if◌then◌else◌}
use Rattle.std.specs.List.{list_any}
use Rattle.records.specs.declared.rows.Row.TheVariants as row
use Rattle.row_machine.specs.machine.State.{InstancePower}
use Rattle.row_machine.specs.machine.Rows.{is_power_of, with_instance, with_instance_power}
use Rattle.row_machine.specs.machine.Changes.{with_row}
use Rattle.row_readings.specs.Rising.{AreRising}
use Rattle.core_drafts.specs.Inside.{state_in}
use Rattle.core_drafts.specs.Drafted.{Listed}
use Rattle.core_drafts.proofs.Rooms.{least-step, more}
use Rattle.core_drafts.proofs.lists.Lists.put_instance.Goals as goal

pub put_new-power-requires-clause-rises : goal.put_new-power-requires-clause-rises
put_new-power-requires-clause-rises c = (subst (λ (x : Listed). AreRising x.state) (sym c.self.view_is) c.requires.rises).powers

pub returns-clause-state : goal.returns-clause-state
returns-clause-state c =
    let s = state_in c.self.inside in
    ap (λ is. record s { instances = is; powers = c.put_new-power.new.rows.items }) c.put-row.ensures.rows
    ∙ ap (λ ps. record s { instances = with_instance c.args.row s.instances; powers = ps })
    (c.put_new-power.ensures.rows
    ∙ ap (λ (p : InstancePower). if list_any (is_power_of p.project p.name) s.powers then s.powers else with_instance_power p s.powers) c.requires.power)
    ∙ ap (λ (x : Listed). with_row (row.Instance c.args.row) x.state) c.self.view_is

pub returns-clause-room : goal.returns-clause-room
returns-clause-room c =
    least-step _ _ _ _ _ _ _ _ _ _ _ _ _ _ _ _ _ (ap (λ (x : Listed). x.room) c.self.view_is)
    (more _) (more _) (more _) (more _) (more _) c.put-row.ensures.room (more _) c.put_new-power.ensures.room
