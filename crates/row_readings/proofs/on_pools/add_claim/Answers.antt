use Rattle.std.proofs.Common.{sym, ap, ◌∙◌, arith}
use Rattle.std.specs.Option.{option_map}
use Rattle.records.specs.declared.rows.Row.{Row}
use Rattle.row_machine.specs.machine.Claims.{part_of_share, project_of_row, share_of}
use Rattle.row_machine.specs.machine.Task.{Task}
use Rattle.row_machine.specs.machine.Usage.{Load}
use Rattle.row_readings.specs.PoolLimits.{added, with_claim}
use Rattle.row_readings.specs.declared.amounts.Footprint.{Footprint}
use Rattle.row_readings.proofs.Small.{low-part_of_share}
use Rattle.row_readings.proofs.on_pools.add_claim.Goals as goal

pub add_to_line-requires-clause-small : goal.add_to_line-requires-clause-small
add_to_line-requires-clause-small c =
    omega (arith, low-part_of_share c.args.view.now c.args.work.now, ap (λ (f : Footprint). f.on.disk) c.in_ok-share.ensures)

pub returns : goal.returns
returns c =
    let s = c.args.view.now in
    let task = c.args.work.now in
    let limits = c.args.limits.now in
    let sums = c.args.sums.now.items in
    let load : Row → Load = λ new. record { project = project_of_row new; amounts = share_of s task; on = part_of_share s task } in
    c.add_to_line.ensures
    ∙ (λ i. added limits (c.project_of_row.ensures i) (record { pool = c.view.ensures.value i; disk = c.in_ok-share.share.on.disk }) sums)
    ∙ ap (λ (f : Footprint). added limits (project_of_row c.in-Some.new) f.on sums) c.in_ok-share.ensures
    ∙ ap (λ claim. with_claim limits (option_map load claim) sums) (sym c.in-Some.is)
    ∙ ap (λ (t : Task). with_claim limits (option_map load t.claim) sums) c.work.view_is
