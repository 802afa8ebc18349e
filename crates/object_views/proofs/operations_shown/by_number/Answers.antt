use Rattle.std.proofs.Common.{◌≡◌, ◌+◌, ◌-◌, ◌<◌, length, arith}
use Rattle.object_views.proofs.Numbered.{numbered-more}
use Rattle.object_views.proofs.operations_shown.by_number.Goals as goal

pub loop-place-preserved : goal.loop-place-preserved
loop-place-preserved c =
    let within : c.loop-place.place - 1 < length c.args.operations.now = omega arith in
    let next : c.loop-place.place ≡ (c.loop-place.place - 1) + 1 = omega arith in (
      omega arith,
      numbered-more c.args.operations.now (c.loop-place.place - 1) c.loop-place.place c.index-operations-place.result _ c.loop-place.all.items _
          within next c.index-operations-place.is c.row.view_is c.in_ok-insert_operation.ensures c.loop-place.invariant.1,
    )
