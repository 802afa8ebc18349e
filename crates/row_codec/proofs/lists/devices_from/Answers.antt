use Rattle.std.proofs.Common.{None}
use Rattle.std.proofs.lemmas.Result.{err_from_is_err_and}
use Rattle.row_codec.specs.FieldReading.{items_at, device_at}
use Rattle.row_codec.proofs.Items.{goes_on, ends, is_done}
use Rattle.row_codec.proofs.lists.devices_from.Goals as goal

pub returns-in_err-rest : goal.returns-in_err-rest
returns-in_err-rest c =
    let p = err_from_is_err_and c.from_residual.result c.from_residual.ensures.1 in
    rw (p.1, p.2) (ends device_at c.in_err-rest.field-0.0 c.args.count c.loop.counter c.loop.devices c.loop.rest.now (items_at device_at c.args.count None c.args.bytes.now) c.loop-test.true c.in_err-rest.ensures c.loop.invariant)

pub loop-preserved : goal.loop-preserved
loop-preserved c =
    goes_on device_at c.args.count c.loop.counter c.loop.devices c.add_device.new.devices c.loop.rest.now c.in_ok-rest.rest.now (items_at device_at c.args.count None c.args.bytes.now) c.loop-test.true c.in_ok-rest.ensures c.loop.invariant

pub returns : goal.returns
returns c = is_done device_at c.args.count c.loop.counter c.loop.devices c.loop.rest.now (items_at device_at c.args.count None c.args.bytes.now) c.loop-test.false c.loop.invariant
