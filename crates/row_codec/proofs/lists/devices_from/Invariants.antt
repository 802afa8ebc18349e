use Rattle.std.proofs.Common.{◌≡◌, ◌-◌, None}
use Rattle.row_codec.specs.FieldReading.{last_of, items_at, device_at}
use Rattle.row_codec.proofs.Items.{with_front}
use Rattle.row_codec.proofs.lists.devices_from.Given as goal

abbrev pub invariant-loop : goal.invariant-loop
invariant-loop l = with_front l.devices (items_at device_at (l.count - l.counter) (last_of l.devices) l.rest) ≡ items_at device_at l.count None l.bytes
