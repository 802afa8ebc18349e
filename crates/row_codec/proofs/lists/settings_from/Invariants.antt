use Rattle.std.proofs.Common.{◌≡◌, ◌-◌, None}
use Rattle.row_codec.specs.FieldReading.{last_of, items_at, setting_at}
use Rattle.row_codec.proofs.Items.{with_front}
use Rattle.row_codec.proofs.lists.settings_from.Given as goal

abbrev pub invariant-loop : goal.invariant-loop
invariant-loop l = with_front l.config (items_at setting_at (l.count - l.counter) (last_of l.config) l.rest) ≡ items_at setting_at l.count None l.bytes
