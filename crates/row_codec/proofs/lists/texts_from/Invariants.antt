use Rattle.std.proofs.Common.{◌≡◌, ◌-◌, None}
use Rattle.row_codec.specs.FieldReading.{last_of, items_at, text_at}
use Rattle.row_codec.proofs.Items.{with_front}
use Rattle.row_codec.proofs.lists.texts_from.Given as goal

abbrev pub invariant-loop : goal.invariant-loop
invariant-loop l = with_front l.texts (items_at (λ before. text_at) (l.count - l.counter) (last_of l.texts) l.rest) ≡ items_at (λ before. text_at) l.count None l.bytes
