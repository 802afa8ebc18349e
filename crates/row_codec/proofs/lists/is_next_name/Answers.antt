use Rattle.std.proofs.Common.{◌-◌, slice_get, ap, sym, ◌∙◌}
use Rattle.std.specs.Map.{keys_of}
use Rattle.row_codec.proofs.FieldRising.{next_by_last}
use Rattle.row_codec.proofs.lists.is_next_name.Goals as goal

pub returns-else-len-eq0-clause-next : goal.returns-else-len-eq0-clause-next
returns-else-len-eq0-clause-next c = c.lt.ensures ∙ sym (next_by_last c.args.devices.now c.name_at.result.now c.args.name.now (ap (λ n. slice_get (keys_of c.args.devices.now) (n - 1)) (sym c.len-len.ensures.len) ∙ c.name_at.ensures))
