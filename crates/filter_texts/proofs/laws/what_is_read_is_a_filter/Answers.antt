use Rattle.filter_texts.proofs.Readings.{sound}
use Rattle.filter_texts.proofs.laws.what_is_read_is_a_filter.Goals as goal

pub returns : goal.returns
returns c text steps e = let h = sound text steps e in (h.few, h.of.f, h.of.is, h.of.steps_are)
