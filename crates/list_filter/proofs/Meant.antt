-- What the steps of a text take.
use Rattle.std.proofs.Common.{ap, ◌∙◌}
use Rattle.filter_texts.specs.Meaning.{holds_for}
use Rattle.filter_texts.proofs.Meanings.{holds_for_filter}
use Rattle.filter_texts.proofs.Readings.{sound}
use Rattle.list_filter.specs.Taking.{holds}
use Rattle.list_filter.specs.Laws.{TakenAsMeant}

pub as_meant : TakenAsMeant
as_meant dialect shown text steps e =
    let read = sound text steps e in
    (read.of.f, read.of.is, ap (λ ss. holds_for (holds dialect shown) ss) read.of.steps_are ∙ holds_for_filter (holds dialect shown) read.of.f)
