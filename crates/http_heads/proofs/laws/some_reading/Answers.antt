use Rattle.http_heads.proofs.ReadingLemmas.{reading_of}
use Rattle.http_heads.proofs.laws.some_reading.Goals as goal

pub returns : goal.returns
returns c = reading_of
