use Rattle.http_heads.proofs.MessageLemmas.{splits_unique}
use Rattle.http_heads.proofs.laws.one_reading.Goals as goal

pub returns : goal.returns
returns c = splits_unique
