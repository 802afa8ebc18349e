use Rattle.std.proofs.Common.{refl}
use Rattle.std.specs.Fmt.{digits}
use Rattle.rest_replies.specs.Refusals.{error_text}
use Rattle.rest_replies.proofs.laws.refusals_in_words.Goals as goal

pub returns : goal.returns
unfolding error_text digits
returns c = record { words = refl; empty = refl }
