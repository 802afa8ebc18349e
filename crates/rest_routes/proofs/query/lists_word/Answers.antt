use Rattle.std.proofs.Common.{◌==◌, rules, tests}
use Rattle.std.specs.Str.{bytes_eq}
use Rattle.std.proofs.lemmas.Iterator.Search.{any_from_yields_List}
use Rattle.std.proofs.lemmas.Iterator.Splits.{YieldsList-from_slice_split}
use Rattle.rest_routes.specs.Queries.{lists_word}
use Rattle.rest_routes.proofs.query.lists_word.Goals as goal

pub returns : goal.returns
unfolding lists_word
returns c =
    any_from_yields_List (λ part. bytes_eq part c.args.word.now) _ _ _ c.any.ensures.ran
    (YieldsList-from_slice_split _ (λ b. b == 44) c.args.value.now c.split.ensures.rest c.split.ensures.done c.split.ensures.closure (λ x b q k. search (rules, tests)))
    (λ x b q k. search (rules, tests))
