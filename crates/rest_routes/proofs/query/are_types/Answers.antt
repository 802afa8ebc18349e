use Rattle.std.proofs.Common.{◌==◌, rules, tests}
use Rattle.std.proofs.lemmas.Iterator.Search.{all_from_yields_List}
use Rattle.std.proofs.lemmas.Iterator.Splits.{YieldsList-from_slice_split}
use Rattle.rest_routes.specs.Queries.{is_type, are_types}
use Rattle.rest_routes.proofs.query.are_types.Goals as goal

pub returns : goal.returns
unfolding are_types
returns c =
    all_from_yields_List is_type _ _ _ c.all.ensures.ran
    (YieldsList-from_slice_split _ (λ b. b == 44) c.args.value.now c.split.ensures.rest c.split.ensures.done c.split.ensures.closure (λ x b q k. search (rules, tests)))
    (λ x b q k. search (rules, tests))
