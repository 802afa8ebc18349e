use Rattle.std.proofs.Common.{◌≡◌}
use Rattle.form_urlencoded.specs.Form.{raw_pairs}
use Rattle.form_urlencoded.specs.Parse.{pairs_left}
use Rattle.rest_routes.specs.Queries.{pairs_passing, query_in, query_of}
use Rattle.rest_routes.proofs.query.query_read.Given as goal

abbrev pub invariant-loop-pair : goal.invariant-loop-pair
invariant-loop-pair l =
    goal.iterator-loop-pair.can_next l.pair-iterator
    × goal.iterator-loop-pair.is_finite l.pair-iterator
    × (query_in l.taken l.query (pairs_passing l.passes_empty_filters (pairs_left l.pair-iterator))
    ≡ query_of l.taken (pairs_passing l.passes_empty_filters (raw_pairs l.text)))
