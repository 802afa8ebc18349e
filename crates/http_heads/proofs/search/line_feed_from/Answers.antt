use Rattle.std.proofs.Common.{◌≡◌, ◌+◌, ◌-◌, length, subst, arith, length-drop}
use Rattle.http_heads.specs.declared.search.Search.TheVariants.{Lines}
use Rattle.http_heads.specs.Search.{FindsSame}
use Rattle.http_heads.proofs.SearchLemmas.{rest_of_slice, past_nowhere}
use Rattle.http_heads.proofs.search.line_feed_from.Goals as goal

pub returns-in-Some-clause-same : goal.returns-in-Some-clause-same
returns-in-Some-clause-same c =
    let found = rw rest_of_slice at c.in-Some.ensures in
    past_nowhere c.args.from c.in-Some.count c.args.bytes.now (omega (arith, found.0.high, length-drop c.args.from c.args.bytes.now)) found.0.before

pub returns-in-None-clause-none : goal.returns-in-None-clause-none
returns-in-None-clause-none c =
    let left = length c.args.bytes.now - c.args.from in
    let whole : c.args.from + left ≡ length c.args.bytes.now = omega arith in
    let none = rw (rest_of_slice, length-drop) at c.in-None.ensures in
    let same = past_nowhere c.args.from left c.args.bytes.now (omega arith) none in
    subst (λ at. FindsSame (Lines c.args.from) (Lines at) c.args.bytes.now) whole same
