use Rattle.std.proofs.Common.{sym}
use Rattle.std.specs.Option.{option_copied}
use Rattle.core_drafts.proofs.Orders.{rest-after, other_start}
use Rattle.core_drafts.proofs.keys.rest_after.Goals as goal

pub returns-in-Some : goal.returns-in-Some
returns-in-Some c =
    rest-after c.args.first.now c.args.key.now c.in-Some.rest.now (option_copied c.rest_after_slash.result)
    c.in-Some.ensures.cases.0 c.in-Some.ensures.cases.1 c.rest_after_slash.ensures

pub returns-in-None : goal.returns-in-None
returns-in-None c = λ second. sym (other_start c.args.first.now second c.args.key.now c.in-None.ensures.cases)
