use Rattle.rules_policy.proofs.Below.{below-found, below-none}
use Rattle.rules_policy.proofs.restricted.Restricted.lowest_rule.Goals as goal

pub returns-in-Some : goal.returns-in-Some
returns-in-Some c = below-found c.args.self.now c.args.subject c.args.config.now c.args.devices.now c.in-Some.found c.in-Some.ensures

pub returns-in-None : goal.returns-in-None
returns-in-None c = below-none c.args.self.now c.args.subject c.args.config.now c.args.devices.now _ c.in-None.ensures
