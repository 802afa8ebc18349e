use Rattle.rules_policy.proofs.alone.number_forbids.Goals as goal

pub returns-then-number-lowest : goal.returns-then-number-lowest
returns-then-number-lowest c = c.requires c.args.number c.if-number-lowest.true
