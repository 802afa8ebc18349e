use Rattle.std.proofs.Common.{◌≡◌, None, take}
use Rattle.rules_settings.specs.Named.{where_claimed}
use Rattle.plain_lists.specs.Firsts.{first_of}
use Rattle.rules_settings.proofs.instances.claims_break.Given as goal

-- those before break nothing
abbrev pub invariant-loop-operation : goal.invariant-loop-operation
invariant-loop-operation l = first_of (λ o. where_claimed l.view l.profile o.work) (take l.operation-index l.live) ≡ None
