use Rattle.std.proofs.Common.{◌≡◌, None, take}
use Rattle.rules_settings.specs.Named.{where_named}
use Rattle.plain_lists.specs.Firsts.{first_of}
use Rattle.rules_settings.proofs.instances.instances_break.Given as goal

-- those before break nothing
abbrev pub invariant-loop-row : goal.invariant-loop-row
invariant-loop-row l = first_of (where_named l.view l.profile) (take l.row-index l.rows) ≡ None
