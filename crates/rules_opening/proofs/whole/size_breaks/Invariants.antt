use Rattle.std.proofs.Common.{◌≡◌, None, take, option_map}
use Rattle.plain_lists.specs.Firsts.{first_of}
use Rattle.records.specs.declared.refusals.Rule.TheVariants.{C2}
use Rattle.row_machine.specs.machine.TableRules.{too_large}
use Rattle.row_machine.specs.opening.Opening.{broken_at}
use Rattle.rules_opening.proofs.whole.size_breaks.Given as goal

-- none before is too large
abbrev pub invariant-loop-row : goal.invariant-loop-row
invariant-loop-row l = first_of (λ r. option_map (λ why. broken_at r C2) (too_large r)) (take l.row-index l.rows) ≡ None
