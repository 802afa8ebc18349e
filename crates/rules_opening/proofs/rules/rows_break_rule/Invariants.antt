use Rattle.std.proofs.Common.{◌≡◌, None, take, option_map}
use Rattle.plain_lists.specs.Firsts.{first_of}
use Rattle.row_machine.specs.opening.Opening.{broken_at}
use Rattle.rules_opening.specs.Rules.{row_rule}
use Rattle.rules_opening.proofs.rules.rows_break_rule.Given as goal

-- those before do not break it
abbrev pub invariant-loop-row : goal.invariant-loop-row
invariant-loop-row l = first_of (λ r. option_map (broken_at r) (row_rule l.rule l.view r)) (take l.row-index l.rows) ≡ None
