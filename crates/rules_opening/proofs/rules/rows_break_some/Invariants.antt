use Rattle.std.proofs.Common.{◌≡◌, None, take}
use Rattle.plain_lists.specs.Firsts.{first_of}
use Rattle.row_machine.specs.opening.Opening.{row_breaks}
use Rattle.rules_opening.specs.Rules.{row_rule}
use Rattle.rules_opening.proofs.rules.rows_break_some.Given as goal

-- no row breaks a rule before
abbrev pub invariant-loop-rule : goal.invariant-loop-rule
invariant-loop-rule l = first_of (λ rule. row_breaks l.view l.rows (row_rule rule)) (take l.rule-index l.rules) ≡ None
