use Rattle.std.proofs.Common.{◌≡◌, None, take, [], ◌∷◌}
use Rattle.row_machine.specs.machine.Changes.{rows_put}
use Rattle.row_machine.specs.machine.TableRules.{too_large}
use Rattle.plain_lists.specs.Firsts.{first_of}
use Rattle.rules_tables.proofs.tables.changes_too_large.Given as goal

-- those before break nothing
abbrev pub invariant-loop-change : goal.invariant-loop-change
invariant-loop-change l = first_of (λ c. first_of too_large (rows_put (c ∷ []))) (take l.change-index l.changes) ≡ None
