use Rattle.std.proofs.Common.{◌≡◌, None, take, [], ◌∷◌}
use Rattle.row_machine.specs.machine.Changes.{rows_put}
use Rattle.row_machine.specs.machine.SettingRules.{row_settings}
use Rattle.plain_lists.specs.Firsts.{first_of}
use Rattle.rules_settings.proofs.rows.changes_break.Given as goal

-- those before break nothing
abbrev pub invariant-loop-change : goal.invariant-loop-change
invariant-loop-change l = first_of (λ c. first_of (row_settings l.view) (rows_put (c ∷ []))) (take l.change-index l.changes) ≡ None
