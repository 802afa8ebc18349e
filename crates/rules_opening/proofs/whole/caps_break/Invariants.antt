use Rattle.std.proofs.Common.{◌≡◌, None, take}
use Rattle.plain_lists.specs.Firsts.{first_of}
use Rattle.row_machine.specs.opening.Opening.{past_cap}
use Rattle.rules_opening.proofs.whole.caps_break.Given as goal

-- of no kind before are there too many
abbrev pub invariant-loop-kind : goal.invariant-loop-kind
invariant-loop-kind l = first_of (past_cap l.rows) (take l.kind-index l.kind-items) ≡ None
