use Rattle.std.proofs.Common.{◌≡◌, None, take}
use Rattle.plain_lists.specs.Firsts.{first_of}
use Rattle.row_machine.specs.machine.TableRules.{too_many}
use Rattle.rules_tables.proofs.tables.tables_full.Given as goal

-- those before are not full
abbrev pub invariant-loop-kind : goal.invariant-loop-kind
invariant-loop-kind l = first_of (too_many l.view) (take l.kind-index l.kind-items) ≡ None
