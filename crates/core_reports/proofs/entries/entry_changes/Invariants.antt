use Rattle.std.proofs.Common.{◌≡◌, ◌++◌, map, drop}
use Rattle.std.specs.List.{AllByRecursion}
use Rattle.core_reports.specs.Entries.{HasEntry}
use Rattle.machine_laws.specs.Entries.{entry_change, entry_changes}
use Rattle.core_reports.proofs.entries.entry_changes.Given as goal

abbrev pub invariant-loop-change : goal.invariant-loop-change
invariant-loop-change l =
    (l.entries ++ map entry_change (drop l.change-index l.changes) ≡ entry_changes l.changes)
    × AllByRecursion HasEntry (drop l.change-index l.changes)
