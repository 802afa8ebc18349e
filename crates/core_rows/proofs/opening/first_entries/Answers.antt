use Rattle.std.proofs.Common.{sym, subst}
use Rattle.std.specs.List.{AllByRecursion}
use Rattle.core_judging.specs.core_reports.specs.Entries.{HasEntry}
use Rattle.core_rows.proofs.FirstEntries.{first-entries}
use Rattle.core_rows.proofs.opening.first_entries.Goals as goal

pub entry_changes-requires : goal.entry_changes-requires
entry_changes-requires c = subst (λ changes. AllByRecursion HasEntry changes) (sym c.requires) first-entries
