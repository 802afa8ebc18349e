use Rattle.std.proofs.Common.{◌≡◌, [], length}
use Rattle.journal_keeper.specs.Keeping.{ReadsTo}
use Rattle.journal_keeper.proofs.records.read_records.Given as goal

abbrev pub invariant-loop-behind : goal.invariant-loop-behind
invariant-loop-behind l = record { reads : ReadsTo l.file l.rest l.rows.entries; fails : l.rows.calls.fails ≡ [] }

abbrev pub decreases-loop-behind : goal.decreases-loop-behind
decreases-loop-behind l = length l.rest
