use Rattle.std.proofs.Common.{◌≡◌, drop, fold}
use Rattle.row_machine.specs.machine.Changes.{with_row}
use Rattle.row_readings.specs.Rising.{AreRising}
use Rattle.core_drafts.proofs.lists.Lists.fill_rows.Given as goal

-- the rows that are left lead to the same state
abbrev pub invariant-loop-row : goal.invariant-loop-row
invariant-loop-row l = record {
  state : fold (λ s r. with_row r s) l.self.state (drop l.row-index l.rows) ≡ fold (λ s r. with_row r s) l.fn.self.state l.rows;
  rises : AreRising l.self.state;
  backing : l.self.backing ≡ l.fn.self.backing;
}
