use Rattle.std.proofs.Common.{◌≡◌, ◌∷◌, drop, max}
use Rattle.client_steps.specs.Lines.{widest}
use Rattle.client_steps.proofs.lines.widths_of.Given as goal

-- the longest cells so far, and those that are left
abbrev pub invariant-loop-row : goal.invariant-loop-row
invariant-loop-row l = record {
  first : max l.first (widest (λ row. row.first) (drop l.row-index l.rows)) ≡ widest (λ row. row.first) (l.heading ∷ l.rows);
  second : max l.second (widest (λ row. row.second) (drop l.row-index l.rows)) ≡ widest (λ row. row.second) (l.heading ∷ l.rows);
}
