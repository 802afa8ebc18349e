use Rattle.std.proofs.Common.{◌≡◌, ◌==◌, drop, filter, slice_get}
use Rattle.row_codec.specs.Spelling.{kind_of}
use Rattle.rules_opening.proofs.whole.row_after.Given as goal

-- the row is among those that are left
abbrev pub invariant-loop-row : goal.invariant-loop-row
invariant-loop-row l =
    slice_get (filter (λ r. kind_of r == l.kind) (drop l.row-index l.rows)) l.left
    ≡ slice_get (filter (λ r. kind_of r == l.kind) l.rows) l.before
