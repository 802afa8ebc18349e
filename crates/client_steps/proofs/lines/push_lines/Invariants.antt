use Rattle.std.proofs.Common.{◌≡◌, ◌++◌, drop}
use Rattle.std.specs.Prelude.{string_bytes}
use Rattle.client_steps.specs.Lines.{lines}
use Rattle.client_steps.proofs.lines.push_lines.Given as goal

-- the lines so far, and those that are left
abbrev pub invariant-loop-row : goal.invariant-loop-row
invariant-loop-row l =
    string_bytes l.text ++ lines l.widths (drop l.row-index l.rows) ≡ string_bytes l.initial.text ++ lines l.widths l.rows
