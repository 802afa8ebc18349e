use Rattle.std.proofs.Common.{◌≡◌, map, drop}
use Rattle.option_tables.specs.Tables.{form_in}
use Rattle.option_tables.proofs.tables.form_in.Given as goal

-- the first line is among those that are left
abbrev pub invariant-loop-line : goal.invariant-loop-line
invariant-loop-line l = form_in (map (λ line. (line.0.now, line.1)) (drop l.line-index l.lines)) l.key ≡ form_in (map (λ line. (line.0.now, line.1)) l.lines) l.key
