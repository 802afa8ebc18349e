use Rattle.std.proofs.Common.{◌≡◌, map, drop}
use Rattle.option_tables.specs.Tables.{scoped_form_in}
use Rattle.option_tables.proofs.tables.scoped_form_in.Given as goal

-- the first line is among those that are left
abbrev pub invariant-loop-line : goal.invariant-loop-line
invariant-loop-line l = scoped_form_in (map (λ line. (line.0.now, line.1, line.2)) (drop l.line-index l.lines)) l.scope l.key ≡ scoped_form_in (map (λ line. (line.0.now, line.1, line.2)) l.lines) l.scope l.key
