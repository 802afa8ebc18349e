use Rattle.std.proofs.Common.{◌≡◌, map, drop}
use Rattle.option_tables.specs.Tables.{type_in}
use Rattle.option_tables.proofs.tables.type_in.Given as goal

-- the first line is among those that are left
abbrev pub invariant-loop-row : goal.invariant-loop-row
invariant-loop-row l = type_in (map (λ row. (row.0.now, row.1)) (drop l.row-index l.types)) l.name ≡ type_in (map (λ row. (row.0.now, row.1)) l.types) l.name
