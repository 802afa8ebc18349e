use Rattle.std.proofs.Common.{◌≡◌, ℕ, List, drop}
use Rattle.std.specs.List.{enumerate_from}
use Rattle.plain_lists.specs.Firsts.{first_of}
use Rattle.option_tables.specs.Tables.{form_of}
use Rattle.option_tables.specs.Checks.{fault_at}
use Rattle.option_tables.proofs.checks.check_keys.Given as goal

-- the first fault is among the keys that are left
abbrev pub invariant-loop-place : goal.invariant-loop-place
invariant-loop-place l =
    let rule = λ (s : ℕ × (List ℕ × List ℕ)). fault_at s.0 (form_of l.table s.1.0) s.1.1 in
    first_of rule (enumerate_from l.place (drop l.place l.config)) ≡ first_of rule (enumerate_from 0 l.config)
