use Rattle.std.proofs.Common.{◌≡◌, map, take}
use Rattle.size_values.specs.Amounts.{nothing}
use Rattle.rules_limits.proofs.sums.no_sums.Given as goal

abbrev pub invariant-loop-project : goal.invariant-loop-project
invariant-loop-project l = l.sums.items ≡ map (λ p. nothing) (take l._project-index l.projects)
