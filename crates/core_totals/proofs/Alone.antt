-- A new operation is judged by what it claims alone.
use Rattle.core_totals.specs.Alone.{ClaimsAreJudgedAlone}
use Rattle.core_totals.proofs.Counts.{counts-alone}
use Rattle.core_totals.proofs.Policy.{policy-alone}
use Rattle.core_totals.proofs.Limits.{limits-alone}

pub judged-alone : ClaimsAreJudgedAlone
judged-alone s task moment h = record {
  counts = counts-alone s task moment h;
  policy = policy-alone s task moment h.limits;
  limits = limits-alone s task moment h;
}
