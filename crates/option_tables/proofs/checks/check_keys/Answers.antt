use Rattle.std.proofs.Common.{ℕ, List, arith}
use Rattle.option_tables.specs.Tables.{form_of}
use Rattle.option_tables.specs.Checks.{fault_at, keys_fault}
use Rattle.option_tables.proofs.Firsts.{first_of-here, first_of-later, first_of-none}
use Rattle.option_tables.proofs.checks.check_keys.Goals as goal

pub returns-in-Err : goal.returns-in-Err
unfolding keys_fault
returns-in-Err c = first_of-here (λ (s : ℕ × (List ℕ × List ℕ)). fault_at s.0 (form_of c.args.table s.1.0) s.1.1) c.args.config.now c.loop-place.place _ _ c.key_at.ensures c.value_at.ensures c.in-Err.fault c.in-Err.ensures c.loop-place.invariant

pub loop-place-preserved : goal.loop-place-preserved
loop-place-preserved c = first_of-later (λ (s : ℕ × (List ℕ × List ℕ)). fault_at s.0 (form_of c.args.table s.1.0) s.1.1) c.args.config.now c.loop-place.place _ _ c.key_at.ensures c.value_at.ensures c.in_default.ensures c.loop-place.invariant

pub returns : goal.returns
unfolding keys_fault
returns c = first_of-none (λ (s : ℕ × (List ℕ × List ℕ)). fault_at s.0 (form_of c.args.table s.1.0) s.1.1) c.args.config.now c.loop-place.place (omega arith) c.loop-place.invariant
