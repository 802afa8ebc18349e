-- What is summed of what objects count for: a part of their amounts, or what they have on a pool.
use Rattle.std.proofs.Common.{◌≡◌, ℕ, ◌-◌, Bool, true, false, cond, List, refl, ◌∙◌, ap, arith}
use Rattle.std.specs.List.{sum_by}
use Rattle.std.specs.Str.{bytes_eq}
use Rattle.config_lists.proofs.Keys.{same}
use Rattle.size_values.specs.Amounts.{part, nothing, amount_above, excess_of}
use Rattle.size_values.specs.PoolParts.{no_part, on_pool, part_above}
use Rattle.size_values.specs.declared.amounts.Amounts.{Amounts}
use Rattle.size_values.specs.declared.amounts.Part.{Part}
use Rattle.size_values.specs.declared.pool_part.PoolPart.{PoolPart}
use Rattle.size_values.proofs.AmountParts.{amount_above-sub, part-excess}
use Rattle.row_machine.specs.machine.State.{State}
use Rattle.row_machine.specs.machine.Usage.{Load, loads}

abbrev pub Measure : Type 0
Measure = Amounts → PoolPart → ℕ

-- of an excess it is the difference, and 0 where there is none
pub record IsMeasure (m : Amounts → PoolPart → ℕ) : Type 0 where
  pub excess : (a b : Amounts) (p q : PoolPart) → m (excess_of a b) (part_above p q) ≡ m a p - m b q

abbrev pub by_part : Part → Measure
by_part k = λ amounts on. part k amounts

abbrev pub by_pool : List ℕ → Measure
by_pool pool = λ amounts on. on_pool pool on

-- what a load counts for in a project
abbrev pub measured : List ℕ → Measure → Load → ℕ
measured project m load = cond (bytes_eq load.project project) (m load.amounts load.on) 0

abbrev pub used_by : State → List ℕ → Measure → ℕ
used_by s project m = sum_by (measured project m) (loads s)

pub part-measure : (k : Part) → IsMeasure (by_part k)
part-measure k = record { excess = λ a b p q. part-excess k a b }

pub pool-measure : (pool : List ℕ) → IsMeasure (by_pool pool)
pool-measure pool = record { excess = λ a b p q. at p q (bytes_eq p.pool pool) refl } where
  at : (p q : PoolPart) (b : Bool) → bytes_eq p.pool pool ≡ b → cond b (amount_above p.disk (on_pool p.pool q)) 0 ≡ cond b p.disk 0 - on_pool pool q
  at p q true is = amount_above-sub p.disk (on_pool p.pool q) ∙ ap (λ name. p.disk - on_pool name q) (same p.pool pool is)
  at p q false is = omega arith

-- of nothing it is 0
pub none-measure : (m : Amounts → PoolPart → ℕ) → IsMeasure m → m nothing no_part ≡ 0
unfolding excess_of
none-measure m measure =
    let itself : m nothing no_part ≡ m nothing no_part - m nothing no_part = measure.excess nothing nothing no_part no_part in
    omega (arith, itself)
