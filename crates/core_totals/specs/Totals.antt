-- Totals: what projects use of their limits and of limited pools, as it is kept.
use Rattle.std.specs.Prelude.{◌≡◌, ◌+◌, ◌-◌, ◌&&◌, ℕ, Bool, List, [], Option, IfSome}
use Rattle.std.specs.List.{find}
use Rattle.std.specs.Option.{option_map}
use Rattle.std.specs.Str.{bytes_eq}
use Rattle.plain_lists.specs.Edits.{changed_first}
use Rattle.size_values.specs.Amounts.{plus_of, excess_of}
use Rattle.size_values.specs.declared.amounts.Amounts.{Amounts}
use Rattle.size_values.specs.declared.pool_part.PoolPart.{PoolPart}
use Rattle.row_machine.specs.machine.State.{State}
use Rattle.row_machine.specs.machine.Usage.{usage_of, used_on}
use Rattle.core_totals.specs.declared.amount_totals.Total.{Total}
use Rattle.core_totals.specs.declared.pool_totals.PoolTotal.{PoolTotal}
use Rattle.core_totals.specs.declared.totals.Totals.{Totals}

-- ---- amounts

-- whether it is the total of this project
abbrev pub is_of : List ℕ → Total → Bool
is_of project total = bytes_eq total.project project

-- what is known of a project: its first total
abbrev pub known : List Total → List ℕ → Option Amounts
known totals project = option_map (λ total. total.amounts) (find (is_of project) totals)

-- other amounts of a project
abbrev pub changed : List ℕ → (Amounts → Amounts) → List Total → List Total
changed project f totals = changed_first (is_of project) (λ total. record total { amounts = f total.amounts }) totals

-- a project uses these amounts more
abbrev pub amounts_grown : List ℕ → Amounts → List Total → List Total
amounts_grown project asked totals = changed project (λ amounts. plus_of amounts asked) totals

-- or less
abbrev pub amounts_lowered : List ℕ → Amounts → List Total → List Total
amounts_lowered project asked totals = changed project (λ amounts. excess_of amounts asked) totals

-- what is known of each project is what it uses
pub record AreAmounts (state : State) (totals : List Total) : Type 0 where
  pub known : (project : List ℕ) → IfSome (known totals project) (λ amounts. amounts ≡ usage_of state project)

-- ---- pools

-- whether it is what this project uses of this pool
abbrev pub is_on : List ℕ → List ℕ → PoolTotal → Bool
is_on project pool total = bytes_eq total.project project && bytes_eq total.pool pool

-- what is known of a project on a pool: its first total there
abbrev pub known_on : List PoolTotal → List ℕ → List ℕ → Option ℕ
known_on totals project pool = option_map (λ total. total.used) (find (is_on project pool) totals)

-- other bytes of a project on a pool
abbrev pub changed_on : List ℕ → List ℕ → (ℕ → ℕ) → List PoolTotal → List PoolTotal
changed_on project pool f totals =
    changed_first (is_on project pool) (λ total. record total { used = f total.used }) totals

-- a project has this part more on its pool
abbrev pub pools_grown : List ℕ → PoolPart → List PoolTotal → List PoolTotal
pools_grown project part totals = changed_on project part.pool (λ used. used + part.disk) totals

-- or less
abbrev pub pools_lowered : List ℕ → PoolPart → List PoolTotal → List PoolTotal
pools_lowered project part totals = changed_on project part.pool (λ used. used - part.disk) totals

-- what is known of each project on each pool is what it uses there
pub record ArePools (state : State) (totals : List PoolTotal) : Type 0 where
  pub known : (project pool : List ℕ)
      → IfSome (known_on totals project pool) (λ used. used ≡ used_on state project pool)

-- ---- both

-- of no project anything
abbrev pub nothing_known : Totals
nothing_known = record { amounts = []; pools = [] }

-- what is known is what is used
pub record AreTotals (state : State) (totals : Totals) : Type 0 where
  pub amounts : AreAmounts state totals.amounts
  pub pools : ArePools state totals.pools

-- a project uses these amounts more, and this part on its pool
abbrev pub grown : List ℕ → Amounts → PoolPart → Totals → Totals
grown project asked part totals = record {
  amounts = amounts_grown project asked totals.amounts;
  pools = pools_grown project part totals.pools;
}

-- or less
abbrev pub lowered : List ℕ → Amounts → PoolPart → Totals → Totals
lowered project asked part totals = record {
  amounts = amounts_lowered project asked totals.amounts;
  pools = pools_lowered project part totals.pools;
}
