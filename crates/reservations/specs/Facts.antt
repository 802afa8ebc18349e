use Rattle.std.specs.Prelude.{◌≡◌, ◌+◌, ◌*◌, ◌^◌, ◌<◌, ◌≤◌}
use Rattle.plain_lists.specs.Members.{Each, Distinct}
use Rattle.size_values.specs.declared.amounts.Part.{Part}
use Rattle.size_values.specs.Amounts.{part}
use Rattle.reservations.specs.declared.books.Hold.{Hold}
use Rattle.reservations.specs.Holdings.{Holdings, all_part, all_on_pools}

-- what is true of a ledger at all times: every share granted was converted or returned or is still held, part by part
-- and on pools; each operation holds at most once; and no more was granted than a share of the most for each operation
pub record AreHoldings (holdings : Holdings) : Type 0 where
  pub balanced : (a_part : Part)
      → part a_part holdings.books.granted
      ≡ part a_part holdings.books.converted + part a_part holdings.books.returned + all_part a_part holdings.held
  pub distinct : Distinct (λ (hold : Hold). hold.op) holdings.held
  pub up_to : Each (λ (hold : Hold). hold.op ≤ holdings.greatest) holdings.held
  pub limit : holdings.greatest < 2 ^ 40
  pub small : (a_part : Part) → part a_part holdings.books.granted ≤ holdings.greatest * 2 ^ 80
  pub balanced_pools : holdings.books.pool_granted
      ≡ holdings.books.pool_converted + holdings.books.pool_returned + all_on_pools holdings.held
  pub small_pools : holdings.books.pool_granted ≤ holdings.greatest * 2 ^ 80
