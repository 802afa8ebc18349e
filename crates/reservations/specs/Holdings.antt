use Rattle.std.specs.Prelude.{ℕ, ◌+◌, ◌==◌, Bool, Option, List, if◌then◌else◌}
use Rattle.std.specs.List.{find, sum_by}
use Rattle.std.specs.Option.{option_map}
use Rattle.std.specs.Str.{bytes_eq}
use Rattle.size_values.specs.declared.amounts.Amounts.{Amounts}
use Rattle.size_values.specs.declared.amounts.Part.{Part}
use Rattle.size_values.specs.declared.pool_part.PoolPart.{PoolPart}
use Rattle.size_values.specs.Amounts.{nothing, part, plus_of}
use Rattle.size_values.specs.PoolParts.{on_pool}
use Rattle.reservations.specs.declared.books.Hold.{Hold}
use Rattle.reservations.specs.declared.books.Books.{Books}

-- the ledger: the shares that are held, in the order of their operations; the greatest operation that ever held one;
-- the books; and how many more shares can be held without taking memory
pub record Holdings : Type 0 where
  pub held : List Hold
  pub greatest : ℕ
  pub books : Books
  pub spare : ℕ

-- nothing was granted yet
abbrev pub no_books : Books
no_books = record {
  granted = nothing;
  converted = nothing;
  returned = nothing;
  pool_granted = 0;
  pool_converted = 0;
  pool_returned = 0;
}

-- whether it is the share of this operation
abbrev pub has_op : ℕ → Hold → Bool
has_op number hold = hold.op == number

-- what this operation holds
abbrev pub hold_at : Holdings → ℕ → Option Hold
hold_at holdings number = find (has_op number) holdings.held

-- the share of this operation
abbrev pub share_at : Holdings → ℕ → Option Amounts
share_at holdings number = option_map (λ hold. hold.share) (hold_at holdings number)

-- what a share counts for a project: nothing, if it is of another one
abbrev pub counted : Part → List ℕ → Hold → ℕ
counted a_part project hold = if bytes_eq hold.project project then part a_part hold.share else 0

-- one part of what the operations of a project hold
abbrev pub held_part : Part → List ℕ → List Hold → ℕ
held_part a_part project holds = sum_by (counted a_part project) holds

-- one part of all that is held
abbrev pub all_part : Part → List Hold → ℕ
all_part a_part holds = sum_by (λ hold. part a_part hold.share) holds

-- what a share has on a pool for a project: nothing, if it is of another one
abbrev pub counted_on : List ℕ → List ℕ → Hold → ℕ
counted_on project pool hold = if bytes_eq hold.project project then on_pool pool hold.part else 0

-- what the operations of a project hold on a pool
abbrev pub held_on : List ℕ → List ℕ → List Hold → ℕ
held_on project pool holds = sum_by (counted_on project pool) holds

-- all that is held on pools
abbrev pub all_on_pools : List Hold → ℕ
all_on_pools holds = sum_by (λ hold. hold.part.disk) holds

-- the books after this share, with its part on a pool, was granted, was converted, was returned
abbrev pub granted_more : Amounts → PoolPart → Books → Books
granted_more share on books =
    record books { granted = plus_of books.granted share; pool_granted = books.pool_granted + on.disk }

abbrev pub converted_more : Amounts → PoolPart → Books → Books
converted_more share on books =
    record books { converted = plus_of books.converted share; pool_converted = books.pool_converted + on.disk }

abbrev pub returned_more : Amounts → PoolPart → Books → Books
returned_more share on books =
    record books { returned = plus_of books.returned share; pool_returned = books.pool_returned + on.disk }
