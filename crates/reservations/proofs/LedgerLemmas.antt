use Rattle.std.proofs.Common.{◌≡◌, ℕ, ◌+◌, ◌^◌, ◌<◌, ◌≤◌, Bool, true, false, cond, IsSome, Option, Some, None, List, [], ◌∷◌, ◌++◌, refl, sym, subst, arith}
use Rattle.std.specs.Option.{option_map}
use Rattle.std.specs.Str.{bytes_eq}
use Rattle.std.proofs.lemmas.List.Sums.{sum_by_push}
use Rattle.plain_lists.specs.Edits.{dropped}
use Rattle.plain_lists.proofs.Elements.{Each-map, Each-push}
use Rattle.plain_lists.proofs.Keys.{Distinct-push}
use Rattle.plain_lists.proofs.PutsLemmas.{sum_by-Puts}
use Rattle.plain_lists.proofs.EditLemmas.{dropped-Puts, Each-dropped, Distinct-dropped}
use Rattle.size_values.specs.declared.amounts.Amounts.{Amounts}
use Rattle.size_values.specs.declared.amounts.Part.{Part}
use Rattle.size_values.specs.declared.pool_part.PoolPart.{PoolPart}
use Rattle.size_values.specs.Amounts.{part}
use Rattle.size_values.proofs.AmountParts.{part-plus}
use Rattle.reservations.specs.declared.books.Hold.{Hold}
use Rattle.reservations.specs.Holdings.{Holdings, has_op, hold_at, all_part, all_on_pools, counted, counted_on, granted_more, converted_more, returned_more}
use Rattle.reservations.specs.Facts.{AreHoldings}

-- the facts do not read how much can be held without memory
pub AreHoldings-same : (l now : Holdings) → now.held ≡ l.held → now.greatest ≡ l.greatest → now.books ≡ l.books → AreHoldings l → AreHoldings now
AreHoldings-same l now held greatest books h =
    subst AreHoldings (λ i. record { held = sym held i; greatest = sym greatest i; books = sym books i; spare = now.spare })
    (record {
      balanced = h.balanced;
      distinct = h.distinct;
      up_to = h.up_to;
      limit = h.limit;
      small = h.small;
      balanced_pools = h.balanced_pools;
      small_pools = h.small_pools;
    })

-- one more share
pub AreHoldings-held : (l : Holdings) (op : ℕ) (project : List ℕ) (share : Amounts) (on : PoolPart) (spare : ℕ) → l.greatest < op → op < 2 ^ 40
    → ((k : Part) → part k share < 2 ^ 80) → on.disk < 2 ^ 80 → AreHoldings l
    → AreHoldings (record { held = l.held ++ record { op = op; project = project; share = share; part = on } ∷ []; greatest = op; books = granted_more share on l.books; spare = spare })
AreHoldings-held l op project share on spare above limit small small_part h =
    let more : Hold = record { op = op; project = project; share = share; part = on } in
    record {
      balanced = λ k. omega (arith, h.balanced k, part-plus k l.books.granted share, sum_by_push (λ (x : Hold). part k x.share) l.held more);
      distinct = Distinct-push (λ (x : Hold). x.op) l.held more h.distinct
          (Each-map (λ x below same. absurd (let b : x.op ≤ l.greatest = below in let s : x.op ≡ op = same in omega arith)) h.up_to);
      up_to = Each-push (λ (x : Hold). x.op ≤ op) (Each-map (λ x below. let b : x.op ≤ l.greatest = below in omega arith) h.up_to) (omega arith);
      limit = limit;
      small = λ k. omega (arith, h.small k, small k, part-plus k l.books.granted share);
      balanced_pools = omega (arith, h.balanced_pools, sum_by_push (λ (x : Hold). x.part.disk) l.held more);
      small_pools = omega (arith, h.small_pools, small_part);
    }

module _ (l : Holdings) (op : ℕ) (hold : Hold) (held : hold_at l op ≡ Some hold) where
  -- what the list loses with a share
  pub all_part-dropped : (k : Part) → all_part k l.held ≡ part k hold.share + all_part k (dropped (has_op op) l.held)
  all_part-dropped k = sum_by-Puts (λ (x : Hold). part k x.share) (dropped-Puts (has_op op) hold l.held held)

  pub all_on_pools-dropped : all_on_pools l.held ≡ hold.part.disk + all_on_pools (dropped (has_op op) l.held)
  all_on_pools-dropped = sum_by-Puts (λ (x : Hold). x.part.disk) (dropped-Puts (has_op op) hold l.held held)

  -- a share that is held is small beside the books
  pub share-fits : AreHoldings l → (k : Part) → part k l.books.converted + part k l.books.returned + part k hold.share < 2 ^ 120
  share-fits h k = omega (arith, h.balanced k, h.small k, h.limit, all_part-dropped k)

  pub part-fits : AreHoldings l → l.books.pool_converted + l.books.pool_returned + hold.part.disk < 2 ^ 120
  part-fits h = omega (arith, h.balanced_pools, h.small_pools, h.limit, all_on_pools-dropped)

  -- one share fewer, and it was converted
  pub AreHoldings-converted : (spare : ℕ) → AreHoldings l
      → AreHoldings (record l { held = dropped (has_op op) l.held; books = converted_more hold.share hold.part l.books; spare = spare })
  AreHoldings-converted spare h = record {
    balanced = λ k. omega (arith, h.balanced k, part-plus k l.books.converted hold.share, all_part-dropped k);
    distinct = Distinct-dropped (λ (x : Hold). x.op) (has_op op) l.held h.distinct;
    up_to = Each-dropped (has_op op) h.up_to;
    limit = h.limit;
    small = h.small;
    balanced_pools = omega (arith, h.balanced_pools, all_on_pools-dropped);
    small_pools = h.small_pools;
  }

  -- one share fewer, and it was returned
  pub AreHoldings-returned : (spare : ℕ) → AreHoldings l
      → AreHoldings (record l { held = dropped (has_op op) l.held; books = returned_more hold.share hold.part l.books; spare = spare })
  AreHoldings-returned spare h = record {
    balanced = λ k. omega (arith, h.balanced k, part-plus k l.books.returned hold.share, all_part-dropped k);
    distinct = Distinct-dropped (λ (x : Hold). x.op) (has_op op) l.held h.distinct;
    up_to = Each-dropped (has_op op) h.up_to;
    limit = h.limit;
    small = h.small;
    balanced_pools = omega (arith, h.balanced_pools, all_on_pools-dropped);
    small_pools = h.small_pools;
  }

-- no more is held than was granted, so every sum of shares fits
pub held-fits : (l : Holdings) → AreHoldings l → (k : Part) → all_part k l.held < 2 ^ 120
held-fits l h k = omega (arith, h.balanced k, h.small k, h.limit)

pub pools-fit : (l : Holdings) → AreHoldings l → all_on_pools l.held < 2 ^ 120
pools-fit l h = omega (arith, h.balanced_pools, h.small_pools, h.limit)

-- a share counts at most itself
pub counted-le : (k : Part) (project : List ℕ) (h : Hold) → counted k project h ≤ part k h.share
counted-le k project h = at (bytes_eq h.project project) where
  at : (b : Bool) → cond b (part k h.share) 0 ≤ part k h.share
  at true = omega arith
  at false = omega arith

pub counted_on-le : (project pool : List ℕ) (h : Hold) → counted_on project pool h ≤ h.part.disk
counted_on-le project pool h = at (bytes_eq h.project project) (bytes_eq h.part.pool pool) where
  at : (b c : Bool) → cond b (cond c h.part.disk 0) 0 ≤ h.part.disk
  at true true = omega arith
  at true false = omega arith
  at false c = omega arith

-- an operation with a share holds something
pub IsSome-held : (o : Option Hold) → IsSome (option_map (λ (h : Hold). h.share) o) → IsSome o
IsSome-held None some = some
IsSome-held (Some h) some = refl
