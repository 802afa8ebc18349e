-- What is seen of a disk, what its calls do to it, and what a crash may leave of it.
use Rattle.std.specs.Prelude.{ℕ, ◌≡◌, ◌+◌, ◌^◌, ◌≤◌, ◌⊎◌, max, Bool, List, ◌++◌, length, take, drop, Option, IfSome, Result, Ok, Err}
use Rattle.size_values.specs.Causes.{Rose}

-- A disk at one moment: what reads give, where it tells that; the moment, a number that doesn't fall; what a crash now
-- may leave; what a crash at some moment since an earlier one may have left; and how often calls of it failed.
pub record DiskState : Type 1 where
  pub contents : Option (List ℕ)
  pub moment : ℕ
  pub may_leave : List ℕ → Type 0
  pub left_since : ℕ → List ℕ → Type 0
  pub failures : ℕ

-- the most bytes that a disk has
abbrev pub disk_limit : ℕ
disk_limit = 2 ^ 40

-- the bytes with these at this place, over what was there
abbrev pub patched : ℕ → List ℕ → List ℕ → List ℕ
patched place bytes old = take place old ++ bytes ++ drop (place + length bytes) old

-- A write of so many bytes that a crash cuts short: any bytes in its range, the same elsewhere, and a size from the old
-- one to the new one.
pub record Torn (place count : ℕ) (old new : List ℕ) : Type 0 where
  pub before : take place new ≡ take place old
  pub after : drop (place + count) new ≡ drop (place + count) old
  pub no_shorter : length old ≤ length new
  pub no_longer : length new ≤ max (length old) (place + count)

-- each new outcome of a crash is an old outcome after a step
abbrev pub Follows : (List ℕ → List ℕ → Type 0) → (List ℕ → Type 0) → (List ℕ → Type 0) → Type 0
Follows step old new = (left : List ℕ) → new left → (was : List ℕ) × old was × step was left

-- a crash leaves this and nothing else
abbrev pub Only : List ℕ → (List ℕ → Type 0) → Type 0
Only bytes outcomes = (left : List ℕ) → outcomes left → left ≡ bytes

-- Time goes on: a crash since an earlier moment may have left what it may have left before, or what it may leave now.
pub record Elapses (old new : DiskState) : Type 0 where
  pub later : old.moment ≤ new.moment
  pub nothing_else : (since : ℕ) (left : List ℕ) → since ≤ old.moment
      → new.left_since since left → old.left_since since left ⊎ new.may_leave left
  pub keeps : (since : ℕ) (left : List ℕ) → since ≤ old.moment → old.left_since since left → new.left_since since left

-- What reads give is one of the outcomes of a crash.
abbrev pub MayStay : DiskState → Type 0
MayStay disk = IfSome disk.contents disk.may_leave

-- a call that writes nothing: the contents stay, and a crash leaves nothing that it could not have left before
pub record WritesNothing (old new : DiskState) : Type 0 where
  pub contents : new.contents ≡ old.contents
  pub crash : (left : List ℕ) → new.may_leave left → old.may_leave left
  pub stays : MayStay new
  pub time : Elapses old new

-- A crash at any moment from old to new leaves bytes that have the property.
pub record LeavesOnly (old new : DiskState) (P : List ℕ → Type 0) : Type 0 where
  pub later : old.moment ≤ new.moment
  pub each : (left : List ℕ) → new.left_since old.moment left → P left
  -- for a run that began earlier
  pub before : (since : ℕ) (left : List ℕ) → since ≤ old.moment
      → new.left_since since left → old.left_since since left ⊎ P left

-- What one call does to the count of failures: one that is well leaves it, and one that failed raised it.
abbrev pub CountsFailed : {T E : Type 0} → ℕ → ℕ → Result T E → Type 0
CountsFailed before now (Ok value) = now ≡ before
CountsFailed before now (Err error) = (before ≤ now) × Rose before now
