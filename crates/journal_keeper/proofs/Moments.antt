-- How a run of calls of a disk goes on.
use Rattle.std.proofs.Common.{inl, inr, ⊎_elim, ℕ, ◌≤◌, ◌∙◌, List, refl, arith}
use Rattle.disk_model.specs.Disk.{DiskState, Elapses, LeavesOnly, WritesNothing, MayStay, Torn, Follows}
use Rattle.journal_keeper.specs.Keeping.{TornFrom}

-- before the first call
pub started : (old : DiskState) (P : List ℕ → Type 0) → ((left : List ℕ) → old.left_since old.moment left → P left) → LeavesOnly old old P
started old P here = record { later = omega arith; each = here; before = λ since left le is. inl is }

-- one call more, after which a crash leaves what has the property
pub goes_on : (old mid new : DiskState) (P : List ℕ → Type 0) → LeavesOnly old mid P → Elapses mid new → ((left : List ℕ) → new.may_leave left → P left) → LeavesOnly old new P
goes_on old mid new P so_far time here = record {
  later = omega (arith, so_far.later, time.later);
  each = λ left is. ⊎_elim (so_far.each left) (here left) (time.nothing_else old.moment left so_far.later is);
  before = λ since left le is. ⊎_elim (so_far.before since left le) (λ now. inr (here left now)) (time.nothing_else since left (omega (arith, le, so_far.later)) is);
}

-- one run after the other
pub joined : (old mid new : DiskState) (P : List ℕ → Type 0) → LeavesOnly old mid P → LeavesOnly mid new P → LeavesOnly old new P
joined old mid new P first second = record {
  later = omega (arith, first.later, second.later);
  each = λ left is. ⊎_elim (first.each left) (λ p. p) (second.before old.moment left first.later is);
  before = λ since left le is. ⊎_elim (first.before since left le) (λ p. inr p) (second.before since left (omega (arith, le, first.later)) is);
}

-- what has a property has a weaker one
pub weaker : (old new : DiskState) (P Q : List ℕ → Type 0) → ((left : List ℕ) → P left → Q left) → LeavesOnly old new P → LeavesOnly old new Q
weaker old new P Q tells run = record {
  later = run.later;
  each = λ left is. tells left (run.each left is);
  before = λ since left le is. ⊎_elim (λ was. inl was) (λ p. inr (tells left p)) (run.before since left le is);
}

-- a call that writes nothing
pub still : (old new : DiskState) (P : List ℕ → Type 0) → ((left : List ℕ) → old.left_since old.moment left → old.may_leave left) → WritesNothing old new → ((left : List ℕ) → old.may_leave left → P left) → LeavesOnly old new P
still old new P now quiet here = goes_on old old new P (started old P (λ left is. here left (now left is))) quiet.time (λ left is. here left (quiet.crash left is))

-- two calls that write nothing
pub twice : (old mid new : DiskState) → ((since : ℕ) (left : List ℕ) → since ≤ old.moment → old.may_leave left → old.left_since since left) → WritesNothing old mid → WritesNothing mid new → WritesNothing old new
twice old mid new counts first second = record {
  contents = second.contents ∙ first.contents;
  crash = λ left is. first.crash left (second.crash left is);
  stays = second.stays;
  time = record {
    later = omega (arith, first.time.later, second.time.later);
    nothing_else = λ since left le is. ⊎_elim
        (λ was. ⊎_elim (λ before. inl before) (λ now. inl (counts since left le (first.crash left now))) (first.time.nothing_else since left le was))
        (λ now. inr now)
        (second.time.nothing_else since left (omega (arith, le, first.time.later)) is);
    keeps = λ since left le is. second.time.keeps since left (omega (arith, le, first.time.later)) (first.time.keeps since left le is);
  };
}

-- no call
pub nothing : (d : DiskState) → MayStay d → WritesNothing d d
nothing d stays = record {
  contents = refl;
  crash = λ left is. is;
  stays = stays;
  time = record { later = omega arith; nothing_else = λ since left le is. inl is; keeps = λ since left le is. is };
}

torn_same : (place count : ℕ) (old : List ℕ) → Torn place count old old
torn_same place count old = record { before = refl; after = refl; no_shorter = omega arith; no_longer = omega arith }

module _ (old mid : DiskState) (place count : ℕ) (now : (left : List ℕ) → old.left_since old.moment left → old.may_leave left) (time : Elapses old mid) (crash : Follows (Torn place count) old.may_leave mid.may_leave) where
  -- after a write
  pub wrote : LeavesOnly old mid (TornFrom place count old)
  wrote = goes_on old old mid (TornFrom place count old) (started old (TornFrom place count old) (λ left is. (left, now left is, torn_same place count left))) time crash

  -- and a sync
  pub wrote_through : (new : DiskState) → WritesNothing mid new → LeavesOnly old new (TornFrom place count old)
  wrote_through new quiet = goes_on old mid new (TornFrom place count old) wrote quiet.time (λ left is. crash left (quiet.crash left is))
