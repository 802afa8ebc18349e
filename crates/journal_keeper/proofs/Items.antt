-- Changes that are read one after the other, as a loop does.
use Rattle.std.proofs.Common.{◌≡◌, ℕ, suc, ◌-◌, ◌+◌, ◌≤◌, ◌<◌, List, [], ◌∷◌, ◌++◌, Option, Some, None, refl, sym, ap, ◌∙◌, append_assoc, arith}
use Rattle.std.proofs.lemmas.List.{append-nil}
use Rattle.size_values.specs.declared.entry.EntryChange.{EntryChange}
use Rattle.size_values.specs.declared.memory.Or.{Or}
use Rattle.size_values.specs.declared.memory.Or.TheVariants as or
use Rattle.journal_keeper.specs.declared.texts.BadText.{BadText}
use Rattle.journal_keeper.specs.Texts.{◌>>=◌, Commit, Read, added, change_at, changes_at}

-- what was read before, and what is still read
abbrev pub with_front : Commit → Read Commit → Read Commit
with_front front read = read >>= λ x. Some (front ++ x.0, x.1)

-- an error says that reading gives nothing, unless memory ran out
abbrev pub Fails : {Y : Type 0} → Or BadText → Option Y → Type 0
Fails or.NoMemory read = Unit {0}
Fails (or.Why bad) read = read ≡ None

regroup : (front : Commit) (x : EntryChange) (read : Read Commit) → with_front front (read >>= λ others. Some (x ∷ others.0, others.1)) ≡ with_front (front ++ x ∷ []) read
regroup front x (Some others) = ap (λ (xs : Commit). Some (xs, others.1)) (sym (append_assoc front (x ∷ []) others.0))
regroup front x None = refl

step : (n : ℕ) (front : Commit) (bytes : List ℕ) (read : Read EntryChange) → change_at bytes ≡ read → (next : Commit) (after : List ℕ) → added front read ≡ Some (next, after)
    → with_front front (changes_at (suc n) bytes) ≡ with_front next (changes_at n after)
unfolding changes_at
step n front bytes (Some x) is next after made =
    let pair : (front ++ x.0 ∷ [], x.1) ≡ (next, after) = cc in
    ap (λ (r : Read EntryChange). with_front front (r >>= λ first. changes_at n first.1 >>= λ others. Some (first.0 ∷ others.0, others.1))) is
    ∙ regroup front x.0 (changes_at n x.1)
    ∙ ap (λ (p : Commit × List ℕ). with_front p.0 (changes_at n p.1)) pair
step n front bytes None is next after made = absurd cc

stop : (n : ℕ) (front : Commit) (bytes : List ℕ) (read : Read EntryChange) → change_at bytes ≡ read → added front read ≡ None → with_front front (changes_at (suc n) bytes) ≡ None
unfolding changes_at
stop n front bytes (Some x) is failed = absurd cc
stop n front bytes None is failed =
    ap (λ (r : Read EntryChange). with_front front (r >>= λ first. changes_at n first.1 >>= λ others. Some (first.0 ∷ others.0, others.1))) is

pub goes_on : (count i : ℕ) (front next : Commit) (bytes after : List ℕ) (total : Read Commit) → i < count → added front (change_at bytes) ≡ Some (next, after)
    → with_front front (changes_at (count - i) bytes) ≡ total → with_front next (changes_at (count - (i + 1)) after) ≡ total
goes_on count i front next bytes after total lt made so_far =
    let k : count - i ≡ suc (count - (i + 1)) = omega arith in
    sym (ap (λ n. with_front front (changes_at n bytes)) k ∙ step (count - (i + 1)) front bytes (change_at bytes) refl next after made) ∙ so_far

pub ends : (e : Or BadText) (count i : ℕ) (front : Commit) (bytes : List ℕ) (total : Read Commit) → i < count → Fails e (added front (change_at bytes))
    → with_front front (changes_at (count - i) bytes) ≡ total → Fails e total
ends or.NoMemory count i front bytes total lt failed so_far = tt
ends (or.Why u) count i front bytes total lt failed so_far =
    let k : count - i ≡ suc (count - (i + 1)) = omega arith in
    sym so_far ∙ ap (λ n. with_front front (changes_at n bytes)) k ∙ stop (count - (i + 1)) front bytes (change_at bytes) refl failed

pub is_done : (count i : ℕ) (front : Commit) (bytes : List ℕ) (total : Read Commit) → count ≤ i → with_front front (changes_at (count - i) bytes) ≡ total → total ≡ Some (front, bytes)
unfolding changes_at
is_done count i front bytes total le so_far =
    let k : count - i ≡ 0 = omega arith in
    let one : with_front front (changes_at (count - i) bytes) ≡ Some (front, bytes) = rw k (ap (λ (xs : Commit). Some (xs, bytes)) (append-nil front)) in
    sym so_far ∙ one
