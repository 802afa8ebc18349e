-- Changes made by their statements, one after the other.
use Rattle.std.proofs.Common.{◌≡◌, ℕ, ◌+◌, ◌<◌, true, List, [], ◌∷◌, ◌++◌, take, get_or, length, Ok, Result, Err, IsTrue, OnOk, OnErr, IfErr, inl, inr, refl, sym, ap, subst, ◌∙◌, arith}
use Rattle.std.proofs.lemmas.Bool.{false≢true}
use Rattle.std.proofs.lemmas.List.{take_more}
use Rattle.size_values.specs.declared.entry.EntryChange.{EntryChange}
use Rattle.sqlite.specs.Store.{Ghosts}
use Rattle.sqlite.specs.declared.error.Error.{Error}
use Rattle.sqlite.specs.Effect.{Database}
use Rattle.sqlite.specs.State.{HasCleanDisk, Executes, KeepsCommit, Survives}
use Rattle.sqlite.specs.Steps.{FailsToCommit}
use Rattle.sqlite.specs.Held.{Held, state}
use Rattle.sqlite.proofs.StateLemmas.{survives_then}
use Rattle.sqlite.proofs.Callers.{survives_begin}
use Rattle.sqlite_keeper.specs.Changes.{statement_of, values_of, Makes, Leaves}

-- what holds of an answer that is well, and of one that is not
pub of-ok : {T E : Type 0} (r : Result T E) (P Q : Type 0) → (P → Q) → OnOk r P → OnOk r Q
of-ok (Ok x) P Q f h = f h
of-ok (Err e) P Q f h = h

pub of-err : {T E : Type 0} (r : Result T E) (P : E → Type 0) (Q : Type 0) → ((e : E) → P e → Q) → IfErr r P → OnErr r Q
of-err (Ok x) P Q f h = h
of-err (Err e) P Q f h = f e h

-- one more change after the others
made-push : {S : Type 0} (g : Ghosts S) (changes : List EntryChange) (change : EntryChange) (old mid new : Held S) (count : ℕ)
    → Makes g changes old mid → Executes (statement_of change) (values_of change) (state g mid) (state g new) (Ok count)
    → Makes g (changes ++ change ∷ []) old new
made-push g [] change old mid new count same ran =
    (new, count, subst (λ h. Executes (statement_of change) (values_of change) (state g h) (state g new) (Ok count)) same ran, refl)
made-push g (first ∷ changes) change old mid new count made ran =
    (made.0, made.1, made.2, made-push g changes change made.0 mid new count made.3 ran)

-- the same of the changes up to an index, and the one at it
pub made-more : {S : Type 0} (g : Ghosts S) (changes : List EntryChange) (i : ℕ) (d : EntryChange) (old mid new : Held S)
    (count : ℕ) → i < length changes → Makes g (take i changes) old mid
    → Executes (statement_of (get_or changes i d)) (values_of (get_or changes i d)) (state g mid) (state g new) (Ok count)
    → Makes g (take (i + 1) changes) old new
made-more g changes i d old mid new count within made ran =
    subst (λ them. Makes g them old new) (sym (take_more changes i d within))
    (made-push g (take i changes) (get_or changes i d) old mid new count made ran)

module _ {S : Type 0} (g : Ghosts S) (changes : List EntryChange) (old begun last end : Held S)
    (begins : begun ≡ record old { in_transaction = true })
    (made : HasCleanDisk (state g last) → IsTrue begun.in_transaction
    → Makes g changes begun last × IsTrue last.in_transaction) where
  inside : IsTrue begun.in_transaction
  inside = ap (λ (h : Held S). h.in_transaction) begins

  made-from_old : HasCleanDisk (state g last) → Makes g changes (record old { in_transaction = true }) last
  made-from_old clean = subst (λ h. Makes g changes h last) begins (made clean inside).0

  -- what a commit leaves
  pub leaves-committed : HasCleanDisk (state g last) → (db : Database) → db ≡ (state g last).now → Leaves g changes old db
  leaves-committed clean db is = record { last = last; made = made-from_old clean; is = is }

  -- what a crash may leave
  pub survives-all : Survives (state g begun) (state g last) (λ _. ⊥)
      → Survives (state g last) (state g end) (λ db. db ≡ (state g last).now.trees)
      → Survives (state g old) (state g end) (λ trees. (db : Database) × Leaves g changes old db × (trees ≡ db.trees))
  survives-all before after =
      survives_then (state g old) (state g last) (state g end) _ _
      (λ trees. (db : Database) × Leaves g changes old db × (trees ≡ db.trees))
      (λ _ db none. absurd none)
      (λ clean db is. ((state g last).now, leaves-committed (omega (arith, after.clean)) (state g last).now refl, is))
      (survives_begin g old (state g last) _
      (subst (λ h. Survives (state g h) (state g last) (λ _. ⊥)) begins before))
      after

  -- what a commit that failed leaves
  pub undone : (e : Error) → (IsTrue (state g old).is_open → (state g old).now ≡ (state g old).committed)
      → KeepsCommit (state g begun) (state g last) → HasCleanDisk (state g last) → IsTrue (state g end).is_open
      → FailsToCommit (state g last) (state g end) e
      → ((state g end).now ≡ (state g old).now) × ((state g end).committed ≡ (state g old).committed)
  undone e settled kept clean is_open (inl failed) =
      let back = failed.3 in
      let was = back.was_open is_open in
      let same = subst (λ h. KeepsCommit (state g h) (state g last)) begins kept in
      let first = same.committed was in
      ((back.undone is_open).0 ∙ first ∙ sym (settled (same.was_open was)), (back.undone is_open).1 ∙ first)
  undone e settled kept clean is_open (inr late) = absurd (false≢true (sym late.1 ∙ (made clean inside).1))
