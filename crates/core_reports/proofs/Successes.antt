-- What a success needs: its rows have entries, its notices are few, and what its commit did to the store.
use Rattle.std.proofs.Common.{◌≡◌, ℕ, ◌≤◌, List, [], ◌∷◌, length, Option, Some, None, Ok, Err, refl, ap, subst, ◌∙◌}
use Rattle.std.proofs.Common.{inr, true, false, arith}
use Rattle.std.specs.List.{AllByRecursion}
use Rattle.std.specs.Option.{option_map}
use Rattle.std.proofs.lemmas.List.{length-map}
use Rattle.plain_lists.proofs.Elements.{Each-map}
use Rattle.size_values.specs.declared.entry.Entry.{Entry}
use Rattle.size_values.specs.declared.entry.EntryChange.{EntryChange}
use Rattle.size_values.specs.declared.kinds.Action.TheVariants as action
use Rattle.size_values.specs.declared.kinds.Deed.{Deed}
use Rattle.size_values.specs.declared.kinds.Deed.TheVariants as deed
use Rattle.operations.specs.declared.operation.Operation.{Operation}
use Rattle.operations.specs.declared.operation.OpFault.TheVariants as fault
use Rattle.operations.specs.OperationTable.{live_at}
use Rattle.record_keeper.specs.Store.{Store, FailsAtCall, IsAfterUpTo}
use Rattle.record_keeper.specs.Entries.{after_changes}
use Rattle.row_codec.proofs.ShortParts.{short-parts}
use Rattle.row_machine.specs.declared.changes.RowChange.{RowChange}
use Rattle.row_machine.specs.machine.Task.{Task}
use Rattle.row_machine.specs.machine.State.{State}
use Rattle.row_machine.specs.machine.Step.{well, no_memory}
use Rattle.row_machine.specs.machine.Operations.{success_changes}
use Rattle.row_machine.specs.shown.Notices.{deed_lives, life_notice, object_told, success_notices}
use Rattle.row_machine.specs.facts.Whole.{IsWhole}
use Rattle.machine_laws.specs.Entries.{entry_changes}
use Rattle.machine_laws.proofs.NamesDeeds.{success-ready}
use Rattle.machine_laws.proofs.SizesDeeds.{deed-small}
use Rattle.machine_laws.proofs.SizesSteps.{sized}
use Rattle.core_reports.specs.Entries.{HasEntry}
use Rattle.core_reports.specs.Reported.{CommitsSome}
use Rattle.core_reports.specs.Stores.{Stores}
use Rattle.core_reports.proofs.Writable.{entries-of}

-- ---- entries

-- the rows that a success puts have entries
pub success-entries : (s : State) (o : Operation Task) → IsWhole s → live_at s.operations o.number ≡ Some o
    → AllByRecursion HasEntry (success_changes s o.work)
success-entries s o h live =
    let ready = success-ready s o 0 h live in
    let small = deed-small s o.work o.work.deed (sized s o h live) in
    entries-of (success_changes s o.work) (Each-map (λ r x. x.good) ready) (Each-map (λ r x. x.timely) ready)
    (Each-map (λ r x. short-parts r x) small)

-- ---- notices

few-lives : (d : Deed) → length (deed_lives d) ≤ 2
few-lives deed.Create = omega arith
few-lives deed.Copy = omega arith
few-lives deed.Update = omega arith
few-lives deed.Restore = omega arith
few-lives deed.Rename = omega arith
few-lives deed.Delete = omega arith
few-lives (deed.Act action.Start ephemeral) = omega arith
few-lives (deed.Act action.Stop true) = omega arith
few-lives (deed.Act action.Stop false) = omega arith
few-lives (deed.Act action.Restart ephemeral) = omega arith
few-lives (deed.Act action.Freeze ephemeral) = omega arith
few-lives (deed.Act action.Unfreeze ephemeral) = omega arith
few-lives deed.Snap = omega arith
few-lives deed.Unsnap = omega arith
few-lives deed.CopyVolume = omega arith

-- a success tells two notices at the most
pub few-notices : (task : Task) (moment : ℕ) → length (success_notices task moment) ≤ 2
few-notices task moment =
    omega (
      arith,
      length-map (deed_lives task.deed) (life_notice moment task.project (object_told task)),
      few-lives task.deed,
    )

-- ---- the store

-- memory was refused before the call
pub uncommitted : (es : List EntryChange) (store : Store)
    → CommitsSome {T = Unit {0}} (Err fault.NoMemory) es store store
uncommitted [] store = refl
uncommitted (e ∷ es) store = inr refl

-- ---- the store, by what the commit was answered

module _ (cs : List RowChange) (es : List EntryChange) (store store' : Store) (made : es ≡ entry_changes cs) where
  -- all is well
  pub stored-well : (u : Unit {0}) → CommitsSome (Ok u) es store store' → Stores cs well store store'
  stored-well u is = at cs (subst (λ (xs : List EntryChange). CommitsSome (Ok u) xs store store') made is) where
    at : (cs : List RowChange) → CommitsSome (Ok u) (entry_changes cs) store store' → Stores cs well store store'
    at [] is = is
    at (c ∷ cs) is = is

  pub failures-well : (u : Unit {0}) → CommitsSome (Ok u) es store store' → store'.failures ≡ store.failures
  failures-well u is = at es is where
    at : (es : List EntryChange) → CommitsSome (Ok u) es store store' → store'.failures ≡ store.failures
    at [] is = ap (λ (x : Store). x.failures) is
    at (e ∷ es) is = ap (λ (x : Store). x.failures) is

  pub contents-well : (u : Unit {0}) → CommitsSome (Ok u) es store store'
      → store'.contents ≡ option_map (after_changes (entry_changes cs)) store.contents
  contents-well u is = at es is ∙ ap (λ (xs : List EntryChange). option_map (after_changes xs) store.contents) made where
    none : (told : Option (List Entry)) → told ≡ option_map (after_changes []) told
    none None = refl
    none (Some entries) = refl

    at : (es : List EntryChange) → CommitsSome (Ok u) es store store'
        → store'.contents ≡ option_map (after_changes es) store.contents
    at [] is = ap (λ (x : Store). x.contents) is ∙ none store.contents
    at (e ∷ es) is = ap (λ (x : Store). x.contents) is

  -- memory was refused
  pub stored-unmade : CommitsSome {T = Unit {0}} (Err fault.NoMemory) es store store' → Stores cs no_memory store store'
  stored-unmade is = at cs (subst
      (λ (xs : List EntryChange). CommitsSome {T = Unit {0}} (Err fault.NoMemory) xs store store') made is) where
        at : (cs : List RowChange) → CommitsSome {T = Unit {0}} (Err fault.NoMemory) (entry_changes cs) store store'
            → Stores cs no_memory store store'
        at [] is = is
        at (c ∷ cs) is = is

  pub after-unmade : CommitsSome {T = Unit {0}} (Err fault.NoMemory) es store store' → IsAfterUpTo 1 store store'
  after-unmade is = at es is where
    at : (es : List EntryChange) → CommitsSome {T = Unit {0}} (Err fault.NoMemory) es store store'
        → IsAfterUpTo 1 store store'
    at [] is = inr is
    at (e ∷ es) is = is

-- the keeper failed: there were changes, and its count of failures rose
pub record HasFailed (cs : List RowChange) (earlier later : ℕ) (store store' : Store) : Type 0 where
  pub first : RowChange
  pub rest : List RowChange
  pub some : cs ≡ first ∷ rest
  pub fails : FailsAtCall 1 store store'
  pub before : earlier ≡ store.failures
  pub after : later ≡ store'.failures

pub failed-so : (cs : List RowChange) (es : List EntryChange) (earlier later : ℕ) (store store' : Store)
    → es ≡ entry_changes cs
    → CommitsSome {T = Unit {0}} (Err (fault.Keeper earlier later)) es store store'
    → HasFailed cs earlier later store store'
failed-so cs es earlier later store store' made is =
    at cs (subst (λ (xs : List EntryChange). CommitsSome {T = Unit {0}}
    (Err (fault.Keeper earlier later)) xs store store') made is)
  where
    at : (cs : List RowChange)
        → CommitsSome {T = Unit {0}} (Err (fault.Keeper earlier later)) (entry_changes cs) store store'
        → HasFailed cs earlier later store store'
    at [] is = absurd is
    at (c ∷ cs) is = record { first = c; rest = cs; some = refl; fails = is.0; before = is.1; after = is.2 }
