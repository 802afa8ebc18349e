-- The contents of a keeper, as the records of rows.
use Rattle.std.proofs.Common.{◌≡◌, List, Option, Some, None, refl, sym, ap, subst, ◌∙◌}
use Rattle.std.specs.Prelude.{IfSome, option_map}
use Rattle.core_turns.specs.core_rows.specs.Opening.{AreContents, OpensTo}
use Rattle.core_turns.specs.Turns.{without_notices}
use Rattle.machine_laws.specs.Reopening.{KeptRowsOpen, reopened}
use Rattle.plain_lists.specs.Members.{Each}
use Rattle.record_keeper.specs.Store.{Store}
use Rattle.core_reopening.specs.Reopened.{OpensAgain}
use Rattle.row_codec.specs.Rows.{HasTypedParts}
use Rattle.row_machine.specs.facts.Whole.{IsWhole}
use Rattle.row_machine.specs.machine.State.{State}
use Rattle.row_machine.specs.opening.Opening.{opened, opening_of}
use Rattle.row_machine.specs.opening.Records.{records_of, rows_of}
use Rattle.size_values.specs.declared.entry.Entry.{Entry}
use Rattle.core_turns.specs.core_reports.specs.Stores.{KeepsRecords}

-- the law of a state whose rows are those of a view without notices
pub records-open : KeptRowsOpen → (s viewed : State) → viewed ≡ without_notices s → IsWhole s → Each HasTypedParts (rows_of viewed)
    → opening_of (records_of s) ≡ opened (reopened s)
records-open law s viewed is whole typed = law s whole (subst (λ t. Each HasTypedParts (rows_of t)) is typed)

-- ---- contents that are shown

module _ (records : List Entry) where
  -- what was shown, with these records in place of what it was
  as-contents : (told start : Option (List Entry)) → told ≡ option_map (λ _. records) start → IfSome told (λ t. t ≡ records)
  as-contents told None is = subst (λ t. IfSome t (λ t. t ≡ records)) (sym is) tt
  as-contents told (Some entries) is = subst (λ t. IfSome t (λ t. t ≡ records)) (sym is) refl

  own-start : (told : Option (List Entry)) → IfSome told (λ t. t ≡ records) → told ≡ option_map (λ _. records) told
  own-start None is = refl
  own-start (Some entries) is = ap Some is

contents-open : (s : State) (told : Option (List Entry)) → opening_of (records_of s) ≡ opened (reopened s) → IfSome told (λ t. t ≡ records_of s)
    → IfSome told (λ entries. opening_of entries ≡ opened (reopened s))
contents-open s None opens is = tt
contents-open s (Some entries) opens is = ap opening_of is ∙ opens

pub kept-opens : (s : State) → opening_of (records_of s) ≡ opened (reopened s) → (store : Store) → AreContents (records_of s) store → OpensAgain s store
kept-opens s opens store told = contents-open s store.contents opens told

pub begun-opens : (s : State) → opening_of (records_of s) ≡ opened (reopened s) → (before now : Store) → OpensTo s before now → OpensAgain s now
begun-opens s opens before now begins =
    kept-opens s opens now (as-contents (records_of s) now.contents before.contents (ap (λ (t : Store). t.contents) begins.after))

pub turned-opens : (s : State) → opening_of (records_of s) ≡ opened (reopened s) → (old : State) (before now : Store) → AreContents (records_of old) before
    → KeepsRecords before.contents old now.contents s → OpensAgain s now
turned-opens s opens old before now told keeps =
    kept-opens s opens now (as-contents (records_of s) now.contents before.contents (keeps before.contents (own-start (records_of old) before.contents told)))
