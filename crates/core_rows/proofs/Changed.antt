-- What a change comes to, from what its parts were called with and answered.
use Rattle.std.proofs.Common.{◌≡◌, ℕ, List, [], None, Err, sym, ap, subst, ◌∙◌}
use Rattle.size_values.specs.Causes.{Refuses}
use Rattle.size_values.specs.declared.memory.Or.{Or}
use Rattle.size_values.specs.declared.memory.Or.TheVariants as or
use Rattle.record_keeper.specs.Store.{Store}
use Rattle.records.specs.declared.commands.Command.{Command}
use Rattle.records.specs.declared.notices.Untold.{Untold}
use Rattle.records.specs.declared.refusals.Refusal.{Refusal}
use Rattle.records.specs.declared.replies.Reply.{Reply}
use Rattle.row_machine.specs.declared.changes.RowChange.{RowChange}
use Rattle.row_machine.specs.machine.State.{State}
use Rattle.row_machine.specs.machine.Changes.{applied, rows_put}
use Rattle.row_machine.specs.machine.Plans.{changes}
use Rattle.row_machine.specs.facts.Whole.{IsWhole}
use Rattle.machine_laws.specs.Entries.{entry_changes}
use Rattle.machine_laws.proofs.Cases.{IsAccepted}
use Rattle.core_judging.specs.declared.changing.Before.{Before}
use Rattle.core_judging.specs.Before.{Judges}
use Rattle.core_judging.specs.Judged.{changes_judged, reply_for}
use Rattle.core_rows.specs.Planned.{Follows, IsToDo}
use Rattle.core_judging.specs.Commits.{Commits}
use Rattle.core_rows.proofs.Following.{follows-why, follows-judged, follows-uncommitted}
use Rattle.core_rows.proofs.Judging.{accepted-so}

-- what is judged of the changes as they were copied is judged of them
pub judged-by : {X : Type 0} (before : Before) (s later : State) (cs judged : List RowChange)
    → (IsWhole s → later ≡ applied s judged → Judges before s judged → X)
    → IsWhole s → later ≡ applied s cs → judged ≡ cs → Judges before s cs → X
judged-by before s later cs judged says whole made same by =
    says whole (made ∙ ap (applied s) (sym same)) (subst (Judges before s) (sym same) by)

module _ (s : State) (c : Command) (moment : ℕ) (cs : List RowChange) (n : Untold) where
  -- the changes were judged over the state that was made, and break no rule
  pub accepted-from : (old later : State) (judged : List RowChange) → IsWhole old → old ≡ s → IsToDo s c moment cs n → later ≡ applied old cs → judged ≡ cs
      → changes_judged old later (rows_put judged) ≡ None → IsAccepted s c moment (changes cs)
  accepted-from old later judged whole is d made same none =
      subst (λ t. IsAccepted t c moment (changes cs)) is
      (accepted-so old c moment cs n whole (subst (λ t. IsToDo t c moment cs n) (sym is) d)
      (subst (λ l. changes_judged old l (rows_put cs) ≡ None) made (subst (λ rs. changes_judged old later (rows_put rs) ≡ None) same none)))

  -- they break one, and were taken back
  pub refused-from : (old later s' : State) (judged : List RowChange) (untold : List Untold) (why : Or Refusal) (r : Reply) (store : Store)
      → old ≡ s → IsToDo s c moment cs n → later ≡ applied old cs → judged ≡ cs → Refuses why (changes_judged old later (rows_put judged))
      → s' ≡ old → untold ≡ [] → r ≡ reply_for why → Follows s c moment s' untold r store store
  refused-from old later s' judged untold why r store is d made same refuses back none tells =
      subst (λ t. Follows s c moment t untold r store store) (sym (back ∙ is))
      (subst (λ x. Follows s c moment s untold x store store) (sym tells)
      (follows-judged s c moment cs n untold why store d
      (subst (λ t. Refuses why (changes_judged t (applied t cs) (rows_put cs))) is
      (subst (λ l. Refuses why (changes_judged old l (rows_put cs))) made (subst (λ rs. Refuses why (changes_judged old later (rows_put rs))) same refuses))) none))

  -- they were not committed, and were taken back
  pub uncommitted-from : (old s' : State) (ready : List RowChange) (untold : List Untold) (why : Or Refusal) (r : Reply) (store store' : Store)
      → old ≡ s → IsAccepted s c moment (changes cs) → ready ≡ cs → Commits {T = Unit {0}} (Err why) (entry_changes ready) store store'
      → s' ≡ old → untold ≡ [] → r ≡ reply_for why → Follows s c moment s' untold r store store'
  uncommitted-from old s' ready untold why r store store' is h same failed back none tells =
      subst (λ t. Follows s c moment t untold r store store') (sym (back ∙ is))
      (subst (λ x. Follows s c moment s untold x store store') (sym tells)
      (follows-uncommitted s c moment cs untold why store store' h (subst (λ rs. Commits {T = Unit {0}} (Err why) (entry_changes rs) store store') same failed) none))

  -- nothing was done, since there was no memory
  pub unready-from : (old s' : State) (untold : List Untold) (store : Store) → old ≡ s → s' ≡ old → untold ≡ []
      → Follows s c moment s' untold (reply_for or.NoMemory) store store
  unready-from old s' untold store is back none =
      subst (λ t. Follows s c moment t untold (reply_for or.NoMemory) store store) (sym (back ∙ is)) (follows-why s c moment untold or.NoMemory store tt none)
