-- Each live operation holds its share by the rows as they stand, after every change of a state.
use Rattle.std.proofs.Common.{◌≡◌, ℕ, true, Option, Some, None, List, [], ◌∷◌, ◌++◌, ◌⊎◌, refl, sym, ◌∙◌, ap, subst, inl, inr}
use Rattle.std.specs.Prelude.{map}
use Rattle.plain_lists.specs.Members.{Mem}
use Rattle.plain_lists.specs.Edits.{dropped}
use Rattle.host_model.specs.declared.call.HostCall.{HostCall}
use Rattle.operations.specs.declared.operation.Operation.{Operation}
use Rattle.operations.specs.declared.operation.OpFault.{OpFault}
use Rattle.operations.specs.declared.operation.OpFault.TheVariants as fault
use Rattle.operations.specs.declared.status.Status.{Status}
use Rattle.operations.specs.declared.status.Status.TheVariants as status
use Rattle.operations.specs.declared.status.Status.TheVariants.{Running, Cancelling}
use Rattle.operations.specs.OperationTable.{has_number, live_at}
use Rattle.records.specs.declared.commands.Command.{Command}
use Rattle.records.specs.declared.notices.Untold.{Untold}
use Rattle.row_machine.specs.declared.changes.RowChange.{RowChange}
use Rattle.row_machine.specs.machine.Task.{Task}
use Rattle.row_machine.specs.machine.State.{State}
use Rattle.row_machine.specs.machine.Changes.{applied, rows_put}
use Rattle.row_machine.specs.machine.Claims.{share_of, amounts_of_instance, part_of_share, part_of_instance, claimed_instance, replaced_instance}
use Rattle.row_machine.specs.machine.Plans.{changes, starts}
use Rattle.row_machine.specs.shown.Notices.{telling}
use Rattle.row_machine.specs.machine.Step.{first_pending}
use Rattle.row_machine.specs.machine.Operations.{is_held_by, converted, returned, entered, with_task, moved, handing_out, one_more_done, undone, cancelled, failed, succeeded, ended, success_changes, with_power_after, power_after, after_failure}
use Rattle.row_machine.specs.facts.Whole.{IsWhole, held_by}
use Rattle.machine_laws.proofs.Cases.{IsAccepted, IsLiveAs, AtOnce}
use Rattle.machine_laws.proofs.BooksSteps.{HasSameBooking, applied-same, power-keeps, failure-keeps, telling-keeps}
use Rattle.machine_laws.proofs.LimitsRows.{tables, IsDone}
use Rattle.machine_laws.proofs.LimitsSuccess.{success-rows}
use Rattle.machine_laws.proofs.SharesCores.{map-each, cores-work, cores-moved, cores-taken, live-pending}
use Rattle.machine_laws.proofs.SharesSteps.{AreHeld, alike-held, held-still, held-ended, held-entered, held-powers, held-notices}
use Rattle.machine_laws.proofs.SharesSuccess.{share-done}
use Rattle.machine_laws.proofs.SharesAlike.{HoldsAlike, share-alike}
use Rattle.machine_laws.proofs.SharesApart.{Replaces, replaces-or_not}
use Rattle.machine_laws.proofs.SharesAtOnce.{lookup-at_once, claim-judged, replaced-row}
use Rattle.machine_laws.proofs.Expansions.{counts-alike}
use Rattle.machine_laws.proofs.ExpansionsNamed.{row-judged}
use Rattle.machine_laws.proofs.ExpansionsSeen.{claims-alike}
use Rattle.machine_laws.proofs.Judged.{judged}
use Rattle.machine_laws.proofs.AtOnceCases.{at_once}
use Rattle.plain_lists.proofs.Elements.{Mem-right}
use Rattle.std.specs.Option.{option_and_then, option_to_list}
use Rattle.records.specs.declared.rows.Instance.{Instance}
use Rattle.row_machine.specs.machine.Rows.{instance_named}
use Rattle.row_machine.specs.machine.SettingRules.{settings_broken}
use Rattle.plain_lists.proofs.Searches.{find-some}

-- a share is given back where one ended
returned-held : (s : State) (n : ℕ) (now : Status) (why : OpFault) (moment : ℕ) → AreHeld s → AreHeld (returned n (ended n now why moment s))
unfolding share_of amounts_of_instance part_of_share part_of_instance
returned-held s n now why moment h =
    held-ended s (returned n (ended n now why moment s)) n refl refl (record { at = λ x m. record { share = refl; part = refl } }) h

-- what a live operation replaces is there as it was after changes at once
replaced-at_once : (s : State) (cs : List RowChange) (o : Operation Task) → IsWhole s → AtOnce s cs → Mem o s.operations.live
    → replaced_instance (applied s cs) o.work ≡ replaced_instance s o.work
replaced-at_once s cs o h form live = at (replaces-or_not s o.work (h.operations.deeds.at o live) (h.references.operations.at o live)) where
  by : State → Option (List ℕ × List ℕ) → Option Instance
  by u names = option_and_then (λ (n : List ℕ × List ℕ). instance_named u.instances n.0 n.1) names

  at : Replaces s o.work ⊎ (o.work.replaces ≡ None) → replaced_instance (applied s cs) o.work ≡ replaced_instance s o.work
  at (inl r) = ap (by (applied s cs)) r.names ∙ lookup-at_once s cs o h form live r.about ∙ sym (ap (by s) r.names)
  at (inr none) = ap (by (applied s cs)) none ∙ sym (ap (by s) none)

-- each live operation has the same share after changes at once
shares-at_once : (s : State) (cs : List RowChange) → IsWhole s → AtOnce s cs → settings_broken (applied s cs) (rows_put cs) ≡ None → AreHeld (applied s cs)
shares-at_once s cs h form settings =
    same.held ∙ h.shares
    ∙ sym (map-each (held_by (applied s cs)) (held_by s) s.operations.live
    (record { at = λ o m. alike-held s (applied s cs) o.number o.work (share o m) }))
    ∙ sym (ap (λ k. map (held_by (applied s cs)) k.live) same.operations) where
      same : HasSameBooking s (applied s cs)
      same = applied-same cs s

      share : (o : Operation Task) → Mem o s.operations.live → HoldsAlike s (applied s cs) o.work
      share o live = share-alike o.work (record {
        claimed = λ i is. counts-alike (claims-alike s cs o i h form settings live
            (subst (λ c. Mem i (option_to_list c ++ option_to_list (replaced_instance s o.work))) (sym is) (inl refl))
            (claim-judged s o i live is));
        replaced = replaced-at_once s cs o h form live;
        old = λ i is. counts-alike (claims-alike s cs o i h form settings live
            (Mem-right i (option_to_list (claimed_instance o.work)) (option_to_list (replaced_instance s o.work))
            (subst (λ c. Mem i (option_to_list c)) (sym is) (inl refl)))
            (row-judged s i (replaced-row s o.work i is)));
      })

module _ {s : State} {c : Command} {moment : ℕ} where
  pub shares-changes : {cs : List RowChange} → IsAccepted s c moment (changes cs) → AreHeld (applied s cs)
  shares-changes {cs} h = shares-at_once s cs h.whole (at_once h) (judged h).settings

  pub shares-entered : {task : Task} → IsAccepted s c moment (starts task) → AreHeld (entered s task moment)
  shares-entered {task} h = held-entered s task moment h.whole.shares

module _ (s : State) (o : Operation Task) where
  pub shares-taken : (moment : ℕ) {call : HostCall} {rest : List HostCall} → IsWhole s → first_pending s ≡ Some o → o.work.calls ≡ call ∷ rest
      → AreHeld (with_task o.number (handing_out o.work rest) (moved o.number Running moment s))
  unfolding share_of amounts_of_instance part_of_share part_of_instance
  shares-taken moment {rest} h first calls =
      held-still s (with_task o.number (handing_out o.work rest) (moved o.number Running moment s)) refl
      (cores-taken o Running moment (handing_out o.work rest) s.operations (live-pending o h first) refl) (λ task. record { share = refl; part = refl }) h.shares

  pub shares-next : {call : HostCall} {rest : List HostCall} → IsLiveAs s o Running → o.work.calls ≡ call ∷ rest
      → AreHeld (with_task o.number (one_more_done o.work rest) s)
  unfolding share_of amounts_of_instance part_of_share part_of_instance
  shares-next {rest} h calls = held-still s (with_task o.number (one_more_done o.work rest) s) refl
      (cores-work o (one_more_done o.work rest) s.operations h.live refl) (λ task. record { share = refl; part = refl }) h.whole.shares

  pub shares-undone : {call : HostCall} → IsLiveAs s o Cancelling → o.work.undo ≡ Some call → AreHeld (with_task o.number (undone o.work) s)
  unfolding share_of amounts_of_instance part_of_share part_of_instance
  shares-undone h undo = held-still s (with_task o.number (undone o.work) s) refl
      (cores-work o (undone o.work) s.operations h.live refl) (λ task. record { share = refl; part = refl }) h.whole.shares

  pub shares-cancelling : (moment : ℕ) → IsLiveAs s o Running → o.may_cancel ≡ true → AreHeld (moved o.number Cancelling moment s)
  unfolding share_of amounts_of_instance part_of_share part_of_instance
  shares-cancelling moment h may = held-still s (moved o.number Cancelling moment s) refl
      (cores-moved o.number Cancelling moment s.operations) (λ task. record { share = refl; part = refl }) h.whole.shares

  pub shares-cancelled : (moment : ℕ) → IsWhole s → live_at s.operations o.number ≡ Some o → AreHeld (cancelled s o.number moment)
  unfolding cancelled
  shares-cancelled moment h live = returned-held s o.number status.Cancelled fault.None moment h.shares

  pub shares-failed : (why : OpFault) (done moment : ℕ) → IsLiveAs s o Running → AreHeld (failed s o why done moment)
  unfolding failed
  shares-failed why done moment h = returned-held (after_failure o.work done s) o.number status.Failure why moment
      (failure-keeps AreHeld held-powers o.work done s h.whole.shares)

  pub shares-succeeded : (moment : ℕ) → IsLiveAs s o Running → o.work.calls ≡ [] → AreHeld (succeeded s o moment)
  unfolding succeeded share_of amounts_of_instance part_of_share part_of_instance
  shares-succeeded moment h none = held-ended s later o.number
      (ap (dropped (is_held_by o.number)) (rows.held ∙ power_held))
      (ap (λ k. dropped (has_number o.number) k.live) (rows.operations ∙ power_operations))
      (record { at = λ x m. share-done s o x later h.whole h.live m done })
      h.whole.shares where
        powered : State
        powered = with_power_after o.work (power_after s o.work) s

        later : State
        later = converted o.number (ended o.number status.Success fault.None moment (applied powered (success_changes s o.work)))

        rows : HasSameBooking powered (applied powered (success_changes s o.work))
        rows = applied-same (success_changes s o.work) powered

        power_held : powered.held ≡ s.held
        power_held = power-keeps (λ t. t.held ≡ s.held) (λ t powers e. e) o.work (power_after s o.work) s refl

        power_operations : powered.operations ≡ s.operations
        power_operations = power-keeps (λ t. t.operations ≡ s.operations) (λ t powers e. e) o.work (power_after s o.work) s refl

        done : IsDone (tables s) o.work (tables later)
        done = success-rows s o.work (power_after s o.work) (h.whole.operations.deeds.at o (find-some (has_number o.number) s.operations.live o h.live).0)

pub shares-closed : (s : State) → IsWhole s → AreHeld (record s { closed = true })
unfolding share_of amounts_of_instance part_of_share part_of_instance
shares-closed s h = h.shares

pub shares-telling : (s : State) (notices : List Untold) → IsWhole s → AreHeld (telling notices s)
shares-telling s notices h = telling-keeps AreHeld held-notices notices s h.shares
