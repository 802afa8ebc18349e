-- Each project stands within its limits and its policy, after every change of a state.
use Rattle.std.proofs.Common.{◌≡◌, ℕ, true, Some, List, [], ◌∷◌, refl, ◌∙◌, ap, arith}
use Rattle.plain_lists.specs.Edits.{dropped}
use Rattle.plain_lists.proofs.Searches.{find-some}
use Rattle.host_model.specs.declared.call.HostCall.{HostCall}
use Rattle.operations.specs.declared.operation.Operation.{Operation}
use Rattle.operations.specs.declared.operation.OpFault.{OpFault}
use Rattle.operations.specs.declared.operation.OpFault.TheVariants as fault
use Rattle.operations.specs.declared.status.Status.{Status}
use Rattle.operations.specs.declared.status.Status.TheVariants as status
use Rattle.operations.specs.declared.status.Status.TheVariants.{Running, Cancelling}
use Rattle.operations.specs.OperationTable.{OperationTable, has_number, live_at}
use Rattle.operations.specs.OperationTable as kept
use Rattle.records.specs.declared.commands.Command.{Command}
use Rattle.records.specs.declared.notices.Untold.{Untold}
use Rattle.row_machine.specs.declared.changes.RowChange.{RowChange}
use Rattle.row_machine.specs.machine.Task.{Task}
use Rattle.row_machine.specs.machine.State.{State}
use Rattle.row_machine.specs.machine.Changes.{applied}
use Rattle.row_machine.specs.machine.Claims.{share_of, amounts_of_instance, part_of_share, part_of_instance, judged_instances, judged_volumes}
use Rattle.row_machine.specs.machine.Usage.{loads}
use Rattle.machine_laws.proofs.Measures.{used_by}
use Rattle.row_machine.specs.machine.Plans.{changes, starts}
use Rattle.row_machine.specs.shown.Notices.{telling}
use Rattle.row_machine.specs.machine.Step.{first_pending}
use Rattle.row_machine.specs.machine.Operations.{claiming, converted, returned, entered, with_task, moved, handing_out, one_more_done, undone, cancelled, failed, succeeded, ended, success_changes, with_power_after, power_after, after_failure}
use Rattle.row_machine.specs.facts.Whole.{IsWhole, AreWithin}
use Rattle.machine_laws.proofs.Cases.{IsAccepted, IsLiveAs}
use Rattle.machine_laws.proofs.Judged.{judged, entry_judged}
use Rattle.machine_laws.proofs.BooksSteps.{applied-same, power-keeps, failure-keeps, telling-keeps}
use Rattle.machine_laws.proofs.LimitsBroken.{within-judged}
use Rattle.machine_laws.proofs.LimitsLess.{IsLess, within-less}
use Rattle.machine_laws.proofs.LimitsSuccess.{success-rows}
use Rattle.machine_laws.proofs.LimitsSteps.{within-cores, within-returned, within-done, within-powers, within-notices}
use Rattle.machine_laws.proofs.SharesCores.{cores-work, cores-moved, cores-taken, live-pending}

-- what is held is not judged
less-entered : (s : State) (task : Task) (moment : ℕ) → IsLess (claiming s task moment) (entered s task moment)
unfolding entered judged_instances judged_volumes loads share_of amounts_of_instance part_of_share part_of_instance
less-entered s task moment = record {
  projects = refl;
  profiles = refl;
  networks = refl;
  instances = λ i m. m;
  volumes = λ v m. m;
  usage = λ project part measure. let e : used_by (entered s task moment) project part ≡ used_by (claiming s task moment) project part = refl in omega (arith, e);
}

module _ {s : State} {c : Command} {moment : ℕ} where
  pub limits-changes : {cs : List RowChange} → IsAccepted s c moment (changes cs) → AreWithin (applied s cs)
  limits-changes {cs} h = let j = judged h in within-judged s (applied s cs) j.policy j.counts j.limits

  pub limits-entered : {task : Task} → IsAccepted s c moment (starts task) → AreWithin (entered s task moment)
  limits-entered {task} h =
      let j = entry_judged h in
      within-less (claiming s task moment) (entered s task moment) (less-entered s task moment) (within-judged s (claiming s task moment) j.policy j.counts j.limits)

-- one ended, whose rows stay
returned-within : (s : State) (n : ℕ) (now : Status) (why : OpFault) (moment : ℕ) → AreWithin s → AreWithin (returned n (ended n now why moment s))
unfolding share_of amounts_of_instance part_of_share part_of_instance
returned-within s n now why moment h = within-returned s (returned n (ended n now why moment s)) n refl refl (λ task. record { share = refl; part = refl }) h

module _ (s : State) (o : Operation Task) where
  pub limits-taken : (moment : ℕ) {call : HostCall} {rest : List HostCall} → IsWhole s → first_pending s ≡ Some o → o.work.calls ≡ call ∷ rest
      → AreWithin (with_task o.number (handing_out o.work rest) (moved o.number Running moment s))
  limits-taken moment {rest} h first calls =
      within-cores s (kept.with_work o.number (handing_out o.work rest) (kept.moved o.number Running moment s.operations))
      (cores-taken o Running moment (handing_out o.work rest) s.operations (live-pending o h first) refl) h.limits

  pub limits-next : {call : HostCall} {rest : List HostCall} → IsLiveAs s o Running → o.work.calls ≡ call ∷ rest
      → AreWithin (with_task o.number (one_more_done o.work rest) s)
  limits-next {rest} h calls = within-cores s (kept.with_work o.number (one_more_done o.work rest) s.operations)
      (cores-work o (one_more_done o.work rest) s.operations h.live refl) h.whole.limits

  pub limits-undone : {call : HostCall} → IsLiveAs s o Cancelling → o.work.undo ≡ Some call → AreWithin (with_task o.number (undone o.work) s)
  limits-undone h undo = within-cores s (kept.with_work o.number (undone o.work) s.operations)
      (cores-work o (undone o.work) s.operations h.live refl) h.whole.limits

  pub limits-cancelling : (moment : ℕ) → IsLiveAs s o Running → o.may_cancel ≡ true → AreWithin (moved o.number Cancelling moment s)
  limits-cancelling moment h may = within-cores s (kept.moved o.number Cancelling moment s.operations)
      (cores-moved o.number Cancelling moment s.operations) h.whole.limits

  pub limits-cancelled : (moment : ℕ) → IsWhole s → live_at s.operations o.number ≡ Some o → AreWithin (cancelled s o.number moment)
  unfolding cancelled
  limits-cancelled moment h live = returned-within s o.number status.Cancelled fault.None moment h.limits

  pub limits-failed : (why : OpFault) (done moment : ℕ) → IsLiveAs s o Running → AreWithin (failed s o why done moment)
  unfolding failed
  limits-failed why done moment h = returned-within (after_failure o.work done s) o.number status.Failure why moment
      (failure-keeps AreWithin within-powers o.work done s h.whole.limits)

  pub limits-succeeded : (moment : ℕ) → IsLiveAs s o Running → o.work.calls ≡ [] → AreWithin (succeeded s o moment)
  unfolding succeeded
  limits-succeeded moment h none = within-done s o later h.whole h.live
      (success-rows s o.work (power_after s o.work) (h.whole.operations.deeds.at o (find-some (has_number o.number) s.operations.live o h.live).0))
      (ap (λ k. dropped (has_number o.number) k.live) ((applied-same (success_changes s o.work) powered).operations ∙ power_operations)) where
        powered : State
        powered = with_power_after o.work (power_after s o.work) s

        later : State
        later = converted o.number (ended o.number status.Success fault.None moment (applied powered (success_changes s o.work)))

        power_operations : powered.operations ≡ s.operations
        power_operations = power-keeps (λ t. t.operations ≡ s.operations) (λ t powers e. e) o.work (power_after s o.work) s refl

less-closed : (s : State) → IsLess s (record s { closed = true })
unfolding judged_instances judged_volumes loads share_of amounts_of_instance part_of_share part_of_instance
less-closed s = record {
  projects = refl;
  profiles = refl;
  networks = refl;
  instances = λ i m. m;
  volumes = λ v m. m;
  usage = λ project part measure. let e : used_by (record s { closed = true }) project part ≡ used_by s project part = refl in omega (arith, e);
}

pub limits-closed : (s : State) → IsWhole s → AreWithin (record s { closed = true })
limits-closed s h = within-less s (record s { closed = true }) (less-closed s) h.limits

pub limits-telling : (s : State) (notices : List Untold) → IsWhole s → AreWithin (telling notices s)
limits-telling s notices h = telling-keeps AreWithin within-notices notices s h.limits
