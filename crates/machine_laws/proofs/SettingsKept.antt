-- The tables accept each row and claim, and each instance has its root disk, after every change of a state.
use Rattle.std.proofs.Common.{◌≡◌, ℕ, true, Some, None, List, [], ◌∷◌, ◌⊎◌, refl, sym, ◌∙◌, ap, subst, inl, inr}
use Rattle.plain_lists.specs.Members.{Mem, Each}
use Rattle.plain_lists.specs.Edits.{dropped}
use Rattle.std.specs.List.{filter_map}
use Rattle.plain_lists.proofs.Elements.{Each-map, Mem-append, Mem-right}
use Rattle.plain_lists.proofs.Readings.{Mem-read}
use Rattle.plain_lists.proofs.Searches.{find-some}
use Rattle.host_model.specs.declared.call.HostCall.{HostCall}
use Rattle.operations.specs.declared.operation.Operation.{Operation}
use Rattle.operations.specs.declared.operation.OpFault.{OpFault}
use Rattle.operations.specs.declared.operation.OpFault.TheVariants as fault
use Rattle.operations.specs.declared.status.Status.{Status}
use Rattle.operations.specs.declared.status.Status.TheVariants as status
use Rattle.operations.specs.declared.status.Status.TheVariants.{Running, Cancelling}
use Rattle.operations.specs.OperationTable.{OperationTable, has_number, live_at}
use Rattle.operations.specs.OperationTable as kept
use Rattle.records.specs.declared.commands.Command.{Command}
use Rattle.records.specs.declared.notices.Untold.{Untold}
use Rattle.records.specs.declared.rows.Instance.{Instance}
use Rattle.records.specs.declared.rows.Row.{Row}
use Rattle.records.specs.declared.rows.Row.TheVariants as row
use Rattle.row_machine.specs.declared.changes.RowChange.{RowChange}
use Rattle.row_machine.specs.machine.Task.{Task}
use Rattle.row_machine.specs.machine.State.{State}
use Rattle.row_machine.specs.machine.Changes.{applied, rows_put}
use Rattle.row_machine.specs.opening.Records.{rows_of}
use Rattle.row_machine.specs.machine.Claims.{of_live, claimed_instance, judged_instances}
use Rattle.row_machine.specs.machine.SettingRules.{root_missing, settings_broken}
use Rattle.row_machine.specs.machine.Plans.{changes, starts}
use Rattle.row_machine.specs.shown.Notices.{telling}
use Rattle.row_machine.specs.machine.Step.{first_pending}
use Rattle.row_machine.specs.machine.Operations.{converted, returned, entered, with_task, moved, handing_out, one_more_done, undone, cancelled, failed, succeeded, ended, success_changes, with_power_after, power_after, after_failure}
use Rattle.row_machine.specs.facts.Whole.{IsWhole, AreSettled}
use Rattle.machine_laws.proofs.Cases.{IsAccepted, IsLiveAs, AtOnce}
use Rattle.machine_laws.proofs.Judged.{judged, entry_judged}
use Rattle.machine_laws.proofs.AtOnceCases.{at_once}
use Rattle.machine_laws.proofs.BooksSteps.{applied-same, power-keeps, failure-keeps, telling-keeps}
use Rattle.machine_laws.proofs.Expansions.{root-alike}
use Rattle.machine_laws.proofs.ExpansionsAtOnce.{Sees, alike, named}
use Rattle.machine_laws.proofs.ExpansionsNamed.{row-judged}
use Rattle.machine_laws.proofs.ExpansionsSeen.{sees}
use Rattle.machine_laws.proofs.LimitsJudged.{judged_instance-done, judged_instance-fewer}
use Rattle.machine_laws.proofs.LimitsRows.{tables, IsDone}
use Rattle.machine_laws.proofs.LimitsSuccess.{success-rows}
use Rattle.machine_laws.proofs.NamesRows.{EachRow, EachRow-applied, rows-applied}
use Rattle.machine_laws.proofs.SettingsRows.{IsTabled, accepted-any, puts-accepted, put-root, named-root, success-puts}
use Rattle.machine_laws.proofs.SettingsSteps.{tabled-rows, tabled-claims, settled-by, settled-fewer, settled-cores, settled-ended, settled-powers, settled-notices, settled-entered}
use Rattle.machine_laws.proofs.SharesCores.{cores-work, cores-moved, cores-taken, live-pending}
use Rattle.machine_laws.proofs.SharesSuccess.{done-projects}

-- ---- changes at once

-- an instance has its root disk; of other rows nothing is said
abbrev pub HasRoot : State → Row → Type 0
HasRoot s (row.Instance i) = root_missing s i ≡ None
HasRoot s other = Unit {0}

module _ (s : State) (cs : List RowChange) (h : IsWhole s) (form : AtOnce s cs) (settings : settings_broken (applied s cs) (rows_put cs) ≡ None) where
  -- an instance that was judged
  standing-root : (i : Instance) → Mem i (judged_instances s) → root_missing (applied s cs) i ≡ None
  standing-root i m = at (sees s i h m cs form settings) where
    at : Sees s cs i → root_missing (applied s cs) i ≡ None
    at (alike is) = root-alike is ∙ h.settings.roots.at i m
    at (named r put none names names_later judged_same) =
        named-root (applied s cs) (rows_put cs) r i settings put (subst (Mem i) (sym judged_same) m) names_later

  -- each row that stands
  rows-root : EachRow (HasRoot (applied s cs)) s
  rows-root = record {
    projects = record { at = λ r m. tt };
    profiles = record { at = λ r m. tt };
    networks = record { at = λ r m. tt };
    pools = record { at = λ r m. tt };
    volumes = record { at = λ r m. tt };
    instances = record { at = λ i m. standing-root i (row-judged s i m) };
    snapshots = record { at = λ r m. tt };
  }

  -- each row that is put
  puts-root : Each (HasRoot (applied s cs)) (rows_put cs)
  puts-root = record { at = λ r m. by r m } where
    by : (r : Row) → Mem r (rows_put cs) → HasRoot (applied s cs) r
    by (row.Instance i) m = put-root (applied s cs) (rows_put cs) i settings m
    by (row.Project r) m = tt
    by (row.Profile r) m = tt
    by (row.Network r) m = tt
    by (row.Pool r) m = tt
    by (row.Volume r) m = tt
    by (row.Snapshot r) m = tt

  same-live : (applied s cs).operations ≡ s.operations
  same-live = (applied-same cs s).operations

  roots : (i : Instance) → Mem i (judged_instances (applied s cs)) → root_missing (applied s cs) i ≡ None
  unfolding judged_instances
  roots i m = at (Mem-append i (applied s cs).instances (of_live claimed_instance (applied s cs)) m) where
    at : Mem i (applied s cs).instances ⊎ Mem i (of_live claimed_instance (applied s cs)) → root_missing (applied s cs) i ≡ None
    at (inl there) = (EachRow-applied s cs rows-root puts-root).instances.at i there
    at (inr claimed) = standing-root i (Mem-right i s.instances (of_live claimed_instance s)
        (subst (λ (k : OperationTable Task). Mem i (filter_map (λ (o : Operation Task). claimed_instance o.work) k.live)) same-live claimed))

  settled-at_once : AreSettled (applied s cs)
  settled-at_once = settled-by s (applied s cs)
      (rows-applied s cs (tabled-rows s h.settings) (Each-map (λ r a. accepted-any (applied s cs) s r a) (puts-accepted (applied s cs) (rows_put cs) settings)))
      (subst (λ (k : OperationTable Task). Each (IsTabled s) (filter_map (λ (o : Operation Task). o.work.claim) k.live)) (sym same-live) (tabled-claims s h.settings))
      roots

module _ {s : State} {c : Command} {moment : ℕ} where
  pub settings-changes : {cs : List RowChange} → IsAccepted s c moment (changes cs) → AreSettled (applied s cs)
  settings-changes {cs} h = settled-at_once s cs h.whole (at_once h) (judged h).settings

  pub settings-entered : {task : Task} → IsAccepted s c moment (starts task) → AreSettled (entered s task moment)
  settings-entered {task} h = settled-entered s task moment (entry_judged h).settings h.whole.settings

-- ---- operations

-- one ended, whose rows stay
returned-settled : (s : State) (n : ℕ) (now : Status) (why : OpFault) (moment : ℕ) → AreSettled s → AreSettled (returned n (ended n now why moment s))
returned-settled s n now why moment h = settled-ended s (returned n (ended n now why moment s)) n refl refl refl (tabled-rows s h)
    (λ i m. judged_instance-fewer s (returned n (ended n now why moment s)) n i refl refl m) h

module _ (s : State) (o : Operation Task) where
  pub settings-taken : (moment : ℕ) {call : HostCall} {rest : List HostCall} → IsWhole s → first_pending s ≡ Some o → o.work.calls ≡ call ∷ rest
      → AreSettled (with_task o.number (handing_out o.work rest) (moved o.number Running moment s))
  settings-taken moment {rest} h first calls =
      settled-cores s (kept.with_work o.number (handing_out o.work rest) (kept.moved o.number Running moment s.operations))
      (cores-taken o Running moment (handing_out o.work rest) s.operations (live-pending o h first) refl) h.settings

  pub settings-next : {call : HostCall} {rest : List HostCall} → IsLiveAs s o Running → o.work.calls ≡ call ∷ rest
      → AreSettled (with_task o.number (one_more_done o.work rest) s)
  settings-next {rest} h calls = settled-cores s (kept.with_work o.number (one_more_done o.work rest) s.operations)
      (cores-work o (one_more_done o.work rest) s.operations h.live refl) h.whole.settings

  pub settings-undone : {call : HostCall} → IsLiveAs s o Cancelling → o.work.undo ≡ Some call → AreSettled (with_task o.number (undone o.work) s)
  settings-undone h undo = settled-cores s (kept.with_work o.number (undone o.work) s.operations)
      (cores-work o (undone o.work) s.operations h.live refl) h.whole.settings

  pub settings-cancelling : (moment : ℕ) → IsLiveAs s o Running → o.may_cancel ≡ true → AreSettled (moved o.number Cancelling moment s)
  settings-cancelling moment h may = settled-cores s (kept.moved o.number Cancelling moment s.operations)
      (cores-moved o.number Cancelling moment s.operations) h.whole.settings

  pub settings-cancelled : (moment : ℕ) → IsWhole s → live_at s.operations o.number ≡ Some o → AreSettled (cancelled s o.number moment)
  unfolding cancelled
  settings-cancelled moment h live = returned-settled s o.number status.Cancelled fault.None moment h.settings

  pub settings-failed : (why : OpFault) (done moment : ℕ) → IsLiveAs s o Running → AreSettled (failed s o why done moment)
  unfolding failed
  settings-failed why done moment h = returned-settled (after_failure o.work done s) o.number status.Failure why moment
      (failure-keeps AreSettled settled-powers o.work done s h.whole.settings)

  pub settings-succeeded : (moment : ℕ) → IsLiveAs s o Running → o.work.calls ≡ [] → AreSettled (succeeded s o moment)
  unfolding succeeded
  settings-succeeded moment h none = settled-ended s next o.number (done-projects s done).0 (done-projects s done).1 rest rows
      (judged_instance-done s o next h.live done rest) h.whole.settings where
        powered : State
        powered = with_power_after o.work (power_after s o.work) s

        next : State
        next = converted o.number (ended o.number status.Success fault.None moment (applied powered (success_changes s o.work)))

        live : Mem o s.operations.live
        live = (find-some (has_number o.number) s.operations.live o h.live).0

        done : IsDone (tables s) o.work (tables next)
        done = success-rows s o.work (power_after s o.work) (h.whole.operations.deeds.at o live)

        rest : next.operations.live ≡ dropped (has_number o.number) s.operations.live
        rest = ap (λ k. dropped (has_number o.number) k.live) ((applied-same (success_changes s o.work) powered).operations
            ∙ power-keeps (λ t. t.operations ≡ s.operations) (λ t powers e. e) o.work (power_after s o.work) s refl)

        rows : Each (IsTabled s) (rows_of next)
        rows = rows-applied powered (success_changes s o.work)
            (power-keeps (λ t. Each (IsTabled s) (rows_of t)) (λ t powers e. e) o.work (power_after s o.work) s (tabled-rows s h.whole.settings))
            (success-puts (IsTabled s) (λ r. record { settings = refl; devices = refl }) s o.work
            (λ r claimed. (tabled-claims s h.whole.settings).at r (Mem-read (λ (x : Operation Task). x.work.claim) o r s.operations.live live claimed)))

pub settings-closed : (s : State) → IsWhole s → AreSettled (record s { closed = true })
unfolding judged_instances
settings-closed s h = settled-fewer s (record s { closed = true }) refl refl (tabled-rows s h.settings) (λ r m. m) (λ i m. m) h.settings

pub settings-telling : (s : State) (notices : List Untold) → IsWhole s → AreSettled (telling notices s)
settings-telling s notices h = telling-keeps AreSettled settled-notices notices s h.settings
