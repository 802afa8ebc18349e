-- What the store keeps after the changes of an accepted command, and after those of a success.
use Rattle.std.proofs.Common.{◌≡◌, ℕ, Option, Some, None, List, refl, sym, ap, subst, ◌∙◌}
use Rattle.plain_lists.specs.Members.{Each}
use Rattle.size_values.specs.declared.kinds.Power.{Power}
use Rattle.operations.specs.declared.operation.Operation.{Operation}
use Rattle.operations.specs.declared.operation.OpFault.TheVariants as op_fault
use Rattle.operations.specs.declared.status.Status.TheVariants as status
use Rattle.operations.specs.OperationTable.{OperationTable, live_at}
use Rattle.record_keeper.specs.Entries.{after_changes}
use Rattle.records.specs.declared.commands.Command.{Command}
use Rattle.row_machine.specs.declared.changes.RowChange.{RowChange}
use Rattle.row_machine.specs.machine.Task.{Task}
use Rattle.row_machine.specs.machine.State.{State}
use Rattle.row_machine.specs.opening.Records.{records_of}
use Rattle.row_machine.specs.machine.Changes.{applied, rows_put}
use Rattle.row_machine.specs.machine.Plans.{changes}
use Rattle.row_machine.specs.machine.Operations.{with_power_after, power_after, ended, converted, succeeded, success_changes}
use Rattle.row_machine.specs.facts.Whole.{IsWhole, AreNamed}
use Rattle.machine_laws.specs.Entries.{entry_changes}
use Rattle.machine_laws.specs.Records.{StaysNamed, CommandsFollow, SuccessesFollow}
use Rattle.machine_laws.proofs.Cases.{IsAccepted}
use Rattle.machine_laws.proofs.NamesApplied.{IsReady, applied-aside, stays-named}
use Rattle.machine_laws.proofs.NamesEnds.{AreNamed-power_after, AreNamed-ended}
use Rattle.machine_laws.proofs.NamesDeeds.{succeeding, success-ready, power_after-operations}
use Rattle.machine_laws.proofs.NamesKept.{names-stay}
use Rattle.machine_laws.proofs.RecordsChanges.{records-after}

-- ---- changes at once

pub records-follow : {s : State} {c : Command} {moment : ℕ} {cs : List RowChange} → IsAccepted s c moment (changes cs)
    → after_changes (entry_changes cs) (records_of s) ≡ records_of (applied s cs)
records-follow {s} {cs} h = records-after s cs h.whole.names (names-stay h)

pub commands-follow : CommandsFollow
commands-follow s c moment cs whole formed early unbroken plan =
    records-follow (let h : IsAccepted s c moment (changes cs) = record { whole = whole; formed = formed; early = early; unbroken = unbroken; plan = plan } in h)

-- ---- what has no entry

records-aside : (s : State) (k : OperationTable Task) → records_of (record s { operations = k }) ≡ records_of s
unfolding records_of
records-aside s k = refl

records-power : (task : Task) (power : Option Power) (s : State) → records_of (with_power_after task power s) ≡ records_of s
unfolding records_of
records-power task None s = refl
records-power task (Some power) s = refl

records-converted : (number moment : ℕ) (s : State) → records_of (converted number (ended number status.Success op_fault.None moment s)) ≡ records_of s
unfolding records_of
records-converted number moment s = refl

-- ---- success

-- the state once the operation has ended and its target has its status, before its rows are put
abbrev pub ended_before : State → Operation Task → ℕ → State
ended_before s o moment = ended o.number status.Success op_fault.None moment (with_power_after o.work (power_after s o.work) s)

-- names hold in that state, and after each single change of the success
pub success-named : (s : State) (o : Operation Task) (moment : ℕ) → IsWhole s → live_at s.operations o.number ≡ Some o → AreNamed (ended_before s o moment)
success-named s o moment h live =
    AreNamed-ended (with_power_after o.work (power_after s o.work) s) o status.Success op_fault.None moment
    (ap (λ k. live_at k o.number) (power_after-operations o.work (power_after s o.work) s) ∙ live)
    (AreNamed-power_after s o.work (power_after s o.work) h.names)

pub success-stays : (s : State) (o : Operation Task) (moment : ℕ) → IsWhole s → live_at s.operations o.number ≡ Some o
    → StaysNamed (ended_before s o moment) (success_changes s o.work)
success-stays s o moment h live =
    stays-named (ended_before s o moment) (success_changes s o.work) (success-named s o moment h live)
    (subst (λ k. Each (IsReady (succeeding o.number moment k)) (rows_put (success_changes s o.work)))
    (sym (power_after-operations o.work (power_after s o.work) s)) (success-ready s o moment h live))

pub successes-follow : SuccessesFollow
unfolding succeeded
successes-follow s o moment h live =
    ap (after_changes (entry_changes cs)) (sym (records-aside acted later ∙ records-power o.work (power_after s o.work) s))
    ∙ records-after (ended_before s o moment) cs (success-named s o moment h live) (success-stays s o moment h live)
    ∙ ap records_of (applied-aside cs acted later)
    ∙ records-aside (applied acted cs) later
    ∙ sym (records-converted o.number moment (applied acted cs))
  where
    cs : List RowChange
    cs = success_changes s o.work

    acted : State
    acted = with_power_after o.work (power_after s o.work) s

    later : OperationTable Task
    later = succeeding o.number moment acted.operations
