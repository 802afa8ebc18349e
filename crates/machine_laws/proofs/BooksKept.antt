-- The books balance after every change of a state: what was granted was converted or returned, or is still held.
use Rattle.std.proofs.Common.{◌≡◌, ℕ, ◌+◌, true, Option, Some, None, List, [], ◌∷◌, refl, sym, ◌∙◌, ap, arith}
use Rattle.std.specs.List.{find, sum_by}
use Rattle.std.specs.Option.{option_map_or}
use Rattle.plain_lists.specs.Edits.{dropped}
use Rattle.plain_lists.proofs.PutsLemmas.{sum_by-Puts, Puts-push}
use Rattle.plain_lists.proofs.EditLemmas.{dropped-Puts, dropped-none}
use Rattle.plain_lists.proofs.Searches.{none-any, find-none}
use Rattle.size_values.specs.Amounts.{part, nothing}
use Rattle.size_values.specs.declared.amounts.Part.{Part}
use Rattle.size_values.specs.declared.amounts.Part.TheVariants.{Instances, Containers, Machines, Cpu, Memory, Processes, Disk}
use Rattle.size_values.proofs.AmountParts.{part-plus}
use Rattle.reservations.specs.declared.books.Books.{Books}
use Rattle.host_model.specs.declared.call.HostCall.{HostCall}
use Rattle.operations.specs.declared.operation.Operation.{Operation}
use Rattle.operations.specs.declared.operation.OpFault.{OpFault}
use Rattle.operations.specs.declared.operation.OpFault.TheVariants as fault
use Rattle.operations.specs.declared.status.Status.TheVariants as status
use Rattle.operations.specs.declared.status.Status.TheVariants.{Running, Cancelling}
use Rattle.operations.specs.OperationTable.{live_at}
use Rattle.records.specs.declared.commands.Command.{Command}
use Rattle.records.specs.declared.notices.Untold.{Untold}
use Rattle.row_machine.specs.declared.changes.RowChange.{RowChange}
use Rattle.row_machine.specs.machine.Task.{Task}
use Rattle.reservations.specs.declared.books.Hold.{Hold}
use Rattle.size_values.specs.PoolParts.{no_part}
use Rattle.size_values.specs.declared.pool_part.PoolPart.{PoolPart}
use Rattle.row_machine.specs.machine.State.{State, InstancePower}
use Rattle.row_machine.specs.machine.Changes.{applied}
use Rattle.row_machine.specs.machine.Claims.{share_of, part_of_share}
use Rattle.row_machine.specs.machine.Plans.{changes, starts}
use Rattle.row_machine.specs.shown.Notices.{telling}
use Rattle.row_machine.specs.machine.Step.{first_pending}
use Rattle.row_machine.specs.machine.Operations.{project_of_task, is_held_by, held_share, converted, returned, entered, with_task, moved, handing_out, one_more_done, undone, cancelled, failed, succeeded, ended, success_changes, with_power_after, power_after, after_failure}
use Rattle.row_machine.specs.facts.Whole.{IsWhole, AreBalanced}
use Rattle.machine_laws.proofs.Cases.{IsAccepted, IsLiveAs}
use Rattle.machine_laws.proofs.BooksSteps.{HasSameBooking, applied-same, power-keeps, failure-keeps, telling-keeps}

-- where held shares and books are the same
pub balanced-same : {s t : State} → HasSameBooking s t → AreBalanced s → AreBalanced t
balanced-same {s} {t} same h = record {
  parts = λ k.
      ap (λ (b : Books). part k b.granted) same.books ∙ h.parts k
      ∙ sym (ap (λ (b : Books). part k b.converted + part k b.returned + sum_by (λ (x : Hold). part k x.share) t.held) same.books
      ∙ ap (λ (held : List Hold). part k s.books.converted + part k s.books.returned + sum_by (λ (x : Hold). part k x.share) held) same.held);
  pools =
      ap (λ (b : Books). b.pool_granted) same.books ∙ h.pools
      ∙ sym (ap (λ (b : Books). b.pool_converted + b.pool_returned + sum_by (λ (x : Hold). x.part.disk) t.held) same.books
      ∙ ap (λ (held : List Hold). s.books.pool_converted + s.books.pool_returned + sum_by (λ (x : Hold). x.part.disk) held) same.held);
}

-- nothing has no part
part-nothing : (k : Part) → part k nothing ≡ 0
part-nothing Instances = refl
part-nothing Containers = refl
part-nothing Machines = refl
part-nothing Cpu = refl
part-nothing Memory = refl
part-nothing Processes = refl
part-nothing Disk = refl

-- all that is held is what one operation holds and the rest, by each number that is read off a share
held-split-by : {X : Type 0} (f : X → ℕ) (read : Hold → X) (none : X) → f none ≡ 0 → (op : ℕ) (held : List Hold)
    → sum_by (λ (h : Hold). f (read h)) held
    ≡ f (option_map_or read (find (is_held_by op) held) none) + sum_by (λ (h : Hold). f (read h)) (dropped (is_held_by op) held)
held-split-by {X} f read none zero op held = at (find (is_held_by op) held) refl where
  at : (found : Option Hold) → find (is_held_by op) held ≡ found
      → sum_by (λ (h : Hold). f (read h)) held ≡ f (option_map_or read found none) + sum_by (λ (h : Hold). f (read h)) (dropped (is_held_by op) held)
  at None is =
      let gone = dropped-none (is_held_by op) held (none-any (is_held_by op) held (find-none (is_held_by op) held is)) in
      let e : sum_by (λ (h : Hold). f (read h)) (dropped (is_held_by op) held) ≡ sum_by (λ (h : Hold). f (read h)) held =
      ap (sum_by (λ (h : Hold). f (read h))) gone in
      omega (arith, e, zero)
  at (Some h) is = sum_by-Puts (λ (h : Hold). f (read h)) (dropped-Puts (is_held_by op) h held is)

pub held-split : (k : Part) (op : ℕ) (held : List Hold)
    → sum_by (λ (h : Hold). part k h.share) held
    ≡ part k (option_map_or (λ (h : Hold). h.share) (find (is_held_by op) held) nothing) + sum_by (λ (h : Hold). part k h.share) (dropped (is_held_by op) held)
held-split k op held = held-split-by (part k) (λ (h : Hold). h.share) nothing (part-nothing k) op held

pub pools-split : (op : ℕ) (held : List Hold)
    → sum_by (λ (h : Hold). h.part.disk) held
    ≡ (option_map_or (λ (h : Hold). h.part) (find (is_held_by op) held) no_part).disk + sum_by (λ (h : Hold). h.part.disk) (dropped (is_held_by op) held)
pools-split op held = held-split-by (λ (p : PoolPart). p.disk) (λ (h : Hold). h.part) no_part refl op held

-- a share that is held becomes its object's, or is returned
pub balanced-converted : (op : ℕ) (s : State) → AreBalanced s → AreBalanced (converted op s)
balanced-converted op s h = record {
  parts = λ k.
      let plus = part-plus k s.books.converted (held_share s op) in
      let split = held-split k op s.held in
      let before = h.parts k in
      omega arith;
  pools =
      let split = pools-split op s.held in
      let before = h.pools in
      omega arith;
}

pub balanced-returned : (op : ℕ) (s : State) → AreBalanced s → AreBalanced (returned op s)
balanced-returned op s h = record {
  parts = λ k.
      let plus = part-plus k s.books.returned (held_share s op) in
      let split = held-split k op s.held in
      let before = h.parts k in
      omega arith;
  pools =
      let split = pools-split op s.held in
      let before = h.pools in
      omega arith;
}

pub balanced-entered : (s : State) (task : Task) (moment : ℕ) → AreBalanced s → AreBalanced (entered s task moment)
unfolding entered
balanced-entered s task moment h = record {
  parts = λ k.
      let plus = part-plus k s.books.granted (share_of s task) in
      let more = sum_by-Puts (λ (x : Hold). part k x.share) (Puts-push {x = held} s.held) in
      let before = h.parts k in
      omega arith;
  pools =
      let more = sum_by-Puts (λ (x : Hold). x.part.disk) (Puts-push {x = held} s.held) in
      let before = h.pools in
      omega arith;
} where
  held : Hold
  held = record { op = s.operations.next; project = project_of_task task; share = share_of s task; part = part_of_share s task }

-- statuses leave them
balanced-powers : (s : State) (powers : List InstancePower) → AreBalanced s → AreBalanced (record s { powers = powers })
balanced-powers s powers h = record { parts = h.parts; pools = h.pools }

-- ---- each change

module _ {s : State} {c : Command} {moment : ℕ} where
  pub books-changes : {cs : List RowChange} → IsAccepted s c moment (changes cs) → AreBalanced (applied s cs)
  books-changes {cs} h = balanced-same (applied-same cs s) h.whole.books

  pub books-entered : {task : Task} → IsAccepted s c moment (starts task) → AreBalanced (entered s task moment)
  books-entered {task} h = balanced-entered s task moment h.whole.books

module _ (s : State) (o : Operation Task) where
  pub books-taken : (moment : ℕ) {call : HostCall} {rest : List HostCall} → IsWhole s → first_pending s ≡ Some o → o.work.calls ≡ call ∷ rest
      → AreBalanced (with_task o.number (handing_out o.work rest) (moved o.number Running moment s))
  books-taken moment h first calls = record { parts = h.books.parts; pools = h.books.pools }

  pub books-next : {call : HostCall} {rest : List HostCall} → IsLiveAs s o Running → o.work.calls ≡ call ∷ rest
      → AreBalanced (with_task o.number (one_more_done o.work rest) s)
  books-next h calls = record { parts = h.whole.books.parts; pools = h.whole.books.pools }

  pub books-undone : {call : HostCall} → IsLiveAs s o Cancelling → o.work.undo ≡ Some call → AreBalanced (with_task o.number (undone o.work) s)
  books-undone h undo = record { parts = h.whole.books.parts; pools = h.whole.books.pools }

  pub books-cancelling : (moment : ℕ) → IsLiveAs s o Running → o.may_cancel ≡ true → AreBalanced (moved o.number Cancelling moment s)
  books-cancelling moment h may = record { parts = h.whole.books.parts; pools = h.whole.books.pools }

  pub books-cancelled : (moment : ℕ) → IsWhole s → live_at s.operations o.number ≡ Some o → AreBalanced (cancelled s o.number moment)
  unfolding cancelled
  books-cancelled moment h live = balanced-returned o.number (ended o.number status.Cancelled fault.None moment s)
      (record { parts = h.books.parts; pools = h.books.pools })

  pub books-failed : (why : OpFault) (done moment : ℕ) → IsLiveAs s o Running → AreBalanced (failed s o why done moment)
  unfolding failed
  books-failed why done moment h = balanced-returned o.number (ended o.number status.Failure why moment (after_failure o.work done s))
      (record { parts = after.parts; pools = after.pools }) where
        after : AreBalanced (after_failure o.work done s)
        after = failure-keeps AreBalanced balanced-powers o.work done s h.whole.books

  pub books-succeeded : (moment : ℕ) → IsLiveAs s o Running → o.work.calls ≡ [] → AreBalanced (succeeded s o moment)
  unfolding succeeded
  books-succeeded moment h none = balanced-converted o.number (ended o.number status.Success fault.None moment (applied powered (success_changes s o.work)))
      (record { parts = after.parts; pools = after.pools }) where
        powered : State
        powered = with_power_after o.work (power_after s o.work) s

        after : AreBalanced (applied powered (success_changes s o.work))
        after = balanced-same (applied-same (success_changes s o.work) powered)
            (power-keeps AreBalanced balanced-powers o.work (power_after s o.work) s h.whole.books)

pub books-closed : (s : State) → IsWhole s → AreBalanced (record s { closed = true })
books-closed s h = record { parts = h.books.parts; pools = h.books.pools }

pub books-telling : (s : State) (notices : List Untold) → IsWhole s → AreBalanced (telling notices s)
books-telling s notices h = telling-keeps AreBalanced (λ t ns n b. record { parts = b.parts; pools = b.pools }) notices s h.books
