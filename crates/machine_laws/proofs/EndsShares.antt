-- The share of an operation that ends goes to its object or back, whole.
use Rattle.std.proofs.Common.{◌≡◌, ℕ, ◌+◌, true, false, ◌⊎◌, inl, inr, Option, Some, None, List, [], ◌∷◌, map, refl, sym, ap, subst, ◌∙◌}
use Rattle.std.specs.List.{find}
use Rattle.std.specs.Option.{option_map, option_map_or, option_or, is_some}
use Rattle.std.proofs.lemmas.Bool.Decides.{eqb_tells}
use Rattle.std.proofs.lemmas.List.Folds.{find-append}
use Rattle.plain_lists.specs.Edits.{dropped}
use Rattle.size_values.specs.Amounts.{part, nothing, plus_of}
use Rattle.size_values.specs.declared.amounts.Amounts.{Amounts}
use Rattle.size_values.specs.declared.amounts.Part.{Part}
use Rattle.size_values.specs.PoolParts.{no_part}
use Rattle.size_values.specs.declared.pool_part.PoolPart.{PoolPart}
use Rattle.size_values.proofs.AmountParts.{part-plus}
use Rattle.reservations.specs.declared.books.Books.{Books}
use Rattle.operations.specs.declared.operation.Operation.{Operation}
use Rattle.operations.specs.declared.operation.OpFault.{OpFault}
use Rattle.operations.specs.declared.operation.OpFault.TheVariants as fault
use Rattle.operations.specs.declared.status.Status.{Status}
use Rattle.operations.specs.declared.status.Status.TheVariants as status
use Rattle.operations.specs.declared.status.Status.TheVariants.{Running, Cancelling}
use Rattle.operations.specs.OperationTable.{OperationTable, has_number, live_at, kept_at, ends}
use Rattle.records.specs.declared.notices.Untold.{Untold}
use Rattle.row_machine.specs.machine.Task.{Task}
use Rattle.reservations.specs.declared.books.Hold.{Hold}
use Rattle.row_machine.specs.machine.State.{State}
use Rattle.row_machine.specs.machine.Changes.{applied}
use Rattle.row_machine.specs.machine.Claims.{share_of, part_of_share}
use Rattle.row_machine.specs.shown.Notices.{telling}
use Rattle.row_machine.specs.machine.Operations.{is_held_by, held_share, held_on_pool, converted, returned, entered, with_task, moved, handing_out, one_more_done, undone, ended, cancelled, failed, succeeded, success_changes, power_after, with_power_after, after_failure}
use Rattle.row_machine.specs.facts.Whole.{IsWhole, held_by}
use Rattle.machine_laws.specs.Headline.{EndsWhole, SharesGoWhole}
use Rattle.machine_laws.specs.Headline.EndsWhole.{became_its_objects, went_back}
use Rattle.machine_laws.proofs.Base.{mem-live}
use Rattle.machine_laws.proofs.BooksSteps.{HasSameBooking, applied-same, power-keeps, failure-keeps, telling-keeps}
use Rattle.machine_laws.proofs.Steps.{Alters}
use Rattle.machine_laws.proofs.Steps.AltersBy.{stays, closes, rows, enters, hands_out, goes_on, takes_back, turns, cancels, fails, succeeds}
use Rattle.machine_laws.proofs.EndsLive.{found-changed, find-map, kept-ended, live-apart}

-- ---- the share that is held is the one by the rows

share-held : (s : State) (n : ℕ) (o : Operation Task) → s.held ≡ map (held_by s) s.operations.live → live_at s.operations n ≡ Some o
    → held_share s n ≡ share_of s o.work
share-held s n o held live =
    ap (λ hs. option_map_or (λ (h : Hold). h.share) (find (is_held_by n) hs) nothing) held
    ∙ ap (λ h. option_map_or (λ (h : Hold). h.share) h nothing) (find-map (held_by s) (has_number n) (is_held_by n) s.operations.live (λ x. refl))
    ∙ ap (λ x. option_map_or (λ (h : Hold). h.share) (option_map (held_by s) x) nothing) live

part-held : (s : State) (n : ℕ) (o : Operation Task) → s.held ≡ map (held_by s) s.operations.live → live_at s.operations n ≡ Some o
    → held_on_pool s n ≡ part_of_share s o.work
part-held s n o held live =
    ap (λ hs. option_map_or (λ (h : Hold). h.part) (find (is_held_by n) hs) no_part) held
    ∙ ap (λ h. option_map_or (λ (h : Hold). h.part) h no_part) (find-map (held_by s) (has_number n) (is_held_by n) s.operations.live (λ x. refl))
    ∙ ap (λ x. option_map_or (λ (h : Hold). h.part) (option_map (held_by s) x) no_part) live

-- ---- ends, where the state before has the same operations, shares and books

module _ (s t : State) (o : Operation Task) (h : IsWhole s) (live : live_at s.operations o.number ≡ Some o) (same : HasSameBooking s t) where
  share : held_share t o.number ≡ share_of s o.work
  share = ap (λ hs. option_map_or (λ (h : Hold). h.share) (find (is_held_by o.number) hs) nothing) same.held ∙ share-held s o.number o h.shares live

  on_pool : held_on_pool t o.number ≡ part_of_share s o.work
  on_pool = ap (λ hs. option_map_or (λ (h : Hold). h.part) (find (is_held_by o.number) hs) no_part) same.held ∙ part-held s o.number o h.shares live

  kept : (now : Status) (why : OpFault) (moment : ℕ) → option_map (λ (x : Operation Task). x.status) (kept_at (ends o.number now why moment t.operations) o.number) ≡ Some now
  kept now why moment =
      subst (λ k. option_map (λ (x : Operation Task). x.status) (kept_at (ends o.number now why moment k) o.number) ≡ Some now) (sym same.operations)
      (kept-ended s.operations o.number now why moment o h.operations.kept live)

  grows : (book : Amounts) (k : Part) → part k (plus_of book (held_share t o.number)) ≡ part k book + part k (share_of s o.work)
  grows book k = part-plus k book (held_share t o.number) ∙ ap (λ a. part k book + part k a) share

  pub ended-back : (now : Status) (why : OpFault) (moment : ℕ) → (now ≡ status.Failure) ⊎ (now ≡ status.Cancelled)
      → EndsWhole s (returned o.number (ended o.number now why moment t)) o
  ended-back now why moment which = went_back
      (elim which [ inl e ↦ inl (kept now why moment ∙ ap Some e) | inr e ↦ inr (kept now why moment ∙ ap Some e) ])
      (record {
        parts = λ k. grows t.books.returned k ∙ ap (λ (b : Books). part k b.returned + part k (share_of s o.work)) same.books;
        pools = ap (λ (p : PoolPart). t.books.pool_returned + p.disk) on_pool ∙ ap (λ (b : Books). b.pool_returned + (part_of_share s o.work).disk) same.books;
      })
      (record { amounts = ap (λ (b : Books). b.converted) same.books; pools = ap (λ (b : Books). b.pool_converted) same.books })

  pub ended-into : (moment : ℕ) → EndsWhole s (converted o.number (ended o.number status.Success fault.None moment t)) o
  ended-into moment = became_its_objects (kept status.Success fault.None moment)
      (record {
        parts = λ k. grows t.books.converted k ∙ ap (λ (b : Books). part k b.converted + part k (share_of s o.work)) same.books;
        pools = ap (λ (p : PoolPart). t.books.pool_converted + p.disk) on_pool ∙ ap (λ (b : Books). b.pool_converted + (part_of_share s o.work).disk) same.books;
      })
      (record { amounts = ap (λ (b : Books). b.returned) same.books; pools = ap (λ (b : Books). b.pool_returned) same.books })

-- ---- notices leave all this

same-itself : (s : State) → HasSameBooking s s
same-itself s = record { operations = refl; held = refl; books = refl }

pub told-same : (ns : List Untold) (s : State) → HasSameBooking s (telling ns s)
told-same ns s = telling-keeps (HasSameBooking s) (λ t some next same. record { operations = same.operations; held = same.held; books = same.books }) ns s (same-itself s)

told-ends : (s t : State) (ns : List Untold) (o : Operation Task) → EndsWhole s t o → EndsWhole s (telling ns t) o
told-ends s t ns o (became_its_objects kept grown stands) = became_its_objects
    (subst (λ k. option_map (λ (x : Operation Task). x.status) (kept_at k o.number) ≡ Some status.Success) (sym (told-same ns t).operations) kept)
    (record {
      parts = λ k. ap (λ (b : Books). part k b.converted) (told-same ns t).books ∙ grown.parts k;
      pools = ap (λ (b : Books). b.pool_converted) (told-same ns t).books ∙ grown.pools;
    })
    (record {
      amounts = ap (λ (b : Books). b.returned) (told-same ns t).books ∙ stands.amounts;
      pools = ap (λ (b : Books). b.pool_returned) (told-same ns t).books ∙ stands.pools;
    })
told-ends s t ns o (went_back kept grown stands) = went_back
    (elim kept [
      | inl e ↦ inl (subst (λ k. option_map (λ (x : Operation Task). x.status) (kept_at k o.number) ≡ Some status.Failure) (sym (told-same ns t).operations) e)
      | inr e ↦ inr (subst (λ k. option_map (λ (x : Operation Task). x.status) (kept_at k o.number) ≡ Some status.Cancelled) (sym (told-same ns t).operations) e)
    ])
    (record {
      parts = λ k. ap (λ (b : Books). part k b.returned) (told-same ns t).books ∙ grown.parts k;
      pools = ap (λ (b : Books). b.pool_returned) (told-same ns t).books ∙ grown.pools;
    })
    (record {
      amounts = ap (λ (b : Books). b.converted) (told-same ns t).books ∙ stands.amounts;
      pools = ap (λ (b : Books). b.pool_converted) (told-same ns t).books ∙ stands.pools;
    })

-- ---- the three ends

cancelled-goes : (s : State) (o : Operation Task) (moment : ℕ) → IsWhole s → live_at s.operations o.number ≡ Some o → EndsWhole s (cancelled s o.number moment) o
unfolding cancelled
cancelled-goes s o moment h live = ended-back s s o h live (same-itself s) status.Cancelled fault.None moment (inr refl)

failed-goes : (s : State) (o : Operation Task) (why : OpFault) (done moment : ℕ) → IsWhole s → live_at s.operations o.number ≡ Some o → EndsWhole s (failed s o why done moment) o
unfolding failed
failed-goes s o why done moment h live =
    ended-back s (after_failure o.work done s) o h live
    (failure-keeps (HasSameBooking s) (λ t powers same. record { operations = same.operations; held = same.held; books = same.books }) o.work done s (same-itself s))
    status.Failure why moment (inl refl)

succeeded-goes : (s : State) (o : Operation Task) (moment : ℕ) → IsWhole s → live_at s.operations o.number ≡ Some o → EndsWhole s (succeeded s o moment) o
unfolding succeeded
succeeded-goes s o moment h live =
    let powered = power-keeps (HasSameBooking s) (λ t powers same. record { operations = same.operations; held = same.held; books = same.books }) o.work (power_after s o.work) s (same-itself s) in
    let rows = applied-same (success_changes s o.work) (with_power_after o.work (power_after s o.work) s) in
    ended-into s (applied (with_power_after o.work (power_after s o.work) s) (success_changes s o.work)) o h live
    (record { operations = rows.operations ∙ powered.operations; held = rows.held ∙ powered.held; books = rows.books ∙ powered.books })
    moment

-- ---- every step

-- the one operation that may have ended is the one that did
the-one : (s t : State) (o other : Operation Task) → IsWhole s → live_at s.operations o.number ≡ Some o → live_at s.operations other.number ≡ Some other
    → t.operations.live ≡ dropped (has_number other.number) s.operations.live → live_at t.operations o.number ≡ None → other ≡ o
the-one s t o other h live other_live left gone = elim (eqb_tells o.number other.number) [
  | inl same ↦ some-is (sym other_live ∙ ap (live_at s.operations) (sym same.1) ∙ live)
  | inr apart ↦ some-is (never (sym gone ∙ ap (find (has_number o.number)) left ∙ live-apart s.operations o.number other.number apart.1 ∙ live))
] where
  some-is : {x y : Operation Task} → Some x ≡ Some y → x ≡ y
  some-is e = cc

  never : None ≡ Some o → Some other ≡ Some o
  never e = cc

-- one that is live after a step did not end
still : {X : Type 0} (s t : State) (o : Operation Task) → live_at s.operations o.number ≡ Some o → live_at t.operations o.number ≡ None
    → is_some (live_at t.operations o.number) ≡ is_some (live_at s.operations o.number) → X
still s t o live gone same = false-true (sym (ap is_some gone) ∙ same ∙ ap is_some live) where
  false-true : {X : Type 0} → false ≡ true → X
  false-true e = cc

told-live : (s : State) (ns : List Untold) (n : ℕ) → live_at (telling ns s).operations n ≡ live_at s.operations n
told-live s ns n = ap (λ k. live_at k n) (told-same ns s).operations

-- what is live after each end, and after an entry
pub cancelled-left : (s : State) (n moment : ℕ) → (cancelled s n moment).operations.live ≡ dropped (has_number n) s.operations.live
unfolding cancelled
cancelled-left s n moment = refl

pub failed-left : (s : State) (o : Operation Task) (why : OpFault) (done moment : ℕ)
    → (failed s o why done moment).operations.live ≡ dropped (has_number o.number) s.operations.live
unfolding failed
failed-left s o why done moment = ap (λ (k : OperationTable Task). dropped (has_number o.number) k.live)
    (failure-keeps (λ t. t.operations ≡ s.operations) (λ t powers e. e) o.work done s refl)

pub succeeded-left : (s : State) (o : Operation Task) (moment : ℕ) → (succeeded s o moment).operations.live ≡ dropped (has_number o.number) s.operations.live
unfolding succeeded
succeeded-left s o moment = ap (λ (k : OperationTable Task). dropped (has_number o.number) k.live)
    ((applied-same (success_changes s o.work) (with_power_after o.work (power_after s o.work) s)).operations
    ∙ power-keeps (λ t. t.operations ≡ s.operations) (λ t powers e. e) o.work (power_after s o.work) s refl)

entered-live : (s : State) (task : Task) (moment : ℕ) (o : Operation Task) → live_at s.operations o.number ≡ Some o
    → is_some (live_at (entered s task moment).operations o.number) ≡ is_some (live_at s.operations o.number)
unfolding entered
entered-live s task moment o live = ap is_some (find-append (has_number o.number) s.operations.live _) ∙ pushed _ (live_at s.operations o.number) (ap is_some live) where
  pushed : (x : Operation Task) (found : Option (Operation Task)) → is_some found ≡ true → is_some (option_or found (find (has_number o.number) (x ∷ []))) ≡ is_some found
  pushed x None e = cc
  pushed x (Some y) e = refl

pub shares-go : {s t : State} → IsWhole s → Alters s t → SharesGoWhole s t
shares-go {s} h stays o m gone = still s s o (mem-live s o h m) gone refl
shares-go {s} h closes o m gone = still s (record s { closed = true }) o (mem-live s o h m) gone refl
shares-go {s} h (rows c moment cs ns known accepted) o m gone =
    still s (telling ns (applied s cs)) o (mem-live s o h m) gone
    (ap is_some (told-live (applied s cs) ns o.number) ∙ ap (λ k. is_some (live_at k o.number)) (applied-same cs s).operations)
shares-go {s} h (enters c moment task ns known accepted) o m gone = still s (telling ns (entered s task moment)) o (mem-live s o h m) gone
    (ap is_some (told-live (entered s task moment) ns o.number) ∙ entered-live s task moment o (mem-live s o h m))
shares-go {s} h (hands_out other moment call rest ns early first calls) o m gone =
    still s (telling ns (with_task other.number (handing_out other.work rest) (moved other.number Running moment s))) o (mem-live s o h m) gone
    (ap is_some (told-live (with_task other.number (handing_out other.work rest) (moved other.number Running moment s)) ns o.number)
    ∙ found-changed (has_number o.number) (has_number other.number) _ (moved other.number Running moment s).operations.live (λ x. refl)
    ∙ found-changed (has_number o.number) (has_number other.number) _ s.operations.live (λ x. refl))
shares-go {s} h (goes_on other call rest l calls) o m gone = still s (with_task other.number (one_more_done other.work rest) s) o (mem-live s o h m) gone
    (found-changed (has_number o.number) (has_number other.number) _ s.operations.live (λ x. refl))
shares-go {s} h (takes_back other call l undo) o m gone = still s (with_task other.number (undone other.work) s) o (mem-live s o h m) gone
    (found-changed (has_number o.number) (has_number other.number) _ s.operations.live (λ x. refl))
shares-go {s} h (turns other moment ns early l may) o m gone = still s (telling ns (moved other.number Cancelling moment s)) o (mem-live s o h m) gone
    (ap is_some (told-live (moved other.number Cancelling moment s) ns o.number)
    ∙ found-changed (has_number o.number) (has_number other.number) _ s.operations.live (λ x. refl))
shares-go {s} h (cancels other moment ns early live why) o m gone =
    subst (λ x. EndsWhole s (telling ns (cancelled s other.number moment)) x)
    (the-one s (cancelled s other.number moment) o other h (mem-live s o h m) live (cancelled-left s other.number moment) (sym (told-live (cancelled s other.number moment) ns o.number) ∙ gone))
    (told-ends s (cancelled s other.number moment) ns other (cancelled-goes s other moment h live))
shares-go {s} h (fails other why done moment ns early l) o m gone =
    subst (λ x. EndsWhole s (telling ns (failed s other why done moment)) x)
    (the-one s (failed s other why done moment) o other h (mem-live s o h m) l.live (failed-left s other why done moment) (sym (told-live (failed s other why done moment) ns o.number) ∙ gone))
    (told-ends s (failed s other why done moment) ns other (failed-goes s other why done moment h l.live))
shares-go {s} h (succeeds other moment lives ns early l none) o m gone =
    subst (λ x. EndsWhole s (telling ns (telling lives (succeeded s other moment))) x)
    (the-one s (succeeded s other moment) o other h (mem-live s o h m) l.live (succeeded-left s other moment)
    (sym (told-live (telling lives (succeeded s other moment)) ns o.number ∙ told-live (succeeded s other moment) lives o.number) ∙ gone))
    (told-ends s (telling lives (succeeded s other moment)) ns other
    (told-ends s (succeeded s other moment) lives other (succeeded-goes s other moment h l.live)))
