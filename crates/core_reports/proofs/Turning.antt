-- What is known of an operation from what comes of its report.
use Rattle.std.proofs.Common.{◌≡◌, ℕ, ◌+◌, ◌<◌, List, [], ◌∷◌, Option, Some, None, IsSome}
use Rattle.std.proofs.Common.{IfSome, refl, sym, subst, arith}
use Rattle.std.specs.Option.{option_map_or}
use Rattle.host_model.specs.declared.call.HostCall.{HostCall}
use Rattle.host_model.specs.declared.report.Report.{Report}
use Rattle.host_model.specs.declared.report.Report.TheVariants as report
use Rattle.operations.specs.declared.operation.Operation.{Operation}
use Rattle.operations.specs.declared.operation.OpFault.{OpFault}
use Rattle.operations.specs.declared.status.Status.{Status}
use Rattle.operations.specs.declared.status.Status.TheVariants as status
use Rattle.operations.specs.OperationTable.{live_at}
use Rattle.row_machine.specs.machine.Task.{Task}
use Rattle.row_machine.specs.machine.State.{State}
use Rattle.row_machine.specs.facts.Whole.{IsWhole, IsUnderWay}
use Rattle.machine_laws.proofs.Base.{live-mem, live-number}
use Rattle.machine_laws.proofs.WaitsEnding.{few-calls}
use Rattle.core_drafts.specs.Background.{HasCount, HasCountAt}
use Rattle.core_drafts.specs.declared.calls.Handing.TheVariants as handing
use Rattle.core_reports.specs.Turns.{turn_of, turn_while, turn_done, turn_cancelling}
use Rattle.core_reports.specs.declared.turns.Turn.TheVariants as turn

-- ---- how many calls are done

few : (o : Operation Task) → IsUnderWay o → o.work.done + 1 < 256
few o u = let most = few-calls o.work.deed in omega (arith, u.calls, most.1)

pub few-done : (s : State) (number : ℕ) → IsWhole s
    → IfSome (live_at s.operations number) (λ (o : Operation Task). o.work.done + 1 < 256)
few-done s number h = at (live_at s.operations number) refl where
  at : (x : Option (Operation Task)) → live_at s.operations number ≡ x
      → IfSome x (λ (o : Operation Task). o.work.done + 1 < 256)
  at None is = tt
  at (Some o) is = few o (h.under_way.at o (live-mem s number o is))

-- ---- by what comes of the report

-- the live operation of a number, of this status
pub record IsLive (s : State) (number : ℕ) (now : Status) : Type 0 where
  pub of : Operation Task
  pub live : live_at s.operations number ≡ Some of
  pub numbered : of.number ≡ number
  pub status : of.status ≡ now

-- the next call is handed out where one is left, after the report that one was done
pub record HasNext (s : State) (number : ℕ) (r : Report) : Type 0 where
  pub running : IsLive s number status.Running
  pub call : HostCall
  pub rest : List HostCall
  pub calls : running.of.work.calls ≡ call ∷ rest
  pub report : r ≡ report.Done

-- the last call was done where none is left
pub record HasLast (s : State) (number : ℕ) (r : Report) : Type 0 where
  pub running : IsLive s number status.Running
  pub calls : running.of.work.calls ≡ []
  pub report : r ≡ report.Done

-- the call that takes the deed back is left
pub record HasUndo (s : State) (number : ℕ) : Type 0 where
  pub cancelling : IsLive s number status.Cancelling
  pub call : HostCall
  pub undo : cancelling.of.work.undo ≡ Some call

-- that call was handed out already
pub record HasNoUndo (s : State) (number : ℕ) : Type 0 where
  pub cancelling : IsLive s number status.Cancelling
  pub undo : cancelling.of.work.undo ≡ None

module _ (s : State) (number : ℕ) (o : Operation Task) (live : live_at s.operations number ≡ Some o) where
  as-live : (now : Status) → o.status ≡ now → IsLive s number now
  as-live now is = record { of = o; live = live; numbered = live-number s number o live; status = is }

  next-while : (now : Status) (r : Report) → o.status ≡ now → turn_while o r now ≡ turn.Next → HasNext s number r
  unfolding as-live
  next-while status.Running report.Done is e = at o.work.calls refl e where
    at : (calls : List HostCall) → o.work.calls ≡ calls → turn_done calls ≡ turn.Next → HasNext s number report.Done
    at [] which e = cc
    at (call ∷ rest) which e = record {
      running = as-live status.Running is;
      call = call;
      rest = rest;
      calls = which;
      report = refl;
    }
  next-while status.Running (report.Failed rise) is e = cc
  next-while status.Running report.NoMemory is e = cc
  next-while status.Cancelling r is e = at o.work.undo e where
    at : (undo : Option HostCall) → turn_cancelling undo ≡ turn.Next → HasNext s number r
    at None e = cc
    at (Some call) e = cc
  next-while status.Pending r is e = cc
  next-while status.Success r is e = cc
  next-while status.Failure r is e = cc
  next-while status.Cancelled r is e = cc

  last-while : (now : Status) (r : Report) → o.status ≡ now → turn_while o r now ≡ turn.Last → HasLast s number r
  unfolding as-live
  last-while status.Running report.Done is e = at o.work.calls refl e where
    at : (calls : List HostCall) → o.work.calls ≡ calls → turn_done calls ≡ turn.Last → HasLast s number report.Done
    at [] which e = record { running = as-live status.Running is; calls = which; report = refl }
    at (call ∷ rest) which e = cc
  last-while status.Running (report.Failed rise) is e = cc
  last-while status.Running report.NoMemory is e = cc
  last-while status.Cancelling r is e = at o.work.undo e where
    at : (undo : Option HostCall) → turn_cancelling undo ≡ turn.Last → HasLast s number r
    at None e = cc
    at (Some call) e = cc
  last-while status.Pending r is e = cc
  last-while status.Success r is e = cc
  last-while status.Failure r is e = cc
  last-while status.Cancelled r is e = cc

  undo-while : (now : Status) (r : Report) → o.status ≡ now → turn_while o r now ≡ turn.Undo → HasUndo s number
  unfolding as-live
  undo-while status.Running report.Done is e = at o.work.calls e where
    at : (calls : List HostCall) → turn_done calls ≡ turn.Undo → HasUndo s number
    at [] e = cc
    at (call ∷ rest) e = cc
  undo-while status.Running (report.Failed rise) is e = cc
  undo-while status.Running report.NoMemory is e = cc
  undo-while status.Cancelling r is e = at o.work.undo refl e where
    at : (undo : Option HostCall) → o.work.undo ≡ undo → turn_cancelling undo ≡ turn.Undo → HasUndo s number
    at None which e = cc
    at (Some call) which e = record { cancelling = as-live status.Cancelling is; call = call; undo = which }
  undo-while status.Pending r is e = cc
  undo-while status.Success r is e = cc
  undo-while status.Failure r is e = cc
  undo-while status.Cancelled r is e = cc

  cancels-while : (now : Status) (r : Report) → o.status ≡ now → turn_while o r now ≡ turn.Cancels → HasNoUndo s number
  unfolding as-live
  cancels-while status.Running report.Done is e = at o.work.calls e where
    at : (calls : List HostCall) → turn_done calls ≡ turn.Cancels → HasNoUndo s number
    at [] e = cc
    at (call ∷ rest) e = cc
  cancels-while status.Running (report.Failed rise) is e = cc
  cancels-while status.Running report.NoMemory is e = cc
  cancels-while status.Cancelling r is e = at o.work.undo refl e where
    at : (undo : Option HostCall) → o.work.undo ≡ undo → turn_cancelling undo ≡ turn.Cancels → HasNoUndo s number
    at None which e = record { cancelling = as-live status.Cancelling is; undo = which }
    at (Some call) which e = cc
  cancels-while status.Pending r is e = cc
  cancels-while status.Success r is e = cc
  cancels-while status.Failure r is e = cc
  cancels-while status.Cancelled r is e = cc

pub next-of : (s : State) (number : ℕ) (r : Report) → turn_of (live_at s.operations number) r ≡ turn.Next
    → HasNext s number r
next-of s number r h = at (live_at s.operations number) refl h where
  at : (x : Option (Operation Task)) → live_at s.operations number ≡ x → turn_of x r ≡ turn.Next → HasNext s number r
  at None is h = cc
  at (Some o) is h = next-while s number o is o.status r refl h

pub last-of : (s : State) (number : ℕ) (r : Report) → turn_of (live_at s.operations number) r ≡ turn.Last
    → HasLast s number r
last-of s number r h = at (live_at s.operations number) refl h where
  at : (x : Option (Operation Task)) → live_at s.operations number ≡ x → turn_of x r ≡ turn.Last → HasLast s number r
  at None is h = cc
  at (Some o) is h = last-while s number o is o.status r refl h

pub undo-of : (s : State) (number : ℕ) (r : Report) → turn_of (live_at s.operations number) r ≡ turn.Undo
    → HasUndo s number
undo-of s number r h = at (live_at s.operations number) refl h where
  at : (x : Option (Operation Task)) → live_at s.operations number ≡ x → turn_of x r ≡ turn.Undo → HasUndo s number
  at None is h = cc
  at (Some o) is h = undo-while s number o is o.status r refl h

pub cancels-of : (s : State) (number : ℕ) (r : Report) → turn_of (live_at s.operations number) r ≡ turn.Cancels
    → HasNoUndo s number
cancels-of s number r h = at (live_at s.operations number) refl h where
  at : (x : Option (Operation Task)) → live_at s.operations number ≡ x → turn_of x r ≡ turn.Cancels → HasNoUndo s number
  at None is h = cc
  at (Some o) is h = cancels-while s number o is o.status r refl h

-- one that fails is live
pub fails-live : (s : State) (number : ℕ) (r : Report) (why : OpFault)
    → turn_of (live_at s.operations number) r ≡ turn.Fails why → IsSome (live_at s.operations number)
fails-live s number r why h = at (live_at s.operations number) h where
  at : (x : Option (Operation Task)) → turn_of x r ≡ turn.Fails why → IsSome x
  at None h = cc
  at (Some o) h = refl

pub is-live : {s : State} {number : ℕ} {now : Status} → IsLive s number now → IsSome (live_at s.operations number)
is-live l = subst (λ (x : Option (Operation Task)). IsSome x) (sym l.live) refl

-- ---- how many calls are counted

-- one more call can be counted
pub next-counted : (s : State) (number : ℕ) → IsWhole s → HasCountAt handing.Next s.operations number
next-counted s number h = at (live_at s.operations number) (few-done s number h) where
  at : (x : Option (Operation Task)) → IfSome x (λ (o : Operation Task). o.work.done + 1 < 256)
      → IfSome x (λ (o : Operation Task). HasCount handing.Next o.work)
  at None less = tt
  at (Some o) less = omega (arith, less)

-- how many calls were done of the live operation, with one more
pub done-counted : (s : State) (number : ℕ) → IsWhole s
    → option_map_or (λ (o : Operation Task). o.work.done) (live_at s.operations number) 0 + 1 < 256
done-counted s number h = at (live_at s.operations number) (few-done s number h) where
  at : (x : Option (Operation Task)) → IfSome x (λ (o : Operation Task). o.work.done + 1 < 256)
      → option_map_or (λ (o : Operation Task). o.work.done) x 0 + 1 < 256
  at None less = omega arith
  at (Some o) less = omega (arith, less)
