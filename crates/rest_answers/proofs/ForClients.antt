-- What a command can be answered: a reply, that it waits, or that memory was refused; and an operation that is asked
-- for is answered at once.
use Rattle.std.proofs.Common.{◌≡◌, ◌≢◌, ℕ, Bool, cond, true, false, List, Option, Some, None, option_map, refl, ap}
use Rattle.std.proofs.Common.{subst}
use Rattle.std.specs.Option.{option_map_or, option_and_then}
use Rattle.record_keeper.specs.Store.{Store}
use Rattle.operations.specs.declared.operation.Operation.{Operation}
use Rattle.operations.specs.OperationTable.{kept_at}
use Rattle.records.specs.declared.commands.Command.{Command}
use Rattle.records.specs.declared.commands.What.{What}
use Rattle.records.specs.declared.commands.What.TheVariants as what
use Rattle.records.specs.declared.commands.Target.{Target}
use Rattle.records.specs.declared.refusals.Refusal.{Refusal}
use Rattle.records.specs.declared.replies.Reply.{Reply}
use Rattle.records.specs.declared.replies.Reply.TheVariants as reply
use Rattle.records.specs.declared.replies.View.{View}
use Rattle.row_machine.specs.declared.events.Answer.{Answer}
use Rattle.row_machine.specs.declared.events.Answer.TheVariants as answer
use Rattle.row_machine.specs.declared.events.Event.{Event}
use Rattle.row_machine.specs.declared.events.Event.TheVariants as event
use Rattle.row_machine.specs.machine.State.{State}
use Rattle.row_machine.specs.machine.Task.{Task}
use Rattle.row_machine.specs.machine.Plans.{Plan, nothing, changes, starts, plan_of, row_of}
use Rattle.row_machine.specs.machine.Rules.{broken}
use Rattle.row_machine.specs.machine.Operations.{entered}
use Rattle.row_machine.specs.machine.Accept.{After, and_then, accepted, carried_out, cancel_or_read, started}
use Rattle.row_machine.specs.machine.Step.{Outcome, well, keeper_failed, no_memory, step, after_command, unavailable}
use Rattle.row_machine.specs.shown.Views.{read, one, row_view, state_view, operation_view, list_reply, operations_reply}
use Rattle.row_machine.specs.shown.Views.{rows_reply, is_operation, listed}
use Rattle.row_machine.specs.shown.Notices.{view_of}
use Rattle.core_turns.specs.core_rows.specs.Asked.{answered}
use Rattle.core_turns.specs.Turns.{IsTurn}
use Rattle.rest_answers.specs.Asked.{IsAtOnce, IsForClient}

-- ---- replies of reads

one_tells : (v : Option View) → one v ≢ reply.NoMemory
one_tells None e = cc
one_tells (Some v) e = cc

operations_tell : (s : State) (project : List ℕ) (recursion : Bool)
    → operations_reply s project recursion ≢ reply.NoMemory
operations_tell s project true e = cc
operations_tell s project false e = cc

rows_tell : (s : State) (project : List ℕ) (of : Target) (recursion : Bool)
    → rows_reply s (listed s project of) recursion ≢ reply.NoMemory
rows_tell s project of true e = cc
rows_tell s project of false e = cc

list_tells : (s : State) (project : List ℕ) (of : Target) (recursion : Bool)
    → list_reply s project of recursion ≢ reply.NoMemory
list_tells s project of recursion = by (is_operation of.kind) refl where
  by : (b : Bool) → is_operation of.kind ≡ b → list_reply s project of recursion ≢ reply.NoMemory
  by true is = rw is (operations_tell s project recursion)
  by false is = rw is (rows_tell s project of recursion)

read_tells : (s : State) (project : List ℕ) (w : What) → read s project w ≢ reply.NoMemory
unfolding read
read_tells s project what.Root e = cc
read_tells s project what.Server e = cc
read_tells s project (what.List of recursion) e = list_tells s project of recursion e
read_tells s project (what.Get of) e = one_tells (option_map (row_view s) (row_of s project of)) e
read_tells s project (what.State of) e = one_tells (option_and_then (state_view s project) (row_of s project of)) e
read_tells s project (what.GetOp op) e = one_tells (operation_view s op) e
read_tells s project (what.Wait op timeout) e = one_tells (operation_view s op) e
read_tells s project (what.Create of body) e = cc
read_tells s project (what.Put of body) e = cc
read_tells s project (what.Patch of body) e = cc
read_tells s project (what.Move of to) e = cc
read_tells s project (what.Delete of) e = cc
read_tells s project (what.Act of action) e = cc
read_tells s project (what.Restore of snapshot) e = cc
read_tells s project (what.Cancel op) e = cc

started_tells : (s : State) (number : ℕ) → started s number ≢ reply.NoMemory
started_tells s number = by (kept_at s.operations number) where
  by : (o : Option (Operation Task)) → option_map_or (λ o. reply.Started (view_of o)) o reply.Empty ≢ reply.NoMemory
  by None e = cc
  by (Some o) e = cc

empty_tells : reply.Empty ≢ reply.NoMemory
empty_tells e = cc

refused_tells : (refusal : Refusal) → reply.Refused refusal ≢ reply.NoMemory
refused_tells refusal e = cc

-- ---- answers of commands

-- a command that changes no row and begins nothing
reads_speak : (s : State) (c : Command) (moment : ℕ) (w : What) → IsForClient (cancel_or_read s c moment w).answer
reads_speak s c moment (what.Wait op timeout) = by _ where
  by : (b : Bool) → IsForClient (cond b (answer.Hold op) (answer.Reply (read s c.project c.what)))
  by true = tt
  by false = read_tells s c.project c.what
reads_speak s c moment (what.Cancel op) = empty_tells
reads_speak s c moment what.Root = read_tells s c.project c.what
reads_speak s c moment what.Server = read_tells s c.project c.what
reads_speak s c moment (what.List of recursion) = read_tells s c.project c.what
reads_speak s c moment (what.Get of) = read_tells s c.project c.what
reads_speak s c moment (what.State of) = read_tells s c.project c.what
reads_speak s c moment (what.Create of body) = read_tells s c.project c.what
reads_speak s c moment (what.Put of body) = read_tells s c.project c.what
reads_speak s c moment (what.Patch of body) = read_tells s c.project c.what
reads_speak s c moment (what.Move of to) = read_tells s c.project c.what
reads_speak s c moment (what.Delete of) = read_tells s c.project c.what
reads_speak s c moment (what.Act of action) = read_tells s c.project c.what
reads_speak s c moment (what.Restore of snapshot) = read_tells s c.project c.what
reads_speak s c moment (what.GetOp op) = read_tells s c.project c.what

plans_speak : (s : State) (c : Command) (moment : ℕ) (p : Plan) → IsForClient (carried_out s c moment p).answer
plans_speak s c moment nothing = reads_speak s c moment c.what
plans_speak s c moment (changes cs) = empty_tells
plans_speak s c moment (starts task) = started_tells (entered s task moment) s.operations.next

-- an answer, if there is one, is such
abbrev pub Speaks : (Answer → Type 0) → Option After → Type 0
Speaks such None = Unit {0}
Speaks such (Some a) = such a.answer

unavailable_speaks : (s : State) (p : Plan) → Speaks IsForClient (unavailable s p)
unavailable_speaks s nothing = tt
unavailable_speaks s (changes cs) = refused_tells _
unavailable_speaks s (starts task) = tt

asked_speaks : (s : State) (c : Command) (moment : ℕ) (outcome : Outcome) (refusal : Option Refusal)
    → Speaks IsForClient (after_command s c moment outcome refusal)
unfolding accepted
asked_speaks s c moment well (Some refusal) = refused_tells refusal
asked_speaks s c moment well None = plans_speak s c moment (plan_of s c moment)
asked_speaks s c moment (keeper_failed rise) (Some refusal) = tt
asked_speaks s c moment (keeper_failed rise) None = unavailable_speaks s (plan_of s c moment)
asked_speaks s c moment no_memory (Some refusal) = tt
asked_speaks s c moment no_memory None = tt

-- an operation that is asked for
shown_speaks : (s : State) (project : List ℕ) (op moment : ℕ) (outcome : Outcome) (refusal : Option Refusal)
    → Speaks IsAtOnce (after_command s (record { project = project; what = what.GetOp op; expects = None }) moment outcome refusal)
unfolding accepted plan_of
shown_speaks s project op moment well (Some refusal) = refused_tells refusal
shown_speaks s project op moment well None = read_tells s project (what.GetOp op)
shown_speaks s project op moment (keeper_failed rise) (Some refusal) = tt
shown_speaks s project op moment (keeper_failed rise) None = tt
shown_speaks s project op moment no_memory (Some refusal) = tt
shown_speaks s project op moment no_memory None = tt

-- the answer, if there is one, and else another one
answer_in : Option After → Answer → Answer
answer_in None a = a
answer_in (Some x) a = x.answer

-- what a turn was answered
pub turned_speaks : (such : Answer → Type 0) (s : State) (e : Event) (outcome : Outcome) (a : Answer) (s' : State)
    → Speaks such (step s e outcome) → step s e outcome ≡ Some (and_then a s') → such a
unfolding answer_in
turned_speaks such s e outcome a s' speaks is = by (step s e outcome) speaks is where
  by : (after : Option After) → Speaks such after
      → after ≡ Some (and_then a s') → such a
  by None speaks is = absurd (none_is is) where
    none_is : {x : After} → None ≡ Some x → ⊥
    none_is e = cc
  by (Some x) speaks is = subst such (same is) speaks where
    same : Some x ≡ Some (and_then a s') → x.answer ≡ a
    same e = ap (λ o. answer_in o a) e

-- ---- turns

-- a command that was asked
pub turned_for_client : (s : State) (c : Command) (moment : ℕ) (outcome : Outcome) (a : Answer) (s' : State)
    → step s (event.Ask c moment) outcome ≡ Some (and_then a s') → IsForClient a
unfolding step
turned_for_client s c moment outcome a s' is =
    turned_speaks IsForClient s (event.Ask c moment) outcome a s'
    (asked_speaks s c moment outcome (broken s c moment)) is

pub for_client : {s s' : State} {store store' : Store} {c : Command} {moment : ℕ} {a : Answer}
    → IsTurn s store (event.Ask c moment) a s' store' → IsForClient a
for_client {s} {s'} {store} {store'} {c} {moment} {a} t =
    turned_for_client s c moment t.outcome a s' t.turns.is

-- an operation that was asked for
pub turned_at_once : (s : State) (project : List ℕ) (op moment : ℕ) (outcome : Outcome) (a : Answer) (s' : State)
    → step s (event.Ask (record { project = project; what = what.GetOp op; expects = None }) moment) outcome
    ≡ Some (and_then a s') → IsAtOnce a
unfolding step
turned_at_once s project op moment outcome a s' is =
    turned_speaks IsAtOnce s (event.Ask (record { project = project; what = what.GetOp op; expects = None }) moment) outcome a s'
    (shown_speaks s project op moment outcome
    (broken s (record { project = project; what = what.GetOp op; expects = None }) moment)) is

pub at_once : {s s' : State} {store store' : Store} {project : List ℕ} {op moment : ℕ} {a : Answer}
    → IsTurn s store (event.Ask (record { project = project; what = what.GetOp op; expects = None }) moment) a s' store' → IsAtOnce a
at_once {s} {s'} {store} {store'} {project} {op} {moment} {a} t =
    turned_at_once s project op moment t.outcome a s' t.turns.is

-- ---- what they are taken for

-- a reply that is not the one of memory refused is an answer as it is
pub reply_answered : (r : Reply) → r ≢ reply.NoMemory → answered r ≡ answer.Reply r
reply_answered reply.Empty isnt = refl
reply_answered (reply.Links xs) isnt = refl
reply_answered (reply.One v) isnt = refl
reply_answered (reply.Many vs) isnt = refl
reply_answered (reply.OpLinks xs) isnt = refl
reply_answered (reply.OpMany xs) isnt = refl
reply_answered (reply.Started v) isnt = refl
reply_answered (reply.Refused x) isnt = refl
reply_answered reply.NoMemory isnt = absurd (isnt refl)
