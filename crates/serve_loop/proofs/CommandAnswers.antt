-- Which answers a command can have.
use Rattle.std.proofs.Common.{◌≡◌, ◌≢◌, ℕ, max, Bool, cond, true, false, List, Option, Some, None, refl, sym, subst}
use Rattle.records.specs.declared.commands.Command.{Command}
use Rattle.records.specs.declared.commands.What.{What}
use Rattle.records.specs.declared.commands.What.TheVariants as what
use Rattle.records.specs.declared.refusals.Refusal.{Refusal}
use Rattle.row_machine.specs.declared.events.Answer.{Answer}
use Rattle.row_machine.specs.declared.events.Answer.TheVariants as answer
use Rattle.row_machine.specs.declared.events.Event.TheVariants as event
use Rattle.row_machine.specs.machine.State.{State}
use Rattle.row_machine.specs.machine.Plans.{Plan, nothing, changes, starts, plan_of}
use Rattle.row_machine.specs.machine.Rules.{broken}
use Rattle.row_machine.specs.machine.Accept.{accepted, cancel_or_read, carried_out}
use Rattle.row_machine.specs.machine.Step.{Outcome, well, keeper_failed, no_memory, step, after_command}
use Rattle.row_machine.specs.machine.Step.{unavailable}
use Rattle.row_machine.specs.shown.Views.{read}
use Rattle.gates.specs.History.{MayAnswer}
use Rattle.gates.specs.rest_answers.specs.Asked.{IsAtOnce, IsForClient}
use Rattle.gates.specs.rest_answers.proofs.ForClients.{Speaks, turned_at_once, turned_for_client}
use Rattle.gates.proofs.Answering.{may}
use Rattle.serve_loop.specs.Waits.{wait_in, wait_of}

-- ---- commands

pub for_client : (c : Command) (moment : ℕ) (a : Answer) → MayAnswer (event.Ask c moment) a → IsForClient a
for_client c moment a h =
    turned_for_client h.from.state c (max h.latest moment) h.outcome a h.to.state h.by.turns.is

pub at_once : (project : List ℕ) (op moment : ℕ) (a : Answer)
    → MayAnswer (event.Ask (record { project = project; what = what.GetOp op; expects = None }) moment) a → IsAtOnce a
at_once project op moment a h =
    turned_at_once h.from.state project op (max h.latest moment) h.outcome a h.to.state h.by.turns.is

-- only the answer of a wait is held back
abbrev IsHeldFor : Command → Answer → Type 0
IsHeldFor c (answer.Hold op) = wait_of c ≢ None
IsHeldFor c other = Unit {0}

read_holds : (s : State) (c : Command) (moment : ℕ) → IsHeldFor c (cancel_or_read s c moment c.what).answer
read_holds s c moment = by c.what refl where
  by : (w : What) → c.what ≡ w → IsHeldFor c (cancel_or_read s c moment w).answer
  by (what.Wait op timeout) is = held _ where
    held : (b : Bool) → IsHeldFor c (cond b (answer.Hold op) (answer.Reply (read s c.project c.what)))
    held true = subst (λ w. wait_in c.project w ≢ None) (sym is) (λ e. cc)
    held false = tt
  by (what.Cancel op) is = tt
  by what.Root is = tt
  by what.Server is = tt
  by (what.List of recursion) is = tt
  by (what.Get of) is = tt
  by (what.State of) is = tt
  by (what.Create of body) is = tt
  by (what.Put of body) is = tt
  by (what.Patch of body) is = tt
  by (what.Move of to) is = tt
  by (what.Delete of) is = tt
  by (what.Act of action) is = tt
  by (what.Restore of snapshot) is = tt
  by (what.GetOp op) is = tt

plan_holds : (s : State) (c : Command) (moment : ℕ) (p : Plan) → IsHeldFor c (carried_out s c moment p).answer
plan_holds s c moment nothing = read_holds s c moment
plan_holds s c moment (changes cs) = tt
plan_holds s c moment (starts task) = tt

unavailable_holds : (s : State) (c : Command) (p : Plan) → Speaks (IsHeldFor c) (unavailable s p)
unavailable_holds s c nothing = tt
unavailable_holds s c (changes cs) = tt
unavailable_holds s c (starts task) = tt

asked_holds : (s : State) (c : Command) (moment : ℕ) (outcome : Outcome) (refusal : Option Refusal)
    → Speaks (IsHeldFor c) (after_command s c moment outcome refusal)
unfolding accepted
asked_holds s c moment well (Some refusal) = tt
asked_holds s c moment well None = plan_holds s c moment (plan_of s c moment)
asked_holds s c moment (keeper_failed rise) (Some refusal) = tt
asked_holds s c moment (keeper_failed rise) None = unavailable_holds s c (plan_of s c moment)
asked_holds s c moment no_memory (Some refusal) = tt
asked_holds s c moment no_memory None = tt

ask_holds : (s : State) (c : Command) (moment : ℕ) (outcome : Outcome)
    → Speaks (IsHeldFor c) (step s (event.Ask c moment) outcome)
unfolding step
ask_holds s c moment outcome = asked_holds s c moment outcome (broken s c moment)

pub hold_waits : (c : Command) (moment op : ℕ) → MayAnswer (event.Ask c moment) (answer.Hold op) → wait_of c ≢ None
hold_waits c moment op h = may (IsHeldFor c) (event.Ask c moment) (answer.Hold op)
    (λ s latest outcome. ask_holds s c (max latest moment) outcome) h
