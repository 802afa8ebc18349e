-- A wait for a live operation breaks no rule, and is held.
use Rattle.std.specs.Prelude.{ℤ, pos, negsuc}
use Rattle.std.proofs.Common.{◌≡◌, ℕ, Bool, true, false, ◌&&◌, not, cond, List, [], ◌∷◌, Option, Some, None, refl, ap, subst, ◌∙◌}
use Rattle.std.specs.Option.{is_some, option_or}
use Rattle.size_values.specs.declared.kinds.ObjectKind.TheVariants as kind
use Rattle.operations.specs.OperationTable.{live_at}
use Rattle.operations.specs.declared.operation.Operation.{Operation}
use Rattle.record_keeper.specs.Store.{Store}
use Rattle.records.specs.declared.commands.Command.{Command}
use Rattle.records.specs.declared.commands.What.{What}
use Rattle.records.specs.declared.commands.What.TheVariants as what
use Rattle.records.specs.declared.notices.Untold.{Untold}
use Rattle.records.specs.declared.refusals.Refusal.{Refusal}
use Rattle.plain_lists.specs.Firsts.{first}
use Rattle.row_machine.specs.Words.{decimal}
use Rattle.row_machine.specs.declared.events.Answer.TheVariants as answer
use Rattle.row_machine.specs.declared.events.Event.TheVariants as event
use Rattle.row_machine.specs.machine.Accept.{and_then, accepted, cancel_or_read, carried_out}
use Rattle.row_machine.specs.machine.NameRules.{missing_unless, project_missing, what_is_missing}
use Rattle.row_machine.specs.machine.Plans.{nothing, plan_of}
use Rattle.row_machine.specs.machine.Expectations.{not_as_expected}
use Rattle.row_machine.specs.machine.Rules.{broken, names_broken, plan_broken, standing_broken}
use Rattle.row_machine.specs.machine.StandingRules.{instance_busy, wrong_state, object_protected, object_used, project_occupied, profile_held}
use Rattle.row_machine.specs.machine.State.{State}
use Rattle.row_machine.specs.machine.Step.{well, after_command, step}
use Rattle.row_machine.specs.machine.TableRules.{cancel_broken}
use Rattle.row_machine.specs.machine.Task.{Task}
use Rattle.row_machine.specs.shown.Views.{read}
use Rattle.machine_laws.proofs.CancelsBegin.{live-kept}
use Rattle.machine_laws.proofs.Commands.{command_of}
use Rattle.core_instances.specs.core_rows.specs.Asked.{changes_of, unless_refused}
use Rattle.core_instances.specs.Waits.{is_held, is_zero}
use Rattle.core_turns.specs.Commands.{held_for}
use Rattle.core_turns.specs.Turns.{Comes}
use Rattle.core_turns.proofs.Turning.{still-comes}

-- ---- no rule is broken

names-free : (s : State) (project : List ℕ) (expects : Option (List ℕ)) (op : ℕ) (timeout : ℤ) (o : Operation Task) → live_at s.operations op ≡ Some o
    → names_broken s (command_of project expects (what.Wait op timeout)) ≡ None
unfolding names_broken project_missing what_is_missing not_as_expected
names-free s project None op timeout o live =
    ap (λ found. option_or (missing_unless (is_some found) kind.Operation (decimal op)) None) (live-kept s op o live)
names-free s project (Some tag) op timeout o live =
    ap (λ found. option_or (missing_unless (is_some found) kind.Operation (decimal op)) None) (live-kept s op o live)

standing-free : (s : State) (project : List ℕ) (expects : Option (List ℕ)) (op : ℕ) (timeout : ℤ) → standing_broken s (command_of project expects (what.Wait op timeout)) ≡ None
unfolding standing_broken instance_busy wrong_state object_protected object_used project_occupied profile_held
standing-free s project expects op timeout = refl

plan-free : (s : State) (project : List ℕ) (expects : Option (List ℕ)) (op : ℕ) (timeout : ℤ) (moment : ℕ)
    → plan_broken s (command_of project expects (what.Wait op timeout)) (plan_of s (command_of project expects (what.Wait op timeout)) moment) moment ≡ None
unfolding plan_of cancel_broken
plan-free s project expects op timeout moment = refl

wait-free : (s : State) (project : List ℕ) (expects : Option (List ℕ)) (op : ℕ) (timeout : ℤ) (moment : ℕ) (o : Operation Task) → live_at s.operations op ≡ Some o
    → broken s (command_of project expects (what.Wait op timeout)) moment ≡ None
unfolding broken
wait-free s project expects op timeout moment o live =
    let c = command_of project expects (what.Wait op timeout) in
    ap (λ r. first (r ∷ standing_broken s c ∷ plan_broken s c (plan_of s c moment) moment ∷ [])) (names-free s project expects op timeout o live)
    ∙ ap (λ r. first (r ∷ plan_broken s c (plan_of s c moment) moment ∷ [])) (standing-free s project expects op timeout)
    ∙ ap (λ r. first (r ∷ [])) (plan-free s project expects op timeout moment)

-- ---- what it comes to

wait-plans : (s : State) (project : List ℕ) (expects : Option (List ℕ)) (op : ℕ) (timeout : ℤ) (moment : ℕ) → plan_of s (command_of project expects (what.Wait op timeout)) moment ≡ nothing
unfolding plan_of
wait-plans s project expects op timeout moment = refl

none-of : (o : Option Refusal) → unless_refused o nothing ≡ []
none-of None = refl
none-of (Some r) = refl

-- it changes nothing
wait-changes : (s : State) (project : List ℕ) (expects : Option (List ℕ)) (op : ℕ) (timeout : ℤ) (moment : ℕ) → changes_of s (command_of project expects (what.Wait op timeout)) moment ≡ []
unfolding changes_of
wait-changes s project expects op timeout moment =
    let c = command_of project expects (what.Wait op timeout) in
    ap (unless_refused (broken s c moment)) (wait-plans s project expects op timeout moment) ∙ none-of (broken s c moment)

-- it is held
held-answer : (s : State) (project : List ℕ) (expects : Option (List ℕ)) (op : ℕ) (timeout : ℤ) (moment : ℕ) → is_held s (what.Wait op timeout) ≡ true
    → cancel_or_read s (command_of project expects (what.Wait op timeout)) moment (what.Wait op timeout) ≡ and_then (answer.Hold op) s
held-answer s project expects op (pos n) moment held =
    ap (λ h. and_then (cond h (answer.Hold op) (answer.Reply (read s project (what.Wait op (pos n))))) s) held
held-answer s project expects op (negsuc n) moment held =
    ap (λ h. and_then (cond h (answer.Hold op) (answer.Reply (read s project (what.Wait op (negsuc n))))) s) held

held-step : (s : State) (project : List ℕ) (expects : Option (List ℕ)) (op : ℕ) (timeout : ℤ) (moment : ℕ) (o : Operation Task) → live_at s.operations op ≡ Some o
    → is_held s (what.Wait op timeout) ≡ true → step s (event.Ask (command_of project expects (what.Wait op timeout)) moment) well ≡ Some (and_then (answer.Hold op) s)
unfolding step accepted
held-step s project expects op timeout moment o live held =
    let c = command_of project expects (what.Wait op timeout) in
    ap (after_command s c moment well) (wait-free s project expects op timeout moment o live)
    ∙ ap (λ p. Some (carried_out s c moment p)) (wait-plans s project expects op timeout moment)
    ∙ ap Some (held-answer s project expects op timeout moment held)

-- ---- by what is found

-- the operation of a wait that is held is live
its-operation : (found : Option (Operation Task)) (waits : Bool) → (is_some found && waits) ≡ true → (o : Operation Task) × (found ≡ Some o)
its-operation None waits e = cc
its-operation (Some o) waits e = (o, refl)

-- where one is to be waited for, it is held, and for that one
for-one : (held : Bool) (op number : ℕ) → cond held (Some op) None ≡ Some number → (held ≡ true) × (op ≡ number)
for-one true op number e = (refl, cc)
for-one false op number e = cc

for-none : (held : Bool) (op : ℕ) → cond held (Some op) None ≡ None → held ≡ false
for-none true op e = cc
for-none false op e = refl

by-what : (s : State) (project : List ℕ) (expects : Option (List ℕ)) (w : What) (moment number : ℕ) (untold : List Untold) (store : Store) → held_for s w ≡ Some number → untold ≡ []
    → Comes s store (event.Ask (command_of project expects w) moment) (answer.Hold number) s untold store
by-what s project expects (what.Wait op timeout) moment number untold store e none =
    let held = for-one (is_held s (what.Wait op timeout)) op number e in
    let live = its-operation (live_at s.operations op) (not (is_zero timeout)) held.0 in
    subst (λ n. Comes s store (event.Ask (command_of project expects (what.Wait op timeout)) moment) (answer.Hold n) s untold store) held.1
    (still-comes untold store none (wait-changes s project expects op timeout moment) (held-step s project expects op timeout moment live.0 live.1 held.0))
by-what s project expects other moment number untold store e none = cc

pub hold-comes : (s : State) (c : Command) (moment number : ℕ) (untold : List Untold) (store : Store) → held_for s c.what ≡ Some number → untold ≡ []
    → Comes s store (event.Ask c moment) (answer.Hold number) s untold store
hold-comes s c moment number untold store e none = by-what s c.project c.expects c.what moment number untold store e none

-- where none is to be waited for, it is not held
pub unheld : (s : State) (w : What) → held_for s w ≡ None → is_held s w ≡ false
unheld s (what.Wait op timeout) e = for-none (is_held s (what.Wait op timeout)) op e
unheld s other e = refl
