-- A cancel of an operation that runs breaks no rule, and makes it Cancelling.
use Rattle.std.proofs.Common.{◌≡◌, ℕ, true, Option, Some, None, List, refl, sym, ap, subst, ◌∙◌}
use Rattle.std.specs.Prelude.{Ok}
use Rattle.std.specs.Fmt.{decimal}
use Rattle.std.specs.List.{find}
use Rattle.std.specs.Option.{option_map, option_or, option_and_then, is_some}
use Rattle.std.specs.Result.{result_err}
use Rattle.std.proofs.lemmas.Bool.{eq-eqb}
use Rattle.std.proofs.lemmas.List.Folds.{find-append}
use Rattle.plain_lists.proofs.EditLemmas.{find-changed}
use Rattle.size_values.specs.declared.kinds.ObjectKind.TheVariants as kind
use Rattle.host_model.specs.declared.call.HostCall.{HostCall}
use Rattle.instance_states.specs.Plans.{name_of}
use Rattle.operations.specs.declared.operation.Operation.{Operation}
use Rattle.operations.specs.declared.status.Status.TheVariants as status
use Rattle.operations.specs.Statuses.{cancel_of}
use Rattle.operations.specs.OperationTable.{has_number, live_at, kept_at, cancel_answer}
use Rattle.records.specs.declared.commands.What.TheVariants as what
use Rattle.records.specs.declared.replies.Reply.TheVariants as reply
use Rattle.records.specs.declared.notices.Untold.{Untold}
use Rattle.row_machine.specs.declared.events.Event.TheVariants as event
use Rattle.row_machine.specs.declared.events.Answer.TheVariants as answer
use Rattle.row_machine.specs.machine.Task.{Task}
use Rattle.row_machine.specs.machine.State.{State}
use Rattle.row_machine.specs.opening.Records.{rows_of}
use Rattle.row_machine.specs.machine.NameRules.{project_missing, what_is_missing, missing_unless}
use Rattle.row_machine.specs.machine.Expectations.{not_as_expected}
use Rattle.row_machine.specs.machine.Rules.{names_broken}
use Rattle.row_machine.specs.machine.StandingRules.{instance_busy, wrong_state, object_protected, object_used, project_occupied, profile_held}
use Rattle.row_machine.specs.machine.Rules.{standing_broken}
use Rattle.row_machine.specs.machine.TableRules.{cancel_broken, cancel_refusal}
use Rattle.row_machine.specs.machine.Plans.{plan_of}
use Rattle.row_machine.specs.shown.Notices.{telling, operation_notice}
use Rattle.row_machine.specs.machine.Rules.{broken, plan_broken}
use Rattle.row_machine.specs.machine.Operations.{moved}
use Rattle.row_machine.specs.machine.Accept.{and_then, accepted, with_operation_notice, after_cancel}
use Rattle.row_machine.specs.machine.Step.{step, well, after_command}
use Rattle.row_machine.specs.facts.Whole.{IsUnderWay}
use Rattle.machine_laws.specs.Cancels.{RunningIsCancelled}
use Rattle.machine_laws.proofs.Base.{live-mem}
use Rattle.machine_laws.proofs.BooksSteps.{telling-keeps}
use Rattle.machine_laws.proofs.Commands.{command_of}

-- ---- what is found

pub live-kept : (s : State) (n : ℕ) (o : Operation Task) → live_at s.operations n ≡ Some o → kept_at s.operations n ≡ Some o
live-kept s n o live = find-append (has_number n) s.operations.live s.operations.ended ∙ ap (λ x. option_or x (find (has_number n) s.operations.ended)) live

answers : (s : State) (o : Operation Task) → live_at s.operations o.number ≡ Some o → o.status ≡ status.Running → o.may_cancel ≡ true
    → cancel_answer (kept_at s.operations o.number) ≡ Ok status.Cancelling
answers s o live running may =
    ap cancel_answer (live-kept s o.number o live) ∙ ap (λ m. cancel_of m o.status) may ∙ ap (cancel_of true) running

-- ---- no rule is broken

names-unbroken : (s : State) (project : List ℕ) (expects : Option (List ℕ)) (o : Operation Task) → live_at s.operations o.number ≡ Some o
    → names_broken s (command_of project expects (what.Cancel o.number)) ≡ None
unfolding names_broken project_missing what_is_missing not_as_expected
names-unbroken s project None o live =
    ap (λ x. option_or (missing_unless (is_some x) kind.Operation (decimal o.number)) None) (live-kept s o.number o live)
names-unbroken s project (Some tag) o live =
    ap (λ x. option_or (missing_unless (is_some x) kind.Operation (decimal o.number)) None) (live-kept s o.number o live)

standing-unbroken : (s : State) (project : List ℕ) (expects : Option (List ℕ)) (n : ℕ) → standing_broken s (command_of project expects (what.Cancel n)) ≡ None
unfolding standing_broken instance_busy wrong_state object_protected object_used project_occupied profile_held
standing-unbroken s project expects n = refl

plan-unbroken : (s : State) (project : List ℕ) (expects : Option (List ℕ)) (o : Operation Task) (moment : ℕ) → live_at s.operations o.number ≡ Some o → o.status ≡ status.Running
    → o.may_cancel ≡ true
    → plan_broken s (command_of project expects (what.Cancel o.number)) (plan_of s (command_of project expects (what.Cancel o.number)) moment) moment ≡ None
unfolding plan_of cancel_broken
plan-unbroken s project expects o moment live running may = ap (λ r. option_and_then (cancel_refusal o.number) (result_err r)) (answers s o live running may)

unbroken : (s : State) (project : List ℕ) (expects : Option (List ℕ)) (o : Operation Task) (moment : ℕ) → live_at s.operations o.number ≡ Some o → o.status ≡ status.Running
    → o.may_cancel ≡ true → broken s (command_of project expects (what.Cancel o.number)) moment ≡ None
unfolding broken
unbroken s project expects o moment live running may =
    let c = command_of project expects (what.Cancel o.number) in
    ap (λ x. option_or x (option_or (standing_broken s c) (option_or (plan_broken s c (plan_of s c moment) moment) None))) (names-unbroken s project expects o live)
    ∙ ap (λ x. option_or x (option_or (plan_broken s c (plan_of s c moment) moment) None)) (standing-unbroken s project expects o.number)
    ∙ ap (λ x. option_or x None) (plan-unbroken s project expects o moment live running may)

-- ---- the step

-- the state with the operation Cancelling
abbrev pub turned : State → Operation Task → ℕ → State
turned s o moment = with_operation_notice (moved o.number status.Cancelling moment s) o.number moment

carried : (s : State) (project : List ℕ) (expects : Option (List ℕ)) (o : Operation Task) (moment : ℕ) → live_at s.operations o.number ≡ Some o → o.status ≡ status.Running → o.may_cancel ≡ true
    → accepted s (command_of project expects (what.Cancel o.number)) moment ≡ and_then (answer.Reply reply.Empty) (turned s o moment)
unfolding accepted plan_of
carried s project expects o moment live running may =
    ap (λ r. and_then (answer.Reply reply.Empty) (after_cancel s o.number moment r)) (answers s o live running may)

stepped : (s : State) (project : List ℕ) (expects : Option (List ℕ)) (o : Operation Task) (moment : ℕ) → live_at s.operations o.number ≡ Some o → o.status ≡ status.Running → o.may_cancel ≡ true
    → step s (event.Ask (command_of project expects (what.Cancel o.number)) moment) well ≡ Some (and_then (answer.Reply reply.Empty) (turned s o moment))
unfolding step
stepped s project expects o moment live running may =
    ap (after_command s (command_of project expects (what.Cancel o.number)) moment well) (unbroken s project expects o moment live running may)
    ∙ ap Some (carried s project expects o moment live running may)

-- ---- the state after it

pub told-rows : (s : State) (ns : List Untold) → rows_of (telling ns s) ≡ rows_of s
told-rows s ns = telling-keeps (λ t. rows_of t ≡ rows_of s) (λ t some next e. e) ns s refl

told-found : (s : State) (ns : List Untold) (n : ℕ) → live_at (telling ns s).operations n ≡ live_at s.operations n
told-found s ns n = telling-keeps (λ t. live_at t.operations n ≡ live_at s.operations n) (λ t some next e. e) ns s refl

pub running-cancelled : RunningIsCancelled
running-cancelled s c o moment h live running may what_is = (
  and_then (answer.Reply reply.Empty) (turned s o moment),
  (
    subst (λ w. step s (event.Ask (command_of c.project c.expects w) moment) well ≡ Some (and_then (answer.Reply reply.Empty) (turned s o moment))) (sym what_is)
        (stepped s c.project c.expects o moment live running may),
    record { answer = refl; cancelling = found; undo = under_way.undo apart; undoable = some o.work.undo may_undo; rows = told-rows (moved o.number status.Cancelling moment s) (operation_notice (moved o.number status.Cancelling moment s) o.number moment) },
  ),
) where
  under_way : IsUnderWay o
  under_way = h.under_way.at o (live-mem s o.number o live)

  apart : o.status ≡ status.Cancelling → ⊥
  apart e = never (sym running ∙ e) where
    never : status.Running ≡ status.Cancelling → ⊥
    never same = cc

  may_undo : is_some (option_map name_of o.work.undo) ≡ true
  may_undo = ap is_some (under_way.undo apart) ∙ sym under_way.cancellable ∙ may

  some : (u : Option HostCall) → is_some (option_map name_of u) ≡ true → is_some u ≡ true
  some None e = cc
  some (Some call) e = refl

  found : live_at (turned s o moment).operations o.number ≡ Some (record o { status = status.Cancelling; updated = moment })
  found = told-found (moved o.number status.Cancelling moment s) (operation_notice (moved o.number status.Cancelling moment s) o.number moment) o.number
      ∙ find-changed (has_number o.number) (λ (x : Operation Task). record x { status = status.Cancelling; updated = moment }) o s.operations.live live (eq-eqb o.number o.number refl)
