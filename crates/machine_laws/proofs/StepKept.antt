-- Each step keeps all ten facts, and each run.
use Rattle.std.proofs.Common.{◌≡◌, Some, [], ◌∷◌, sym, subst}
use Rattle.plain_lists.proofs.Elements.{Each-head, Each-tail}
use Rattle.row_machine.specs.machine.State.{State}
use Rattle.row_machine.specs.machine.Accept.{After}
use Rattle.row_machine.specs.machine.Runs.{Ran, run}
use Rattle.row_machine.specs.opening.Opening.{with_rows, first_rows}
use Rattle.row_machine.specs.facts.Whole.{IsWhole}
use Rattle.row_machine.proofs.Running.{Begins, run-begins}
use Rattle.row_machine.proofs.Running.Begins.{begins}
use Rattle.row_machine.proofs.Beginning.{new-whole}
use Rattle.machine_laws.specs.Possible.{ArePossible}
use Rattle.machine_laws.specs.Laws.{StepKeeps, RunKeeps, NewRunKeeps}
use Rattle.machine_laws.proofs.Steps.{Alters, step-alters}
use Rattle.machine_laws.proofs.Steps.AltersBy.{stays, closes, rows, enters, hands_out, goes_on, takes_back, turns, cancels, fails, succeeds}
use Rattle.machine_laws.proofs.WholeKept.{whole-changes, whole-entered, whole-taken, whole-next, whole-undone, whole-cancelling, whole-cancelled, whole-failed, whole-succeeded, whole-telling, whole-closed}

pub alters-whole : {s t : State} → IsWhole s → Alters s t → IsWhole t
alters-whole h stays = h
alters-whole {s} h closes = whole-closed s h
alters-whole {s} h (rows c moment cs ns known accepted) = whole-telling _ ns (whole-changes accepted)
alters-whole {s} h (enters c moment task ns known accepted) = whole-telling _ ns (whole-entered accepted)
alters-whole {s} h (hands_out o moment call rest ns early first calls) = whole-telling _ ns (whole-taken s o moment early h first calls)
alters-whole {s} h (goes_on o call rest l calls) = whole-next s o l calls
alters-whole {s} h (takes_back o call l undo) = whole-undone s o l undo
alters-whole {s} h (turns o moment ns early l may) = whole-telling _ ns (whole-cancelling s o moment early l may)
alters-whole {s} h (cancels o moment ns early live why) = whole-telling _ ns (whole-cancelled s o moment early h live)
alters-whole {s} h (fails o why done moment ns early l) = whole-telling _ ns (whole-failed s o why done moment early l)
alters-whole {s} h (succeeds o moment lives ns early l none) = whole-telling _ ns (whole-telling _ lives (whole-succeeded s o moment early l none))

pub step-keeps : StepKeeps
step-keeps s e outcome after h possible is = alters-whole h (step-alters s e outcome after h possible is)

pub run-keeps : RunKeeps
run-keeps s [] r h possible is = subst (λ (x : Ran). IsWhole x.state) (some-is is) h where
  some-is : {x y : Ran} → Some x ≡ Some y → x ≡ y
  some-is same = cc
run-keeps s (e ∷ events) r h possible is = by (run-begins s e events r is) (λ first rest. run-keeps first.state events rest) where
  by : Begins s e events r → ((first : After) (rest : Ran) → IsWhole first.state → ArePossible events → run first.state events ≡ Some rest → IsWhole rest.state) → IsWhole r.state
  by (begins first rest stepped ran whole) later =
      subst (λ (x : Ran). IsWhole x.state) (sym whole)
      (later first rest (step-keeps s e.0 e.1 first h (Each-head possible) stepped) (Each-tail possible) ran)

pub new-run-keeps : NewRunKeeps
new-run-keeps events r possible is = run-keeps (with_rows first_rows) events r new-whole possible is
