-- The promise holds over every list of events.
use Rattle.std.proofs.Common.{List, [], ◌∷◌}
use Rattle.plain_lists.proofs.Elements.{Each-head, Each-tail}
use Rattle.row_machine.specs.facts.Whole.{IsWhole}
use Rattle.row_machine.specs.declared.events.Event.{Event}
use Rattle.row_machine.specs.machine.State.{State}
use Rattle.row_machine.specs.machine.Step.{Outcome}
use Rattle.row_machine.proofs.Running.{ends-once}
use Rattle.machine_laws.specs.Possible.{ArePossible}
use Rattle.machine_laws.specs.Sorted.{AreSortedEvents, AreSortedRows}
use Rattle.machine_laws.specs.Headline.{StandsAsPromised, SharesGoWhole, EachTurn, TheHeadline}
use Rattle.machine_laws.proofs.Steps.{step-alters}
use Rattle.machine_laws.proofs.StepKept.{alters-whole}
use Rattle.machine_laws.proofs.EndsShares.{shares-go}
use Rattle.machine_laws.proofs.OpeningKept.{opening-whole}
use Rattle.machine_laws.proofs.SortedKept.{steps-sorted}
use Rattle.machine_laws.proofs.SortedOpening.{opening-sorted}
use Rattle.machine_laws.proofs.HeadlineStands.{stands}

each-turn : (s : State) (events : List (Event × Outcome)) → IsWhole s → AreSortedRows s → ArePossible events → AreSortedEvents events
    → EachTurn (λ before after. StandsAsPromised after × SharesGoWhole before after) s events
each-turn s [] h sorted possible order = tt
each-turn s (e ∷ events) h sorted possible order = λ after stepped.
    let altered = step-alters s e.0 e.1 after h (Each-head possible) stepped in
    let whole = alters-whole h altered in
    let still = steps-sorted s e.0 e.1 after h (Each-head possible) (Each-head order) sorted stepped in
    ((stands after.state whole still, shares-go h altered), each-turn after.state events whole still (Each-tail possible) (Each-tail order))

pub the-headline : TheHeadline
the-headline entries s events r bytes opens possible order is =
    let whole = opening-whole entries s bytes opens in
    record {
      turns = each-turn s events whole (opening-sorted entries s bytes opens) possible order;
      ends = ends-once s events r whole.operations.kept is;
    }
