-- A step tells after what was told before, and nothing else depends on notices.
use Rattle.std.proofs.Common.{◌≡◌, List, Some, None, ap, sym, ◌∙◌}
use Rattle.records.specs.declared.notices.Untold.{Untold}
use Rattle.row_machine.specs.declared.events.Answer.{Answer}
use Rattle.row_machine.specs.declared.events.Event.{Event}
use Rattle.row_machine.specs.machine.Accept.{After, and_then}
use Rattle.row_machine.specs.machine.State.{State}
use Rattle.row_machine.specs.machine.Step.{Outcome, step}
use Rattle.row_machine.specs.facts.Whole.{IsWhole}
use Rattle.row_machine.specs.shown.Notices.{telling}
use Rattle.machine_laws.specs.Possible.{IsPossible}
use Rattle.event_hub.specs.Recent.{Recent, all_pushed, no_notices, recent_of, with_recent}
use Rattle.core_turns.specs.Asides.{IsNoFetch, HasNoNotices, TellsAfter}
use Rattle.core_turns.specs.ShortTasks.{AreShort}
use Rattle.core_turns.proofs.Apart.{Apart, same-operations, step-apart}
use Rattle.core_turns.proofs.Apart.Apart.{never, leaves}
use Rattle.core_turns.proofs.Shortness.{of-kept, stay-short}
use Rattle.core_turns.proofs.Telling.{telling-with, told-once}

-- a state in which nothing was told
untold-is : (s : State) → HasNoNotices s → with_recent no_notices s ≡ s
untold-is s none = ap (λ r. with_recent r s) (sym none)

module _ (s s' : State) (e : Event) (outcome : Outcome) (a : Answer) (untold : List Untold) (free : IsNoFetch e) (before : HasNoNotices s) (now : HasNoNotices s')
    (is : step s e outcome ≡ Some (and_then a (telling untold s'))) where
  -- what it is for that state, as the part says
  first : step (with_recent no_notices s) e outcome ≡ Some (and_then a (telling untold s'))
  first = ap (λ t. step t e outcome) (untold-is s before) ∙ is

  by : Apart (λ r. step (with_recent r s) e outcome) → (r : Recent) → step (with_recent r s) e outcome ≡ Some (and_then a (with_recent (all_pushed untold r) s'))
  by (never none) r = impossible (sym (none no_notices) ∙ first) where
    impossible : None ≡ Some (and_then a (telling untold s')) → step (with_recent r s) e outcome ≡ Some (and_then a (with_recent (all_pushed untold r) s'))
    impossible h = cc
  by (leaves g l every) r =
      every r
      ∙ ap Some (l.is r)
      ∙ ap (λ t. Some (and_then l.answer t)) (telling-with l.untold r l.state)
      ∙ ap (λ b. Some (and_then b (with_recent (all_pushed l.untold r) l.state))) same_answer
      ∙ ap (λ ns. Some (and_then a (with_recent (all_pushed ns r) l.state))) (sym same_told)
      ∙ ap (λ t. Some (and_then a t)) same_rest where
        some-is : {x y : After} → Some x ≡ Some y → x ≡ y
        some-is same = cc

        both : and_then l.answer (with_recent (all_pushed l.untold no_notices) l.state) ≡ and_then a (with_recent (all_pushed untold no_notices) s')
        both =
            ap (and_then l.answer) (sym (telling-with l.untold no_notices l.state))
            ∙ some-is (sym (ap Some (l.is no_notices)) ∙ sym (every no_notices) ∙ first)
            ∙ ap (λ t. and_then a (telling untold t)) (sym (untold-is s' now))
            ∙ ap (and_then a) (telling-with untold no_notices s')

        same_answer : l.answer ≡ a
        same_answer = ap (λ (x : After). x.answer) both

        same_told : untold ≡ l.untold
        same_told = told-once untold l.untold l.few (sym (ap (λ (x : After). recent_of x.state) both))

        same_rest : with_recent (all_pushed untold r) l.state ≡ with_recent (all_pushed untold r) s'
        same_rest = ap (λ (x : After). with_recent (all_pushed untold r) x.state) both

  pub after : (r : Recent) → step (with_recent r s) e outcome ≡ Some (and_then a (with_recent (all_pushed untold r) s'))
  after = by (step-apart s e outcome free)

-- whatever the state after it, what is true of the operations of both is so, where a step of the first keeps it
pub short-after : (s m : State) (r : Recent) (e : Event) (outcome : Outcome) (a : Answer) (untold : List Untold) → IsNoFetch e → HasNoNotices s
    → IsWhole (with_recent r s) → IsPossible e → AreShort s → step s e outcome ≡ Some (and_then a (telling untold m)) → AreShort m
short-after s m r e outcome a untold free before whole possible short is = by (step-apart s e outcome free) where
  first : step (with_recent no_notices s) e outcome ≡ Some (and_then a (telling untold m))
  first = ap (λ t. step t e outcome) (untold-is s before) ∙ is

  by : Apart (λ x. step (with_recent x s) e outcome) → AreShort m
  by (never none) = impossible (sym (none no_notices) ∙ first) where
    impossible : None ≡ Some (and_then a (telling untold m)) → AreShort m
    impossible h = cc
  by (leaves g l every) = of-kept same stays where
    stays : AreShort (telling l.untold (with_recent r l.state))
    stays =
        stay-short (with_recent r s) e outcome (and_then l.answer (telling l.untold (with_recent r l.state))) whole possible
        (record { live = short.live; ended = short.ended }) (every r ∙ ap Some (l.is r))

    some-is : {x y : After} → Some x ≡ Some y → x ≡ y
    some-is alike = cc

    both : telling l.untold (with_recent no_notices l.state) ≡ telling untold m
    both = ap (λ (x : After). x.state) (some-is (sym (ap Some (l.is no_notices)) ∙ sym (every no_notices) ∙ first))

    same : m.operations ≡ (telling l.untold (with_recent r l.state)).operations
    same =
        sym (same-operations untold m)
        ∙ ap (λ (t : State). t.operations) (sym both)
        ∙ same-operations l.untold (with_recent no_notices l.state)
        ∙ sym (same-operations l.untold (with_recent r l.state))

pub tells-after : TellsAfter
tells-after s s' e outcome a untold free before now is = after s s' e outcome a untold free before now is
