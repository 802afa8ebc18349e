-- Examples of failures and notices, which the machine itself computes: lists of events from a new server with what the
-- outside made of each, and the exact answer, state or notices.
use Rattle.std.specs.Prelude.{◌≡◌, ℕ, true, List, [], ◌∷◌, ◌++◌, map, Option, Some, None, option_map, option_and_then}
use Rattle.std.specs.Prelude.{codes}
use Rattle.row_machine.specs.Words.{Rise, OpFault, Status, kept_at, What, Filter, Life, Notice, EventBody}
use Rattle.row_machine.specs.Words.action
use Rattle.row_machine.specs.Words.report
use Rattle.row_machine.specs.Words.status
use Rattle.row_machine.specs.Words.what
use Rattle.row_machine.specs.Words.life
use Rattle.row_machine.specs.Words.rule
use Rattle.row_machine.specs.Words.kind
use Rattle.size_values.specs.Amounts.{nothing}
use Rattle.operations.specs.declared.operation.Operation.{Operation}
use Rattle.operations.specs.declared.operation.OpFault.TheVariants as fault
use Rattle.records.specs.declared.notices.EventBody.TheVariants as body
use Rattle.row_machine.specs.declared.events.Event.TheVariants as event
use Rattle.row_machine.specs.declared.events.Answer.{Answer}
use Rattle.row_machine.specs.declared.events.Answer.TheVariants as answer
use Rattle.row_machine.specs.declared.events.Fetched.TheVariants as fetched
use Rattle.row_machine.specs.machine.Task.{Task}
use Rattle.row_machine.specs.machine.State.{State}
use Rattle.row_machine.specs.machine.Accept.{After}
use Rattle.row_machine.specs.machine.Refusals.{plain_refusal}
use Rattle.row_machine.specs.machine.Step.{well, keeper_failed, step}
use Rattle.row_machine.specs.machine.Runs.{run}
use Rattle.row_machine.specs.examples.Scenes.{Events, default, named, no_body, make_pool, put_default, make_instance}
use Rattle.row_machine.specs.examples.Scenes.{act, take, done, work_twice, begin, last_answer, last_refusal}
use Rattle.row_machine.specs.examples.Scenes.{state_after, usage_after}
use Rattle.row_machine.specs.examples.Worked.{a, status_after}

-- ---- what is read of a run

-- the fault of an operation after all events
abbrev pub fault_after : Events → ℕ → Option OpFault
fault_after events number = option_and_then
    (λ state. option_map (λ (operation : Operation Task). operation.fault) (kept_at state.operations number))
    (state_after events)

-- how many instances there are after all events, by their names
abbrev pub instances_after : Events → Option (List (List ℕ))
instances_after events = option_map (λ state. map (λ instance. instance.name) state.instances) (state_after events)

-- ---- a host's call that fails

-- a report that a call failed
abbrev pub failed : ℕ → Rise → Events
failed number rise = (event.Done number (report.Failed rise) 0, well) ∷ []

-- an instance `a` is being made, and the first of its two calls was done
abbrev pub half_made : Events
half_made = make_pool ++ put_default default ++ make_instance default a [] ++ take ++ done 1

-- Its second call fails: the operation keeps the number of the call and the counts, no row is put, and its share is
-- returned.
pub record HostCallFails (rise : Rise) : Type 0 where
  pub answered : last_answer (half_made ++ failed 1 rise) ≡ Some (answer.Ended 1)
  pub status : status_after (half_made ++ failed 1 rise) 1 ≡ Some status.Failure
  pub fault : fault_after (half_made ++ failed 1 rise) 1 ≡ Some (fault.Host 2 rise.before rise.after)
  pub no_row : instances_after (half_made ++ failed 1 rise) ≡ Some []
  pub used : usage_after (half_made ++ failed 1 rise) default ≡ Some nothing

-- ---- a store that fails

-- a command in the project `default`, at which the store fails
abbrev pub ask_in_vain : What → Rise → Events
ask_in_vain asked rise = (event.Ask (record { project = default; what = asked; expects = None }) 0, keeper_failed rise) ∷ []

-- a last report that a call was done, at which the store fails
abbrev pub done_in_vain : ℕ → Rise → Events
done_in_vain number rise = (event.Done number report.Done 0, keeper_failed rise) ∷ []

-- a creation of a project, which would be committed at once
abbrev pub new_project : What
new_project = what.Create (named kind.Project (codes "lab")) no_body

-- the instance `a` is there, and is being started
abbrev pub starting : Events
starting =
    make_pool ++ put_default default ++ make_instance default a [] ++ work_twice 1 ++ act default a action.Start ++ take

-- A change at once is refused and changes nothing; an operation fails at its last report, and no row is put. A start
-- commits nothing, so that the store cannot fail there.
pub record StoreFails (rise : Rise) : Type 0 where
  pub at_once : last_refusal (ask_in_vain new_project rise) ≡ Some (plain_refusal rule.K1)
  pub nothing_changed : state_after (ask_in_vain new_project rise) ≡ Some begin
  pub at_an_end : last_answer (half_made ++ done_in_vain 1 rise) ≡ Some (answer.Ended 1)
  pub status : status_after (half_made ++ done_in_vain 1 rise) 1 ≡ Some status.Failure
  pub fault : fault_after (half_made ++ done_in_vain 1 rise) 1 ≡ Some (fault.Keeper rise.before rise.after)
  pub no_row : instances_after (half_made ++ done_in_vain 1 rise) ≡ Some []
  pub not_at_a_start : run begin (starting ++ done_in_vain 2 rise) ≡ None

-- ---- the notices of a creation

-- what a notice tells, in short: an action, or the status of an operation
pub data Short : Type 0 where
  did : Life → Short
  is_now : ℕ → Status → Short

-- a notice in short
abbrev pub short : EventBody → Short
short (body.Life action source) = did action
short (body.Op view) = is_now view.number view.status

-- the numbers of the notices after all events, each with what it tells
abbrev pub notices_after : Events → Option (List (ℕ × Short))
notices_after events = option_map (λ state. map (λ (notice : Notice). (notice.number, short notice.body)) state.notices)
    (state_after events)

-- The operation is told at its beginning, when it runs, and at its end, and the new instance before that end.
abbrev pub CreationIsTold : Type 0
CreationIsTold =
    notices_after (half_made ++ done 1)
    ≡ Some
    ((1, did life.PoolCreated)
    ∷ (2, did life.ProfileUpdated)
    ∷ (3, is_now 1 status.Pending)
    ∷ (4, is_now 1 status.Running)
    ∷ (5, did life.InstanceCreated)
    ∷ (6, is_now 1 status.Success)
    ∷ [])

-- ---- a listener

-- all notices of the project `default`
abbrev pub all_of_default : Filter
all_of_default = record { life = true; op = true; project = default }

-- the notice of a new pool
abbrev pub pool_made : ℕ → Notice
pool_made number = record {
  number = number;
  moment = 0;
  project = default;
  body = body.Life life.PoolCreated (codes "/1.0/storage-pools/p0");
}

-- a server whose notices before the fifth are no longer kept
abbrev pub from_the_fifth : State
from_the_fifth = record begin { notices = pool_made 5 ∷ pool_made 6 ∷ []; next_notice = 7 }

-- what a listener is answered that asks from this number on
abbrev pub fetched_from : ℕ → Option Answer
fetched_from cursor =
    option_map (λ (after : After). after.answer) (step from_the_fifth (event.Fetch cursor all_of_default) well)

-- A listener that asks for what is no longer kept has lagged; one that asks from a kept number on gets the rest.
pub record ListenersLag : Type 0 where
  pub lagged : fetched_from 4 ≡ Some (answer.Fetched (fetched.Lagged 4 5))
  pub first_kept : fetched_from 5 ≡ Some (answer.Fetched (fetched.Notices (pool_made 5 ∷ pool_made 6 ∷ []) 7))
  pub last_kept : fetched_from 6 ≡ Some (answer.Fetched (fetched.Notices (pool_made 6 ∷ []) 7))
  pub next : fetched_from 7 ≡ Some (answer.Fetched (fetched.Notices [] 7))
  pub number_alone : fetched_from 0 ≡ Some (answer.Fetched (fetched.Notices [] 7))

-- every example
pub record AreTold : Type 0 where
  pub host_call_fails : (rise : Rise) → HostCallFails rise
  pub store_fails : (rise : Rise) → StoreFails rise
  pub creation_is_told : CreationIsTold
  pub listeners_lag : ListenersLag
