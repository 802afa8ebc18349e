-- A step of a serial server, from what its parts ensure; and what it keeps and lessens.
use Rattle.std.proofs.Common.{◌≡◌, ◌<◌, ◌≤◌, ◌-◌, ℕ, [], ◌∷◌, Option, Some, None, refl, ap, sym, ◌∙◌, subst, arith}
use Rattle.std.specs.List.{sum_by}
use Rattle.std.specs.Option.{option_map}
use Rattle.size_values.specs.Moments.{moment_limit}
use Rattle.host_model.specs.declared.call.HostCall.{HostCall}
use Rattle.host_model.specs.declared.report.Report.{Report}
use Rattle.host_model.specs.declared.report.Report.TheVariants as report
use Rattle.host_model.specs.Reports.{roots_after, CarriesCounts}
use Rattle.http_front.specs.Clocks.{Readings, Reads}
use Rattle.operations.specs.OperationTable.{OperationTable}
use Rattle.record_keeper.specs.Store.{Store}
use Rattle.records.specs.declared.commands.Command.{Command}
use Rattle.row_machine.specs.declared.events.Answer.{Answer}
use Rattle.row_machine.specs.declared.events.Answer.TheVariants as answer
use Rattle.row_machine.specs.declared.events.Event.TheVariants as event
use Rattle.row_machine.specs.machine.State.{State}
use Rattle.row_machine.specs.machine.Task.{Task}
use Rattle.row_machine.specs.machine.Accept.{After}
use Rattle.row_machine.specs.machine.Step.{Outcome, well, keeper_failed, no_memory, step}
use Rattle.row_machine.specs.facts.Whole.{IsWhole}
use Rattle.core_turns.specs.Turns.{IsTurn, Turns}
use Rattle.machine_laws.specs.Waits.{Round, Served, served, event_of, hand_of, IsAlone}
use Rattle.machine_laws.proofs.WaitsSteps.{served-does}
use Rattle.serial_steps.specs.Steps.{SerialWorld, serial_world, serial, Hosted, Step, took, reported, Steps, HasCause, job_of, number_in}
use Rattle.machine_laws.proofs.WaitsEnding.{Lessens, lessens, steps, steps_of}
use Rattle.serial_steps.proofs.Requests.{same-alone, request-alone}
use Rattle.serial_steps.proofs.Turning.{IsStep, turned-step}

-- ---- a call is asked for

-- nothing of the outside can fail in it
took-well : (s : State) (store : Store) (moment : ℕ) (outcome : Outcome) (a : Answer) (s' : State) (store' : Store)
    → Turns s store (event.Take moment) outcome a s' store' → Turns s store (event.Take moment) well a s' store'
unfolding step
took-well s store moment well a s' store' t = t
took-well s store moment (keeper_failed rise) a s' store' t = absurd (never t.is) where
  never : {X : Type 0} {x : X} → None ≡ Some x → ⊥
  never e = cc
took-well s store moment no_memory a s' store' t = absurd (never t.is) where
  never : {X : Type 0} {x : X} → None ≡ Some x → ⊥
  never e = cc

pub take-steps : {s s' : State} {told told' : Readings} {moment : ℕ} {a : Answer} {hand : Option (ℕ × HostCall)}
    → ((store : Store) → IsTurn s store (event.Take moment) a s' store) → Reads told (moment ∷ []) told' → moment < moment_limit → hand ≡ job_of a
    → (store : Store) (host : Hosted) → (step : Step) × Steps (serial_world (serial s None) store host told) step (serial_world (serial s' hand) store host told')
take-steps {s} {s'} {told} {told'} {moment} {a} {hand} turn reads early is store host =
    let t : IsTurn s store (event.Take moment) a s' store = turn store in (
      took moment,
      record {
        answer = a;
        idle = refl;
        turn = took-well s store moment t.outcome a s' store t.turns;
        hand = is;
        host = refl;
        clock = reads;
        early = early;
        kept = t.kept;
      },
    )

-- ---- a call is made

-- a failed call is one that the host counted
pub has-cause : (r : Report) (before after : ℕ) → CarriesCounts r before after → HasCause r before after
has-cause report.Done before after counts = tt
has-cause (report.Failed rise) before after counts = omega (arith, rise.rose, counts.0, counts.1)
has-cause report.NoMemory before after counts = tt

pub report-steps : {s s' : State} {store store' : Store} {before after : Hosted} {told told' : Readings} {number : ℕ} {call : HostCall} {r : Report} {moment : ℕ}
    {a : Answer} {hand : Option (ℕ × HostCall)}
    → IsTurn s store (event.Done number r moment) a s' store' → after.roots ≡ roots_after r call before.roots → CarriesCounts r before.failures after.failures
    → before.failures ≤ after.failures → Reads told (moment ∷ []) told' → moment < moment_limit → hand ≡ job_of a
    → (step : Step) × Steps (serial_world (serial s (Some (number, call))) store before told) step (serial_world (serial s' hand) store' after told')
report-steps {s} {s'} {store} {store'} {before} {after} {told} {told'} {number} {call} {r} {moment} {a} {hand} t roots counts later reads early is = (
  reported r moment t.outcome,
  record {
    number = number;
    call = call;
    answer = a;
    busy = refl;
    turn = t.turns;
    hand = is;
    roots = roots;
    counts = counts;
    cause = has-cause r before.failures after.failures counts;
    later = later;
    clock = reads;
    early = early;
    caused = t.caused;
    kept = t.kept;
  },
)

-- ---- what a step keeps and lessens

-- the number of the call that an answer gives
number-job : (a : Answer) → number_in (job_of a) ≡ hand_of a
number-job (answer.Reply r) = refl
number-job (answer.Hold number) = refl
number-job (answer.NotYet number) = refl
number-job (answer.Ended number) = refl
number-job (answer.Job number call) = refl
number-job answer.NoJob = refl
number-job (answer.Stray number) = refl
number-job (answer.Fetched fetched) = refl
number-job answer.Closed = refl
number-job answer.NoMemory = refl

-- less is left to do, and the worker is alone
pub record StaysAlone (w w' : SerialWorld) : Type 0 where
  pub less : steps_of w'.serial.state ≤ steps_of w.serial.state - 1
  pub alone : IsAlone w'.serial.state (number_in w'.serial.hand)

-- a state, and the number that its answer gives
abbrev with_hand : After → Served
with_hand a = record { state = a.state; hand = hand_of a.answer }

-- a turn of the worker, with this number in hand or none
turn-lessens : (w w' : SerialWorld) (hand : Option ℕ) (round : Round) (a : Answer) → IsWhole w.serial.state → IsAlone w.serial.state hand
    → step w.serial.state (event_of hand round) round.outcome ≡ Some (record { answer = a; state = w'.serial.state })
    → w'.serial.hand ≡ job_of a → StaysAlone w w'
turn-lessens w w' hand round a h alone is job = record {
  less = subst (λ (k : OperationTable Task). sum_by steps k.live ≤ steps_of w.serial.state - 1) (sym s.operations) left.less;
  alone = subst (IsAlone w'.serial.state) (sym in_hand) (same-alone s.after.state w'.serial.state (hand_of s.after.answer) s.operations left.alone);
} where
  s : IsStep w.serial.state (event_of hand round) round.outcome a w'.serial.state
  s = turned-step w.serial.state (event_of hand round) round.outcome a w'.serial.state is

  serves : served w.serial.state hand round ≡ Some (with_hand s.after)
  serves = ap (option_map with_hand) s.is

  left : Lessens w.serial.state (with_hand s.after)
  left = lessens w.serial.state hand (with_hand s.after) h alone (served-does w.serial.state hand round (with_hand s.after) h alone serves)

  in_hand : number_in w'.serial.hand ≡ hand_of s.after.answer
  in_hand = ap number_in job ∙ number-job a ∙ ap hand_of (sym s.answered)

pub step-lessens : (w : SerialWorld) (s : Step) (w' : SerialWorld) → IsWhole w.serial.state → IsAlone w.serial.state (number_in w.serial.hand) → Steps w s w' → StaysAlone w w'
step-lessens w (took moment) w' h alone t =
    turn-lessens w w' None (record { moment = moment; report = report.Done; outcome = well }) t.answer h
    (subst (λ hand. IsAlone w.serial.state (number_in hand)) t.idle alone) t.turn.is t.hand
step-lessens w (reported r moment outcome) w' h alone t =
    turn-lessens w w' (Some t.number) (record { moment = moment; report = r; outcome = outcome }) t.answer h
    (subst (λ hand. IsAlone w.serial.state (number_in hand)) t.busy alone) t.turn.is t.hand

-- the worker of a server stays alone, where the call in hand was taken out and the next one put in
pub step-alone : {s s' : State} {hand taken next hand' : Option (ℕ × HostCall)} {store store' : Store} {host host' : Hosted} {told told' : Readings}
    → IsWhole s → IsAlone s (number_in hand) → taken ≡ hand
    → (step : Step) × Steps (serial_world (serial s taken) store host told) step (serial_world (serial s' next) store' host' told') → hand' ≡ next
    → IsAlone s' (number_in hand')
step-alone {s} {s'} {hand} {taken} {next} {hand'} {store} {store'} {host} {host'} {told} {told'} h alone out made put =
    subst (λ x. IsAlone s' (number_in x)) (sym put)
    (step-lessens (serial_world (serial s taken) store host told) made.0 (serial_world (serial s' next) store' host' told') h
    (subst (λ x. IsAlone s (number_in x)) (sym out) alone) made.1).alone

-- ---- a request

pub ask-alone : {s s' : State} {store store' : Store} {c : Command} {moment : ℕ} {a : Answer} (hand : Option ℕ) → IsWhole s → IsAlone s hand
    → IsTurn s store (event.Ask c moment) a s' store' → IsAlone s' hand
ask-alone {s} {s'} {store} {store'} {c} {moment} {a} hand h alone t =
    let is : IsStep s (event.Ask c moment) t.outcome a s' = turned-step s (event.Ask c moment) t.outcome a s' t.turns.is in
    same-alone is.after.state s' hand is.operations (request-alone s c moment t.outcome is.after hand h is.is alone)
