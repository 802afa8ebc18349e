-- What a keeper tells after each of its calls in a run, from what each event does to the rows and to the store.
use Rattle.std.proofs.Common.{◌≡◌, ◌++◌, ℕ, List, [], ◌∷◌, map, Option, Some, None, option_map, Result, Ok, Err, refl, ap, sym}
use Rattle.std.proofs.Common.{◌∙◌, subst, inl, inr, ◌⊎◌}
use Rattle.size_values.specs.declared.entry.Entry.{Entry}
use Rattle.record_keeper.specs.Entries.{after_changes}
use Rattle.record_keeper.specs.Store.{Store, IsAfterUpTo}
use Rattle.records.specs.declared.commands.Command.{Command}
use Rattle.records.specs.declared.replies.Reply.{Reply}
use Rattle.row_machine.specs.declared.changes.RowChange.{RowChange}
use Rattle.row_machine.specs.declared.events.Answer.{Answer}
use Rattle.row_machine.specs.declared.events.Answer.TheVariants as answer
use Rattle.row_machine.specs.declared.events.Event.{Event}
use Rattle.row_machine.specs.declared.events.Event.TheVariants as event
use Rattle.row_machine.specs.machine.Accept.{After, and_then}
use Rattle.row_machine.specs.machine.State.{State}
use Rattle.row_machine.specs.machine.Step.{Outcome, well, keeper_failed, no_memory}
use Rattle.row_machine.specs.opening.Records.{records_of}
use Rattle.rest_json.specs.declared.terms.Terms.{Terms}
use Rattle.machine_laws.specs.Entries.{entry_changes}
use Rattle.start_faults.specs.core_reports.specs.Stores.{KeepsRecords, Stores}
use Rattle.serial_steps.specs.core_turns.specs.Turns.{Turns, changes_by}
use Rattle.serial_steps.specs.Steps.{SerialWorld, Step, took, reported, Steps, StepsTo}
use Rattle.command_words.specs.declared.run_words.Pace.{Pace}
use Rattle.command_words.specs.declared.run_words.Pace.TheVariants as pace
use Rattle.rest_routes.specs.Commands.{command_of}
use Rattle.serial_run.specs.Exchanges.{Carries, Comes, Exchange, Held, HeldBack, IsAnswered, IsPaced, LeadTo, Leads}
use Rattle.serial_run.specs.Exchanges.{carried_out}
use Rattle.serial_run.specs.Kept.{AfterEachCall, AfterEachCallOfOne, Keeps, KeepsAll, asked_at, events_at, events_of}
use Rattle.serial_run.specs.Kept.{held_at, moment_of, step_at, with_or_without}
use Rattle.serial_run.proofs.Along.{anyhow}
use Rattle.serial_run.proofs.Denying.{granted-well}

-- the keeper tells the records of the rows
abbrev IsKept : SerialWorld → Type 0
IsKept w = w.store.contents ≡ Some (records_of w.serial.state)

-- these events lead from one moment to another one, and the keeper tells the records of the rows there
record Through (w : SerialWorld) (events : List (ℕ × Outcome)) (w' : SerialWorld) : Type 0 where
  keeps : KeepsAll w.serial.state w.store events w'.serial.state w'.store
  told : IsKept w'

some-same : {A : Type 0} {x y : A} → Some x ≡ Some y → x ≡ y
some-same e = cc

-- ---- one event

-- entries that were the records of the rows are so afterwards
tells_on : (s s' : State) (k k' : Store) → KeepsRecords k.contents s k'.contents s' → k.contents ≡ Some (records_of s)
    → k'.contents ≡ Some (records_of s')
tells_on s s' k k' kept told = kept (Some []) told

-- contents that are as before
stays : (s s' : State) (k k' : Store) → k'.contents ≡ k.contents → k.contents ≡ Some (records_of s)
    → k'.contents ≡ Some (records_of s') → records_of s' ≡ records_of s
stays s s' k k' same told tells = some-same (sym tells ∙ same ∙ told)

-- at most one call that changed nothing
same_contents : (k k' : Store) → IsAfterUpTo 1 k k' → k'.contents ≡ k.contents
same_contents k k' (inl is) = ap (λ (store : Store). store.contents) is
same_contents k k' (inr is) = ap (λ (store : Store). store.contents) is

records_are : (s s' : State) (cs : List RowChange) (o : Outcome) (k k' : Store) → Stores cs o k k'
    → k.contents ≡ Some (records_of s) → k'.contents ≡ Some (records_of s')
    → records_of s' ≡ with_or_without o cs (records_of s)
records_are s s' [] well k k' stored told tells = stays s s' k k' (ap (λ (store : Store). store.contents) stored) told tells
records_are s s' [] (keeper_failed rise) k k' stored told tells = absurd stored
records_are s s' [] no_memory k k' stored told tells =
    stays s s' k k' (ap (λ (store : Store). store.contents) stored) told tells
records_are s s' (c ∷ cs) well k k' stored told tells = some-same
    (sym tells ∙ ap (λ (store : Store). store.contents) stored ∙ ap (option_map (after_changes (entry_changes (c ∷ cs)))) told)
records_are s s' (c ∷ cs) (keeper_failed rise) k k' stored told tells = stays s s' k k' stored.0.contents told tells
records_are s s' (c ∷ cs) no_memory k k' stored told tells = stays s s' k k' (same_contents k k' stored) told tells

-- an event at its moment
keeps_turn : {s s' : State} {k k' : Store} {e : Event} {o : Outcome} {a : Answer} (moment : ℕ) → moment_of e ≡ Some moment
    → Turns s k e o a s' k' → KeepsRecords k.contents s k'.contents s' → k.contents ≡ Some (records_of s)
    → Keeps s k moment o s' k'
keeps_turn {s} {s'} {k} {k'} {e} {o} {a} moment at turn kept told =
    let tells : k'.contents ≡ Some (records_of s') = tells_on s s' k k' kept told in
    record {
      came = e;
      answered = a;
      at = at;
      turn = turn;
      told = told;
      tells = tells;
      records = records_are s s' (changes_by s e) o k k' turn.stored told tells;
      granted = granted-well s e o a s' turn.is;
    }

-- ---- several

keeps_append : (s t u : State) (j k l : Store) (xs ys : List (ℕ × Outcome)) → KeepsAll s j xs t k → KeepsAll t k ys u l
    → KeepsAll s j (xs ++ ys) u l
keeps_append s t u j k l [] ys same then =
    subst (λ state. KeepsAll state j ys u l) same.0 (subst (λ store. KeepsAll t store ys u l) same.1 then)
keeps_append s t u j k l (x ∷ xs) ys first then =
    (first.0, first.1, first.2, keeps_append first.0 t u first.1 k l xs ys first.3 then)

none : (w : SerialWorld) → IsKept w → Through w [] w
none w told = record { keeps = (refl, refl); told = told }

twice : {u v w : SerialWorld} {xs ys : List (ℕ × Outcome)} → Through u xs v → Through v ys w → Through u (xs ++ ys) w
twice {u} {v} {w} {xs} {ys} first then = record {
  keeps = keeps_append u.serial.state v.serial.state w.serial.state u.store v.store w.store xs ys first.keeps then.keeps;
  told = then.told;
}

one : {w w' : SerialWorld} {e : Event} {o : Outcome} {a : Answer} (moment : ℕ) → moment_of e ≡ Some moment
    → Turns w.serial.state w.store e o a w'.serial.state w'.store
    → KeepsRecords w.store.contents w.serial.state w'.store.contents w'.serial.state → IsKept w
    → Through w ((moment, o) ∷ []) w'
one {w} {w'} {e} {o} {a} moment at turn kept told = record {
  keeps = (w'.serial.state, w'.store, keeps_turn moment at turn kept told, (refl, refl));
  told = tells_on w.serial.state w'.serial.state w.store w'.store kept told;
}

-- ---- what was asked for

-- a request without a command changes nothing
unasked_stays : (w w' : SerialWorld) (asked : Result Command Reply) (o : Outcome) (a : Answer)
    → Carries w asked None o a w' → IsKept w → Through w [] w'
unasked_stays w w' asked o a h told = record {
  keeps = (by asked o h.is, same_store o h.stored);
  told = tells_on w.serial.state w'.serial.state w.store w'.store h.kept told;
} where
  state_is : {b : Answer} {s s' : State} → Some (and_then b s) ≡ Some (and_then a s') → s' ≡ s
  state_is {b} {s} {s'} is = sym (ap (λ (after : After). after.state) (some-same is))

  same_store : (o : Outcome) → Stores [] o w.store w'.store → w'.store ≡ w.store
  same_store well stored = stored
  same_store (keeper_failed rise) stored = absurd stored
  same_store no_memory stored = stored

  by : (asked : Result Command Reply) (o : Outcome)
      → carried_out w.serial.state None o asked ≡ Some (and_then a w'.serial.state) → w'.serial.state ≡ w.serial.state
  by (Ok c) well is = cc
  by (Ok c) (keeper_failed rise) is = cc
  by (Ok c) no_memory is = state_is is
  by (Err said) well is = state_is is
  by (Err said) (keeper_failed rise) is = cc
  by (Err said) no_memory is = state_is is

carries_keeps : (w w' : SerialWorld) (asked : Result Command Reply) (moment : Option ℕ) (o : Outcome) (a : Answer)
    → Carries w asked moment o a w' → IsKept w → Through w (asked_at moment o) w'
carries_keeps w w' asked None o a h told = unasked_stays w w' asked o a h told
carries_keeps w w' (Ok c) (Some moment) o a h told =
    let turn : Turns w.serial.state w.store (event.Ask c moment) o a w'.serial.state w'.store =
    record { is = h.is; stored = h.stored } in
    one moment refl turn h.kept told
carries_keeps w w' (Err said) (Some moment) o a h told = let no : ⊥ = never h.is in absurd no where
  never : {x : After} → None ≡ Some x → ⊥
  never e = cc

-- ---- steps

step_keeps : (w : SerialWorld) (s : Step) (w' : SerialWorld) → Steps w s w' → IsKept w → Through w (step_at s ∷ []) w'
step_keeps w (took moment) w' t told = one moment refl t.turn t.kept told
step_keeps w (reported r moment o) w' t told = one moment refl t.turn t.kept told

steps_keep : (w w' : SerialWorld) (steps : List Step) → StepsTo w steps w' → IsKept w → Through w (map step_at steps) w'
steps_keep w w' [] same told = subst (Through w []) same (none w told)
steps_keep w w' (s ∷ steps) made told =
    let first : Through w (step_at s ∷ []) made.1 = step_keeps w s made.1 made.2 told in
    twice first (steps_keep made.1 w' steps made.3 first.told)

paced_keeps : (p : Pace) (w w' : SerialWorld) (steps : List Step) → IsPaced p w steps w' → IsKept w
    → Through w (map step_at steps) w'
paced_keeps (pace.Steps count) w w' steps h told = steps_keep w w' steps (anyhow _ w w' steps h.made) told
paced_keeps pace.All w w' steps h told = steps_keep w w' steps (anyhow _ w w' steps h.0.made) told

-- ---- exchanges

held_keeps : (w w' : SerialWorld) (asked : Result Command Reply) (moment : Option ℕ) (o : Outcome) (held : Held)
    (r : Reply) → HeldBack w asked moment o held r w' → IsKept w
    → Through w (asked_at moment o ++ held_at (Some held)) w'
held_keeps w w' asked moment o held r h told =
    let asks : Through w (asked_at moment o) h.waiting =
    carries_keeps w h.waiting asked moment o (answer.Hold h.op) h.holds told in
    let waits : Through h.waiting (map step_at held.steps) h.ended =
    steps_keep h.waiting h.ended held.steps (anyhow _ h.waiting h.ended held.steps h.waits.made) asks.told in
    twice asks (twice waits (carries_keeps h.ended w' _ (Some held.moment) held.outcome _ h.shows waits.told))

answered_keeps : (w w' : SerialWorld) (asked : Result Command Reply) (moment : Option ℕ) (o : Outcome)
    (held : Option Held) (r : Reply) → IsAnswered w asked moment o held r w' → IsKept w
    → Through w (asked_at moment o ++ held_at held) w'
answered_keeps w w' asked moment o None r h told =
    let asks : Through w (asked_at moment o) w' = carries_keeps w w' asked moment o _ h told in
    twice asks (none w' asks.told)
answered_keeps w w' asked moment o (Some held) r h told = held_keeps w w' asked moment o held r h told

comes_keeps : (terms : Terms) (w : SerialWorld) (e : Exchange) (w' : SerialWorld) → Comes terms w e w' → IsKept w
    → Through w (asked_at e.moment e.outcome ++ held_at e.held) w'
comes_keeps terms w e w' h told =
    answered_keeps w w' (command_of e.request terms) e.moment e.outcome e.held e.reply h told

leads_keeps : (terms : Terms) (p : Pace) (w : SerialWorld) (e : Exchange) (w' : SerialWorld) → Leads terms p w e w' → IsKept w
    → Through w (events_at e) w'
leads_keeps terms p w e w' h told =
    let came : Through w (asked_at e.moment e.outcome ++ held_at e.held) h.replied =
    comes_keeps terms w e h.replied h.comes told in
    twice came (paced_keeps p h.replied w' e.steps h.paced came.told)

all_keep : (terms : Terms) (p : Pace) (w : SerialWorld) (es : List Exchange) (w' : SerialWorld) → LeadTo terms p w es w'
    → IsKept w → Through w (events_of es) w'
all_keep terms p w [] w' same told = subst (Through w []) same (none w told)
all_keep terms p w (e ∷ es) w' h told =
    let first : Through w (events_at e) h.0 = leads_keeps terms p w e h.0 h.1 told in
    twice first (all_keep terms p h.0 es w' h.2 first.told)

-- ---- the laws

pub after_each : AfterEachCall
after_each terms follows w es w' leads told = (all_keep terms follows w es w' leads told).keeps

pub after_each_of_one : AfterEachCallOfOne
after_each_of_one terms w e w' comes told = (comes_keeps terms w e w' comes told).keeps
