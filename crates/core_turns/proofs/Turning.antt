-- A step of the machine is a turn, once what it tells is in the hub.
use Rattle.std.proofs.Common.{◌≡◌, ℕ, List, [], Option, Some, None, refl, ap, sym, subst, ◌∙◌}
use Rattle.std.specs.Option.{option_map}
use Rattle.size_values.specs.declared.entry.Entry.{Entry}
use Rattle.record_keeper.specs.Store.{Store}
use Rattle.records.specs.declared.commands.Command.{Command}
use Rattle.records.specs.declared.notices.Filter.{Filter}
use Rattle.records.specs.declared.notices.Untold.{Untold}
use Rattle.records.specs.declared.replies.Reply.{Reply}
use Rattle.row_machine.specs.declared.events.Answer.{Answer}
use Rattle.row_machine.specs.declared.events.Answer.TheVariants as answer
use Rattle.row_machine.specs.declared.events.Event.{Event}
use Rattle.row_machine.specs.declared.events.Event.TheVariants as event
use Rattle.row_machine.specs.declared.events.Fetched.{Fetched}
use Rattle.row_machine.specs.machine.State.{State, empty_state}
use Rattle.row_machine.specs.machine.Accept.{and_then}
use Rattle.row_machine.specs.machine.Step.{well, no_memory, step}
use Rattle.row_machine.specs.facts.Whole.{IsWhole}
use Rattle.row_machine.specs.opening.Records.{records_of}
use Rattle.row_machine.specs.shown.Notices.{since, telling}
use Rattle.machine_laws.specs.Possible.{IsPossible}
use Rattle.machine_laws.proofs.StepKept.{step-keeps}
use Rattle.event_hub.specs.Recent.{Recent, all_pushed, as_state, no_notices, with_recent}
use Rattle.event_hub.proofs.Machines.{since-recent}
use Rattle.core_turns.specs.Asides.{IsNoFetch, HasNoNotices}
use Rattle.core_turns.specs.ShortTasks.{AreShort}
use Rattle.core_turns.proofs.After.{short-after, tells-after}
use Rattle.core_turns.proofs.Aside.{broken-aside, plan-aside}
use Rattle.core_turns.proofs.Shortness.{of-kept}
use Rattle.plain_lists.proofs.Elements.{Each-none}
use Rattle.core_instances.specs.core_rows.specs.Opening.{OpensTo}
use Rattle.core_instances.specs.core_rows.proofs.Opened.{opened-idle, opened-silent}
use Rattle.core_instances.specs.core_rows.specs.Asked.{answered, changes_of, unless_refused}
use Rattle.core_instances.specs.core_rows.specs.Planned.{Follows}
use Rattle.core_instances.specs.core_reports.specs.Jobs.{changes_reported}
use Rattle.core_instances.specs.core_reports.specs.Stores.{KeepsRecords, Stores}
use Rattle.core_instances.specs.core_reports.specs.Waiting.{IsSilent}
use Rattle.core_turns.specs.Turns.{Comes, IsTurn, changes_by}

-- none was told so far
untold-of : (s : State) → IsSilent s → HasNoNotices s
untold-of s silent = λ i. record { notices = silent.notices i; next = silent.next i }

-- a state in which nothing was told
pub as-untold : (s : State) → IsSilent s → with_recent no_notices s ≡ s
as-untold s silent = ap (λ r. with_recent r s) (sym (untold-of s silent))

-- ---- notices apart

-- an event commits the same changes, whatever was told
changes-aside : (s : State) (e : Event) (r : Recent) → changes_by (with_recent r s) e ≡ changes_by s e
unfolding changes_of changes_reported
changes-aside s (event.Ask c moment) r = λ i. unless_refused (broken-aside s c moment r i) (plan-aside s c moment r i)
changes-aside s (event.Look number) r = refl
changes-aside s (event.Take moment) r = refl
changes-aside s (event.Done number report moment) r = refl
changes-aside s (event.Fetch cursor filter) r = refl
changes-aside s event.Close r = refl

records-aside : (s : State) (r : Recent) → records_of (with_recent r s) ≡ records_of s
unfolding records_of
records-aside s r = refl

keeps-aside : {told told' : Option (List Entry)} (s s' : State) (r r' : Recent) → KeepsRecords told s told' s'
    → KeepsRecords told (with_recent r s) told' (with_recent r' s')
keeps-aside {told} {told'} s s' r r' kept = λ start is.
    kept start (is ∙ ap (λ es. option_map (λ _. es) start) (records-aside s r))
    ∙ ap (λ es. option_map (λ _. es) start) (sym (records-aside s' r'))

-- ---- a turn

-- it tells after what the hub was told before
pub collected : {s m s' : State} {untold : List Untold} {store store' : Store} {e : Event} {a : Answer} (r : Recent)
    → IsNoFetch e → IsSilent s → IsSilent s' → Comes s store e a m untold store' → s' ≡ m
    → IsTurn (with_recent r s) store e a (with_recent (all_pushed untold r) s') store'
collected {s} {m} {s'} {untold} {store} {store'} {e} {a} r free before now h same = record {
  outcome = h.outcome;
  turns = record {
    is =
        tells-after s s' e h.outcome a untold free (untold-of s before) (untold-of s' now)
        (h.is ∙ ap (λ t. Some (and_then a (telling untold t))) (sym same)) r;
    stored = subst (λ cs. Stores cs h.outcome store store') (sym (changes-aside s e r)) h.stored;
  };
  caused = h.caused;
  kept = keeps-aside s s' r (all_pushed untold r) (subst (λ t. KeepsRecords store.contents s store'.contents t) (sym same) h.kept);
}

-- and so where nothing waits to be told
pub nothing-collected : {s : State} {untold : List Untold} {store : Store} {e : Event} {a : Answer} (r : Recent) → untold ≡ []
    → IsNoFetch e → IsSilent s → Comes s store e a s untold store → IsTurn (with_recent r s) store e a (with_recent r s) store
nothing-collected {s} {untold} {store} {e} {a} r none free silent h =
    collected r free silent silent (subst (λ us. Comes s store e a s us store) none h) refl

-- a listener is answered from the hub
pub fetch-turn : (r : Recent) (s : State) (store : Store) (cursor : ℕ) (filter : Filter) (f : Fetched) → f ≡ since (as_state r) cursor filter
    → IsTurn (with_recent r s) store (event.Fetch cursor filter) (answer.Fetched f) (with_recent r s) store
unfolding step
fetch-turn r s store cursor filter f is = record {
  outcome = well;
  turns = record {
    is = ap (λ x. Some (and_then (answer.Fetched x) (with_recent r s))) (since-recent (with_recent r s) cursor filter ∙ sym is);
    stored = refl;
  };
  caused = refl;
  kept = λ start told. told;
}

-- or out of memory
pub fetch-refused : (s : State) (store : Store) (cursor : ℕ) (filter : Filter) → IsTurn s store (event.Fetch cursor filter) answer.NoMemory s store
unfolding step
fetch-refused s store cursor filter = record {
  outcome = no_memory;
  turns = record { is = refl; stored = refl };
  caused = refl;
  kept = λ start told. told;
}

-- a store of which nothing is known
pub no_store : Store
no_store = record { contents = None; calls = 0; failures = 0 }

-- the texts of operations stay short
pub stays-short : {s m : State} {untold : List Untold} {store store' : Store} {e : Event} {a : Answer} (r : Recent)
    → IsNoFetch e → IsSilent s → IsWhole (with_recent r s) → IsPossible e → AreShort s → Comes s store e a m untold store' → AreShort m
stays-short {s} {m} {untold} {store} {store'} {e} {a} r free before whole possible short h =
    short-after s m r e h.outcome a untold free (untold-of s before) whole possible short h.is

-- and the facts hold
pub turn-whole : {s s' : State} {store store' : Store} {e : Event} {a : Answer} → IsWhole s → IsPossible e → IsTurn s store e a s' store' → IsWhole s'
turn-whole {s} {s'} {store} {store'} {e} {a} h possible t = step-keeps s e t.outcome (and_then a s') h possible t.turns.is

-- ---- an opening

-- what entries open to is told to nobody yet, and has no operations
pub opening-invariant : (estate : State) (r : Recent) (store store' : Store) → OpensTo estate store store' → IsWhole estate
    → r ≡ no_notices → IsSilent estate × AreShort estate × IsWhole (with_recent r estate) × (with_recent r estate ≡ estate)
opening-invariant estate r store store' opens whole none =
    let silent = opened-silent opens.entries estate opens.opens in
    let same : with_recent r estate ≡ estate = ap (λ x. with_recent x estate) none ∙ as-untold estate silent in (
      silent,
      of-kept {s = empty_state} {t = estate} (opened-idle opens.entries estate opens.opens) (record { live = Each-none; ended = Each-none }),
      subst IsWhole (sym same) whole,
      same,
    )

-- ---- what a turn comes to

-- a command was carried out
pub asked-comes : {s s' : State} {c : Command} {moment : ℕ} {untold : List Untold} {r : Reply} {store store' : Store}
    → Follows s c moment s' untold r store store' → Comes s store (event.Ask c moment) (answered r) s' untold store'
asked-comes f = record { outcome = f.asked.outcome; is = f.asked.is; stored = f.asked.stored; caused = f.asked.caused; kept = f.kept }

-- nothing changes, and nothing is to be stored
pub still-comes : {s : State} {e : Event} {a : Answer} (untold : List Untold) (store : Store) → untold ≡ [] → changes_by s e ≡ []
    → step s e well ≡ Some (and_then a s) → Comes s store e a s untold store
still-comes {s} {e} {a} untold store none plain stepped = record {
  outcome = well;
  is = stepped ∙ ap (λ ns. Some (and_then a (telling ns s))) (sym none);
  stored = subst (λ cs. Stores cs well store store) (sym plain) refl;
  caused = refl;
  kept = λ start told. told;
}
