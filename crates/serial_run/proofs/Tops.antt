-- The clauses of the top call, from what a run comes to.
use Rattle.std.proofs.Common.{◌≡◌, ◌≢◌, ◌<◌, ◌≤◌, ◌++◌, ◌⊎◌, ℕ, List, [], ◌∷◌, length, Bool, true, false, Option, Some}
use Rattle.std.proofs.Common.{None, IfSome, refl, ap, sym, ◌∙◌, subst, arith, inl, inr}
use Rattle.std.proofs.lemmas.List.{length-take}
use Rattle.std.proofs.lemmas.Bool.{false≢true}
use Rattle.std.specs.Io.KnownBytes.{Appends, prepend_known}
use Rattle.std.specs.Option.{is_some, option_and_then}
use Rattle.size_values.specs.Causes.{Rose}
use Rattle.size_values.specs.declared.entry.Entry.{Entry}
use Rattle.http_heads.specs.Messages.{Splits, Ending, ended}
use Rattle.http_heads.specs.declared.request.Request.{Request}
use Rattle.row_machine.specs.machine.State.{State}
use Rattle.row_machine.specs.opening.Opening.{Opening, opened, opening_of}
use Rattle.start_faults.specs.core_rows.specs.Opening.{OpensToNone, Refuses, is_refused}
use Rattle.start_faults.specs.core_rows.specs.declared.opening.OpenFault.TheVariants as fault
use Rattle.record_keeper.specs.Store.{Store, after_calls}
use Rattle.rest_json.specs.declared.terms.Terms.{Terms}
use Rattle.serial_steps.specs.Steps.{Serial}
use Rattle.command_words.specs.RunWords.{as_run, is_run, now_of, pace_of, words_of}
use Rattle.command_words.specs.declared.run_words.Pace.{Pace}
use Rattle.serial_run.specs.Exchanges.{LeadTo, moments_of, printed_replies, keeper_failures_of, host_failures_of}
use Rattle.serial_run.proofs.Along.{IsAlong}
use Rattle.start_faults.specs.declared.fault.StartFault.{StartFault}
use Rattle.start_faults.specs.declared.fault.StartFault.TheVariants as start
use Rattle.serial_run.specs.declared.session.SessionEnd.{SessionEnd}
use Rattle.serial_run.specs.declared.session.SessionEnd.TheVariants as end
use Rattle.serial_run.specs.Most.{most_requests}
use Rattle.serial_run.specs.Inputs.{status_of}
use Rattle.start_faults.specs.Starts.{start_status}
use Rattle.serial_run.specs.Runs.{begun, terms_with, seen_with, IsUnread, Ran, Runs}
use Rattle.serial_run.specs.Runs.{HasCauseToRefuse, Opened}
use Rattle.serial_run.specs.Sessions.{Session, Stops, StopsAfterFinal, AllGoOn, OnlyFinalEnds}
use Rattle.serial_run.specs.Inputs.{answered, end_due}
use Rattle.rest_answers.specs.Lasts.{has_last, through_last}
use Rattle.serial_run.specs.Texts.{RunsText, is_fault}
use Rattle.serial_run.specs.Worlds.{Outside, SessionWorld, within, session_world}
use Rattle.rest_answers.proofs.Linking.{appends_nothing, appends_twice}
use Rattle.serial_run.proofs.Served.{Together, together}
use Rattle.serial_run.proofs.Quiet.{StopsQuietly, session_quietly}
use Rattle.serial_run.proofs.Whole.{IsSettled, IsDue, session_due, text_at, not_full}

-- ---- what a settled session did

-- a settled session over a known text, from the first rows and their records on, does what the text asks
session_text : (terms : Terms) (pace : Pace) (before after : Outside) (status : ℕ) (r : Opened terms pace before after status)
    (ends : SessionEnd) (text : List ℕ) (messages : List Request) (ending : Ending)
    → Session terms pace (begun r.entries r.state before) (session_world r.follows.held after r.follows.serial) ends
    → before.source.left ≡ Some text → Splits text messages ending → IsSettled ends
    → RunsText terms pace messages ending (status_of ends) before after
session_text terms pace before after status r ends text messages ending s known splits settled = record {
  entries = r.entries;
  contents = r.contents;
  state = r.state;
  opens = r.opens;
  exchanges = s.exchanges;
  last = r.follows.serial;
  requests_are = due.requests_are;
  leads = subst (LeadTo terms pace (begun r.entries r.state before).serial_world s.exchanges) (sym quiet.serial_world) all.leads;
  moments = along.clock;
  early = along.early;
  status_is = sym (ap (λ e. e.status) due.end_is);
  written = subst (λ t. Appends before.sink.held after.sink.held (printed_replies terms s.exchanges ++ t))
      (sym (ap (λ e. e.text) due.end_is))
      (appends_twice before.sink.held s.reached.sink.held after.sink.held (printed_replies terms s.exchanges)
      (text_at ends) all.written quiet.written);
  kept = along.kept before.keeper.contents refl;
  keeper_failed = along.keeper_failed;
  host_failed = along.host_failed;
} where
  all : Together terms pace (begun r.entries r.state before) s.exchanges s.reached
  all = together terms pace (begun r.entries r.state before) s.reached s.exchanges s.serves

  due : IsDue messages ending ends s.exchanges
  due = session_due terms pace (begun r.entries r.state before) (session_world r.follows.held after r.follows.serial) ends text messages ending s
      (ap (prepend_known []) known) splits settled

  quiet : StopsQuietly ends s.reached (session_world r.follows.held after r.follows.serial)
  quiet = session_quietly terms pace (begun r.entries r.state before) (session_world r.follows.held after r.follows.serial) ends s settled

  along : IsAlong (begun r.entries r.state before).serial_world (moments_of s.exchanges) (keeper_failures_of s.exchanges)
      (host_failures_of s.exchanges) (within after r.follows.serial)
  along = subst (IsAlong (begun r.entries r.state before).serial_world (moments_of s.exchanges) (keeper_failures_of s.exchanges)
      (host_failures_of s.exchanges)) (sym quiet.serial_world) all.along

-- ---- what the exit status tells

-- what a session tells of the outside where it stops so: a source that has ended, or a count that rose
abbrev Tells : SessionEnd → SessionWorld → SessionWorld → Type 0
Tells end.Ended w w' = Unit {0}
Tells end.Cut w w' = w'.source.ended ≡ true
Tells (end.Malformed fault) w w' = Unit {0}
Tells end.ReadFault w w' = Rose w.source.failures w'.source.failures
Tells end.WriteFault w w' = Rose w.sink.failures w'.sink.failures
Tells end.Spent w w' = Unit {0}
Tells end.NoMemory w w' = Unit {0}

-- a count that rose later rose since before
rose_from : (a b c : ℕ) → a ≤ b → Rose b c → Rose a c
rose_from a b c later rose = omega (arith, later, rose)

stop_tells : (terms : Terms) (ends : SessionEnd) (w v w' : SessionWorld) → w.source.failures ≤ v.source.failures
    → w.sink.failures ≤ v.sink.failures → Stops terms ends v w' → Tells ends w w'
stop_tells terms end.Ended w v w' reads writes stops = tt
stop_tells terms end.Cut w v w' reads writes stops = stops.1.ended
stop_tells terms (end.Malformed fault) w v w' reads writes stops = tt
stop_tells terms end.ReadFault w v w' reads writes stops = rose_from _ _ _ reads stops.0.fault
stop_tells terms end.WriteFault w v w' reads writes (inl stops) = rose_from _ _ _ writes stops.2.rose
stop_tells terms end.WriteFault w v w' reads writes (inr stops) = rose_from _ _ _ writes stops.3.rose
stop_tells terms end.Spent w v w' reads writes stops = tt
stop_tells terms end.NoMemory w v w' reads writes stops = tt

final_tells : (ends : SessionEnd) (w w' : SessionWorld) → StopsAfterFinal ends → Tells ends w w'
final_tells end.Ended w w' is = tt
final_tells end.Spent w w' is = tt
final_tells end.Cut w w' is = absurd is
final_tells (end.Malformed fault) w w' is = absurd is
final_tells end.ReadFault w w' is = absurd is
final_tells end.WriteFault w w' is = absurd is
final_tells end.NoMemory w w' is = absurd is

session_tells : (terms : Terms) (pace : Pace) (w w' : SessionWorld) (ends : SessionEnd) → Session terms pace w w' ends
    → Tells ends w w'
session_tells terms pace w w' ends s = by s.stops where
  all : Together terms pace w s.exchanges s.reached
  all = together terms pace w s.reached s.exchanges s.serves

  by : (AllGoOn s.exchanges × Stops terms ends s.reached w')
      ⊎ (OnlyFinalEnds s.exchanges × StopsAfterFinal ends × (w' ≡ s.reached)) → Tells ends w w'
  by (inl (going, stops)) = stop_tells terms ends w s.reached w' all.reads all.writes stops
  by (inr (only, is, same)) = final_tells ends w w' is

-- none of these statuses is that of a run without a session
no_start : {P : Type 0} (why : StartFault) (n : ℕ) → start_status why ≡ n → n < 6 → P
no_start start.Words n is small = let none : ⊥ = omega (arith, is, small) in absurd none
no_start start.KeeperFailed n is small = let none : ⊥ = omega (arith, is, small) in absurd none
no_start start.Unopened n is small = let none : ⊥ = omega (arith, is, small) in absurd none
no_start start.NoMemory n is small = let none : ⊥ = omega (arith, is, small) in absurd none

-- status 2: the source has ended
pub top_cut : (words : List (List ℕ)) (handed : ℕ) (before after : Outside) (status : ℕ)
    → Runs words handed before after status → status ≡ 2 → after.source.ended ≡ true
top_cut words handed before after status (inr refused) two =
    no_start refused.why 2 (sym refused.status_is ∙ two) (omega arith)
top_cut words handed before after status (inl ran) two = by ran.opened.ends (session_tells (terms_with words handed) (pace_of words) (begun ran.opened.entries ran.opened.state (seen_with words before)) (session_world ran.opened.follows.held (seen_with words after) ran.opened.follows.serial) ran.opened.ends ran.opened.follows.session) (sym ran.opened.status_is ∙ two) where
  by : (ends : SessionEnd)
      → Tells ends (begun ran.opened.entries ran.opened.state (seen_with words before))
      (session_world ran.opened.follows.held (seen_with words after) ran.opened.follows.serial) → status_of ends ≡ 2
      → after.source.ended ≡ true
  by end.Cut tells is = tells
  by end.Ended tells is = let none : ⊥ = omega (arith, is) in absurd none
  by (end.Malformed fault) tells is = let none : ⊥ = omega (arith, is) in absurd none
  by end.ReadFault tells is = let none : ⊥ = omega (arith, is) in absurd none
  by end.WriteFault tells is = let none : ⊥ = omega (arith, is) in absurd none
  by end.Spent tells is = let none : ⊥ = omega (arith, is) in absurd none
  by end.NoMemory tells is = let none : ⊥ = omega (arith, is) in absurd none

-- status 4: a read failed
pub top_read_fault : (words : List (List ℕ)) (handed : ℕ) (before after : Outside) (status : ℕ)
    → Runs words handed before after status → status ≡ 4 → Rose before.source.failures after.source.failures
top_read_fault words handed before after status (inr refused) four =
    no_start refused.why 4 (sym refused.status_is ∙ four) (omega arith)
top_read_fault words handed before after status (inl ran) four = by ran.opened.ends (session_tells (terms_with words handed) (pace_of words) (begun ran.opened.entries ran.opened.state (seen_with words before)) (session_world ran.opened.follows.held (seen_with words after) ran.opened.follows.serial) ran.opened.ends ran.opened.follows.session) (sym ran.opened.status_is ∙ four) where
  by : (ends : SessionEnd)
      → Tells ends (begun ran.opened.entries ran.opened.state (seen_with words before))
      (session_world ran.opened.follows.held (seen_with words after) ran.opened.follows.serial) → status_of ends ≡ 4
      → Rose before.source.failures after.source.failures
  by end.ReadFault tells is = tells
  by end.Ended tells is = let none : ⊥ = omega (arith, is) in absurd none
  by end.Cut tells is = let none : ⊥ = omega (arith, is) in absurd none
  by (end.Malformed fault) tells is = let none : ⊥ = omega (arith, is) in absurd none
  by end.WriteFault tells is = let none : ⊥ = omega (arith, is) in absurd none
  by end.Spent tells is = let none : ⊥ = omega (arith, is) in absurd none
  by end.NoMemory tells is = let none : ⊥ = omega (arith, is) in absurd none

-- status 5: a write failed
pub top_write_fault : (words : List (List ℕ)) (handed : ℕ) (before after : Outside) (status : ℕ)
    → Runs words handed before after status → status ≡ 5 → Rose before.sink.failures after.sink.failures
top_write_fault words handed before after status (inr refused) five =
    no_start refused.why 5 (sym refused.status_is ∙ five) (omega arith)
top_write_fault words handed before after status (inl ran) five = by ran.opened.ends (session_tells (terms_with words handed) (pace_of words) (begun ran.opened.entries ran.opened.state (seen_with words before)) (session_world ran.opened.follows.held (seen_with words after) ran.opened.follows.serial) ran.opened.ends ran.opened.follows.session) (sym ran.opened.status_is ∙ five) where
  by : (ends : SessionEnd)
      → Tells ends (begun ran.opened.entries ran.opened.state (seen_with words before))
      (session_world ran.opened.follows.held (seen_with words after) ran.opened.follows.serial) → status_of ends ≡ 5
      → Rose before.sink.failures after.sink.failures
  by end.WriteFault tells is = tells
  by end.Ended tells is = let none : ⊥ = omega (arith, is) in absurd none
  by end.Cut tells is = let none : ⊥ = omega (arith, is) in absurd none
  by (end.Malformed fault) tells is = let none : ⊥ = omega (arith, is) in absurd none
  by end.ReadFault tells is = let none : ⊥ = omega (arith, is) in absurd none
  by end.Spent tells is = let none : ⊥ = omega (arith, is) in absurd none
  by end.NoMemory tells is = let none : ⊥ = omega (arith, is) in absurd none

-- no session ends with a status that tells why there was none
not_of_session : {P : Type 0} (ends : SessionEnd) (n : ℕ) → status_of ends ≡ n → 5 < n → n ≢ 9 → n ≢ 10 → P
not_of_session end.Ended n is large nine ten = let none : ⊥ = omega (arith, is, large) in absurd none
not_of_session end.Cut n is large nine ten = let none : ⊥ = omega (arith, is, large) in absurd none
not_of_session (end.Malformed fault) n is large nine ten = let none : ⊥ = omega (arith, is, large) in absurd none
not_of_session end.ReadFault n is large nine ten = let none : ⊥ = omega (arith, is, large) in absurd none
not_of_session end.WriteFault n is large nine ten = let none : ⊥ = omega (arith, is, large) in absurd none
not_of_session end.Spent n is large nine ten = absurd (ten (sym is))
not_of_session end.NoMemory n is large nine ten = absurd (nine (sym is))

six≢nine : ◌≢◌ {A = ℕ} 6 9
six≢nine e = omega (arith, e)

six≢ten : ◌≢◌ {A = ℕ} 6 10
six≢ten e = omega (arith, e)

eight≢nine : ◌≢◌ {A = ℕ} 8 9
eight≢nine e = omega (arith, e)

eight≢ten : ◌≢◌ {A = ℕ} 8 10
eight≢ten e = omega (arith, e)

seven≢nine : ◌≢◌ {A = ℕ} 7 9
seven≢nine e = omega (arith, e)

seven≢ten : ◌≢◌ {A = ℕ} 7 10
seven≢ten e = omega (arith, e)

-- the keeper failed at the opening
pub refuses_rose : (store store' : Store) → Refuses fault.KeeperFailed store store' → Rose store.failures store'.failures
refuses_rose store store' (inl fails) = fails.rose
refuses_rose store store' (inr fails) = fails.1.rose

-- status 6: the keeper failed
pub top_keeper_fault : (words : List (List ℕ)) (handed : ℕ) (before after : Outside) (status : ℕ)
    → Runs words handed before after status → status ≡ 6 → Rose before.keeper.failures after.keeper.failures
top_keeper_fault words handed before after status (inl ran) six =
    not_of_session ran.opened.ends 6 (sym ran.opened.status_is ∙ six) (omega arith) six≢nine six≢ten
top_keeper_fault words handed before after status (inr refused) six =
    by refused.why refused.cause (sym refused.status_is ∙ six) where
      by : (why : StartFault) → HasCauseToRefuse why words before.keeper after.keeper → start_status why ≡ 6
          → Rose before.keeper.failures after.keeper.failures
      by start.KeeperFailed cause is = refuses_rose before.keeper after.keeper cause.1
      by start.Words cause is = let none : ⊥ = omega (arith, is) in absurd none
      by start.Unopened cause is = let none : ⊥ = omega (arith, is) in absurd none
      by start.NoMemory cause is = let none : ⊥ = omega (arith, is) in absurd none

-- status 8: the words are not read
pub top_words : (words : List (List ℕ)) (handed : ℕ) (before after : Outside) (status : ℕ)
    → Runs words handed before after status → status ≡ 8 → words_of words ≡ None
top_words words handed before after status (inl ran) eight =
    not_of_session ran.opened.ends 8 (sym ran.opened.status_is ∙ eight) (omega arith) eight≢nine eight≢ten
top_words words handed before after status (inr refused) eight =
    by refused.why refused.cause (sym refused.status_is ∙ eight) where
      by : (why : StartFault) → HasCauseToRefuse why words before.keeper after.keeper → start_status why ≡ 8
          → words_of words ≡ None
      by start.Words cause is = cause.0
      by start.KeeperFailed cause is = let none : ⊥ = omega (arith, is) in absurd none
      by start.Unopened cause is = let none : ⊥ = omega (arith, is) in absurd none
      by start.NoMemory cause is = let none : ⊥ = omega (arith, is) in absurd none

-- words that are not read are not those of a run
pub not_read-no_run : (words : List (List ℕ)) → words_of words ≡ None → is_run words ≡ false
not_read-no_run words none = ap (λ o. is_some (option_and_then as_run o)) none

-- and where they are not read, that is the status, or memory was refused
pub top_not_read : (words : List (List ℕ)) (handed : ℕ) (before after : Outside) (status : ℕ)
    → Runs words handed before after status → words_of words ≡ None → (status ≡ 8) ⊎ (status ≡ 9)
top_not_read words handed before after status (inl ran) none =
    absurd (false≢true (sym (not_read-no_run words none) ∙ ran.read))
top_not_read words handed before after status (inr refused) none = by refused.why refused.cause refused.status_is where
  by : (why : StartFault) → HasCauseToRefuse why words before.keeper after.keeper → status ≡ start_status why
      → (status ≡ 8) ⊎ (status ≡ 9)
  by start.Words cause is = inl is
  by start.KeeperFailed cause is = absurd (false≢true (sym (not_read-no_run words none) ∙ cause.0))
  by start.Unopened cause is = absurd (false≢true (sym (not_read-no_run words none) ∙ cause.0))
  by start.NoMemory cause is = inr is

-- ---- entries that open to no rows

-- the same entries open alike
tells_same : (told : Option (List Entry)) (entries : List Entry) (opening : Opening) → IfSome told (λ es. es ≡ entries)
    → opening_of entries ≡ opening → IfSome told (λ es. opening_of es ≡ opening)
tells_same None entries opening are is = tt
tells_same (Some es) entries opening are is = ap opening_of are ∙ is

-- what the entries of a keeper open to, where it tells them, is what they were found to open to
pub tells_opening : (opening : Opening) (keeper keeper' : Store) → OpensToNone opening keeper keeper'
    → IfSome keeper.contents (λ es. opening_of es ≡ opening)
tells_opening opening keeper keeper' h = tells_same keeper.contents h.entries opening h.contents h.opens

pub tells_refused : (told : Option (List Entry)) (opening : Opening) → is_refused opening ≡ true
    → IfSome told (λ es. opening_of es ≡ opening) → IfSome told (λ es. is_refused (opening_of es) ≡ true)
tells_refused None opening refused is = tt
tells_refused (Some es) opening refused is = ap is_refused is ∙ refused

-- status 7: the words were read, the load did not fail, and an entry is damaged or the rows break a rule
pub top_unopened : (words : List (List ℕ)) (handed : ℕ) (before after : Outside) (status : ℕ)
    → Runs words handed before after status → status ≡ 7
    → (is_run words ≡ true) × (after.keeper ≡ after_calls 1 before.keeper)
    × IfSome before.keeper.contents (λ entries. is_refused (opening_of entries) ≡ true)
top_unopened words handed before after status (inl ran) seven =
    not_of_session ran.opened.ends 7 (sym ran.opened.status_is ∙ seven) (omega arith) seven≢nine seven≢ten
top_unopened words handed before after status (inr refused) seven =
    by refused.why refused.cause (sym refused.status_is ∙ seven) where
      by : (why : StartFault) → HasCauseToRefuse why words before.keeper after.keeper → start_status why ≡ 7
          → (is_run words ≡ true) × (after.keeper ≡ after_calls 1 before.keeper)
          × IfSome before.keeper.contents (λ entries. is_refused (opening_of entries) ≡ true)
      by start.Unopened cause is = (
        cause.0,
        cause.1.2.after,
        tells_refused before.keeper.contents cause.1.0 cause.1.1 (tells_opening cause.1.0 before.keeper after.keeper cause.1.2),
      )
      by start.Words cause is = let none : ⊥ = omega (arith, is) in absurd none
      by start.KeeperFailed cause is = let none : ⊥ = omega (arith, is) in absurd none
      by start.NoMemory cause is = let none : ⊥ = omega (arith, is) in absurd none

-- ---- a run over a known text

-- a run that has no session ends with a fault
start_fault_is : (why : StartFault) → is_fault (start_status why) ≡ true
start_fault_is start.Words = refl
start_fault_is start.KeeperFailed = refl
start_fault_is start.Unopened = refl
start_fault_is start.NoMemory = refl

-- a run with a session ends with a fault, or does what its text asks
ran_text : (words : List (List ℕ)) (handed : ℕ) (before after : Outside) (status : ℕ)
    → Ran words handed before after status → (text : List ℕ) (messages : List Request) (ending : Ending)
    → before.source.left ≡ Some text → Splits text messages ending
    → (is_fault status ≡ true)
    ⊎ RunsText (terms_with words handed) (pace_of words) messages ending status (seen_with words before)
    (seen_with words after)
ran_text words handed before after status r text messages ending known splits = subst
    (λ n. (is_fault n ≡ true)
    ⊎ RunsText (terms_with words handed) (pace_of words) messages ending n (seen_with words before)
    (seen_with words after)) (sym r.opened.status_is) (by r.opened.ends r.opened.follows.session) where
      does : (ends : SessionEnd)
          → Session (terms_with words handed) (pace_of words) (begun r.opened.entries r.opened.state (seen_with words before))
          (session_world r.opened.follows.held (seen_with words after) r.opened.follows.serial) ends → IsSettled ends
          → RunsText (terms_with words handed) (pace_of words) messages ending (status_of ends) (seen_with words before)
          (seen_with words after)
      does ends s settled = session_text (terms_with words handed) (pace_of words) (seen_with words before) (seen_with words after) status r.opened ends text messages ending s known splits settled

      by : (ends : SessionEnd)
          → Session (terms_with words handed) (pace_of words) (begun r.opened.entries r.opened.state (seen_with words before))
          (session_world r.opened.follows.held (seen_with words after) r.opened.follows.serial) ends
          → (is_fault (status_of ends) ≡ true)
          ⊎ RunsText (terms_with words handed) (pace_of words) messages ending (status_of ends) (seen_with words before)
          (seen_with words after)
      by end.Ended s = inr (does end.Ended s tt)
      by end.Cut s = inr (does end.Cut s tt)
      by (end.Malformed fault) s = inr (does (end.Malformed fault) s tt)
      by end.Spent s = inr (does end.Spent s tt)
      by end.ReadFault s = inl refl
      by end.WriteFault s = inl refl
      by end.NoMemory s = inl refl

-- any run over a known text
pub top_text : (words : List (List ℕ)) (handed : ℕ) (before after : Outside) (status : ℕ) (known : Option (List ℕ))
    → Runs words handed before after status → before.source.left ≡ known
    → IfSome known (λ text. (messages : List Request) (ending : Ending) → Splits text messages ending
    → (is_fault status ≡ true)
    ⊎ RunsText (terms_with words handed) (pace_of words) messages ending status (seen_with words before)
    (seen_with words after))
top_text words handed before after status None done is = tt
top_text words handed before after status (Some text) (inl ran) is =
    λ messages ending splits. ran_text words handed before after status ran text messages ending is splits
top_text words handed before after status (Some text) (inr refused) is =
    λ messages ending splits. inl (ap is_fault refused.status_is ∙ start_fault_is refused.why)

-- no more requests than there are come up to the first last one
through_last_few : (ms : List Request) → length (through_last ms) ≤ length ms
through_last_few [] = omega arith
through_last_few (m ∷ ms) = at m.last refl (through_last_few ms) where
  at : (last : Bool) → m.last ≡ last → length (through_last ms) ≤ length ms
      → length (through_last (m ∷ ms)) ≤ length (m ∷ ms)
  at true is few = rw is (omega arith)
  at false is few = rw is (omega (arith, few))

-- the end that is due after whole messages, of which there are fewer than a session may answer
due_whole : (messages : List Request) → length messages < most_requests → (end_due messages ended).status ≡ 0
due_whole messages few = by (has_last (answered messages)) refl where
  fewer : length (answered messages) < most_requests
  fewer = omega (arith, few, through_last_few messages, length-take most_requests (through_last messages))

  by : (last : Bool) → has_last (answered messages) ≡ last → (end_due messages ended).status ≡ 0
  by true is = rw (not_full (length (answered messages)) fewer, is) refl
  by false is = rw (not_full (length (answered messages)) fewer, is) refl

-- a run over whole messages, in which nothing failed, answered all of them or was refused memory
ran_complete : (words : List (List ℕ)) (handed : ℕ) (before after : Outside) (status : ℕ)
    → Ran words handed before after status → (text : List ℕ) (messages : List Request)
    → before.source.left ≡ Some text → Splits text messages ended → length messages < most_requests
    → ¬ (Rose before.source.failures after.source.failures) → ¬ (Rose before.sink.failures after.sink.failures)
    → (status ≡ 0) ⊎ (status ≡ 9)
ran_complete words handed before after status r text messages known splits few reads writes =
    subst (λ n. (n ≡ 0) ⊎ (n ≡ 9)) (sym r.opened.status_is) (by r.opened.ends r.opened.follows.session) where
      settled : (ends : SessionEnd)
          → Session (terms_with words handed) (pace_of words) (begun r.opened.entries r.opened.state (seen_with words before))
          (session_world r.opened.follows.held (seen_with words after) r.opened.follows.serial) ends → IsSettled ends
          → (status_of ends ≡ 0) ⊎ (status_of ends ≡ 9)
      settled ends s is = inl ((session_text (terms_with words handed) (pace_of words) (seen_with words before) (seen_with words after) status r.opened ends text messages ended s known splits is).status_is ∙ due_whole messages few)

      by : (ends : SessionEnd)
          → Session (terms_with words handed) (pace_of words) (begun r.opened.entries r.opened.state (seen_with words before))
          (session_world r.opened.follows.held (seen_with words after) r.opened.follows.serial) ends
          → (status_of ends ≡ 0) ⊎ (status_of ends ≡ 9)
      by end.Ended s = inl refl
      by end.Cut s = settled end.Cut s tt
      by (end.Malformed fault) s = settled (end.Malformed fault) s tt
      by end.Spent s = settled end.Spent s tt
      by end.NoMemory s = inr refl
      by end.ReadFault s = absurd (reads
          (session_tells (terms_with words handed) (pace_of words) (begun r.opened.entries r.opened.state (seen_with words before))
          (session_world r.opened.follows.held (seen_with words after) r.opened.follows.serial) end.ReadFault s))
      by end.WriteFault s = absurd (writes
          (session_tells (terms_with words handed) (pace_of words) (begun r.opened.entries r.opened.state (seen_with words before))
          (session_world r.opened.follows.held (seen_with words after) r.opened.follows.serial) end.WriteFault s))

-- the same of any run
pub top_complete : (words : List (List ℕ)) (handed : ℕ) (before after : Outside) (status : ℕ)
    (known : Option (List ℕ)) → Runs words handed before after status → before.source.left ≡ known
    → IfSome known (λ text. (messages : List Request) → Splits text messages ended → length messages < most_requests
    → (entries : List Entry) (s : State) → is_run words ≡ true → before.keeper.contents ≡ Some entries
    → opening_of entries ≡ opened s
    → ¬ (Rose before.source.failures after.source.failures) → ¬ (Rose before.sink.failures after.sink.failures)
    → ¬ (Rose before.keeper.failures after.keeper.failures) → (status ≡ 0) ⊎ (status ≡ 9))
top_complete words handed before after status None done is = tt
top_complete words handed before after status (Some text) (inl ran) is =
    λ messages splits few entries s read told opens reads writes keeps.
    ran_complete words handed before after status ran text messages is splits few reads writes
top_complete words handed before after status (Some text) (inr refused) is =
    λ messages splits few entries s read told opens reads writes keeps.
    by refused.why refused.cause refused.status_is read entries s told opens keeps where
      by : (why : StartFault) → HasCauseToRefuse why words before.keeper after.keeper → status ≡ start_status why
          → is_run words ≡ true → (entries : List Entry) (s : State) → before.keeper.contents ≡ Some entries
          → opening_of entries ≡ opened s → ¬ (Rose before.keeper.failures after.keeper.failures)
          → (status ≡ 0) ⊎ (status ≡ 9)
      by start.Words cause is read entries s told opens keeps = absurd (false≢true (sym (not_read-no_run words cause.0) ∙ read))
      by start.KeeperFailed cause is read entries s told opens keeps =
          absurd (keeps (refuses_rose before.keeper after.keeper cause.1))
      by start.Unopened cause is read entries s told opens keeps =
          let found : opening_of entries ≡ cause.1.0 = subst (λ known. IfSome known (λ es. opening_of es ≡ cause.1.0)) told
          (tells_opening cause.1.0 before.keeper after.keeper cause.1.2) in
          absurd (false≢true (ap is_refused (sym opens ∙ found) ∙ cause.1.1))
      by start.NoMemory cause is read entries s told opens keeps = inr is

-- a run over entries that open to no rows ends with the status that says so, or is refused memory, and writes nothing
pub top_refused : (words : List (List ℕ)) (handed : ℕ) (before after : Outside) (status : ℕ)
    (known : Option (List Entry)) → Runs words handed before after status → before.keeper.contents ≡ known
    → IfSome known (λ entries. is_refused (opening_of entries) ≡ true → is_run words ≡ true
    → ¬ (Rose before.keeper.failures after.keeper.failures)
    → (after.sink.held ≡ before.sink.held) × ((status ≡ 7) ⊎ (status ≡ 9)))
top_refused words handed before after status None done is = tt
top_refused words handed before after status (Some entries) (inl ran) is = λ none read keeps.
    let are : entries ≡ ran.opened.entries =
    subst (λ known. IfSome known (λ es. es ≡ ran.opened.entries)) is ran.opened.contents in
    absurd (false≢true (sym (ap is_refused (ap opening_of are ∙ ran.opened.opens)) ∙ none))
top_refused words handed before after status (Some entries) (inr refused) is = λ none read keeps.
    (ap (λ sink. sink.held) refused.sink, by refused.why refused.cause refused.status_is read keeps) where
      by : (why : StartFault) → HasCauseToRefuse why words before.keeper after.keeper → status ≡ start_status why
          → is_run words ≡ true → ¬ (Rose before.keeper.failures after.keeper.failures) → (status ≡ 7) ⊎ (status ≡ 9)
      by start.Words cause is read keeps = absurd (false≢true (sym (not_read-no_run words cause.0) ∙ read))
      by start.KeeperFailed cause is read keeps = absurd (keeps (refuses_rose before.keeper after.keeper cause.1))
      by start.Unopened cause is read keeps = inl is
      by start.NoMemory cause is read keeps = inr is

-- where the words say a moment, the clock that is handed in is not read
pub top_still : (words : List (List ℕ)) (handed : ℕ) (before after : Outside) (status : ℕ)
    → Runs words handed before after status → IfSome (now_of words) (λ _. after.clock ≡ before.clock)
top_still words handed before after status (inl ran) = by (now_of words) ran.unread where
  by : (now : Option ℕ) → IsUnread now before.clock after.clock → IfSome now (λ _. after.clock ≡ before.clock)
  by None unread = tt
  by (Some moment) unread = unread
top_still words handed before after status (inr refused) = by (now_of words) where
  by : (now : Option ℕ) → IfSome now (λ _. after.clock ≡ before.clock)
  by None = tt
  by (Some moment) = refused.clock
