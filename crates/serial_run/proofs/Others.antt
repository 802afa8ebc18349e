-- What the program does, from what a run and what each other command does.
use Rattle.std.proofs.Common.{◌≡◌, ◌≢◌, ◌<◌, ◌⊎◌, ℕ, List, [], length, Bool, true, false, Option, Some, None}
use Rattle.std.proofs.Common.{IfSome, refl, ap, sym, ◌∙◌, subst, arith, inl, inr}
use Rattle.std.proofs.lemmas.Bool.{false≢true}
use Rattle.std.specs.Option.{is_some, option_and_then}
use Rattle.size_values.specs.Causes.{Rose}
use Rattle.size_values.specs.declared.entry.Entry.{Entry}
use Rattle.http_heads.specs.Messages.{Ending, Splits, ended}
use Rattle.http_heads.specs.declared.request.Request.{Request}
use Rattle.record_keeper.specs.Store.{Store, after_calls}
use Rattle.row_machine.specs.machine.State.{State}
use Rattle.row_machine.specs.opening.Opening.{Opening, opened, opening_of, damaged, broken}
use Rattle.rest_json.specs.declared.terms.Terms.{Terms}
use Rattle.start_faults.specs.core_rows.specs.Opening.{OpensToNone, Refuses, is_refused}
use Rattle.start_faults.specs.core_rows.specs.declared.opening.OpenFault.{OpenFault}
use Rattle.start_faults.specs.core_rows.specs.declared.opening.OpenFault.TheVariants as fault
use Rattle.command_words.specs.RunWords.{as_run, is_run, now_of, pace_of, words_of}
use Rattle.command_words.specs.declared.run_words.CommandWords.{CommandWords}
use Rattle.command_words.specs.declared.run_words.CommandWords.TheVariants.{Check, Drill, Make, Run}
use Rattle.serial_run.specs.Commands.{Checks, Drills, DrillsOver, Tells, TellsDrill, Unopened, drilled_text, open_status}
use Rattle.serial_steps.specs.Steps.{SerialWorld, serial, serial_world}
use Rattle.workload.specs.Stream.{stream_of}
use Rattle.serial_run.specs.Most.{most_requests}
use Rattle.serial_run.specs.Worlds.{Outlet, Outside}
use Rattle.serial_run.specs.declared.session.SessionEnd.{SessionEnd}
use Rattle.serial_run.specs.declared.session.SessionEnd.TheVariants as end
use Rattle.serial_run.specs.Does.{Carried, Does, DoesOther, IsReadyFor, OpensToRows, drill_terms}
use Rattle.serial_run.specs.Runs.{HasCauseToRefuse, Runs, terms_with, seen_with}
use Rattle.serial_run.specs.Texts.{RunsText, is_fault}
use Rattle.start_faults.specs.Starts.{start_status}
use Rattle.start_faults.specs.declared.fault.StartFault.{StartFault}
use Rattle.start_faults.specs.declared.fault.StartFault.TheVariants as start
use Rattle.serial_run.proofs.Tops.{top_text, top_complete, top_cut, top_read_fault, top_write_fault, top_keeper_fault, top_words}
use Rattle.serial_run.proofs.Tops.{top_not_read, top_still, top_unopened, top_refused, refuses_rose, tells_opening, tells_refused}

-- ---- words

-- words that name another command are not those of a run
not_run : (words : List (List ℕ)) (command : CommandWords) (handed : ℕ) (before after : Outside) (status : ℕ)
    → DoesOther command handed before after status → words_of words ≡ Some command → is_run words ≡ false
not_run words (Run run) handed before after status does is = absurd does
not_run words (Make seed count) handed before after status does is = ap (λ o. is_some (option_and_then as_run o)) is
not_run words (Drill seed count) handed before after status does is = ap (λ o. is_some (option_and_then as_run o)) is
not_run words Check handed before after status does is = ap (λ o. is_some (option_and_then as_run o)) is

-- and say no moment
no_moment : (words : List (List ℕ)) (command : CommandWords) (handed : ℕ) (before after : Outside) (status : ℕ)
    → DoesOther command handed before after status → words_of words ≡ Some command → now_of words ≡ None
no_moment words (Run run) handed before after status does is = absurd does
no_moment words (Make seed count) handed before after status does is =
    ap (λ o. option_and_then (λ run. run.now) (option_and_then as_run o)) is
no_moment words (Drill seed count) handed before after status does is =
    ap (λ o. option_and_then (λ run. run.now) (option_and_then as_run o)) is
no_moment words Check handed before after status does is =
    ap (λ o. option_and_then (λ run. run.now) (option_and_then as_run o)) is

-- words of a run are read
run_is_read : (said : Option CommandWords) → is_some (option_and_then as_run said) ≡ true → is_some said ≡ true
run_is_read None is = is
run_is_read (Some command) is = refl

no_command : (words : List (List ℕ)) (command : CommandWords) → words_of words ≡ Some command → words_of words ≡ None → ⊥
no_command words command is none = false≢true (sym (ap is_some none) ∙ ap is_some is)

-- ---- what the status of another command tells

-- its cause: a write or the keeper that failed, entries that open to no rows, or none
pub data Cause (status : ℕ) (before after : Outside) : Type 0 where
  done : status ≡ 0 → Cause status before after
  unwritten : status ≡ 5 → Rose before.sink.failures after.sink.failures → Cause status before after
  unkept : status ≡ 6 → Rose before.keeper.failures after.keeper.failures → Cause status before after
  unopened : (opening : Opening) → status ≡ 7 → is_refused opening ≡ true → OpensToNone opening before.keeper after.keeper
      → Cause status before after
  out_of_memory : status ≡ 9 → Cause status before after

by_text : (status : ℕ) (text : List ℕ) (before after : Outside) → Tells status text before.sink after.sink → Cause status before after
by_text status text before after (inl (is, takes)) = done is
by_text status text before after (inr (inl (is, breaks))) = unwritten is breaks.rose
by_text status text before after (inr (inr (is, same))) = out_of_memory is

by_opening : (status : ℕ) (before after : Outside) → Unopened status before.sink after.sink before.keeper after.keeper
    → Cause status before after
by_opening status before after h = by h.why h.refuses h.status_is where
  by : (why : OpenFault) → Refuses why before.keeper after.keeper → status ≡ open_status why → Cause status before after
  by fault.KeeperFailed refuses is = unkept is (refuses_rose before.keeper after.keeper refuses)
  by (fault.Damaged kind key) refuses is = unopened (damaged kind key) is refl refuses
  by (fault.Broken rule kind key) refuses is = unopened (broken rule kind key) is refl refuses
  by fault.NoMemory refuses is = out_of_memory is

by_drill : (ends : SessionEnd) (status : ℕ) (text : List ℕ) (before after : Outside)
    → TellsDrill ends status text before.sink after.sink → Cause status before after
by_drill end.Ended status text before after tells = by_text status text before after tells
by_drill end.Cut status text before after tells = out_of_memory tells.0
by_drill (end.Malformed fault) status text before after tells = out_of_memory tells.0
by_drill end.ReadFault status text before after tells = out_of_memory tells.0
by_drill end.WriteFault status text before after tells = out_of_memory tells.0
by_drill end.NoMemory status text before after tells = out_of_memory tells.0
by_drill end.Spent status text before after tells = out_of_memory tells.0

drilled_cause : (terms : Terms) (stream : List ℕ) (status : ℕ) (w : SerialWorld) (before after : Outside)
    → DrillsOver terms stream status w before.sink after.keeper after.host after.clock after.sink → Cause status before after
drilled_cause terms stream status w before after (inl d) =
    by_drill d.ends status (drilled_text d.replies d.last.state) before after d.tells
drilled_cause terms stream status w before after (inr out) = out_of_memory out.status_is

drills_cause : (terms : Terms) (stream : List ℕ) (status : ℕ) (before after : Outside)
    → Drills terms stream status before.keeper before.host before.clock before.sink after.keeper after.host after.clock after.sink
    → Cause status before after
drills_cause terms stream status before after (inl o) =
    drilled_cause terms stream status (serial_world (serial o.state None) o.opened before.host before.clock) before after o.over
drills_cause terms stream status before after (inr u) = by_opening status before after u.unopened

cause_of : (command : CommandWords) (handed : ℕ) (before after : Outside) (status : ℕ)
    → DoesOther command handed before after status → Cause status before after
cause_of (Run run) handed before after status does = absurd does
cause_of (Make seed count) handed before after status does = by_text status _ before after does.tells
cause_of Check handed before after status does = by does.checks where
  by : Checks status before.sink after.sink before.keeper after.keeper → Cause status before after
  by (inl (s, opens, tells)) = by_text status _ before after tells
  by (inr h) = by_opening status before after h
cause_of (Drill seed count) handed before after status does =
    drills_cause (drill_terms handed) (stream_of seed count) status before after does.drills

-- where the status is one of these, its cause is the one of its number
only : {P : Type 0} (n : ℕ) (before after : Outside) (status : ℕ) → Cause status before after → status ≡ n
    → (n ≡ 0 → P) → (n ≡ 5 → Rose before.sink.failures after.sink.failures → P)
    → (n ≡ 6 → Rose before.keeper.failures after.keeper.failures → P)
    → ((opening : Opening) → n ≡ 7 → is_refused opening ≡ true → OpensToNone opening before.keeper after.keeper → P)
    → (n ≡ 9 → P) → P
only n before after status (done is) at zero five six seven nine = zero (sym at ∙ is)
only n before after status (unwritten is rose) at zero five six seven nine = five (sym at ∙ is) rose
only n before after status (unkept is rose) at zero five six seven nine = six (sym at ∙ is) rose
only n before after status (unopened opening is refused none) at zero five six seven nine = seven opening (sym at ∙ is) refused none
only n before after status (out_of_memory is) at zero five six seven nine = nine (sym at ∙ is)

-- ---- the clauses

pub does_text : (words : List (List ℕ)) (handed : ℕ) (before after : Outside) (status : ℕ) (known : Option (List ℕ))
    → Does words handed before after status → before.source.left ≡ known
    → IfSome known (λ text. (messages : List Request) (ending : Ending) → Splits text messages ending → is_run words ≡ true
    → (is_fault status ≡ true)
    ⊎ RunsText (terms_with words handed) (pace_of words) messages ending status (seen_with words before) (seen_with words after))
does_text words handed before after status None ran is = tt
does_text words handed before after status (Some text) (inl runs) is =
    λ messages ending splits run. top_text words handed before after status (Some text) runs is messages ending splits
does_text words handed before after status (Some text) (inr c) is =
    λ messages ending splits run. absurd (false≢true (sym (not_run words c.command handed before after status c.does c.said) ∙ run))

pub does_complete : (words : List (List ℕ)) (handed : ℕ) (before after : Outside) (status : ℕ) (known : Option (List ℕ))
    → Does words handed before after status → before.source.left ≡ known
    → IfSome known (λ text. (messages : List Request) → Splits text messages ended → length messages < most_requests
    → (entries : List Entry) (s : State) → is_run words ≡ true → before.keeper.contents ≡ Some entries
    → opening_of entries ≡ opened s
    → ¬ (Rose before.source.failures after.source.failures) → ¬ (Rose before.sink.failures after.sink.failures)
    → ¬ (Rose before.keeper.failures after.keeper.failures) → (status ≡ 0) ⊎ (status ≡ 9))
does_complete words handed before after status None ran is = tt
does_complete words handed before after status (Some text) (inl runs) is = top_complete words handed before after status (Some text) runs is
does_complete words handed before after status (Some text) (inr c) is = λ messages splits few entries s run told opens reads writes keeps.
    absurd (false≢true (sym (not_run words c.command handed before after status c.does c.said) ∙ run))

pub does_cut : (words : List (List ℕ)) (handed : ℕ) (before after : Outside) (status : ℕ)
    → Does words handed before after status → status ≡ 2 → after.source.ended ≡ true
does_cut words handed before after status (inl runs) two = top_cut words handed before after status runs two
does_cut words handed before after status (inr c) two = only 2 before after status (cause_of c.command handed before after status c.does) two
    (λ e. let no : ⊥ = omega (arith, e) in absurd no) (λ e rose. let no : ⊥ = omega (arith, e) in absurd no)
    (λ e rose. let no : ⊥ = omega (arith, e) in absurd no) (λ o e r n. let no : ⊥ = omega (arith, e) in absurd no)
    (λ e. let no : ⊥ = omega (arith, e) in absurd no)

pub does_read_fault : (words : List (List ℕ)) (handed : ℕ) (before after : Outside) (status : ℕ)
    → Does words handed before after status → status ≡ 4 → Rose before.source.failures after.source.failures
does_read_fault words handed before after status (inl runs) four = top_read_fault words handed before after status runs four
does_read_fault words handed before after status (inr c) four = only 4 before after status (cause_of c.command handed before after status c.does) four
    (λ e. let no : ⊥ = omega (arith, e) in absurd no) (λ e rose. let no : ⊥ = omega (arith, e) in absurd no)
    (λ e rose. let no : ⊥ = omega (arith, e) in absurd no) (λ o e r n. let no : ⊥ = omega (arith, e) in absurd no)
    (λ e. let no : ⊥ = omega (arith, e) in absurd no)

pub does_write_fault : (words : List (List ℕ)) (handed : ℕ) (before after : Outside) (status : ℕ)
    → Does words handed before after status → status ≡ 5 → Rose before.sink.failures after.sink.failures
does_write_fault words handed before after status (inl runs) five = top_write_fault words handed before after status runs five
does_write_fault words handed before after status (inr c) five = only 5 before after status (cause_of c.command handed before after status c.does) five
    (λ e. let no : ⊥ = omega (arith, e) in absurd no) (λ e rose. rose)
    (λ e rose. let no : ⊥ = omega (arith, e) in absurd no) (λ o e r n. let no : ⊥ = omega (arith, e) in absurd no)
    (λ e. let no : ⊥ = omega (arith, e) in absurd no)

pub does_keeper_fault : (words : List (List ℕ)) (handed : ℕ) (before after : Outside) (status : ℕ)
    → Does words handed before after status → status ≡ 6 → Rose before.keeper.failures after.keeper.failures
does_keeper_fault words handed before after status (inl runs) six = top_keeper_fault words handed before after status runs six
does_keeper_fault words handed before after status (inr c) six = only 6 before after status (cause_of c.command handed before after status c.does) six
    (λ e. let no : ⊥ = omega (arith, e) in absurd no) (λ e rose. let no : ⊥ = omega (arith, e) in absurd no)
    (λ e rose. rose) (λ o e r n. let no : ⊥ = omega (arith, e) in absurd no)
    (λ e. let no : ⊥ = omega (arith, e) in absurd no)

pub does_words : (words : List (List ℕ)) (handed : ℕ) (before after : Outside) (status : ℕ)
    → Does words handed before after status → status ≡ 8 → words_of words ≡ None
does_words words handed before after status (inl runs) eight = top_words words handed before after status runs eight
does_words words handed before after status (inr c) eight = only 8 before after status (cause_of c.command handed before after status c.does) eight
    (λ e. let no : ⊥ = omega (arith, e) in absurd no) (λ e rose. let no : ⊥ = omega (arith, e) in absurd no)
    (λ e rose. let no : ⊥ = omega (arith, e) in absurd no) (λ o e r n. let no : ⊥ = omega (arith, e) in absurd no)
    (λ e. let no : ⊥ = omega (arith, e) in absurd no)

pub does_not_read : (words : List (List ℕ)) (handed : ℕ) (before after : Outside) (status : ℕ)
    → Does words handed before after status → words_of words ≡ None → (status ≡ 8) ⊎ (status ≡ 9)
does_not_read words handed before after status (inl runs) none = top_not_read words handed before after status runs none
does_not_read words handed before after status (inr c) none = absurd (no_command words c.command c.said none)

pub does_still : (words : List (List ℕ)) (handed : ℕ) (before after : Outside) (status : ℕ)
    → Does words handed before after status → IfSome (now_of words) (λ _. after.clock ≡ before.clock)
does_still words handed before after status (inl runs) = top_still words handed before after status runs
does_still words handed before after status (inr c) =
    subst (λ now. IfSome now (λ _. after.clock ≡ before.clock)) (sym (no_moment words c.command handed before after status c.does c.said)) tt

pub does_unopened : (words : List (List ℕ)) (handed : ℕ) (before after : Outside) (status : ℕ)
    → Does words handed before after status → status ≡ 7
    → (is_some (words_of words) ≡ true) × (after.keeper ≡ after_calls 1 before.keeper)
    × IfSome before.keeper.contents (λ entries. is_refused (opening_of entries) ≡ true)
does_unopened words handed before after status (inl runs) seven =
    let top = top_unopened words handed before after status runs seven in (run_is_read (words_of words) top.0, top.1, top.2)
does_unopened words handed before after status (inr c) seven = only 7 before after status (cause_of c.command handed before after status c.does) seven
    (λ e. let no : ⊥ = omega (arith, e) in absurd no) (λ e rose. let no : ⊥ = omega (arith, e) in absurd no)
    (λ e rose. let no : ⊥ = omega (arith, e) in absurd no)
    (λ opening e refused none. (
      ap is_some c.said,
      none.after,
      tells_refused before.keeper.contents opening refused (tells_opening opening before.keeper after.keeper none),
    ))
    (λ e. let no : ⊥ = omega (arith, e) in absurd no)

pub does_refused : (words : List (List ℕ)) (handed : ℕ) (before after : Outside) (status : ℕ) (known : Option (List Entry))
    → Does words handed before after status → before.keeper.contents ≡ known
    → IfSome known (λ entries. is_refused (opening_of entries) ≡ true → is_run words ≡ true
    → ¬ (Rose before.keeper.failures after.keeper.failures)
    → (after.sink.held ≡ before.sink.held) × ((status ≡ 7) ⊎ (status ≡ 9)))
does_refused words handed before after status None ran is = tt
does_refused words handed before after status (Some entries) (inl runs) is = top_refused words handed before after status (Some entries) runs is
does_refused words handed before after status (Some entries) (inr c) is = λ refused run keeps.
    absurd (false≢true (sym (not_run words c.command handed before after status c.does c.said) ∙ run))

-- ---- another command than a run, where nothing failed

-- words for which the program is ready are not those of a run
ready_no_run : (said : Option CommandWords) (keeper : Store) → IsReadyFor said keeper
    → is_some (option_and_then as_run said) ≡ false
ready_no_run None keeper ready = absurd ready
ready_no_run (Some (Run run)) keeper ready = absurd ready
ready_no_run (Some (Make seed count)) keeper ready = refl
ready_no_run (Some (Drill seed count)) keeper ready = refl
ready_no_run (Some Check) keeper ready = refl

-- entries that open to rows are not refused
opens_once : (opening : Opening) (keeper keeper' : Store) → OpensToRows keeper → is_refused opening ≡ true
    → OpensToNone opening keeper keeper' → ⊥
opens_once opening keeper keeper' rows refused none =
    let found : opening_of rows.entries ≡ opening = subst (λ known. IfSome known (λ es. opening_of es ≡ opening)) rows.told
    (tells_opening opening keeper keeper' none) in
    false≢true (ap is_refused (sym rows.opens ∙ found) ∙ refused)

-- all was done, or memory was refused, where no other cause can be
no_fault : (before after : Outside) (status : ℕ) → Cause status before after
    → ((opening : Opening) → is_refused opening ≡ true → OpensToNone opening before.keeper after.keeper → ⊥)
    → ¬ (Rose before.sink.failures after.sink.failures) → ¬ (Rose before.keeper.failures after.keeper.failures)
    → (status ≡ 0) ⊎ (status ≡ 9)
no_fault before after status (done is) opens writes keeps = inl is
no_fault before after status (unwritten is rose) opens writes keeps = absurd (writes rose)
no_fault before after status (unkept is rose) opens writes keeps = absurd (keeps rose)
no_fault before after status (unopened opening is refused none) opens writes keeps = absurd (opens opening refused none)
no_fault before after status (out_of_memory is) opens writes keeps = inr is

other_complete : (command : CommandWords) (handed : ℕ) (before after : Outside) (status : ℕ)
    → DoesOther command handed before after status → IsReadyFor (Some command) before.keeper
    → ¬ (Rose before.sink.failures after.sink.failures) → ¬ (Rose before.keeper.failures after.keeper.failures)
    → (status ≡ 0) ⊎ (status ≡ 9)
other_complete (Run run) handed before after status does ready writes keeps = absurd does
other_complete (Make seed count) handed before after status does ready writes keeps = by does.tells where
  by : Tells status (stream_of seed count) before.sink after.sink → (status ≡ 0) ⊎ (status ≡ 9)
  by (inl (is, takes)) = inl is
  by (inr (inl (is, breaks))) = absurd (writes breaks.rose)
  by (inr (inr (is, same))) = inr is
other_complete (Drill seed count) handed before after status does ready writes keeps =
    no_fault before after status (cause_of (Drill seed count) handed before after status does)
    (λ opening. opens_once opening before.keeper after.keeper ready) writes keeps
other_complete Check handed before after status does ready writes keeps =
    no_fault before after status (cause_of Check handed before after status does)
    (λ opening. opens_once opening before.keeper after.keeper ready) writes keeps

pub does_others : (words : List (List ℕ)) (handed : ℕ) (before after : Outside) (status : ℕ)
    → Does words handed before after status → IsReadyFor (words_of words) before.keeper
    → ¬ (Rose before.sink.failures after.sink.failures) → ¬ (Rose before.keeper.failures after.keeper.failures)
    → (status ≡ 0) ⊎ (status ≡ 9)
does_others words handed before after status (inl (inl ran)) ready writes keeps =
    absurd (false≢true (sym (ready_no_run (words_of words) before.keeper ready) ∙ ran.read))
does_others words handed before after status (inl (inr refused)) ready writes keeps =
    by refused.why refused.cause refused.status_is where
      no_run : {P : Type 0} → is_run words ≡ true → P
      no_run read = absurd (false≢true (sym (ready_no_run (words_of words) before.keeper ready) ∙ read))

      by : (why : StartFault) → HasCauseToRefuse why words before.keeper after.keeper → status ≡ start_status why
          → (status ≡ 0) ⊎ (status ≡ 9)
      by start.Words cause is = absurd (subst (λ said. IsReadyFor said before.keeper) cause.0 ready)
      by start.KeeperFailed cause is = no_run cause.0
      by start.Unopened cause is = no_run cause.0
      by start.NoMemory cause is = inr is
does_others words handed before after status (inr c) ready writes keeps =
    other_complete c.command handed before after status c.does
    (subst (λ said. IsReadyFor said before.keeper) c.said ready) writes keeps
