-- A run, from what it does once its words are read.
use Rattle.std.proofs.Common.{◌≡◌, ℕ, List, [], Bool, true, false, Some, None, refl, ap, sym, ◌∙◌, subst, inl, inr}
use Rattle.std.specs.Option.{is_some, option_and_then, option_map_or, unwrap_or}
use Rattle.http_front.specs.Clocks.{Readings, standing_still}
use Rattle.record_keeper.specs.Store.{Store}
use Rattle.row_machine.specs.opening.Opening.{damaged, broken}
use Rattle.start_faults.specs.core_rows.specs.Opening.{OpensTo, Refuses}
use Rattle.start_faults.specs.core_rows.specs.declared.opening.OpenFault.{OpenFault}
use Rattle.start_faults.specs.core_rows.specs.declared.opening.OpenFault.TheVariants as fault
use Rattle.serial_steps.specs.Steps.{Hosted, Serial}
use Rattle.rest_json.specs.declared.terms.Dialect.TheVariants.{Plain}
use Rattle.rest_json.specs.declared.terms.Terms.{Terms}
use Rattle.command_words.specs.declared.run_words.RunWords.{RunWords}
use Rattle.command_words.specs.RunWords.{as_run, boot_of, dialect_of, is_run, now_of, pace_of, words_of}
use Rattle.command_words.specs.declared.run_words.CommandWords.TheVariants.{Run}
use Rattle.command_words.specs.declared.run_words.Pace.{Pace}
use Rattle.command_words.specs.declared.run_words.Pace.TheVariants.{All}
use Rattle.serial_run.specs.Runs.{HasCauseToRefuse, IsUnread, Opened, Refused, Runs, RunsOver, Unopened, terms_with}
use Rattle.serial_run.specs.Inputs.{status_of}
use Rattle.start_faults.specs.Starts.{start_fault}
use Rattle.serial_run.specs.Runs.{SessionFrom, begun, clock_of}
use Rattle.serial_run.specs.declared.session.SessionEnd.{SessionEnd}
use Rattle.serial_run.specs.Worlds.{Inlet, Outlet, Outside, outside, session_world}
use Rattle.serial_run.proofs.Served.{session_still}

-- what was read is what the words say
pub record AreSaid (words : List (List ℕ)) (said : RunWords) : Type 0 where
  pub read : is_run words ≡ true
  pub now : said.now ≡ now_of words
  pub pace : said.pace ≡ pace_of words
  pub boot : said.boot ≡ boot_of words
  pub dialect : said.dialect ≡ dialect_of words

pub words_said : (words : List (List ℕ)) (said : RunWords) → words_of words ≡ Some (Run said) → AreSaid words said
words_said words said is = record {
  read = ap (λ o. is_some (option_and_then as_run o)) is;
  now = sym (ap (λ o. option_and_then (λ (run : RunWords). run.now) (option_and_then as_run o)) is);
  pace = sym (ap (λ o. option_map_or (λ (run : RunWords). run.pace) (option_and_then as_run o) All) is);
  boot = sym (ap (λ o. option_and_then (λ (run : RunWords). run.boot) (option_and_then as_run o)) is);
  dialect = sym (ap (λ o. option_map_or (λ (run : RunWords). run.dialect) (option_and_then as_run o) Plain) is);
}

-- the terms of a run of which this was read, with this boot word
abbrev terms_said : RunWords → ℕ → Terms
terms_said said word = record { boot = word; dialect = said.dialect; refuses_origin = false }

-- a run on the terms and at the pace that were read
pub as_said : (words : List (List ℕ)) (handed : ℕ) (said : RunWords) (word : ℕ) (before after : Outside) (status : ℕ)
    → AreSaid words said
    → word ≡ unwrap_or said.boot handed
    → RunsOver (terms_said said word) said.pace before after status
    → RunsOver (terms_with words handed) (pace_of words) before after status
as_said words handed said word before after status are is runs =
    subst (λ terms. RunsOver terms (pace_of words) before after status) same
    (subst (λ pace. RunsOver (terms_said said word) pace before after status) are.pace runs) where
      same : terms_said said word ≡ terms_with words handed
      same = λ i. record {
        boot = (is ∙ ap (λ said. unwrap_or said handed) are.boot) i;
        dialect = are.dialect i;
        refuses_origin = false;
      }

-- a refused opening is a cause for no session
has_cause : (why : OpenFault) (words : List (List ℕ)) (keeper keeper' : Store) → is_run words ≡ true
    → Refuses why keeper keeper' → HasCauseToRefuse (start_fault why) words keeper keeper'
has_cause fault.KeeperFailed words keeper keeper' read refuses = (read, refuses)
has_cause (fault.Damaged kind key) words keeper keeper' read refuses = (read, (damaged kind key, refl, refuses))
has_cause (fault.Broken rule kind key) words keeper keeper' read refuses = (read, (broken rule kind key, refl, refuses))
has_cause fault.NoMemory words keeper keeper' read refuses = inr (read, refuses)

-- rows that were not opened are a run without a session
not_opened : (words : List (List ℕ)) (source source' : Inlet) (sink sink' : Outlet) (keeper keeper' : Store)
    (host host' : Hosted) (told told' run run' : Readings) (status : ℕ)
    → is_run words ≡ true → told' ≡ told
    → Unopened (outside source sink keeper host run) (outside source' sink' keeper' host' run') status
    → Refused words (outside source sink keeper host told) (outside source' sink' keeper' host' told') status
not_opened words source source' sink sink' keeper keeper' host host' told told' run run' status read same un = record {
  why = start_fault un.why;
  cause = has_cause un.why words keeper keeper' read un.refuses;
  status_is = un.status_is;
  source = un.source;
  sink = un.sink;
  host = un.host;
  clock = same;
}

-- a run whose words say a moment, over a clock that stands still at it
pub runs_still : (words : List (List ℕ)) (handed : ℕ) (source source' : Inlet) (sink sink' : Outlet)
    (keeper keeper' : Store) (host host' : Hosted) (told run' : Readings) (moment status : ℕ)
    → is_run words ≡ true → now_of words ≡ Some moment
    → RunsOver (terms_with words handed) (pace_of words) (outside source sink keeper host (standing_still moment))
    (outside source' sink' keeper' host' run') status
    → Runs words handed (outside source sink keeper host told) (outside source' sink' keeper' host' told) status
runs_still words handed source source' sink sink' keeper keeper' host host' told run' moment status read now
    (inl opened) = inl (record {
      read = read;
      opened =
          subst (λ said. Opened (terms_with words handed) (pace_of words)
          (outside source sink keeper host (clock_of said told))
          (outside source' sink' keeper' host' (clock_of said told)) status)
          (sym now)
          (subst (λ run. Opened (terms_with words handed) (pace_of words)
          (outside source sink keeper host (standing_still moment))
          (outside source' sink' keeper' host' run) status) still opened);
      unread = subst (λ said. IsUnread said told told) (sym now) refl;
    }) where
      still : run' ≡ standing_still moment
      still = session_still (terms_with words handed) (pace_of words) moment _ _ opened.ends refl opened.follows.session
runs_still words handed source source' sink sink' keeper keeper' host host' told run' moment status read now (inr un) =
    inr (not_opened words source source' sink sink' keeper keeper' host host' told told
    (standing_still moment) run' status read refl un)

-- a run whose words say none, over the clock that is handed in
pub runs_by : (words : List (List ℕ)) (handed : ℕ) (source source' : Inlet) (sink sink' : Outlet)
    (keeper keeper' : Store) (host host' : Hosted) (told told' : Readings) (status : ℕ)
    → is_run words ≡ true → now_of words ≡ None
    → RunsOver (terms_with words handed) (pace_of words) (outside source sink keeper host told)
    (outside source' sink' keeper' host' told') status
    → Runs words handed (outside source sink keeper host told) (outside source' sink' keeper' host' told') status
runs_by words handed source source' sink sink' keeper keeper' host host' told told' status read now (inl opened) = inl
    (record {
      read = read;
      opened =
          subst (λ said. Opened (terms_with words handed) (pace_of words)
          (outside source sink keeper host (clock_of said told))
          (outside source' sink' keeper' host' (clock_of said told')) status)
          (sym now) opened;
      unread = subst (λ said. IsUnread said told told') (sym now) tt;
    })
runs_by words handed source source' sink sink' keeper keeper' host host' told told' status read now (inr un) = inr
    (record {
      why = start_fault un.why;
      cause = has_cause un.why words keeper keeper' read un.refuses;
      status_is = un.status_is;
      source = un.source;
      sink = un.sink;
      host = un.host;
      clock = un.clock;
    })

-- the rows that a keeper's entries open to, and a session from these on
pub opened_run : (terms : Terms) (pace : Pace) (before after : Outside) (keeper : Store) (s : Serial) (ends : SessionEnd) (status : ℕ)
    → OpensTo s.state before.keeper keeper → s.hand ≡ None
    → SessionFrom terms pace (session_world [] (record before { keeper = keeper }) s) after ends → status ≡ status_of ends
    → Opened terms pace before after status
opened_run terms pace before after keeper s ends status opens none follows is = record {
  entries = opens.entries;
  contents = opens.contents;
  state = s.state;
  opens = opens.opens;
  ends = ends;
  follows = subst (λ w. SessionFrom terms pace w after ends) same follows;
  status_is = is;
} where
  same : session_world [] (record before { keeper = keeper }) s ≡ begun opens.entries s.state before
  same = λ i. session_world [] (record before { keeper = opens.after i }) (record s { hand = none i })
