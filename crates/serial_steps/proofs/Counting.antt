-- What steps come to, one after the other.
use Rattle.std.proofs.Common.{◌≡◌, ◌<◌, ◌≤◌, ◌+◌, ℕ, List, [], ◌∷◌, map, Option, Some, None, refl, ap, sym, ◌∙◌, subst, arith}
use Rattle.std.proofs.lemmas.List.Elements.{All-cons, All-nil}
use Rattle.std.proofs.lemmas.List.Sums.{sum_by-cons}
use Rattle.std.specs.List.{cons_option}
use Rattle.size_values.specs.Causes.{RoseBy}
use Rattle.size_values.specs.Moments.{moment_limit}
use Rattle.host_model.specs.declared.call.HostCall.{HostCall}
use Rattle.host_model.specs.declared.report.Report.{Report}
use Rattle.host_model.specs.declared.report.Report.TheVariants as report
use Rattle.host_model.specs.declared.root.HostRoot.{HostRoot}
use Rattle.http_front.specs.Clocks.{Reads}
use Rattle.record_keeper.specs.Store.{Store}
use Rattle.row_machine.specs.machine.State.{State}
use Rattle.row_machine.specs.machine.Step.{Outcome, well, keeper_failed, no_memory}
use Rattle.core_turns.specs.core_reports.specs.Stores.{IsCaused, KeepsRecords}
use Rattle.serial_steps.specs.Steps.{Hosted, SerialWorld, Step, took, reported, Steps, StepsWhile, HasCause}
use Rattle.serial_steps.specs.Counts.{moment_of, moments_in, report_of, reports_in, failed_calls, host_failure, host_failures_in, failed_commits, keeper_failure, keeper_failures_in, roots_by, Makes, ComesTo, StepsComeTo}

-- ---- counts and readings

pub caused-later : (o : Outcome) (before now : ℕ) → IsCaused o before now → before ≤ now
caused-later well before now caused = omega (arith, caused)
caused-later (keeper_failed rise) before now caused = caused.2
caused-later no_memory before now caused = omega (arith, caused)

pub caused-rose : (o : Outcome) (before now : ℕ) → IsCaused o before now → RoseBy (failed_commits o) before now
caused-rose well before now caused = omega (arith, caused)
caused-rose (keeper_failed rise) before now caused = omega (arith, rise.rose, caused.0, caused.1)
caused-rose no_memory before now caused = omega (arith, caused)

-- a failed call is counted
cause-rose : (r : Report) (before now : ℕ) → HasCause r before now → before ≤ now → RoseBy (failed_calls r) before now
cause-rose report.Done before now cause later = omega (arith, later)
cause-rose (report.Failed rise) before now cause later = cause
cause-rose report.NoMemory before now cause later = omega (arith, later)

-- counts that rose one after the other rose by both
pub rose-twice : (m n a b c : ℕ) → RoseBy m a b → RoseBy n b c → RoseBy (m + n) a c
rose-twice m n a b c first then = omega (arith, first, then)

-- ---- of one step

-- what a step comes to
record Comes (w : SerialWorld) (s : Step) (w' : SerialWorld) : Type 0 where
  clock : Reads w.clock (moment_of s ∷ []) w'.clock
  early : moment_of s < moment_limit
  host : Makes (reports_in (s ∷ [])) w.host.roots w'.host.roots
  host_failed : RoseBy (host_failure s) w.host.failures w'.host.failures
  host_later : w.host.failures ≤ w'.host.failures
  keeper_failed : RoseBy (keeper_failure s) w.store.failures w'.store.failures
  keeper_later : w.store.failures ≤ w'.store.failures
  kept : KeepsRecords w.store.contents w.serial.state w'.store.contents w'.serial.state

comes : (w : SerialWorld) (s : Step) (w' : SerialWorld) → Steps w s w' → Comes w s w'
comes w (took moment) w' t =
    let same : w'.store ≡ w.store = t.turn.stored in
    record {
      clock = t.clock;
      early = t.early;
      host = record { made = []; reports_are = refl; roots_are = ap (λ (h : Hosted). h.roots) t.host };
      host_failed = omega (arith, ap (λ (h : Hosted). h.failures) t.host);
      host_later = omega (arith, ap (λ (h : Hosted). h.failures) t.host);
      keeper_failed = omega (arith, ap (λ (k : Store). k.failures) same);
      keeper_later = omega (arith, ap (λ (k : Store). k.failures) same);
      kept = t.kept;
    }
comes w (reported r moment outcome) w' t = record {
  clock = t.clock;
  early = t.early;
  host = record { made = (r, t.call) ∷ []; reports_are = refl; roots_are = t.roots };
  host_failed = cause-rose r w.host.failures w'.host.failures t.cause t.later;
  host_later = t.later;
  keeper_failed = caused-rose outcome w.store.failures w'.store.failures t.caused;
  keeper_later = caused-later outcome w.store.failures w'.store.failures t.caused;
  kept = t.kept;
}

-- ---- of several

-- calls are made by a step, if it makes one, and then by more
makes-more : (o : Option Report) (reports : List Report) (a b c : Option (List HostRoot)) → Makes (cons_option o []) a b → Makes reports b c → Makes (cons_option o reports) a c
makes-more None reports a b c first then = record {
  made = then.made;
  reports_are = then.reports_are;
  roots_are = then.roots_are ∙ ap (roots_by then.made) (none first.made first.reports_are first.roots_are);
} where
  none : (made : List (Report × HostCall)) → map (λ (m : Report × HostCall). m.0) made ≡ [] → b ≡ roots_by made a → b ≡ a
  none [] are is = is
  none (m ∷ more) are is = cc
makes-more (Some r) reports a b c first then = by first.made first.reports_are first.roots_are where
  by : (made : List (Report × HostCall)) → map (λ (m : Report × HostCall). m.0) made ≡ r ∷ [] → b ≡ roots_by made a → Makes (r ∷ reports) a c
  by [] are is = cc
  by (m ∷ []) are is = record {
    made = m ∷ then.made;
    reports_are = ap (λ x. x ∷ map (λ (n : Report × HostCall). n.0) then.made) (head are) ∙ ap (λ xs. r ∷ xs) then.reports_are;
    roots_are = then.roots_are ∙ ap (roots_by then.made) is;
  } where
    head : {x y : Report} {xs ys : List Report} → x ∷ xs ≡ y ∷ ys → x ≡ y
    head same = cc
  by (m ∷ n ∷ more) are is = cc

none-come : (w : SerialWorld) → ComesTo w [] w
none-come w = record {
  clock = refl;
  early = All-nil (λ m. m < moment_limit);
  host = record { made = []; reports_are = refl; roots_are = refl };
  host_failed = omega arith;
  host_later = omega arith;
  keeper_failed = omega arith;
  keeper_later = omega arith;
  kept = λ start is. is;
}

first-come : (w next w' : SerialWorld) (s : Step) (steps : List Step) → Comes w s next → ComesTo next steps w' → ComesTo w (s ∷ steps) w'
first-come w next w' s steps first then = record {
  clock = (first.clock.0, subst (λ told. Reads told (moments_in steps) w'.clock) first.clock.1 then.clock);
  early = All-cons (λ m. m < moment_limit) (moment_of s) (moments_in steps) first.early then.early;
  host = makes-more (report_of s) (reports_in steps) w.host.roots next.host.roots w'.host.roots first.host then.host;
  host_failed = subst (λ n. RoseBy n w.host.failures w'.host.failures) (sym (sum_by-cons host_failure s steps))
      (rose-twice (host_failure s) (host_failures_in steps) w.host.failures next.host.failures w'.host.failures first.host_failed then.host_failed);
  host_later = omega (arith, first.host_later, then.host_later);
  keeper_failed = subst (λ n. RoseBy n w.store.failures w'.store.failures) (sym (sum_by-cons keeper_failure s steps))
      (rose-twice (keeper_failure s) (keeper_failures_in steps) w.store.failures next.store.failures w'.store.failures first.keeper_failed then.keeper_failed);
  keeper_later = omega (arith, first.keeper_later, then.keeper_later);
  kept = λ start is. then.kept start (first.kept start is);
}

pub steps-come_to : (such : State → Type 0) (w : SerialWorld) (steps : List Step) (w' : SerialWorld) → StepsWhile such w steps w' → ComesTo w steps w'
steps-come_to such w [] w' same = subst (ComesTo w []) same (none-come w)
steps-come_to such w (s ∷ steps) w' made = first-come w made.1 w' s steps (comes w s made.1 made.2) (steps-come_to such made.1 steps w' made.3)

pub all-come_to : StepsComeTo
all-come_to w steps w' made = steps-come_to (λ s. Unit {0}) w steps w' made
