-- What the way from one moment of the server to a later one tells: its readings, and the counts of failures.
use Rattle.std.proofs.Common.{◌≡◌, ◌<◌, ◌≤◌, ◌+◌, ◌++◌, ℕ, List, [], ◌∷◌, Option, Some, None, Result, IfSome, refl, sym}
use Rattle.std.proofs.Common.{ap, subst, arith}
use Rattle.std.proofs.lemmas.List.Elements.{All-cons, All-nil, All-append}
use Rattle.std.proofs.lemmas.List.Sums.{sum_by-cons}
use Rattle.std.specs.List.{All}
use Rattle.std.specs.Option.{option_to_list}
use Rattle.size_values.specs.Causes.{RoseBy}
use Rattle.size_values.specs.Moments.{moment_limit}
use Rattle.http_front.specs.Clocks.{Readings, Reads, after_next}
use Rattle.records.specs.declared.commands.Command.{Command}
use Rattle.records.specs.declared.replies.Reply.{Reply}
use Rattle.row_machine.specs.declared.events.Answer.{Answer}
use Rattle.row_machine.specs.machine.State.{State}
use Rattle.row_machine.specs.machine.Step.{Outcome}
use Rattle.rest_json.specs.declared.terms.Terms.{Terms}
use Rattle.start_faults.specs.core_reports.specs.Stores.{KeepsRecords}
use Rattle.serial_steps.specs.Steps.{SerialWorld, Step, StepsTo, StepsWhile}
use Rattle.serial_steps.specs.Counts.{ComesTo, failed_commits, moments_in, keeper_failures_in, host_failures_in}
use Rattle.serial_steps.proofs.Counting.{all-come_to, caused-later, caused-rose}
use Rattle.command_words.specs.declared.run_words.Pace.{Pace}
use Rattle.command_words.specs.declared.run_words.Pace.TheVariants as pace
use Rattle.rest_routes.specs.Commands.{command_of}
use Rattle.serial_run.specs.Exchanges.{Carries, Comes, Exchange, Held, HeldBack, IsAnswered, IsPaced, Leads}
use Rattle.serial_run.specs.Exchanges.{held_host_failures, held_keeper_failures, held_moments, host_failures_at}
use Rattle.serial_run.specs.Exchanges.{host_failures_of, keeper_failures_at, keeper_failures_of, moments_at}
use Rattle.serial_run.specs.Exchanges.{moments_of}

-- The clock was read for these moments, in their order and before the year 10000; entries that were the records of the
-- rows are so afterwards; and the counts of the keeper and of the host rose at least so often, and never fell.
pub record IsAlong (w : SerialWorld) (moments : List ℕ) (keeper host : ℕ) (w' : SerialWorld) : Type 0 where
  pub clock : Reads w.clock moments w'.clock
  pub early : All (λ m. m < moment_limit) moments
  pub kept : KeepsRecords w.store.contents w.serial.state w'.store.contents w'.serial.state
  pub keeper_failed : RoseBy keeper w.store.failures w'.store.failures
  pub keeper_later : w.store.failures ≤ w'.store.failures
  pub host_failed : RoseBy host w.host.failures w'.host.failures
  pub host_later : w.host.failures ≤ w'.host.failures

-- ---- clocks

-- it was read, and then read again
pub reads_twice : (a b c : Readings) (xs ys : List ℕ) → Reads a xs b → Reads b ys c → Reads a (xs ++ ys) c
reads_twice a b c [] ys same then = subst (λ told. Reads told ys c) same then
reads_twice a b c (x ∷ xs) ys first then = (first.0, reads_twice (after_next a) b c xs ys first.1 then)

-- a moment before the year 10000, if there is one
early_at : (at : Option ℕ) → IfSome at (λ m. m < moment_limit) → All (λ m. m < moment_limit) (option_to_list at)
early_at None early = All-nil (λ m. m < moment_limit)
early_at (Some m) early = All-cons (λ m. m < moment_limit) m [] early (All-nil (λ m. m < moment_limit))

-- ---- the parts of a way

pub along_none : (w : SerialWorld) → IsAlong w [] 0 0 w
along_none w = record {
  clock = refl;
  early = All-nil (λ m. m < moment_limit);
  kept = λ start is. is;
  keeper_failed = omega arith;
  keeper_later = omega arith;
  host_failed = omega arith;
  host_later = omega arith;
}

-- one way, and then another
pub along_twice : {a b c : SerialWorld} {xs ys : List ℕ} {j k m n : ℕ} → IsAlong a xs j m b → IsAlong b ys k n c
    → IsAlong a (xs ++ ys) (j + k) (m + n) c
along_twice {a} {b} {c} {xs} {ys} {j} {k} {m} {n} first then = record {
  clock = reads_twice a.clock b.clock c.clock xs ys first.clock then.clock;
  early = All-append (λ m. m < moment_limit) xs ys first.early then.early;
  kept = λ start is. then.kept start (first.kept start is);
  keeper_failed = rose_twice _ _ _ j k first.keeper_failed then.keeper_failed;
  keeper_later = later_twice _ _ _ first.keeper_later then.keeper_later;
  host_failed = rose_twice _ _ _ m n first.host_failed then.host_failed;
  host_later = later_twice _ _ _ first.host_later then.host_later;
} where
  rose_twice : (before now after p q : ℕ) → RoseBy p before now → RoseBy q now after → RoseBy (p + q) before after
  rose_twice before now after p q first then = omega arith

  later_twice : (before now after : ℕ) → before ≤ now → now ≤ after → before ≤ after
  later_twice before now after first then = omega arith

-- what was asked for at one moment
along_carries : {w w' : SerialWorld} {asked : Result Command Reply} {moment : Option ℕ} {outcome : Outcome} {a : Answer}
    → Carries w asked moment outcome a w' → IsAlong w (option_to_list moment) (failed_commits outcome) 0 w'
along_carries {w} {w'} {asked} {moment} {outcome} {a} h = record {
  clock = h.clock.read;
  early = early_at moment h.clock.early;
  kept = h.kept;
  keeper_failed = caused-rose outcome w.store.failures w'.store.failures h.caused;
  keeper_later = caused-later outcome w.store.failures w'.store.failures h.caused;
  host_failed = rose_not w.host.failures w'.host.failures (ap (λ x. x.failures) h.host);
  host_later = falls_not w.host.failures w'.host.failures (ap (λ x. x.failures) h.host);
} where
  rose_not : (before now : ℕ) → now ≡ before → RoseBy 0 before now
  rose_not before now same = omega arith

  falls_not : (before now : ℕ) → now ≡ before → before ≤ now
  falls_not before now same = omega arith

-- steps
along_comes : {w w' : SerialWorld} {steps : List Step} → ComesTo w steps w'
    → IsAlong w (moments_in steps) (keeper_failures_in steps) (host_failures_in steps) w'
along_comes {w} {w'} {steps} h = record {
  clock = h.clock;
  early = h.early;
  kept = h.kept;
  keeper_failed = h.keeper_failed;
  keeper_later = h.keeper_later;
  host_failed = h.host_failed;
  host_later = h.host_later;
}

along_steps : (w w' : SerialWorld) (steps : List Step) → StepsTo w steps w'
    → IsAlong w (moments_in steps) (keeper_failures_in steps) (host_failures_in steps) w'
along_steps w w' steps h = along_comes (all-come_to w steps w' h)

-- steps that were made for a reason are steps
pub anyhow : (such : State → Type 0) (w w' : SerialWorld) (steps : List Step) → StepsWhile such w steps w' → StepsTo w steps w'
anyhow such w w' [] same = same
anyhow such w w' (s ∷ steps) h = (tt, h.1, h.2, anyhow such h.1 w' steps h.3)

-- the steps of a pace
along_paced : (p : Pace) (w w' : SerialWorld) (steps : List Step) → IsPaced p w steps w'
    → IsAlong w (moments_in steps) (keeper_failures_in steps) (host_failures_in steps) w'
along_paced (pace.Steps count) w w' steps h = along_steps w w' steps (anyhow _ w w' steps h.made)
along_paced pace.All w w' steps h = along_steps w w' steps (anyhow _ w w' steps h.0.made)

-- a command whose answer was held back
along_held : {w w' : SerialWorld} {asked : Result Command Reply} {moment : Option ℕ} {outcome : Outcome} {h : Held} {r : Reply} → HeldBack w asked moment outcome h r w'
    → IsAlong w (option_to_list moment ++ held_moments (Some h))
    (failed_commits outcome + held_keeper_failures (Some h)) (held_host_failures (Some h)) w'
along_held {w} {w'} {asked} {moment} {outcome} {h} {r} held =
    subst (λ n. IsAlong w (option_to_list moment ++ held_moments (Some h))
    (failed_commits outcome + held_keeper_failures (Some h)) n w') (plain (host_failures_in h.steps))
    (along_twice (along_carries held.holds)
    (along_twice (along_steps held.waiting held.ended h.steps
    (anyhow _ held.waiting held.ended h.steps held.waits.made)) (along_carries held.shows))) where
      plain : (n : ℕ) → 0 + (n + 0) ≡ n
      plain n = omega arith

-- what was asked for, at once or after its answer was held back
along_answered : (w w' : SerialWorld) (asked : Result Command Reply) (moment : Option ℕ) (outcome : Outcome)
    (held : Option Held) (r : Reply) → IsAnswered w asked moment outcome held r w'
    → IsAlong w (option_to_list moment ++ held_moments held) (failed_commits outcome + held_keeper_failures held)
    (held_host_failures held) w'
along_answered w w' asked moment outcome None r h = along_twice (along_carries h) (along_none w')
along_answered w w' asked moment outcome (Some held) r h = along_held h

-- ---- exchanges

pub along_reply : (terms : Terms) (w w' : SerialWorld) (e : Exchange) → Comes terms w e w'
    → IsAlong w (option_to_list e.moment ++ held_moments e.held)
    (failed_commits e.outcome + held_keeper_failures e.held) (held_host_failures e.held) w'
along_reply terms w w' e h = along_answered w w' (command_of e.request terms) e.moment e.outcome e.held e.reply h

pub along_leads : {terms : Terms} {follows : Pace} {w w' : SerialWorld} {e : Exchange} → Leads terms follows w e w'
    → IsAlong w (moments_at e) (keeper_failures_at e) (host_failures_at e) w'
along_leads {terms} {follows} {w} {w'} {e} h =
    along_twice (along_reply terms w h.replied e h.comes) (along_paced follows h.replied w' e.steps h.paced)

-- an exchange, and then more of them
pub along_more : {w v w' : SerialWorld} (e : Exchange) (more : List Exchange)
    → IsAlong w (moments_at e) (keeper_failures_at e) (host_failures_at e) v
    → IsAlong v (moments_of more) (keeper_failures_of more) (host_failures_of more) w'
    → IsAlong w (moments_of (e ∷ more)) (keeper_failures_of (e ∷ more)) (host_failures_of (e ∷ more)) w'
along_more {w} {v} {w'} e more first then =
    subst (λ k. IsAlong w (moments_of (e ∷ more)) k (host_failures_of (e ∷ more)) w')
    (sym (sum_by-cons keeper_failures_at e more))
    (subst (λ n. IsAlong w (moments_of (e ∷ more)) (keeper_failures_at e + keeper_failures_of more) n w')
    (sym (sum_by-cons host_failures_at e more))
    (along_twice first then))
