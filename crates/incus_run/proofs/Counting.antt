-- Each command counts once.
use Rattle.std.proofs.Common.{◌≡◌, ◌≤◌, ℕ, zero, suc, ◌+◌, ◌-◌, ◌^◌, List, [], ◌∷◌, length, Option, Some, None, refl, sym, ◌∙◌, ap, add-zero, arith}
use Rattle.std.proofs.Math.Nat.{min-eq_left}
use Rattle.incus_run.specs.declared.counts.Counts.{Counts}
use Rattle.incus_run.specs.declared.counts.Last.TheVariants.{Reading, Report}
use Rattle.incus_run.specs.Counts.{after_call, after_calls, after_command, after_commands, after_reading, no_counts}

abbrev most : ℕ
most = 2 ^ 64 - 1

abbrev at_reading : ℕ → Counts
at_reading n = record { answered = n; last = Reading }

abbrev at_report : ℕ → Counts
at_report n = record { answered = n; last = Report }

-- however many calls there are, they count for nothing
calls-count_nothing : (more : ℕ) (c : Counts) → after_calls (suc more) c ≡ at_report c.answered
calls-count_nothing zero c = refl
calls-count_nothing (suc more) c = calls-count_nothing more (after_reading (after_call c))

-- a reading that follows another one
reading-again : (n : ℕ) → n + 1 ≤ most → after_reading (at_reading n) ≡ at_reading (n + 1)
reading-again n room = ap (λ k. at_reading k) (min-eq_left room)

-- where so many commands are answered at the next reading, one more is answered at the reading after one more command
command-counts : (command : Option ℕ) (n : ℕ) (c : Counts) → n + 1 ≤ most → after_reading c ≡ at_reading n
    → after_reading (after_command command c) ≡ at_reading (n + 1)
command-counts None n c room stands = ap after_reading stands ∙ reading-again n room
command-counts (Some more) n c room stands =
    let asked : after_reading (after_reading c) ≡ at_reading (n + 1) = ap after_reading stands ∙ reading-again n room in
    ap after_reading (calls-count_nothing more (after_reading (after_reading c)))
    ∙ ap (λ d. at_reading (d.answered)) asked

commands-count : (commands : List (Option ℕ)) (n : ℕ) (c : Counts) → n + length commands ≤ most
    → after_reading c ≡ at_reading n → (after_reading (after_commands commands c)).answered ≡ n + length commands
commands-count [] n c room stands = ap (λ d. d.answered) stands ∙ sym (add-zero n)
commands-count (command ∷ commands) n c room stands =
    let counted : after_reading (after_command command c) ≡ at_reading (n + 1) =
    command-counts command n c (omega arith) stands in
    commands-count commands (n + 1) (after_command command c) (omega arith) counted ∙ omega arith

pub each-counts : (commands : List (Option ℕ)) → length commands ≤ 2 ^ 64 - 1
    → (after_reading (after_commands commands no_counts)).answered ≡ length commands
each-counts commands room = commands-count commands 0 no_counts (omega arith) refl ∙ omega arith
