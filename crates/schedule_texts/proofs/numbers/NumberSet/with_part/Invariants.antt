use Rattle.std.proofs.Common.{◌≡◌, ℕ, ◌&&◌, ◌||◌, nat_lt}
use Rattle.schedule_texts.specs.Numbers.{has}
use Rattle.schedule_texts.specs.Parts.{part_has}
use Rattle.schedule_texts.proofs.numbers.NumberSet.with_part.Given as goal

-- the numbers of the part that lie below the next one are there
abbrev pub invariant-loop-number : goal.invariant-loop-number
invariant-loop-number l = (n : ℕ) → has l.numbers n ≡ (has l.fn.self n || (nat_lt n l.number && part_has n l.part))
