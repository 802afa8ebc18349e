use Rattle.std.proofs.Common.{◌≡◌, ℕ, ◌≤◌, true, false, map}
use Rattle.std.specs.Prelude.{is_some}
use Rattle.std.specs.List.{list_all, list_any}
use Rattle.schedule_texts.specs.Numbers.{has}
use Rattle.schedule_texts.specs.Parts.{part_of, is_named}
use Rattle.schedule_texts.proofs.fields.numbers_in.Given as goal

-- the parts so far are parts, and their numbers are there
abbrev pub invariant-loop-part : goal.invariant-loop-part
invariant-loop-part l =
    let parts = map (λ part. part_of l.least l.most part.now) l.yielded in
    record {
      all : list_all is_some parts ≡ true;
      named : (n : ℕ) → has l.numbers n ≡ list_any (is_named n) parts;
      few : (n : ℕ) → 60 ≤ n → has l.numbers n ≡ false;
    }
