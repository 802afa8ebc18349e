use Rattle.std.specs.Prelude.{◌≡◌, length, map, string_bytes}
use Rattle.command_words.specs.Commands.{has_dashes}
use Rattle.command_words.proofs.reading.has_dashes.Given as goal

-- the words that are left decide
abbrev pub invariant-loop-left : goal.invariant-loop-left
invariant-loop-left l =
    has_dashes (map (λ w. string_bytes w) l.left) ≡ has_dashes (map (λ w. string_bytes w) l.words)

abbrev pub decreases-loop-left : goal.decreases-loop-left
decreases-loop-left l = length l.left
