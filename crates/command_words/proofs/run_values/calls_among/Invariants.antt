use Rattle.std.specs.Prelude.{◌≡◌, map}
use Rattle.std.specs.List.{filter_map}
use Rattle.command_words.specs.Values.{call_number_said}
use Rattle.command_words.proofs.run_values.calls_among.Given as goal

-- the numbers of the parts so far
abbrev pub invariant-loop-part : goal.invariant-loop-part
invariant-loop-part l = l.calls.items ≡ filter_map call_number_said (map (λ part. part.now) l.yielded)
