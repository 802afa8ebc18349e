use Rattle.std.proofs.Common.{◌≡◌, vec_len, reverse}
use Rattle.filter_texts.specs.Reading.{ended}
use Rattle.filter_texts.proofs.reader.Reader.end_factor.Given as goal

-- what is left to take ends as it did at first
abbrev pub invariant-loop-step : goal.invariant-loop-step
invariant-loop-step l = ended (reverse l.self.frames.items) l.self.steps.items ≡ ended (reverse l.fn.self.frames.items) l.fn.self.steps.items

abbrev pub decreases-loop-step : goal.decreases-loop-step
decreases-loop-step l = vec_len l.self.frames
