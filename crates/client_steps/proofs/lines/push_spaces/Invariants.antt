use Rattle.std.proofs.Common.{◌≡◌, ◌++◌}
use Rattle.std.specs.Prelude.{replicate, string_bytes}
use Rattle.std.specs.Str.{byte}
use Rattle.client_steps.proofs.lines.push_spaces.Given as goal

-- the spaces so far
abbrev pub invariant-loop-space : goal.invariant-loop-space
invariant-loop-space l = string_bytes l.text ≡ string_bytes l.initial.text ++ replicate l._space (byte " ")
