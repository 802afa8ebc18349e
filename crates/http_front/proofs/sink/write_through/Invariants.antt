use Rattle.std.specs.Prelude.{◌≤◌, length, take}
use Rattle.std.specs.Io.KnownBytes.{Appends}
use Rattle.http_front.proofs.sink.write_through.Given as goal

-- the writes so far took the bytes before this place
abbrev pub invariant-loop : goal.invariant-loop
invariant-loop g l = (l.done ≤ length l.fn.bytes) × Appends (g.W.Write.contents l.fn.writer) (g.W.Write.contents l.writer) (take l.done l.fn.bytes)
