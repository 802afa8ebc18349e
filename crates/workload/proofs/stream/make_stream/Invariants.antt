use Rattle.std.proofs.Common.{◌≡◌}
use Rattle.workload.specs.Stream.{number_of, stream_of}
use Rattle.workload.proofs.stream.make_stream.Given as goal

abbrev pub invariant-loop-made : goal.invariant-loop-made
invariant-loop-made l = record {
  number : l.number ≡ number_of l.seed l.made;
  stream : l.stream.items ≡ stream_of l.seed l.made;
}
