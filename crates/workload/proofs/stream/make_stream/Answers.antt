use Rattle.std.proofs.Common.{◌+◌, ◌++◌, refl, sym, ◌∙◌, ap}
use Rattle.workload.specs.Stream.{following, creation}
use Rattle.workload.proofs.Growth.{number_of-more, stream_of-none, stream_of-more}
use Rattle.workload.proofs.stream.make_stream.Goals as goal

pub loop-made-init : goal.loop-made-init
loop-made-init c = record { number = refl; stream = c.in_ok-stream.ensures ∙ sym (stream_of-none c.args.seed) }

pub loop-made-preserved : goal.loop-made-preserved
loop-made-preserved c =
    let number = c.following-number.ensures ∙ ap following c.loop-made.invariant.number ∙ sym (number_of-more c.args.seed c.loop-made.made) in
    record {
      number = number;
      stream = c.in_ok-push_creation.ensures
          ∙ (λ i. c.loop-made.invariant.stream i ++ creation (c.loop-made.made + 1) (number i))
          ∙ sym (stream_of-more c.args.seed c.loop-made.made);
    }
