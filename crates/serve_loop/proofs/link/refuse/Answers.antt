use Rattle.std.proofs.Common.{ap, refl}
use Rattle.serve_loop.specs.declared.link.Turn.TheVariants as turn
use Rattle.serve_loop.proofs.link.refuse.Goals as goal

pub returns : goal.returns
returns g c = λ gate clock. (
  c.write_refusal-written.result,
  ap turn.Stop c.end_after.ensures,
  c.write_refusal-written.ensures,
  refl,
  refl,
)
