use Rattle.std.proofs.Common.{[], arith}
use Rattle.serve_loop.proofs.Linking.{link_few, none_serves}
use Rattle.serve_loop.proofs.link.serve_from_empty.Goals as goal

pub returns-in_default : goal.returns-in_default
returns-in_default g c = record { held = []; few = omega arith; serving = none_serves _ _ }

pub returns-in_default-new : goal.returns-in_default-new
returns-in_default-new g c = record { held = []; few = omega arith; serving = none_serves _ _ }

pub returns : goal.returns
returns g c =
    let serving = rw c.in-Ok-new.ensures at c.serve-ends.ensures in
    record {
      held = c.serve-ends.new.buffer;
      few = link_few c.args.terms _ _ _ (omega arith) serving;
      serving = serving;
    }
