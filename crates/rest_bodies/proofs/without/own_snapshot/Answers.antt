use Rattle.std.proofs.Common.{None, arith, refl}
use Rattle.std.proofs.lemmas.Str.Pattern.{split_parts}
use Rattle.rest_bodies.proofs.Slashes.{lacks_slash}
use Rattle.rest_bodies.specs.Without.{own_snapshot}
use Rattle.rest_bodies.proofs.without.own_snapshot.Goals as goal

pub returns-in-None : goal.returns-in-None
unfolding own_snapshot
returns-in-None c =
    let parts = split_parts 47 c.args.text.now None c.in-None.ensures.cases (omega arith) in
    rw (lacks_slash c.args.text.now parts) refl
