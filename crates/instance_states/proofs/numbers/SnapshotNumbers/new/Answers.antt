use Rattle.std.proofs.Common.{◌∷◌, None, sym, ap, ◌∙◌}
use Rattle.instance_states.proofs.Cut.{uncut, cut-at}
use Rattle.instance_states.proofs.numbers.SnapshotNumbers.new.Goals as goal

pub returns-in-Some : goal.returns-in-Some
returns-in-Some c =
    let pattern = c.args.pattern.now in
    let at = c.in-Some.ensures.cases in
    let found = cut-at pattern at.0 c.in-Some.after.now at.2.0 (at.2.1.split ∙ ap (λ ys. 37 ∷ 100 ∷ ys) (sym at.4)) in
    λ i. record { before = (at.3 ∙ sym found.0) i; after = sym found.1 i; greatest = None }

pub returns-in-None : goal.returns-in-None
returns-in-None c =
    let found = uncut c.args.pattern.now c.in-None.ensures.cases in
    λ i. record { before = sym found.0 i; after = sym found.1 i; greatest = None }
