use Rattle.std.proofs.Common.{◌≤◌, ◌<◌, ◌+◌, ◌-◌, ap, subst, ◌∙◌}
use Rattle.row_codec.specs.Sizes.{capped}
use Rattle.row_codec.proofs.Sums.{capped-over, capped-sum}
use Rattle.row_codec.proofs.sizes.add_capped.Goals as goal

pub returns-then-a-b : goal.returns-then-a-b
returns-then-a-b c m n a b =
    capped-over m n (subst (λ x. 18446744073709551615 - capped n < x) a (subst (λ x. 18446744073709551615 - x < c.args.a) b c.if-a-b.true))

pub returns-else-a-b : goal.returns-else-a-b
returns-else-a-b c m n a b =
    ap (λ x. x + c.args.b) a ∙ ap (λ x. capped m + x) b
    ∙ capped-sum m n (subst (λ x. x ≤ 18446744073709551615 - capped n) a (subst (λ x. c.args.a ≤ 18446744073709551615 - x) b c.if-a-b.false))
