use Rattle.std.proofs.Common.{◌≡◌, ◌≤◌, length, min, ap, ◌∙◌, arith, length-take}
use Rattle.std.proofs.lemmas.Result.{IfOk-weaker}
use Rattle.http_heads.specs.Limits.{max_head}
use Rattle.http_front.proofs.read.head_in.Goals as goal

pub returns-clause-within : goal.returns-clause-within
returns-clause-within c =
    let front : length c.front_of.result.now ≡ min max_head (length c.args.bytes.now) =
    ap length c.front_of.ensures ∙ length-take max_head c.args.bytes.now in
    IfOk-weaker c.end_of_head.result (λ n. n ≤ length c.front_of.result.now) (λ n. n ≤ length c.args.bytes.now)
    (λ n h. omega arith) c.end_of_head.ensures.within

pub returns-clause-few : goal.returns-clause-few
returns-clause-few c =
    let front : length c.front_of.result.now ≡ min max_head (length c.args.bytes.now) =
    ap length c.front_of.ensures ∙ length-take max_head c.args.bytes.now in
    IfOk-weaker c.end_of_head.result (λ n. n ≤ length c.front_of.result.now) (λ n. n ≤ max_head)
    (λ n h. omega arith) c.end_of_head.ensures.within
