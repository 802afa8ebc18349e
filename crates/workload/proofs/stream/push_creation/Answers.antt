use Rattle.std.proofs.Common.{◌≡◌, ◌++◌, ◌∙◌, codes, subst}
use Rattle.std.specs.Result.{IfOk}
use Rattle.workload.specs.Stream.{request, creation}
use Rattle.workload.proofs.stream.push_creation.Goals as goal

pub returns : goal.returns
unfolding creation
returns c =
    let body = c.as_str.ensures.value ∙ c.in_ok-body.ensures in
    subst (λ b. IfOk c.push_request.result (λ x. c.push_request.new.stream.items ≡ c.args.stream.now.items ++ request (codes "POST /1.0/instances?project=lab") b)) body c.push_request.ensures
