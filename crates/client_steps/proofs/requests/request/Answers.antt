use Rattle.std.proofs.Common.{append_assoc, ap, ◌++◌, ◌∙◌}
use Rattle.std.proofs.lemmas.Result.{IfOk-weaker}
use Rattle.client_steps.proofs.requests.request.Goals as goal

pub returns : goal.returns
returns c =
    let head = c.as_str.ensures.value ∙ c.in_ok-head.ensures.ok in
    IfOk-weaker c.joined.result _ _ (λ text is. is ∙ ap (λ xs. xs ++ c.args.body.now) head ∙ simp append_assoc)
    c.joined.ensures
