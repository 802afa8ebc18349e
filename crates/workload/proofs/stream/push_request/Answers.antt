use Rattle.std.proofs.Common.{append_assoc, ◌∙◌, ap, ◌++◌}
use Rattle.workload.proofs.stream.push_request.Goals as goal

pub returns : goal.returns
returns c =
    let head = c.as_bytes.ensures.value ∙ c.in_ok-head.ensures.ok in
    c.in_ok-extend_from_slice-2.ensures.items
    ∙ ap (λ xs. xs ++ c.as_bytes-2.result.now) c.in_ok-extend_from_slice.ensures.items
    ∙ (λ i. (c.args.stream.now.items ++ head i) ++ c.as_bytes-2.ensures.value i)
    ∙ simp append_assoc
