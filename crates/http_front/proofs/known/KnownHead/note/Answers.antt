use Rattle.std.proofs.Common.{◌++◌, not, ap, ◌∙◌}
use Rattle.http_front.proofs.KnownLemmas.{known-noted}
use Rattle.http_front.proofs.known.KnownHead.note.Goals as goal

pub invariant_of-self-then-is_none-2 : goal.invariant_of-self-then-is_none-2
invariant_of-self-then-is_none-2 c =
    known-noted _ c.args.bytes.now c.args.head.now _
    (c.in_ok-extend_from_slice.ensures.items ∙ ap (λ l. l ++ c.args.bytes.now) c.clear.ensures.items)
    c.requires.ends c.requires.says c.if-head-eq0.true c.if-not-head.true (c.is_none.ensures ∙ ap not c.if-is_none.true)
    c.if-not-head-2.true (c.is_none-then-not-head-2.ensures ∙ ap not c.if-is_none-2.true)
    (c.in_ok-set.ensures.ok ∙ c.view.ensures.value) (c.in_ok-set-2.ensures.ok ∙ c.view-then-is_none-2.ensures.value)
