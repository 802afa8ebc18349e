use Rattle.std.proofs.Common.{◌∙◌, inl, inr, refl, sym}
use Rattle.serve_loop.proofs.link.subscribe.Goals as goal

pub returns-then-is_refusal : goal.returns-then-is_refusal
returns-then-is_refusal g c = (
  c.look_for-reply.result,
  c.look_for-reply.ensures,
  inl (sym c.is_refusal.ensures ∙ c.if-is_refusal.true, c.write_reply.ensures),
)

pub returns-else-is_refusal : goal.returns-else-is_refusal
returns-else-is_refusal g c = (
  c.look_for-reply.result,
  c.look_for-reply.ensures,
  inr (sym c.is_refusal.ensures ∙ c.if-is_refusal.false, refl, refl),
)
