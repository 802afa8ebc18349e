use Rattle.std.proofs.Common.{inl, inr, refl, sym, ◌∙◌}
use Rattle.serve_loop.proofs.link.serve_request.Goals as goal

pub returns-in-Ok-None : goal.returns-in-Ok-None
returns-in-Ok-None g c = inl (sym c.in-Ok-None.ensures ∙ c.in-Ok-None.field-0-is, c.answer_request.ensures)

pub returns-in-Ok-Some : goal.returns-in-Ok-Some
returns-in-Ok-Some g c = inr (inl (
  c.in-Ok-Some.wanted,
  sym c.in-Ok-Some.ensures ∙ c.in-Ok-Some.field-0-is,
  c.subscribe.ensures,
))

pub returns-in-Err : goal.returns-in-Err
returns-in-Err g c = inr (inr (refl, record { sink_is = refl; gate_is = refl; clock_is = refl }))
