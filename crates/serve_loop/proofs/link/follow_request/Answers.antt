use Rattle.std.proofs.Common.{◌∙◌, inl, inr, sym}
use Rattle.serve_loop.proofs.link.follow_request.Goals as goal

pub returns-then-is_barred : goal.returns-then-is_barred
returns-then-is_barred g c = inr (sym c.is_barred.ensures ∙ c.if-is_barred.true, c.refuse.ensures _ _)

pub returns-else-is_barred : goal.returns-else-is_barred
returns-else-is_barred g c = inl (sym c.is_barred.ensures ∙ c.if-is_barred.false, c.serve_request.ensures)
