use Rattle.std.proofs.Common.{Ok, refl, ap, sym, ◌∙◌}
use Rattle.serve_loop.specs.ClientFrames.{next_from, refusal}
use Rattle.serve_loop.proofs.SessionParts.{answered_goes, refusal_after, refusal_rest, unfinished_goes}
use Rattle.serve_loop.proofs.hearing.hear.Goals as goal

pub returns-in-Ok-Partial : goal.returns-in-Ok-Partial
returns-in-Ok-Partial g c = λ terms filter source gate. unfinished_goes c.args.held.now.items c.args.cursor gate _
    (ap (next_from c.args.held.now.items) (rw c.as_slice.ensures.value at (sym c.in-Ok-Partial.ensures.decodes))
    ∙ ap (λ f. next_from c.args.held.now.items (Ok f)) c.in-Ok-Partial.field-0-is)

pub returns-in-Ok-Complete : goal.returns-in-Ok-Complete
returns-in-Ok-Complete g c = λ terms filter source gate. answered_goes terms filter source gate
    (sym (ap (next_from c.args.held.now.items) (rw c.as_slice.ensures.value at (sym c.in-Ok-Complete.ensures.decodes))
    ∙ ap (λ f. next_from c.args.held.now.items (Ok f)) c.in-Ok-Complete.field-0-is))
    refl c.hear_frame.ensures

pub returns-in-Err : goal.returns-in-Err
returns-in-Err g c = λ terms filter source gate. answered_goes terms filter source gate
    (sym (ap (next_from c.args.held.now.items) (rw c.as_slice.ensures.value at (sym c.in-Err.ensures.decodes))))
    (refusal_after c.in-Err.error c.args.cursor c.args.held.now.items)
    (c.refuse.ensures (refusal c.in-Err.error) c.args.held.now.items c.code_of.ensures
    (refusal_rest c.in-Err.error c.args.held.now.items))
