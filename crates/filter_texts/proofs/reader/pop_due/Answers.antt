use Rattle.filter_texts.proofs.Frames.{taken_last, taken_none, taken_open, if_none}
use Rattle.filter_texts.proofs.reader.pop_due.Goals as goal

pub returns-in_err-last-clause-none : goal.returns-in_err-last-clause-none
returns-in_err-last-clause-none c =
    if_none _ _ c.from_residual.ensures (taken_none _ _ c.deref.ensures.value c.in_err-last.ensures.value)

pub returns-in_err-step-clause-none : goal.returns-in_err-step-clause-none
returns-in_err-step-clause-none c =
    if_none _ _ c.from_residual-in_err-step.ensures
    (taken_open _ _ _ c.deref.ensures.value c.in_ok-last.ensures.value c.in_err-step.ensures)

pub returns-clause-some : goal.returns-clause-some
returns-clause-some c =
    taken_last _ _ _ _ _ _ c.deref.ensures.value c.deref.ensures.len c.in_ok-last.ensures.value c.in_ok-step.ensures c.pop.ensures.rest
