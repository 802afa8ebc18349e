use Rattle.serve_loop.proofs.SessionParts.{broken_leaves, came_goes, over_leaves, quiet_goes, stays_refused}
use Rattle.serve_loop.proofs.listening.look_on.Goals as goal

pub returns-in-Ok-Quiet : goal.returns-in-Ok-Quiet
returns-in-Ok-Quiet g c = λ terms filter gate. quiet_goes c.args.cursor gate _ _ c.in-Ok-Quiet.field-0-is
    c.in-Ok-Quiet.ensures.ok

pub returns-in-Ok-Came : goal.returns-in-Ok-Came
returns-in-Ok-Came g c = λ terms filter gate. came_goes c.args.cursor gate _ _ c.in-Ok-Came.field-0-is
    c.in-Ok-Came.ensures.ok

pub returns-in-Ok-Over : goal.returns-in-Ok-Over
returns-in-Ok-Over g c = λ terms filter gate. over_leaves _ _ c.in-Ok-Over.field-0-is c.in-Ok-Over.ensures.ok
    (c.leave.ensures terms filter _ gate)

pub returns-in-Ok-Broken : goal.returns-in-Ok-Broken
returns-in-Ok-Broken g c = λ terms filter gate. broken_leaves _ gate _ _ c.in-Ok-Broken.field-0-is
    c.in-Ok-Broken.ensures.ok

pub returns-in-Err : goal.returns-in-Err
returns-in-Err g c = λ terms filter gate. rw c.in-Err.ensures.err.0 (stays_refused _ gate _)
