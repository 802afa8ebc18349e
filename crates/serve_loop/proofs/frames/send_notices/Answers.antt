use Rattle.std.proofs.Common.{◌≡◌, get_or, rules}
use Rattle.serve_loop.specs.Frames.{text_frame}
use Rattle.serve_loop.proofs.SessionParts.{front_at}
use Rattle.serve_loop.proofs.Taking.{front_broken, front_same, rose_after}
use Rattle.rest_replies.specs.Notices.{notice_text}
use Rattle.serve_loop.proofs.frames.send_notices.Goals as goal

pub returns-in-WriteFault : goal.returns-in-WriteFault
returns-in-WriteFault g c =
    let item = c.notice-item.result in
    let at : item ≡ get_or c.args.notices.now c.notices.notice-index item = search rules in (
      front_at c.args.terms c.args.notices.now c.notices.notice-index item c.notices-test.true at c.notices.invariant
          (front_broken c.in-WriteFault.ensures),
      rose_after _ _ _ c.notices.invariant.later c.in-WriteFault.ensures.rose,
    )

pub returns-in-NoMemory : goal.returns-in-NoMemory
returns-in-NoMemory g c =
    let item = c.notice-item.result in
    let at : item ≡ get_or c.args.notices.now c.notices.notice-index item = search rules in
    front_at c.args.terms c.args.notices.now c.notices.notice-index item c.notices-test.true at c.notices.invariant
    (front_same (text_frame (notice_text item c.args.terms)) c.in-NoMemory.ensures)
