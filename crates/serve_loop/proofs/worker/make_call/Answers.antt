use Rattle.gates.proofs.Answering.{for_reporter}
use Rattle.serve_loop.proofs.Working.{reports}
use Rattle.serve_loop.proofs.worker.make_call.Goals as goal

pub post_after_report-requires : goal.post_after_report-requires
post_after_report-requires g c = for_reporter _ _ _ _ c.turn-answer.ensures.may

pub returns : goal.returns
returns g c = reports c.perform-report.ensures.roots c.perform-report.ensures.counts c.perform-report.ensures.later
    c.now-moment.ensures.reading c.now-moment.ensures.early c.turn-answer.ensures.contents
    c.turn-answer.ensures.turned c.turn-answer.ensures.idled c.post_after_report.ensures
