use Rattle.serial_steps.proofs.Stepping.{report-steps}
use Rattle.serial_steps.proofs.worker.make_call.Goals as goal

pub returns : goal.returns
returns g c =
    report-steps c.report-answer.ensures c.perform-report.ensures.roots c.perform-report.ensures.counts c.perform-report.ensures.later
    c.now-moment.ensures.reading c.now-moment.ensures.early c.job_of.ensures
