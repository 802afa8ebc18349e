use Rattle.std.proofs.Common.{◌∙◌, ap, sym, subst, cond}
use Rattle.row_machine.specs.declared.events.Answer.TheVariants as answer
use Rattle.row_machine.specs.declared.events.Event.TheVariants as event
use Rattle.row_machine.specs.machine.State.{State}
use Rattle.core_turns.specs.Turns.{Comes}
use Rattle.core_turns.proofs.Workers.{job-comes, no-job-comes}
use Rattle.core_turns.proofs.working.take.Goals as goal

pub returns-in-Some : goal.returns-in-Some
returns-in-Some c = λ store.
    job-comes c.args.estate.now.state c.args.moment c.in-Some.number c.in-Some.call c.take_job.new.self.state c.take_job.new.self.untold store c.in-Some.ensures

pub returns-in-None : goal.returns-in-None
returns-in-None c = λ store.
    let new = c.take_job.new.self in
    subst (λ a. Comes c.args.estate.now.state store (event.Take c.args.moment) a new.state new.untold store)
    (sym (c.nothing_to_do-in-None.ensures
    ∙ ap (λ b. cond b answer.Closed answer.NoJob) (ap (λ (t : State). t.closed) (c.nothing_to_do.view_is ∙ c.view.ensures.state))))
    (no-job-comes c.args.estate.now.state c.args.moment new.state new.untold store c.in-None.ensures)
