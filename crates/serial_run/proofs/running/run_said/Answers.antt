use Rattle.std.proofs.Common.{Some, ap, sym, ◌∙◌}
use Rattle.serial_run.proofs.Beginning.{AreSaid, as_said, runs_by, runs_still, words_said}
use Rattle.serial_run.proofs.running.run_said.Goals as goal

pub returns-in-Some : goal.returns-in-Some
returns-in-Some g c = λ words is.
    let said : AreSaid words c.args.said = words_said words c.args.said is in
    runs_still words c.args.boot _ _ _ _ _ _ _ _ _ _ c.new-still.result _ said.read
    (sym said.now ∙ c.in-Some.is ∙ ap Some (sym c.new-still.ensures))
    (as_said words c.args.boot c.args.said c.unwrap_or-boot.result _ _ _ said c.unwrap_or-boot.ensures c.run_over.ensures)

pub returns-in-None : goal.returns-in-None
returns-in-None g c = λ words is.
    let said : AreSaid words c.args.said = words_said words c.args.said is in
    runs_by words c.args.boot _ _ _ _ _ _ _ _ _ _ _ said.read (sym said.now ∙ c.in-None.is)
    (as_said words c.args.boot c.args.said c.unwrap_or-boot.result _ _ _ said c.unwrap_or-boot.ensures c.run_over-in-None.ensures)
