use Rattle.core_reopening.proofs.opening.view_opens_again.Goals as goal

pub returns : goal.returns
returns c = c.kept_rows_open.ensures c.args.view.now c.requires c.rows_are_typed.ensures
