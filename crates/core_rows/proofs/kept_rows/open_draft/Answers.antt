use Rattle.std.proofs.Common.{sym, subst}
use Rattle.core_rows.specs.Opening.{GivesDraft, Tells}
use Rattle.core_rows.proofs.Opened.{opening-rows, opening-some}
use Rattle.core_rows.proofs.kept_rows.open_draft.Goals as goal

pub returns-in-Ok : goal.returns-in-Ok
returns-in-Ok c =
    subst (GivesDraft c.judged_draft-judged.result)
    (sym (opening-rows c.args.entries.now c.in-Ok.rows c.requires.some c.in-Ok.ensures))
    (rw c.view.ensures at c.judged_draft-judged.ensures)

pub returns-in-Err : goal.returns-in-Err
returns-in-Err c = subst (Tells c.in-Err.fault) (sym (opening-some c.args.entries.now c.requires.some)) c.in-Err.ensures
