use Rattle.std.proofs.Common.{[], ◌∷◌, ◌++◌, sym, subst}
use Rattle.sqlite_keeper.specs.Entries.{SayEach}
use Rattle.sqlite_keeper.proofs.Saying.{say-push}
use Rattle.sqlite_keeper.proofs.entries.push_row.Goals as goal

pub returns-in_ok-push-in-Ok : goal.returns-in_ok-push-in-Ok
returns-in_ok-push-in-Ok c rows said =
    subst (λ found. SayEach (rows ++ c.args.row.now ∷ []) found) (sym c.in_ok-push-in-Ok.ensures.items)
    (say-push rows c.args.found.now.items c.args.row.now c.in-Ok.entry said c.in-Ok.ensures)
