use Rattle.sqlite_keeper.specs.Guarded.{StaysGuarded}
use Rattle.sqlite_keeper.proofs.standing.all_stand.Given as goal

abbrev pub invariant-changes : goal.invariant-changes
invariant-changes g l = StaysGuarded g.S.Store l.initial.database l.database
