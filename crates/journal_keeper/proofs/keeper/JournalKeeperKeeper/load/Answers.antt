use Rattle.std.proofs.Common.{IfOk, IfSome, ◌≡◌, subst}
use Rattle.journal_keeper.specs.Keeping.{JournalState, entries_told}
use Rattle.journal_keeper.proofs.Told.{loads_found}
use Rattle.journal_keeper.proofs.keeper.JournalKeeperKeeper.load.Goals as goal

pub returns-clause-found : goal.returns-clause-found
returns-clause-found g c =
    let found = loads_found (g.D.Disk.disk c.self.inside.disk) (g.D.Disk.disk c.load_from-found.new.disk) c.self.inside.gate c.load_from-found.new.gate c.load_from-found.result c.load_from-found.ensures.loads in
    subst (λ (k : JournalState _). IfOk c.load_from-found.result (λ entries. IfSome (entries_told k.gate (g.D.Disk.disk k.disk).contents) (λ kept. entries ≡ kept))) c.self.view_is found
