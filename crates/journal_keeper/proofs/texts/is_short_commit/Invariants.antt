use Rattle.std.proofs.Common.{◌≡◌, true, take}
use Rattle.std.specs.List.{list_all}
use Rattle.journal_keeper.specs.Texts.{is_short_change}
use Rattle.journal_keeper.proofs.texts.is_short_commit.Given as goal

abbrev pub invariant-loop-change : goal.invariant-loop-change
invariant-loop-change l = list_all is_short_change (take l.change-index l.changes) ≡ true
