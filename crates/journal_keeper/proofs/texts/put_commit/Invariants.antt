use Rattle.journal_keeper.specs.Texts.{change_bytes, IsTypedChange}
use Rattle.journal_keeper.proofs.Written.{Written}
use Rattle.journal_keeper.proofs.texts.put_commit.Given as goal

abbrev pub invariant-loop-change : goal.invariant-loop-change
invariant-loop-change l = Written change_bytes IsTypedChange l.fn.out.items l.out.items l.changes l.change-index
