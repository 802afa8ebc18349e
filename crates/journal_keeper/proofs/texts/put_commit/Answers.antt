use Rattle.std.proofs.Common.{arith}
use Rattle.journal_keeper.specs.Texts.{change_bytes, commit_text, IsTypedChange}
use Rattle.journal_keeper.proofs.Written.{all_bytes}
use Rattle.journal_keeper.proofs.texts.put_commit.Goals as goal

pub returns-clause-bytes : goal.returns-clause-bytes
unfolding commit_text
returns-clause-bytes c =
    all_bytes change_bytes IsTypedChange c.args.out.now.items c.loop-change.out.items c.args.changes.now c.loop-change.change-index (omega arith) c.loop-change.invariant
