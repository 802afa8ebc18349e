use Rattle.journal_keeper.proofs.Again.{commit_again}
use Rattle.journal_keeper.proofs.laws.a_text_is_read_as_its_commit.Goals as goal

pub returns : goal.returns
returns c = commit_again
