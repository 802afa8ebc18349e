use Rattle.journal_keeper.proofs.ReadChain.{chain_read, chain_found}
use Rattle.journal_keeper.proofs.laws.a_file_has_one_chain.Goals as goal

pub returns-clause-read : goal.returns-clause-read
returns-clause-read c = chain_read

pub returns-clause-found : goal.returns-clause-found
returns-clause-found c = chain_found
