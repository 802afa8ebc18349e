use Rattle.record_keeper.proofs.Lookups.{entry_at-put_entry, entry_at-remove_entry, entries-same}
use Rattle.record_keeper.proofs.laws.changes_by_place.Goals as goal

pub returns-clause-put : goal.returns-clause-put
returns-clause-put c = entry_at-put_entry

pub returns-clause-removal : goal.returns-clause-removal
returns-clause-removal c = entry_at-remove_entry

pub returns-clause-known : goal.returns-clause-known
returns-clause-known c = entries-same
