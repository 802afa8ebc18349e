use Rattle.std.proofs.Common.{◌≡◌, ◌-◌}
use Rattle.journal_keeper.specs.Texts.{changes_at}
use Rattle.journal_keeper.proofs.Items.{with_front}
use Rattle.journal_keeper.proofs.texts.changes_at.Given as goal

abbrev pub invariant-loop : goal.invariant-loop
invariant-loop l = with_front l.changes (changes_at (l.count - l.counter) l.rest) ≡ changes_at l.count l.bytes
