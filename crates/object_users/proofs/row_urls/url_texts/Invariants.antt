use Rattle.std.proofs.Common.{◌≡◌, take}
use Rattle.row_machine.specs.shown.Views.{urls}
use Rattle.object_users.proofs.row_urls.url_texts.Given as goal

abbrev pub invariant-loop-row : goal.invariant-loop-row
invariant-loop-row l = l.texts.items ≡ urls (take l.row-index l.rows)
