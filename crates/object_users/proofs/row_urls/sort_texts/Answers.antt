use Rattle.std.proofs.Common.{rules}
use Rattle.std.proofs.lemmas.Fn.{always_returns_same}
use Rattle.row_machine.specs.machine.Rows.{text_before}
use Rattle.object_users.proofs.Sorting.{sorted-is, texts-ranked}
use Rattle.object_users.proofs.row_urls.sort_texts.Goals as goal

pub returns : goal.returns
returns c =
    sorted-is c.args.texts.now.items c.sort_unstable_by.new.self.items c.sort_unstable_by.ensures.permutation
    (c.sort_unstable_by.ensures.sorted text_before texts-ranked (always_returns_same _ _ _ (λ a r f k. search rules)))
