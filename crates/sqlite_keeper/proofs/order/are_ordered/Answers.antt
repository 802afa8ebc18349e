use Rattle.std.proofs.Common.{rules, of_calls}
use Rattle.std.proofs.lemmas.Fn.{always_returns_same}
use Rattle.sqlite_keeper.proofs.Rising.{judged, stands_before}
use Rattle.sqlite_keeper.proofs.order.are_ordered.Goals as goal

pub returns : goal.returns
returns c =
    judged c.args.entries.now c.is_sorted_by.result
    (c.is_sorted_by.ensures.cases stands_before (always_returns_same _ _ _ (λ a r f called. search (rules, of_calls))))
