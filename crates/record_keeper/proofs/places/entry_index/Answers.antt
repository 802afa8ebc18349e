use Rattle.std.proofs.Common.{rules, of_calls}
use Rattle.std.proofs.lemmas.Fn.{always_returns_same}
use Rattle.record_keeper.specs.Entries.{seen_from}
use Rattle.record_keeper.proofs.Ordered.{found}
use Rattle.record_keeper.proofs.places.entry_index.Goals as goal

pub returns : goal.returns
returns c =
    found c.args.kind c.args.key.now c.args.entries.now c.binary_search_by.result c.requires c.binary_search_by.ensures.bound
    (c.binary_search_by.ensures.position (seen_from c.args.kind c.args.key.now) (always_returns_same _ _ _ (λ a r f called. search (rules, of_calls))))
