use Rattle.std.proofs.Common.{◌≡◌, ◌++◌, Some, map, drop}
use Rattle.list_filter.specs.Urls.{view_url}
use Rattle.rest_replies.specs.Chosen.{chosen}
use Rattle.rest_replies.proofs.printing.chosen_urls.Given as goal

abbrev pub invariant-loop-shown : goal.invariant-loop-shown
invariant-loop-shown l =
    l.urls ++ map view_url (chosen l.terms (Some l.choice) (drop l.shown-index l.shown-items))
    ≡ map view_url (chosen l.terms (Some l.choice) l.shown-items)
