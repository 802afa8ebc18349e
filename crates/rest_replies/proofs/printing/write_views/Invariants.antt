use Rattle.std.proofs.Common.{◌≡◌, ◌∷◌, ◌++◌, map, drop, false}
use Rattle.std.specs.Option.{option_copied}
use Rattle.serde_json.specs.View.{items_of}
use Rattle.serde_json.specs.Written.{items_text}
use Rattle.rest_json.specs.Views.{view_data}
use Rattle.rest_replies.specs.Chosen.{chosen}
use Rattle.rest_replies.proofs.printing.write_views.Given as goal

abbrev pub invariant-loop-shown : goal.invariant-loop-shown
invariant-loop-shown l =
    l.written ++ items_text l.later (items_of (map (view_data l.terms) (chosen l.terms (option_copied l.choice) (drop l.shown-index l.shown-items))))
    ≡ l.fn.text ++ 91 ∷ items_text false (items_of (map (view_data l.terms) (chosen l.terms (option_copied l.choice) l.shown-items)))
