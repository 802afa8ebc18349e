use Rattle.std.proofs.Common.{◌≡◌, ◌∷◌, ◌++◌, map, drop, false}
use Rattle.serde_json.specs.Data.{string}
use Rattle.serde_json.specs.View.{items_of}
use Rattle.serde_json.specs.Written.{items_text}
use Rattle.rest_json.proofs.text.JsonText.texts.Given as goal

abbrev pub invariant-loop-item : goal.invariant-loop-item
invariant-loop-item l =
    l.text ++ items_text l.later (items_of (map string (drop l.item-index l.item-items)))
    ≡ l.fn.self ++ 91 ∷ items_text false (items_of (map string l.item-items))
