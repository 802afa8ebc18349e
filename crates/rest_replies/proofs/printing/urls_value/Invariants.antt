use Rattle.std.proofs.Common.{◌≡◌, ◌++◌, ℕ, map, drop}
use Rattle.serde_json.specs.Data.{string}
use Rattle.serde_json.specs.View.{view}
use Rattle.rest_json.specs.Ids.{operation_url}
use Rattle.rest_replies.proofs.printing.urls_value.Given as goal

abbrev pub invariant-loop-number : goal.invariant-loop-number
invariant-loop-number l =
    map view l.values.items ++ map (λ (number : ℕ). string (operation_url l.boot number)) (drop l.number-index l.number-items)
    ≡ map (λ (number : ℕ). string (operation_url l.boot number)) l.number-items
