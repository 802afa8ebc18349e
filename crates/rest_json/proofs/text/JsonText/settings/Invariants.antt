use Rattle.std.proofs.Common.{◌≡◌, ◌∷◌, ◌++◌, drop, false}
use Rattle.serde_json.specs.Data.{string}
use Rattle.serde_json.specs.Written.{members_text}
use Rattle.rest_json.proofs.Rising.{members_by}
use Rattle.rest_json.proofs.text.JsonText.settings.Given as goal

abbrev pub invariant-loop-place : goal.invariant-loop-place
invariant-loop-place l =
    l.text ++ members_text l.later (members_by string (drop l.place l.config))
    ≡ l.fn.self ++ 123 ∷ members_text false (members_by string l.config)
