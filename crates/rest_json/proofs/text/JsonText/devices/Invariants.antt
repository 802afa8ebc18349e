use Rattle.std.proofs.Common.{◌≡◌, ◌∷◌, ◌++◌, drop, false}
use Rattle.serde_json.specs.Written.{members_text}
use Rattle.rest_json.specs.Settings.{settings_data}
use Rattle.rest_json.proofs.Rising.{members_by}
use Rattle.rest_json.proofs.text.JsonText.devices.Given as goal

abbrev pub invariant-loop-place : goal.invariant-loop-place
invariant-loop-place l =
    l.text ++ members_text l.later (members_by settings_data (drop l.place l.devices))
    ≡ l.fn.self ++ 123 ∷ members_text false (members_by settings_data l.devices)
