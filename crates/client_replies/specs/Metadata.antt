-- The metadata of an answer.
use Rattle.std.specs.Prelude.{◌≡◌, false}
use Rattle.serde_json.specs.View.{view}
use Rattle.serde_json.specs.Written.{has_float}
use Rattle.client_replies.specs.declared.metadata.Metadata.TheInside.{Inside}

-- no number in the value has a fraction or an exponent, or needs more than 64 bits
abbrev pub IsWhole : Inside → Type 0
IsWhole metadata = has_float (view metadata.value) ≡ false
