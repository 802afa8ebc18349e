use Rattle.std.proofs.Common.{◌≡◌, refl}
use Rattle.std.specs.Fmt.{digits}
use Rattle.json.specs.Print.{escape_byte}
use Rattle.http_front.specs.Replies.{no_memory_body}
use Rattle.serde_json.specs.Written.{compact_text}
use Rattle.rest_json.specs.declared.terms.Dialect.{Dialect}
use Rattle.rest_json.specs.declared.terms.Dialect.TheVariants as dialect
use Rattle.rest_replies.specs.Refusals.{details_data, error_text, refusal_data}
use Rattle.rest_replies.specs.Replies.{no_memory_refusal}
use Rattle.rest_replies.proofs.laws.no_memory_is_known.Goals as goal

in_each : (d : Dialect) → compact_text (refusal_data d no_memory_refusal) ≡ no_memory_body
unfolding details_data error_text refusal_data digits escape_byte
in_each dialect.Plain = refl
in_each dialect.Client = refl

pub returns : goal.returns
returns c = λ terms. in_each terms.dialect
