-- The bytes of a reply, wherever they are.
use Rattle.std.specs.Prelude.{ℕ, List}
use Rattle.rest_answers.specs.declared.reply_text.Bytes.{Bytes}
use Rattle.rest_answers.specs.declared.reply_text.Bytes.TheVariants as bytes

abbrev pub bytes_at : Bytes → List ℕ
bytes_at (bytes.Ready text) = text.now
bytes_at (bytes.Made text) = text
