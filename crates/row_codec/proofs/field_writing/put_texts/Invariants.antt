use Rattle.std.specs.Str.{IsUtf8}
use Rattle.row_codec.specs.FieldSpelling.{text_bytes}
use Rattle.row_codec.proofs.Written.{Written}
use Rattle.row_codec.proofs.field_writing.put_texts.Given as goal

abbrev pub invariant-loop-text : goal.invariant-loop-text
invariant-loop-text l = Written text_bytes IsUtf8 l.fn.out.items l.out.items l.text-items l.text-index
