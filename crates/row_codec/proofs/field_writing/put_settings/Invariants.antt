use Rattle.std.specs.Str.{IsUtf8}
use Rattle.row_codec.specs.FieldSpelling.{setting_bytes}
use Rattle.row_codec.proofs.Written.{Written}
use Rattle.row_codec.proofs.field_writing.put_settings.Given as goal

abbrev pub invariant-loop-place : goal.invariant-loop-place
invariant-loop-place l = Written setting_bytes (λ s. IsUtf8 s.0 × IsUtf8 s.1) l.fn.out.items l.out.items l.config l.place
