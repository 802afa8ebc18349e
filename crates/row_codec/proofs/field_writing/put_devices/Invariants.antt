use Rattle.std.specs.Str.{IsUtf8}
use Rattle.row_codec.specs.FieldSpelling.{device_bytes}
use Rattle.row_codec.specs.Parts.{AreTypedSettings}
use Rattle.row_codec.proofs.Written.{Written}
use Rattle.row_codec.proofs.field_writing.put_devices.Given as goal

abbrev pub invariant-loop-place : goal.invariant-loop-place
invariant-loop-place l = Written device_bytes (λ d. IsUtf8 d.0 × AreTypedSettings d.1) l.fn.out.items l.out.items l.devices l.place
