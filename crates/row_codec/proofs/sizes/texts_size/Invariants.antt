use Rattle.std.proofs.Common.{◌≡◌, ◌+◌, take, length}
use Rattle.std.specs.List.{flat_map}
use Rattle.row_codec.specs.Spelling.{text_bytes}
use Rattle.row_codec.specs.Sizes.{capped}
use Rattle.row_codec.proofs.sizes.texts_size.Given as goal

abbrev pub invariant-loop-text : goal.invariant-loop-text
invariant-loop-text l = l.size ≡ capped (4 + length (flat_map text_bytes (take l.text-index l.texts)))
