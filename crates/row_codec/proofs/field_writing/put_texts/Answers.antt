use Rattle.std.proofs.Common.{◌≡◌, ◌++◌, List, ℕ, subst, arith}
use Rattle.std.specs.Str.{IsUtf8}
use Rattle.row_codec.specs.FieldSpelling.{text_bytes, texts_bytes}
use Rattle.row_codec.proofs.Written.{all_bytes}
use Rattle.row_codec.proofs.field_writing.put_texts.Goals as goal

pub returns-clause-bytes : goal.returns-clause-bytes
returns-clause-bytes c =
    subst (λ (texts : List (List ℕ)). c.loop-text.out.items ≡ c.args.out.now.items ++ texts_bytes texts) c.view-text-items.ensures
    (all_bytes text_bytes IsUtf8 c.args.out.now.items c.loop-text.out.items c.view-text-items.result.now c.loop-text.text-index (omega arith) c.loop-text.invariant)
