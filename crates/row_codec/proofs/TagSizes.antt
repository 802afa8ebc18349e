-- The tag of a row, by the size of its body.
use Rattle.std.proofs.Common.{◌≡◌, ℕ, ◌≤◌, ◌<◌, List, length, Some, None, if◌then◌else◌, ap, subst}
use Rattle.std.proofs.lemmas.Bool.{le-leb, lt-leb}
use Rattle.hex.specs.Hex.{encode_lower}
use Rattle.sha2.specs.Sha256.{sha256}
use Rattle.records.specs.declared.rows.Row.{Row}
use Rattle.row_codec.specs.Rows.{HasShortParts}
use Rattle.row_codec.specs.Sizes.{capped}
use Rattle.row_codec.specs.Spelling.{body_of}
use Rattle.row_codec.specs.Tags.{quoted, tag_of}
use Rattle.row_codec.proofs.ShortParts.{short-parts}
use Rattle.row_codec.proofs.Sums.{capped-le, capped-lt}

pub sized_is_short : (r : Row) (size : ℕ) → size ≡ capped (length (body_of r)) → size ≤ 65536 → HasShortParts r
sized_is_short r size is small = short-parts r (capped-le (length (body_of r)) (subst (λ n. n ≤ 65536) is small))

pub tag_of_small : (r : Row) (size : ℕ) → size ≡ capped (length (body_of r)) → size ≤ 65536
    → tag_of r ≡ Some (quoted (encode_lower (sha256 (body_of r))))
unfolding tag_of
tag_of_small r size is small =
    ap (λ fits. if fits then Some (quoted (encode_lower (sha256 (body_of r)))) else None)
    (le-leb (length (body_of r)) 65536 (capped-le (length (body_of r)) (subst (λ n. n ≤ 65536) is small)))

pub tag_of_large : (r : Row) (size : ℕ) → size ≡ capped (length (body_of r)) → 65536 < size → tag_of r ≡ None
unfolding tag_of
tag_of_large r size is large =
    ap (λ fits. if fits then Some (quoted (encode_lower (sha256 (body_of r)))) else None)
    (lt-leb (length (body_of r)) 65536 (capped-lt (length (body_of r)) (subst (λ n. 65536 < n) is large)))
