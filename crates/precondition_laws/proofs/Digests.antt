-- Rows with the same tag.
use Rattle.std.proofs.Common.{◌≡◌, ◌≢◌, ◌⊎◌, inl, inr, ℕ, Bool, true, false, List, [], ◌∷◌, length, Some, None, if◌then◌else◌, nat_le, refl, sym, ap, ◌∙◌}
use Rattle.std.specs.Str.{bytes_eq}
use Rattle.std.proofs.lemmas.List.{append_cancel_right}
use Rattle.config_lists.proofs.Keys.{same, bytes_eq-itself}
use Rattle.hex.specs.Hex.{encode_lower}
use Rattle.sha2.specs.Sha256.{sha256}
use Rattle.records.specs.declared.rows.Row.{Row}
use Rattle.row_codec.specs.Sizes.{largest_body}
use Rattle.row_codec.specs.Spelling.{body_of}
use Rattle.row_codec.specs.Tags.{quoted, tag_of}
use Rattle.precondition_laws.specs.Preconditions.{Collide, SameTagIsSameBody}

inside : (a b : List ℕ) → quoted a ≡ quoted b → a ≡ b
inside a b e = append_cancel_right a b (34 ∷ []) (rest e) where
  rest : {xs ys : List ℕ} → 34 ∷ xs ≡ 34 ∷ ys → xs ≡ ys
  rest e = cc

of-some : (fits : Bool) (digits tag : List ℕ) → (if fits then Some (quoted digits) else None) ≡ Some tag → quoted digits ≡ tag
of-some true digits tag e = cc
of-some false digits tag e = cc

digits-of : (r : Row) (tag : List ℕ) → tag_of r ≡ Some tag → quoted (encode_lower (sha256 (body_of r))) ≡ tag
unfolding tag_of
digits-of r tag e = of-some (nat_le (length (body_of r)) largest_body) (encode_lower (sha256 (body_of r))) tag e

pub same-body : SameTagIsSameBody
same-body r t tag is too = by (bytes_eq (body_of r) (body_of t)) refl where
  digest : encode_lower (sha256 (body_of r)) ≡ encode_lower (sha256 (body_of t))
  digest = inside _ _ (digits-of r tag is ∙ sym (digits-of t tag too))

  apart : bytes_eq (body_of r) (body_of t) ≡ false → body_of r ≢ body_of t
  apart e is = never (sym e ∙ ap (λ b. bytes_eq (body_of r) b) (sym is) ∙ bytes_eq-itself (body_of r)) where
    never : false ≡ true → ⊥
    never h = cc

  by : (b : Bool) → bytes_eq (body_of r) (body_of t) ≡ b → (body_of r ≡ body_of t) ⊎ Collide (body_of r) (body_of t)
  by true e = inl (same (body_of r) (body_of t) e)
  by false e = inr (record { apart = apart e; digest = digest })
