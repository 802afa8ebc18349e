use Rattle.std.proofs.Common.{◌≡◌, ℕ, List, Some, None, refl, true, false, Bool, sym}
use Rattle.std.specs.Str.{IsUtf8, is_utf8}
use Rattle.std.proofs.lemmas.Str.{is_utf8-from_IsUtf8, IsUtf8-from_is_utf8}
use Rattle.serde_json.specs.Data.{Data}
use Rattle.serde_json.specs.Read.{read}
use Rattle.rest_bodies.specs.Members.{json_in}

-- a text is read as what it spells
pub json_in_text : (body : List ℕ) (value : Data) → IsUtf8 body × (read body ≡ Some value) → Some value ≡ json_in body
unfolding json_in
json_in_text body value h = rw (is_utf8-from_IsUtf8 body h.0) (sym h.1)

-- what is no text, or no JSON, spells no value
pub json_in_other : (body : List ℕ) → (IsUtf8 body → read body ≡ None) → None ≡ json_in body
unfolding json_in
json_in_other body h = at (is_utf8 body) refl where
  at : (b : Bool) → is_utf8 body ≡ b → None ≡ json_in body
  at true is = rw is (sym (h (IsUtf8-from_is_utf8 body is)))
  at false is = rw is refl
