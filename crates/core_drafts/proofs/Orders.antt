-- A put at the place that a search found, and keys of two names.
use Rattle.std.proofs.Common.{◌≡◌, ℕ, Bool, true, false, ◌&&◌, ◌==◌, Option, Some, None, Ok, Err, List, [], ◌∷◌, ◌++◌, length, take, drop, set, get_or, refl, sym, ◌∙◌, ap}
use Rattle.std.specs.List.{list_any, insert}
use Rattle.std.specs.Str.{bytes_eq}
use Rattle.std.proofs.lemmas.List.{take-append-drop}
use Rattle.std.proofs.Math.Seq.{take-append_seam}
use Rattle.config_lists.proofs.Keys.{same, bytes_eq-itself}
use Rattle.row_codec.proofs.Fields.{both_true}
use Rattle.row_codec.specs.Spelling.{two_names}
use Rattle.row_machine.specs.machine.Rows.{same_names, texts_before, put_by}
use Rattle.row_readings.specs.Rising.{FindsPlace}
use Rattle.core_drafts.specs.Keys.{IsRest}
use Rattle.plain_lists.proofs.Places.{any-position, find-at, inserted-at, replaced-at, replaced-new}
use Rattle.plain_lists.proofs.Searches.{find-any}

-- after a common beginning the rests are compared
pub rest_eq : (p xs ys : List ℕ) → bytes_eq (p ++ xs) (p ++ ys) ≡ bytes_eq xs ys
rest_eq [] xs ys = refl
rest_eq (x ∷ p) xs ys =
    ap (λ b. b && bytes_eq (p ++ xs) (p ++ ys)) (both_true (x == x) true (bytes_eq-itself (x ∷ []))).0 ∙ rest_eq p xs ys

-- a text that does not begin with the project is no key of it
pub other_start : (p n key : List ℕ) → bytes_eq (take (length p) key) p ≡ false → false ≡ bytes_eq (two_names p n) key
other_start p n key h = at (bytes_eq (two_names p n) key) refl where
  at : (b : Bool) → bytes_eq (two_names p n) key ≡ b → false ≡ b
  at false e = refl
  at true e =
      let is : two_names p n ≡ key = same (two_names p n) key e in
      let starts : take (length p) key ≡ p = ap (take (length p)) (sym is) ∙ take-append_seam p (47 ∷ n) in
      let own : bytes_eq (take (length p) key) p ≡ true = ap (λ t. bytes_eq t p) starts ∙ bytes_eq-itself p in
      cc

-- a text that begins with the project is a key of it where its rest is a slash and the name
pub same_start : (p n key rest : List ℕ) → bytes_eq (take (length p) key) p ≡ true → rest ≡ drop (length p) key → bytes_eq (47 ∷ n) rest ≡ bytes_eq (two_names p n) key
same_start p n key rest h is =
    let whole : p ++ rest ≡ key = ap (λ t. t ++ rest) (sym (same (take (length p) key) p h)) ∙ ap (λ r. take (length p) key ++ r) is ∙ take-append-drop (length p) key in
    sym (rest_eq p (47 ∷ n) rest) ∙ ap (bytes_eq (two_names p n)) whole

-- what stands after the name and a slash, by what stands after a slash in the rest
pub rest-after : (first key rest : List ℕ) (o : Option (List ℕ)) → bytes_eq (take (length first) key) first ≡ true → rest ≡ drop (length first) key
    → IsRest [] rest o → IsRest first key o
rest-after first key rest None begins is none = λ n. sym (same_start first n key rest begins is) ∙ none n
rest-after first key rest (Some last) begins is some = λ n. sym (same_start first n key rest begins is) ∙ some n

-- ---- a put at the place that was found

module _ {X : Type 0} (names : X → List (List ℕ)) (x : X) (xs : List X) (i : ℕ) where
  abbrev like : X → Bool
  like = λ y. same_names (names y) (names x)

  abbrev ahead : X → Bool
  ahead = λ y. texts_before (names x) (names y)

  pub put-found : FindsPlace names (names x) xs (Ok i) → set xs i x ≡ put_by names x xs
  put-found found = replaced-at like ahead x xs i (sym found)

  pub put-between : FindsPlace names (names x) xs (Err i) → insert xs i x ≡ put_by names x xs
  put-between found = ap (λ n. insert xs n x) (sym found.1) ∙ inserted-at ahead x xs ∙ replaced-new like ahead x xs (sym found.0)

  pub like-found : FindsPlace names (names x) xs (Ok i) → list_any (λ y. same_names (names y) (names x)) xs ≡ true
  like-found found = find-any like xs (get_or xs i x) (find-at like xs i x (sym found))

  pub like-none : FindsPlace names (names x) xs (Err i) → list_any (λ y. same_names (names y) (names x)) xs ≡ false
  like-none found = any-position like xs (sym found.0)
