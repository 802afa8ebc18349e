-- What the parts of a text say of it as a key.
use Rattle.std.proofs.Common.{◌≡◌, ℕ, ◌-◌, ◌<◌, ◌==◌, ◌&&◌, Bool, true, false, List, length, take, drop, codes, refl, sym, ap, ◌∙◌, subst, arith, rules, tests, eq-eqb, length-drop}
use Rattle.std.specs.Prelude.{IsUtf8}
use Rattle.std.specs.List.{list_all}
use Rattle.std.specs.Str.{bytes_eq}
use Rattle.std.proofs.lemmas.List.{take_all, take-append-drop}
use Rattle.std.proofs.lemmas.List.Elements.{All-weaker}
use Rattle.std.proofs.lemmas.List.Sums.{AllPass-from_list_all}
use Rattle.std.proofs.lemmas.Bool.Decides.{nat_tests}
use Rattle.std.proofs.lemmas.Slice.Eq.{bytes_eq-Decides}
use Rattle.std.proofs.lemmas.Str.{IsUtf8-append, IsUtf8-from_ascii}
use Rattle.std.proofs.lemmas.Str.Ascii.{IsAscii-from_all}
use Rattle.http_heads.specs.Upgrades.{is_base64, is_key}

-- a text of 24 bytes, the first 22 of base64, is a key where its tail is `==`
pub is_key-tail : (text : List ℕ) (same : Bool) → length text ≡ 24 → list_all is_base64 (take 22 text) ≡ true
    → same ≡ bytes_eq (take (length text - 22) (drop 22 text)) (codes "==") → same ≡ is_key text
unfolding is_key
is_key-tail text same long all is =
    is
    ∙ ap (λ tail. bytes_eq tail (codes "==")) (take_all (length text - 22) (drop 22 text) (omega (arith, length-drop 22 text)))
    ∙ sym (by_tests (length text == 24) (list_all is_base64 (take 22 text)) (bytes_eq (drop 22 text) (codes "==")) (eq-eqb (length text) 24 long) all)
  where
    by_tests : (a b c : Bool) → a ≡ true → b ≡ true → (a && b && c) ≡ c
    by_tests true true c e f = refl
    by_tests true false c e f = cc
    by_tests false b c e f = cc

base64-ascii : (b : ℕ) → is_base64 b ≡ true → b < 128
base64-ascii b h = grind (arith, nat_tests)

ascii_all : (text : List ℕ) → list_all is_base64 text ≡ true → IsUtf8 text
ascii_all text all =
    IsUtf8-from_ascii text (IsAscii-from_all text (All-weaker _ _ base64-ascii text (AllPass-from_list_all is_base64 text all)))

equals-text : IsUtf8 (codes "==")
equals-text = IsUtf8-from_ascii (codes "==") (IsAscii-from_all (codes "==") (search (rules, tests)))

-- a key is text
pub IsUtf8-key : (text : List ℕ) → is_key text ≡ true → IsUtf8 text
unfolding is_key
IsUtf8-key text h =
    let parts = by_tests (length text == 24) (list_all is_base64 (take 22 text)) (bytes_eq (drop 22 text) (codes "==")) h in
    let tail : drop 22 text ≡ codes "==" = (bytes_eq-Decides (drop 22 text) (codes "==")).0 parts.1 in
    subst IsUtf8 (take-append-drop 22 text)
    (IsUtf8-append (take 22 text) (drop 22 text) (ascii_all (take 22 text) parts.0) (subst IsUtf8 (sym tail) equals-text))
  where
    by_tests : (a b c : Bool) → (a && b && c) ≡ true → (b ≡ true) × (c ≡ true)
    by_tests true true true e = (refl, refl)
    by_tests true true false e = cc
    by_tests true false c e = cc
    by_tests false b c e = cc
