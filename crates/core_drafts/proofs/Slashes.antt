-- Keys with as many slashes as stand between their names: no other names have such a key.
use Rattle.std.proofs.Common.{◌≡◌, ◌≢◌, ℕ, ◌+◌, ◌<◌, Bool, true, false, ◌&&◌, ◌==◌, not, List, [], ◌∷◌, length, get_or, refl, sym, ◌∙◌, ap, arith}
use Rattle.std.specs.Str.{bytes_eq}
use Rattle.std.proofs.lemmas.Bool.{ne_eqb}
use Rattle.std.proofs.lemmas.Grind.{common_steps}
use Rattle.std.proofs.lemmas.List.{append_assoc, length-append}
use Rattle.config_lists.proofs.Keys.{same}
use Rattle.row_codec.proofs.Fields.{both_true}
use Rattle.row_codec.proofs.Names.{HasNoSlash}
use Rattle.row_codec.specs.Reading.{is_slash}
use Rattle.row_codec.specs.Spelling.{two_names, three_names}

-- a text none of whose bytes is a slash
pub no_slash_in : (text : List ℕ) → ((i : ℕ) → i < length text → get_or text i 0 ≢ 47) → HasNoSlash text
no_slash_in [] none = refl
no_slash_in (b ∷ bs) none =
    let first : b ≢ 47 = none 0 (grind (arith, common_steps)) in
    rw (ne_eqb b 47 first, no_slash_in bs (λ i within. let at = none (i + 1) (grind (arith, common_steps)) in grind (arith, common_steps))) refl

at_head : (b : ℕ) (bs : List ℕ) → HasNoSlash (b ∷ bs) → b ≢ 47
at_head b bs none same = let first = (both_true (not (is_slash b)) _ none).0 in cc (ap (λ c. not (is_slash c)) same)

in_tail : (b : ℕ) (bs : List ℕ) → HasNoSlash (b ∷ bs) → HasNoSlash bs
in_tail b bs none = (both_true (not (is_slash b)) _ none).1

still_false : (t u : Bool) → u ≡ false → (t && u) ≡ false
still_false true u h = h
still_false false u h = refl

-- a text with a slash is none without
slash_apart : (p s text : List ℕ) → HasNoSlash text → bytes_eq (two_names p s) text ≡ false
slash_apart [] s [] none = refl
slash_apart (x ∷ p) s [] none = refl
slash_apart [] s (b ∷ bs) none = ap (λ t. t && bytes_eq s bs) (ne_eqb 47 b (λ e. at_head b bs none (sym e)))
slash_apart (x ∷ p) s (b ∷ bs) none = still_false (x == b) _ (slash_apart p s bs (in_tail b bs none))

-- a key whose first slash stands between a and b is that of f and s only where these are a and b, if b is no text with a
-- slash before s
apart_at_first : (f s a b : List ℕ) → HasNoSlash a → ((p : List ℕ) → bytes_eq (two_names p s) b ≡ false)
    → bytes_eq (two_names f s) (two_names a b) ≡ (bytes_eq f a && bytes_eq s b)
apart_at_first [] s [] b none later = refl
apart_at_first [] s (y ∷ a) b none later = ap (λ t. t && bytes_eq s (two_names a b)) (ne_eqb 47 y (λ e. at_head y a none (sym e)))
apart_at_first (x ∷ f) s [] b none later = still_false (x == 47) _ (later f)
apart_at_first (x ∷ f) s (y ∷ a) b none later = at (x == y) (apart_at_first f s a b (in_tail y a none) later) where
  at : (t : Bool) → bytes_eq (two_names f s) (two_names a b) ≡ (bytes_eq f a && bytes_eq s b)
      → (t && bytes_eq (two_names f s) (two_names a b)) ≡ ((t && bytes_eq f a) && bytes_eq s b)
  at true h = h
  at false h = refl

-- a key with one slash
pub two-names-of : (key a b : List ℕ) → key ≡ two_names a b → HasNoSlash a → HasNoSlash b
    → (f s : List ℕ) → bytes_eq (two_names f s) key ≡ (bytes_eq f a && bytes_eq s b)
two-names-of key a b is none_first none_second f s =
    ap (bytes_eq (two_names f s)) is ∙ apart_at_first f s a b none_first (λ p. slash_apart p s b none_second)

-- a text is not the same as it with a slash and more
longer_apart : (p s : List ℕ) → two_names p s ≢ p
longer_apart p s same = omega (arith, ap length same, length-append p (47 ∷ s))

-- a key of which what stands after the first slash is that of two names alone
pub three-names-of : (key a rest b c : List ℕ) → key ≡ two_names a rest → HasNoSlash a
    → ((f s : List ℕ) → bytes_eq (two_names f s) rest ≡ (bytes_eq f b && bytes_eq s c))
    → (f s t : List ℕ) → bytes_eq (three_names f s t) key ≡ (bytes_eq f a && bytes_eq s b && bytes_eq t c)
three-names-of key a rest b c is none of_rest f s t =
    ap (bytes_eq (three_names f s t)) is ∙ apart_at_first f (two_names s t) a rest none later ∙ ap (λ r. bytes_eq f a && r) (of_rest s t) ∙ all (bytes_eq f a) where
      all : (r : Bool) → (r && (bytes_eq s b && bytes_eq t c)) ≡ (r && bytes_eq s b && bytes_eq t c)
      all true = refl
      all false = refl

      later : (p : List ℕ) → bytes_eq (two_names p (two_names s t)) rest ≡ false
      later p = at (bytes_eq (two_names p (two_names s t)) rest) refl where
        at : (r : Bool) → bytes_eq (two_names p (two_names s t)) rest ≡ r → r ≡ false
        at false e = refl
        at true e =
            let short = both_true (bytes_eq p b) (bytes_eq (two_names s t) c) (sym (of_rest p (two_names s t)) ∙ e) in
            let joined : two_names p (two_names s t) ≡ two_names (two_names p s) t = sym (append_assoc p (47 ∷ s) (47 ∷ t)) in
            let long = both_true (bytes_eq (two_names p s) b) (bytes_eq t c) (sym (of_rest (two_names p s) t) ∙ ap (λ k. bytes_eq k rest) (sym joined) ∙ e) in
            absurd (longer_apart p s (same (two_names p s) b long.0 ∙ sym (same p b short.0)))
