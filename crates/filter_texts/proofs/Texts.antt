-- Tokens at the front of a text.
use Rattle.std.proofs.Common.{◌≡◌, ℕ, zero, suc, ◌+◌, ◌-◌, ◌<◌, ◌≤◌, nat_lt, Bool, true, false, ◌==◌, cond, List, [], ◌∷◌, length, take, drop, slice_index, Option, Some, None, refl, sym, ap, subst, ◌∙◌, arith}
use Rattle.std.specs.List.{prefix_len, position_or_len}
use Rattle.std.specs.Str.{IsCharBoundary}
use Rattle.std.proofs.lemmas.List.{length-drop}
use Rattle.std.proofs.lemmas.Bool.Decides.{nat_tests}
use Rattle.std.proofs.lemmas.List.Sums.{prefix_len-le-length, prefix_len_stops}
use Rattle.filter_texts.specs.Tokens.{Token, is_quote, is_word_byte, quoted_front, front, with_token, tokens_from}

small_stop : (b : ℕ) → is_word_byte b ≡ false → b < 128
small_stop b e = grind (arith, nat_tests)

stop_is_lead : (b : ℕ) → is_word_byte b ≡ false → 128 ≤ b → 192 ≤ b
stop_is_lead b e large = absurd (omega (arith, large, small_stop b e))

-- a text may be cut behind the word at its front
pub word_boundary : (text : List ℕ) (n : ℕ) → n ≡ prefix_len is_word_byte text → IsCharBoundary text n
word_boundary text n e =
    let P : ℕ → Type 0 = λ k. IsCharBoundary text k in
    subst P (sym e) (prefix_len-le-length is_word_byte text, λ less. stop_is_lead (slice_index text (prefix_len is_word_byte text)) (prefix_len_stops is_word_byte text 0 less))

quoted_within : (bytes : List ℕ) (b : Bool) → nat_lt (position_or_len is_quote bytes) (length bytes) ≡ b
    → (quoted_front bytes).1 ≤ length bytes
quoted_within bytes true e = rw e (grind (arith, nat_tests))
quoted_within bytes false e = rw e (omega arith)

-- no more bytes are of the token than there are
pub front_within : (sign : ℕ) (bytes : List ℕ) → (front sign bytes).1 ≤ length bytes
front_within sign bytes = spaces (sign == 32) refl
  where
    words : (b : Bool) → is_quote sign ≡ b → (cond b (quoted_front bytes) (Some (Token.word (sign ∷ take (prefix_len is_word_byte bytes) bytes)), prefix_len is_word_byte bytes)).1 ≤ length bytes
    words true e = quoted_within bytes _ refl
    words false e = prefix_len-le-length is_word_byte bytes

    closings : (b : Bool) → (sign == 41) ≡ b → (cond b (Some Token.closing, 0) (cond (is_quote sign) (quoted_front bytes) (Some (Token.word (sign ∷ take (prefix_len is_word_byte bytes) bytes)), prefix_len is_word_byte bytes))).1 ≤ length bytes
    closings true e = omega arith
    closings false e = words (is_quote sign) refl

    openings : (b : Bool) → (sign == 40) ≡ b → (cond b (Some Token.opening, 0) (cond (sign == 41) (Some Token.closing, 0) (cond (is_quote sign) (quoted_front bytes) (Some (Token.word (sign ∷ take (prefix_len is_word_byte bytes) bytes)), prefix_len is_word_byte bytes)))).1 ≤ length bytes
    openings true e = omega arith
    openings false e = closings (sign == 41) refl

    spaces : (b : Bool) → (sign == 32) ≡ b → (cond b (None, 0) (cond (sign == 40) (Some Token.opening, 0) (cond (sign == 41) (Some Token.closing, 0) (cond (is_quote sign) (quoted_front bytes) (Some (Token.word (sign ∷ take (prefix_len is_word_byte bytes) bytes)), prefix_len is_word_byte bytes))))).1 ≤ length bytes
    spaces true e = omega arith
    spaces false e = openings (sign == 40) refl

-- bytes that are passed over are dropped
pub passed : (n place : ℕ) (bytes : List ℕ) → tokens_from n place bytes ≡ tokens_from 0 (place + n) (drop n bytes)
unfolding tokens_from
passed zero place bytes = let same : place + 0 ≡ place = omega arith in rw same refl
passed (suc n) place [] = refl
passed (suc n) place (sign ∷ bytes) =
    let same : place + 1 + n ≡ place + suc n = omega arith in
    passed n (place + 1) bytes ∙ ap (λ p. tokens_from 0 p (drop n bytes)) same

pub first_tokens : (place sign : ℕ) (bytes : List ℕ) → tokens_from 0 place (sign ∷ bytes)
    ≡ with_token place (front sign bytes).0 (tokens_from (front sign bytes).1 (place + 1) bytes)
unfolding tokens_from
first_tokens place sign bytes = refl

-- the tokens of what is left of a text, of so many bytes in all
pub next_tokens : (end : ℕ) (rest behind : List ℕ) (token : Option Token) → length rest ≤ end → 0 < length rest
    → token ≡ (front (slice_index rest 0) (drop 1 rest)).0
    → behind ≡ drop (front (slice_index rest 0) (drop 1 rest)).1 (drop 1 rest)
    → tokens_from 0 (end - length rest) rest
    ≡ with_token (end - length rest) token (tokens_from 0 (end - length behind) behind)
next_tokens end [] behind token within some is back = absurd (omega (arith, some))
next_tokens end (sign ∷ bytes) behind token within some is back =
    let n = (front sign bytes).1 in
    let few = front_within sign bytes in
    let place : end - length (sign ∷ bytes) + 1 + n ≡ end - length behind = omega (arith, within, few, ap (λ xs. length xs) back, length-drop n bytes) in
    first_tokens _ sign bytes
    ∙ ap (with_token (end - length (sign ∷ bytes)) (front sign bytes).0) (passed n _ bytes ∙ ap (λ p. tokens_from 0 p (drop n bytes)) place ∙ ap (tokens_from 0 (end - length behind)) (sym back))
    ∙ ap (λ t. with_token (end - length (sign ∷ bytes)) t (tokens_from 0 (end - length behind) behind)) (sym is)

pub behind_within : (end n : ℕ) (rest behind : List ℕ) → length rest ≤ end → behind ≡ drop n (drop 1 rest) → length behind ≤ end
behind_within end n rest behind within back =
    omega (arith, within, ap (λ xs. length xs) back, length-drop n (drop 1 rest), length-drop 1 rest)

-- there is a byte left, or none
pub some_left : (rest : List ℕ) → false ≡ (length rest == 0) → 0 < length rest
some_left [] e = absurd (cc)
some_left (sign ∷ bytes) e = omega arith

pub none_left : (place : ℕ) (rest : List ℕ) → true ≡ (length rest == 0) → tokens_from 0 place rest ≡ []
unfolding tokens_from
none_left place [] e = refl
none_left place (sign ∷ bytes) e = absurd (grind (arith, nat_tests))
