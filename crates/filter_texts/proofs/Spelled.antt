-- The tokens of a text are those that it spells.
use Rattle.std.proofs.Common.{◌≡◌, ℕ, zero, suc, ◌+◌, ◌-◌, ◌<◌, ◌≤◌, nat_lt, Bool, true, false, not, ◌==◌, ◌||◌, ◌&&◌, cond, List, [], ◌∷◌, ◌++◌, length, take, drop, get_or, slice_index, Option, Some, None, refl, sym, ap, subst, ◌∙◌, arith, append-nil, length-append}
use Rattle.std.specs.List.{list_all, list_any, prefix_len, position_or_len, before_first, after_first}
use Rattle.std.proofs.Math.Seq.{take-append_seam, drop-append_seam, drop-append-add, drop-length, take-length}
use Rattle.std.proofs.lemmas.Bool.Decides.{nat_tests}
use Rattle.std.proofs.lemmas.List.{take-append-drop, length-drop}
use Rattle.std.proofs.lemmas.List.Sums.{passes_at_first, prefix_len-le-length, split_at_first}
use Rattle.filter_texts.specs.Tokens.{Token, opening, closing, quoted, word, unclosed, Placed, is_quote, is_word_byte, quoted_front, front, tokens_from, placed_tokens}
use Rattle.filter_texts.specs.Spelling.{without_spaces, IsApart, Spells, AreSpelled}
use Rattle.filter_texts.proofs.Texts.{next_tokens, behind_within}

both : (a b : Bool) → (a && b) ≡ true → (a ≡ true) × (b ≡ true)
both true b e = (refl, e)
both false b e = absurd (cc)

neither : (a b : Bool) → (a || b) ≡ false → (a ≡ false) × (b ≡ false)
neither true b e = absurd (cc)
neither false b e = (refl, e)

-- ---- bytes that pass a test, up to one that does not

-- nothing passes at the front
abbrev Stops : (ℕ → Bool) → List ℕ → Type 0
Stops p [] = Unit {0}
Stops p (y ∷ ys) = p y ≡ false

prefix_stop : (p : ℕ → Bool) (ys : List ℕ) → Stops p ys → prefix_len p ys ≡ 0
prefix_stop p [] stop = refl
prefix_stop p (y ∷ ys) stop = rw stop refl

prefix_all : (p : ℕ → Bool) (xs ys : List ℕ) → list_all p xs ≡ true → Stops p ys → prefix_len p (xs ++ ys) ≡ length xs
prefix_all p [] ys all stop = prefix_stop p ys stop
prefix_all p (x ∷ xs) ys all stop =
    let h = both (p x) (list_all p xs) all in
    rw (h.0, prefix_all p xs ys h.1 stop) (omega arith)

all_passed : (p : ℕ → Bool) (xs : List ℕ) → list_all p (take (prefix_len p xs) xs) ≡ true
all_passed p [] = refl
all_passed p (x ∷ xs) = at (p x) refl (all_passed p xs)
  where
    at : (b : Bool) → p x ≡ b → list_all p (take (prefix_len p xs) xs) ≡ true → list_all p (take (cond b (1 + prefix_len p xs) 0) (x ∷ xs)) ≡ true
    at true e h = let next : 1 + prefix_len p xs ≡ suc (prefix_len p xs) = omega arith in rw (next, e, h) refl
    at false e h = refl

stops_behind : (p : ℕ → Bool) (xs : List ℕ) → Stops p (drop (prefix_len p xs) xs)
stops_behind p [] = tt
stops_behind p (x ∷ xs) = at (p x) refl (stops_behind p xs)
  where
    at : (b : Bool) → p x ≡ b → Stops p (drop (prefix_len p xs) xs) → Stops p (drop (cond b (1 + prefix_len p xs) 0) (x ∷ xs))
    at true e h = let next : suc (prefix_len p xs) ≡ 1 + prefix_len p xs = omega arith in
        let P : ℕ → Type 0 = λ n. Stops p (drop n (x ∷ xs)) in subst P next h
    at false e h = e

apart_stops : (bytes : List ℕ) → IsApart bytes → Stops is_word_byte bytes
apart_stops [] h = tt
apart_stops (sign ∷ bytes) h = h

stops_apart : (bytes : List ℕ) → Stops is_word_byte bytes → IsApart bytes
stops_apart [] h = tt
stops_apart (sign ∷ bytes) h = h

none_quote : (xs : List ℕ) → list_any is_quote xs ≡ false → list_all (λ x. not (is_quote x)) xs ≡ true
none_quote [] e = refl
none_quote (x ∷ xs) e =
    let h = neither (is_quote x) (list_any is_quote xs) e in
    rw (h.0, none_quote xs h.1) refl

quote_step : (x : ℕ) (xs : List ℕ) (b : Bool) → is_quote x ≡ b → (not b && list_all (λ y. not (is_quote y)) xs) ≡ true
    → (list_all (λ y. not (is_quote y)) xs ≡ true → list_any is_quote xs ≡ false) → (b || list_any is_quote xs) ≡ false
quote_step x xs true is e later = absurd (cc)
quote_step x xs false is e later = later e

quote_none : (xs : List ℕ) → list_all (λ x. not (is_quote x)) xs ≡ true → list_any is_quote xs ≡ false
quote_none [] e = refl
quote_none (x ∷ xs) e = quote_step x xs (is_quote x) refl e (λ h. quote_none xs h)

-- ---- the token at the front, of what spells it

pub record IsFront (token : Token) (own rest : List ℕ) : Type 0 where
  pub some : 0 < length own
  pub is : Some token ≡ (front (slice_index own 0) (drop 1 own)).0
  pub back : rest ≡ drop (front (slice_index own 0) (drop 1 own)).1 (drop 1 own)

at_cons : (token : Token) (own rest bytes : List ℕ) (sign more : ℕ) → own ≡ sign ∷ bytes → front sign bytes ≡ (Some token, more)
    → drop more bytes ≡ rest → IsFront token own rest
at_cons token own rest bytes sign more same is left =
    let P : List ℕ → Type 0 = λ xs. IsFront token xs rest in
    subst P (sym same) (record {
      some = omega arith;
      is = ap (λ (f : Option Token × ℕ). f.0) (sym is);
      back = sym (ap (λ (f : Option Token × ℕ). drop f.1 bytes) is ∙ left);
    })

word_front : (sign : ℕ) (bytes rest : List ℕ) → is_word_byte sign ≡ true → list_all is_word_byte bytes ≡ true → IsApart rest
    → front sign (bytes ++ rest) ≡ (Some (word (sign ∷ bytes)), length bytes)
word_front sign bytes rest first all apart =
    let space : (sign == 32) ≡ false = grind (arith, nat_tests) in
    let open_sign : (sign == 40) ≡ false = grind (arith, nat_tests) in
    let close_sign : (sign == 41) ≡ false = grind (arith, nat_tests) in
    let quote : (sign == 34) ≡ false = grind (arith, nat_tests) in
    let len = prefix_all is_word_byte bytes rest all (apart_stops rest apart) in
    rw (space, open_sign, close_sign, quote, len, take-append_seam bytes rest) refl

some_behind : (xs ys : List ℕ) (n : ℕ) → n ≡ length xs + suc (length ys) → nat_lt (length xs) n ≡ true
some_behind xs ys n h = grind (arith, nat_tests)

quoted_is : (bytes rest : List ℕ) → list_any is_quote bytes ≡ false
    → quoted_front (bytes ++ 34 ∷ rest) ≡ (Some (quoted bytes), length bytes + 1)
quoted_is bytes rest none =
    let len : position_or_len is_quote (bytes ++ 34 ∷ rest) ≡ length bytes = prefix_all (λ x. not (is_quote x)) bytes (34 ∷ rest) (none_quote bytes none) refl in
    let there = some_behind bytes rest (length (bytes ++ 34 ∷ rest)) (length-append bytes (34 ∷ rest)) in
    rw (len, there, take-append_seam bytes (34 ∷ rest)) refl

not_less : (n : ℕ) → nat_lt n n ≡ false
not_less n = grind (arith, nat_tests)

unclosed_is : (bytes : List ℕ) → list_any is_quote bytes ≡ false → quoted_front bytes ≡ (Some unclosed, length bytes)
unclosed_is bytes none =
    let len : position_or_len is_quote bytes ≡ length bytes =
    sym (ap (λ xs. position_or_len is_quote xs) (append-nil bytes)) ∙ prefix_all (λ x. not (is_quote x)) bytes [] (none_quote bytes none) tt in
    rw (len, not_less (length bytes)) refl

pub spelled_front : (token : Token) (own rest : List ℕ) → Spells token own rest → IsFront token own rest
spelled_front opening own rest h = at_cons opening own rest rest 40 0 h refl refl
spelled_front closing own rest h = at_cons closing own rest rest 41 0 h refl refl
spelled_front (quoted bytes) own rest h =
    at_cons (quoted bytes) own rest (bytes ++ 34 ∷ rest) 34 (length bytes + 1) h.0 (quoted_is bytes rest h.1) (drop-append-add bytes (34 ∷ rest) 1)
spelled_front (word []) own rest h = absurd (h.1 refl)
spelled_front (word (sign ∷ bytes)) own rest h =
    let all = both (is_word_byte sign) (list_all is_word_byte bytes) h.2 in
    at_cons (word (sign ∷ bytes)) own rest (bytes ++ rest) sign (length bytes) h.0 (word_front sign bytes rest all.0 all.1 h.3) (drop-append_seam bytes rest)
spelled_front unclosed own rest (more, is, none, gone) =
    at_cons unclosed own rest more 34 (length more) is (unclosed_is more none) (drop-length more ∙ sym gone)

-- ---- what spells the token at the front

pub record HasFront (sign : ℕ) (bytes : List ℕ) (found : Option Token × ℕ) : Type 0 where
  pub token : Token
  pub is : found.0 ≡ Some token
  pub spells : Spells token (sign ∷ bytes) (drop found.1 bytes)

less_of : (a b : ℕ) → nat_lt a b ≡ true → a < b
less_of a b e = grind (arith, nat_tests)

equal : (a b : ℕ) → (a == b) ≡ true → a ≡ b
equal a b e = grind (arith, nat_tests)

at_least : (a b : ℕ) → nat_lt a b ≡ false → a ≤ b → a ≡ b
at_least a b e h = grind (arith, nat_tests)

has_word : (sign : ℕ) (bytes : List ℕ) → is_word_byte sign ≡ true
    → HasFront sign bytes (Some (word (sign ∷ take (prefix_len is_word_byte bytes) bytes)), prefix_len is_word_byte bytes)
has_word sign bytes first =
    let n = prefix_len is_word_byte bytes in
    record {
      token = word (sign ∷ take n bytes);
      is = refl;
      spells = (
        ap (λ xs. sign ∷ xs) (sym (take-append-drop n bytes)),
        λ e. cc,
        ap (λ b. b && list_all is_word_byte (take n bytes)) first ∙ all_passed is_word_byte bytes,
        stops_apart (drop n bytes) (stops_behind is_word_byte bytes),
      );
    }

has_quoted : (bytes : List ℕ) → position_or_len is_quote bytes < length bytes
    → HasFront 34 bytes (Some (quoted (before_first is_quote bytes)), position_or_len is_quote bytes + 1)
has_quoted bytes there =
    let n = position_or_len is_quote bytes in
    let quote = equal (get_or bytes n 0) 34 (passes_at_first is_quote bytes 0 there) in
    record {
      token = quoted (before_first is_quote bytes);
      is = refl;
      spells = (
        ap (λ xs. 34 ∷ xs) (split_at_first is_quote bytes 0 there
            ∙ ap (λ c. before_first is_quote bytes ++ c ∷ after_first is_quote bytes) quote),
        quote_none (before_first is_quote bytes) (all_passed (λ x. not (is_quote x)) bytes),
      );
    }

has_unclosed : (bytes : List ℕ) → position_or_len is_quote bytes ≡ length bytes → HasFront 34 bytes (Some unclosed, length bytes)
has_unclosed bytes none =
    let all : list_all (λ x. not (is_quote x)) bytes ≡ true =
    ap (λ xs. list_all (λ x. not (is_quote x)) xs) (sym (take-length bytes) ∙ ap (λ n. take n bytes) (sym none)) ∙ all_passed (λ x. not (is_quote x)) bytes in
    record {
      token = unclosed;
      is = refl;
      spells = (bytes, refl, quote_none bytes all, drop-length bytes);
    }

quoted_either : (bytes : List ℕ) (b : Bool) → nat_lt (position_or_len is_quote bytes) (length bytes) ≡ b
    → HasFront 34 bytes (cond b (Some (quoted (before_first is_quote bytes)), position_or_len is_quote bytes + 1) (Some unclosed, length bytes))
quoted_either bytes true e = has_quoted bytes (less_of _ _ e)
quoted_either bytes false e = has_unclosed bytes (at_least _ _ e (prefix_len-le-length (λ x. not (is_quote x)) bytes))

word_of_tests : (sign : ℕ) → (sign == 32) ≡ false → (sign == 40) ≡ false → (sign == 41) ≡ false → (sign == 34) ≡ false
    → is_word_byte sign ≡ true
word_of_tests sign a b c d = grind (arith, nat_tests)

-- a byte that is no space begins a token
pub has_front : (sign : ℕ) (bytes : List ℕ) → (sign == 32) ≡ false → HasFront sign bytes (front sign bytes)
has_front sign bytes space = opens (sign == 40) refl
  where
    a_word : Option Token × ℕ
    a_word = (Some (word (sign ∷ take (prefix_len is_word_byte bytes) bytes)), prefix_len is_word_byte bytes)

    quotes : (b : Bool) → (sign == 34) ≡ b → (sign == 40) ≡ false → (sign == 41) ≡ false
        → HasFront sign bytes (cond b (quoted_front bytes) (Some (word (sign ∷ take (prefix_len is_word_byte bytes) bytes)), prefix_len is_word_byte bytes))
    quotes true e k l =
        let P : ℕ → Type 0 = λ c. HasFront c bytes (quoted_front bytes) in
        subst P (sym (equal sign 34 e)) (quoted_either bytes _ refl)
    quotes false e k l = has_word sign bytes (word_of_tests sign space k l e)

    closes : (b : Bool) → (sign == 41) ≡ b → (sign == 40) ≡ false
        → HasFront sign bytes (cond b (Some closing, 0) (cond (sign == 34) (quoted_front bytes) (Some (word (sign ∷ take (prefix_len is_word_byte bytes) bytes)), prefix_len is_word_byte bytes)))
    closes true e k = record { token = closing; is = refl; spells = ap (λ c. c ∷ bytes) (equal sign 41 e) }
    closes false e k = quotes (sign == 34) refl k e

    opens : (b : Bool) → (sign == 40) ≡ b
        → HasFront sign bytes (cond (sign == 32) (None, 0) (cond b (Some opening, 0) (cond (sign == 41) (Some closing, 0)
        (cond (sign == 34) (quoted_front bytes) (Some (word (sign ∷ take (prefix_len is_word_byte bytes) bytes)), prefix_len is_word_byte bytes)))))
    opens true e = rw space (record { token = opening; is = refl; spells = ap (λ c. c ∷ bytes) (equal sign 40 e) })
    opens false e = rw space (closes (sign == 41) refl e)

-- ---- the tokens of the last bytes of a text of so many

abbrev from_end : ℕ → List ℕ → List Placed
from_end end bytes = tokens_from 0 (end - length bytes) bytes

none_at_end : (end : ℕ) → from_end end [] ≡ []
unfolding tokens_from
none_at_end end = refl

spaces_step : (end sign : ℕ) (bytes : List ℕ) (b : Bool) → (sign == 32) ≡ b → length (sign ∷ bytes) ≤ end
    → from_end end bytes ≡ from_end end (without_spaces bytes)
    → from_end end (sign ∷ bytes) ≡ from_end end (cond b (without_spaces bytes) (sign ∷ bytes))
spaces_step end sign bytes true e within later =
    let P : ℕ → Type 0 = λ c. from_end end (c ∷ bytes) ≡ from_end end bytes in
    subst P (sym (equal sign 32 e)) (next_tokens end (32 ∷ bytes) bytes None within (omega arith) refl refl) ∙ later
spaces_step end sign bytes false e within later = refl

spaces_passed : (end : ℕ) (bytes : List ℕ) → length bytes ≤ end → from_end end bytes ≡ from_end end (without_spaces bytes)
spaces_passed end [] within = refl
spaces_passed end (sign ∷ bytes) within =
    spaces_step end sign bytes (sign == 32) refl within (spaces_passed end bytes (omega (arith, within)))

fewer : (bytes : List ℕ) → length (without_spaces bytes) ≤ length bytes
fewer [] = omega arith
fewer (sign ∷ bytes) = at (sign == 32) (fewer bytes)
  where
    at : (b : Bool) → length (without_spaces bytes) ≤ length bytes → length (cond b (without_spaces bytes) (sign ∷ bytes)) ≤ length (sign ∷ bytes)
    at true h = omega (arith, h)
    at false h = omega arith

no_space : (bytes : List ℕ) (sign : ℕ) (more : List ℕ) → without_spaces bytes ≡ sign ∷ more → (sign == 32) ≡ false
no_space [] sign more e = absurd (cc)
no_space (first ∷ bytes) sign more e = at (first == 32) refl e (λ h. no_space bytes sign more h)
  where
    at : (b : Bool) → (first == 32) ≡ b → cond b (without_spaces bytes) (first ∷ bytes) ≡ sign ∷ more
        → (without_spaces bytes ≡ sign ∷ more → (sign == 32) ≡ false) → (sign == 32) ≡ false
    at true is h later = later h
    at false is h later = let same : first ≡ sign = cc in ap (λ c. c == 32) (sym same) ∙ is

-- the tokens that bytes spell are theirs
spelled_are : (end : ℕ) (tokens : List Placed) (bytes : List ℕ) → length bytes ≤ end → AreSpelled end bytes tokens → from_end end bytes ≡ tokens
spelled_are end [] bytes within h =
    spaces_passed end bytes within ∙ ap (λ bs. from_end end bs) h ∙ none_at_end end
spelled_are end (placed ∷ tokens) bytes within (rest, there, spells, h) =
    let own = without_spaces bytes in
    let few : length own ≤ end = omega (arith, within, fewer bytes) in
    let f = spelled_front placed.token own rest spells in
    let place : end - length own ≡ placed.place = omega (arith, there) in
    spaces_passed end bytes within ∙ next_tokens end own rest (Some placed.token) few f.some f.is f.back
    ∙ ap (λ p. record { place = p; token = placed.token } ∷ from_end end rest) place
    ∙ ap (λ ts. placed ∷ ts) (spelled_are end tokens rest (behind_within end _ own rest few f.back) h)

along : (end : ℕ) (bytes : List ℕ) (xs ys : List Placed) → xs ≡ ys → AreSpelled end bytes xs → AreSpelled end bytes ys
along end bytes xs ys e h = let P : List Placed → Type 0 = λ ts. AreSpelled end bytes ts in subst P e h

are_step : (end : ℕ) (bytes own : List ℕ) → without_spaces bytes ≡ own → length bytes ≤ end
    → ((rest : List ℕ) → length rest < length own → AreSpelled end rest (from_end end rest)) → AreSpelled end bytes (from_end end bytes)
are_step end bytes [] same within later =
    along end bytes [] (from_end end bytes)
    (sym (spaces_passed end bytes within ∙ ap (λ bs. from_end end bs) same ∙ none_at_end end)) same
are_step end bytes (sign ∷ more) same within later =
    let f = has_front sign more (no_space bytes sign more same) in
    let rest = drop (front sign more).1 more in
    let few : length (sign ∷ more) ≤ end = omega (arith, within, fewer bytes, ap (λ bs. length bs) same) in
    let here : Placed = record { place = end - length (sign ∷ more); token = f.token } in
    let left : here ∷ from_end end rest ≡ from_end end bytes =
    sym (spaces_passed end bytes within ∙ ap (λ bs. from_end end bs) same
    ∙ next_tokens end (sign ∷ more) rest (Some f.token) few (omega arith) (sym f.is) refl) in
    let place : end - length (sign ∷ more) + length (without_spaces bytes) ≡ end =
    omega (arith, few, ap (λ bs. length bs) same) in
    let P : List ℕ → Type 0 = λ bs. Spells f.token bs rest in
    along end bytes (here ∷ from_end end rest) (from_end end bytes) left
    (rest, place, subst P (sym same) f.spells, later rest (omega (arith, length-drop (front sign more).1 more)))

are_spelled : (n end : ℕ) (bytes : List ℕ) → length bytes ≤ n → length bytes ≤ end → AreSpelled end bytes (from_end end bytes)
are_spelled zero end [] few within = are_step end [] [] refl within (λ rest less. absurd (omega (arith, less)))
are_spelled zero end (sign ∷ bytes) few within = absurd (omega (arith, few))
are_spelled (suc n) end bytes few within =
    are_step end bytes (without_spaces bytes) refl within
    (λ rest less. are_spelled n end rest (omega (arith, less, few, fewer bytes)) (omega (arith, less, within, fewer bytes)))

whole : (text : List ℕ) → from_end (length text) text ≡ placed_tokens text
whole text = let none : length text - length text ≡ 0 = omega arith in ap (λ p. tokens_from 0 p text) none

-- a text spells its tokens
pub spells_tokens : (text : List ℕ) → AreSpelled (length text) text (placed_tokens text)
spells_tokens text = along (length text) text _ _ (whole text) (are_spelled (length text) (length text) text (omega arith) (omega arith))

-- and no others
pub only_tokens : (text : List ℕ) (tokens : List Placed) → AreSpelled (length text) text tokens → placed_tokens text ≡ tokens
only_tokens text tokens h = sym (whole text) ∙ spelled_are (length text) tokens text (omega arith) h
