-- A part that is read is the part that was written, and what was written is read again: numbers, bytes and texts.
use Rattle.std.proofs.Common.{◌≡◌, ℕ, suc, ◌+◌, ◌^◌, ◌<◌, ◌≤◌, Bool, true, false, cond, ltb, leb, ◌&&◌, List, [], ◌∷◌, ◌++◌, length, get_or, take, drop, Option, Some, None, Result, Ok, Err, refl, sym, ap, subst, ◌∙◌, append_assoc, arith, inl, inr}
use Rattle.std.specs.Int.{Width, w32, w64, byte_len, from_be_bytes, to_be_bytes}
use Rattle.std.specs.Str.{IsUtf8, is_utf8}
use Rattle.std.proofs.lemmas.Bool.{cases_lt, ltb-false, ltb-true, le-ltb, lt-ltb, leb-true, le-leb}
use Rattle.std.proofs.lemmas.List.{take_at, drop_at, take-append-drop, length-append, length-take, get_or-drop, get_or-take, get_or_past}
use Rattle.std.proofs.lemmas.Nat.{be_bytes_4, be_bytes_8, from_be_bytes-to_be_bytes_4, from_be_bytes-to_be_bytes_8}
use Rattle.std.proofs.lemmas.Str.{IsUtf8-from_is_utf8, is_utf8-from_IsUtf8}
use Rattle.size_values.specs.Moments.{moment_limit}
use Rattle.row_codec.specs.declared.unreadable.Unreadable.{Unreadable}
use Rattle.row_codec.specs.Spelling.{text_bytes, number_bytes}
use Rattle.row_codec.specs.Rows.{IsShort, IsMoment}
use Rattle.row_codec.specs.Reading.{◌>>=◌, Read, stops_at, count_at, number_at, moment_at, meant_at, code_at, text_at}

abbrev pub IsBytes : List ℕ → Type 0
IsBytes bytes = (i : ℕ) → get_or bytes i 0 < 256

IsBytes-drop : (n : ℕ) (bytes : List ℕ) → IsBytes bytes → IsBytes (drop n bytes)
IsBytes-drop n bytes h i = rw get_or-drop (h (n + i))

IsBytes-take : (n : ℕ) (bytes : List ℕ) → IsBytes bytes → IsBytes (take n bytes)
IsBytes-take n bytes h i =
    elim (cases_lt i n) [
      | inl lt ↦ rw (get_or-take n bytes i 0 lt) (h i)
      | inr le ↦ rw (get_or_past (take n bytes) i 0 (omega (arith, length-take n bytes))) (omega arith)
    ]

pub IsBytes-tail : (b : ℕ) (bytes : List ℕ) → IsBytes (b ∷ bytes) → IsBytes bytes
IsBytes-tail b bytes h i = h (suc i)

-- what a step that did not fail gave
pub record Went {A B E : Type 0} (read : Result A E) (next : A → Result B E) (y : B) : Type 0 where
  pub got : A
  pub read_is : read ≡ Ok got
  pub next_is : next got ≡ Ok y

pub went : {A B E : Type 0} (read : Result A E) (next : A → Result B E) (y : B) → (read >>= next) ≡ Ok y → Went read next y
went (Ok x) next y e = record { got = x; read_is = refl; next_is = e }
went (Err d) next y e = absurd cc

-- a test that did not fail
pub passed : {A E : Type 0} (b : Bool) (x y : A) (d : E) → cond b (Ok x) (Err d) ≡ Ok y → (b ≡ true) × (x ≡ y)
passed true x y d e = (refl, cc)
passed false x y d e = absurd cc

pub passed_not : {A E : Type 0} (b : Bool) (x y : A) (d : E) → cond b (Err d) (Ok x) ≡ Ok y → (b ≡ false) × (x ≡ y)
passed_not true x y d e = absurd cc
passed_not false x y d e = (refl, cc)

abbrev pub done : {A : Type 0} → A → Result A Unreadable
done x = Ok x

pub ok_is : {A : Type 0} (x y : A) → done x ≡ done y → x ≡ y
ok_is x y e = cc

-- what a reader took from the front
pub record Takes (bytes text rest : List ℕ) : Type 0 where
  pub parts : bytes ≡ text ++ rest
  pub rest_fits : IsBytes rest

pub Takes-then : {a x b y c : List ℕ} → Takes a x b → Takes b y c → Takes a (x ++ y) c
Takes-then {a} {x} {b} {y} {c} p q = record { parts = p.parts ∙ ap (λ (t : List ℕ). x ++ t) q.parts ∙ sym (append_assoc x y c); rest_fits = q.rest_fits }

-- A reader of one part: it takes spellings of parts that fit, and nothing else.
pub record IsPart {A : Type 0} (read : List ℕ → Read A) (spelled : A → List ℕ) (Fits : A → Type 0) : Type 0 where
  pub takes : (bytes : List ℕ) (x : A × List ℕ) → IsBytes bytes → read bytes ≡ Ok x → Takes bytes (spelled x.0) x.1
  pub fits : (bytes : List ℕ) (x : A × List ℕ) → IsBytes bytes → read bytes ≡ Ok x → Fits x.0
  pub again : (x : A) (rest : List ℕ) → Fits x → read (spelled x ++ rest) ≡ Ok (x, rest)

-- ---- numbers

record IsWide (w : Width) (limit : ℕ) : Type 0 where
  pub len : (n : ℕ) → length (to_be_bytes w n) ≡ byte_len w
  pub back : (bytes : List ℕ) → length bytes ≡ byte_len w → IsBytes bytes → to_be_bytes w (from_be_bytes w bytes) ≡ bytes
  pub again : (n : ℕ) → n < limit → from_be_bytes w (to_be_bytes w n) ≡ n
  pub below : (bytes : List ℕ) → IsBytes bytes → from_be_bytes w bytes < limit

wide32 : IsWide w32 (2 ^ 32)
wide32 = record {
  len = λ n. refl;
  back = λ bytes len fits. be_bytes_4 bytes _ len fits refl;
  again = λ n lt. from_be_bytes-to_be_bytes_4 n lt;
  below = λ bytes fits. omega (arith, fits 0, fits 1, fits 2, fits 3);
}

wide64 : IsWide w64 (2 ^ 64)
wide64 = record {
  len = λ n. refl;
  back = λ bytes len fits. be_bytes_8 bytes _ len fits refl;
  again = λ n lt. from_be_bytes-to_be_bytes_8 n lt;
  below = λ bytes fits. omega (arith, fits 0, fits 1, fits 2, fits 3, fits 4, fits 5, fits 6, fits 7);
}

abbrev wide_at : Width → List ℕ → Read ℕ
wide_at w bytes = cond (ltb (length bytes) (byte_len w)) (stops_at bytes) (Ok (from_be_bytes w (take (byte_len w) bytes), drop (byte_len w) bytes))

wide_part : (w : Width) (limit : ℕ) → IsWide w limit → IsPart (wide_at w) (to_be_bytes w) (λ n. n < limit)
wide_part w limit wide = record { takes = takes; fits = fits; again = again }
  where
    test : (bytes : List ℕ) (x : ℕ × List ℕ) → wide_at w bytes ≡ Ok x → (ltb (length bytes) (byte_len w) ≡ false) × ((from_be_bytes w (take (byte_len w) bytes), drop (byte_len w) bytes) ≡ x)
    test bytes x e = passed_not (ltb (length bytes) (byte_len w)) (from_be_bytes w (take (byte_len w) bytes), drop (byte_len w) bytes) x (record { left = length bytes }) e

    takes : (bytes : List ℕ) (x : ℕ × List ℕ) → IsBytes bytes → wide_at w bytes ≡ Ok x → Takes bytes (to_be_bytes w x.0) x.1
    takes bytes x fits e =
        let t = test bytes x e in
        let long : byte_len w ≤ length bytes = ltb-false _ _ t.0 in
        let front : to_be_bytes w (from_be_bytes w (take (byte_len w) bytes)) ≡ take (byte_len w) bytes = wide.back (take (byte_len w) bytes) (omega (arith, length-take (byte_len w) bytes)) (IsBytes-take (byte_len w) bytes fits) in
        let whole : Takes bytes (to_be_bytes w (from_be_bytes w (take (byte_len w) bytes))) (drop (byte_len w) bytes) = record { parts = rw front (sym (take-append-drop (byte_len w) bytes)); rest_fits = IsBytes-drop (byte_len w) bytes fits } in
        subst (λ (p : ℕ × List ℕ). Takes bytes (to_be_bytes w p.0) p.1) t.1 whole

    fits : (bytes : List ℕ) (x : ℕ × List ℕ) → IsBytes bytes → wide_at w bytes ≡ Ok x → x.0 < limit
    fits bytes x all e = subst (λ (p : ℕ × List ℕ). p.0 < limit) (test bytes x e).1 (wide.below (take (byte_len w) bytes) (IsBytes-take (byte_len w) bytes all))

    again : (n : ℕ) (rest : List ℕ) → n < limit → wide_at w (to_be_bytes w n ++ rest) ≡ Ok (n, rest)
    again n rest lt =
        let len = wide.len n in
        let long : ltb (length (to_be_bytes w n ++ rest)) (byte_len w) ≡ false = le-ltb _ _ (omega (arith, length-append (to_be_bytes w n) rest)) in
        rw (long, take_at (to_be_bytes w n) rest (byte_len w) len, drop_at (to_be_bytes w n) rest (byte_len w) len, wide.again n lt) refl

pub count_part : IsPart count_at (to_be_bytes w32) (λ n. n < 2 ^ 32)
unfolding count_at
count_part = wide_part w32 (2 ^ 32) wide32

number_part : IsPart number_at number_bytes (λ n. n < 2 ^ 64)
unfolding number_at number_bytes
number_part = wide_part w64 (2 ^ 64) wide64

pub moment_part : IsPart moment_at number_bytes IsMoment
unfolding moment_at
moment_part = record { takes = takes; fits = fits; again = again }
  where
    test : (bytes : List ℕ) (x : ℕ × List ℕ) → (number_at bytes >>= λ m. cond (ltb m.0 moment_limit) (Ok m) (stops_at bytes)) ≡ Ok x → (number_at bytes ≡ Ok x) × (x.0 < moment_limit)
    test bytes x e =
        let s = went (number_at bytes) (λ m. cond (ltb m.0 moment_limit) (Ok m) (stops_at bytes)) x e in
        let p = passed (ltb s.got.0 moment_limit) s.got x (record { left = length bytes }) s.next_is in
        (s.read_is ∙ ap Ok p.1, subst (λ (y : ℕ × List ℕ). y.0 < moment_limit) p.1 (ltb-true _ _ p.0))

    takes : (bytes : List ℕ) (x : ℕ × List ℕ) → IsBytes bytes → (number_at bytes >>= λ m. cond (ltb m.0 moment_limit) (Ok m) (stops_at bytes)) ≡ Ok x → Takes bytes (number_bytes x.0) x.1
    takes bytes x fits e = number_part.takes bytes x fits (test bytes x e).0

    fits : (bytes : List ℕ) (x : ℕ × List ℕ) → IsBytes bytes → (number_at bytes >>= λ m. cond (ltb m.0 moment_limit) (Ok m) (stops_at bytes)) ≡ Ok x → IsMoment x.0
    fits bytes x all e = (test bytes x e).1

    again : (n : ℕ) (rest : List ℕ) → IsMoment n → (number_at (number_bytes n ++ rest) >>= λ m. cond (ltb m.0 moment_limit) (Ok m) (stops_at (number_bytes n ++ rest))) ≡ Ok (n, rest)
    again n rest lt = rw (number_part.again n rest (omega arith), lt-ltb n moment_limit lt) refl

-- ---- bytes that stand for something

pub code_part : {A : Type 0} (meaning : ℕ → Option A) (byte : A → ℕ) → ((b : ℕ) (x : A) → meaning b ≡ Some x → byte x ≡ b) → ((x : A) → meaning (byte x) ≡ Some x)
    → IsPart (code_at meaning) (λ x. byte x ∷ []) (λ _. Unit {0})
unfolding code_at
code_part {A} meaning byte back again = record { takes = takes; fits = λ bytes x all e. tt; again = λ x rest fits. rw (again x) refl }
  where
    takes : (bytes : List ℕ) (x : A × List ℕ) → IsBytes bytes → code_at meaning bytes ≡ Ok x → Takes bytes (byte x.0 ∷ []) x.1
    takes [] x fits e = absurd cc
    takes (b ∷ rest) x fits e = by (meaning b) refl e
      where
        by : (m : Option A) → meaning b ≡ m → meant_at m rest (b ∷ rest) ≡ Ok x → Takes (b ∷ rest) (byte x.0 ∷ []) x.1
        by None is e = absurd cc
        by (Some y) is e =
            let pair : (y, rest) ≡ x = cc in
            subst (λ (p : A × List ℕ). Takes (b ∷ rest) (byte p.0 ∷ []) p.1) pair (record { parts = ap (λ c. c ∷ rest) (sym (back b y is)); rest_fits = IsBytes-tail b rest fits })

-- ---- texts

pub record IsText (text : List ℕ) : Type 0 where
  pub short : IsShort text
  pub utf8 : IsUtf8 text

pub both_true : (a b : Bool) → (a && b) ≡ true → (a ≡ true) × (b ≡ true)
both_true true b e = (refl, e)
both_true false b e = absurd cc

abbrev sized : List ℕ → ℕ × List ℕ → Read (List ℕ)
sized bytes len = cond (leb len.0 (length len.1) && is_utf8 (take len.0 len.1)) (Ok (take len.0 len.1, drop len.0 len.1)) (stops_at bytes)

pub text_part : IsPart text_at text_bytes IsText
unfolding text_at text_bytes
text_part = record { takes = λ bytes x all e. (took bytes x all e).0; fits = λ bytes x all e. (took bytes x all e).1; again = again }
  where
    took : (bytes : List ℕ) (x : List ℕ × List ℕ) → IsBytes bytes → (count_at bytes >>= sized bytes) ≡ Ok x → Takes bytes (to_be_bytes w32 (length x.0) ++ x.0) x.1 × IsText x.0
    took bytes x all e =
        let s = went (count_at bytes) (sized bytes) x e in
        let n = s.got.0 in
        let rest = s.got.1 in
        let p = passed (leb n (length rest) && is_utf8 (take n rest)) (take n rest, drop n rest) x (record { left = length bytes }) s.next_is in
        let tests = both_true (leb n (length rest)) (is_utf8 (take n rest)) p.0 in
        let long : n ≤ length rest = leb-true n (length rest) tests.0 in
        let len : length (take n rest) ≡ n = omega (arith, length-take n rest) in
        let small : n < 2 ^ 32 = count_part.fits bytes s.got all s.read_is in
        let first : Takes bytes (to_be_bytes w32 n) rest = count_part.takes bytes s.got all s.read_is in
        let second : Takes rest (take n rest) (drop n rest) = record { parts = sym (take-append-drop n rest); rest_fits = IsBytes-drop n rest first.rest_fits } in
        let whole : Takes bytes (to_be_bytes w32 (length (take n rest)) ++ take n rest) (drop n rest) = subst (λ (k : ℕ). Takes bytes (to_be_bytes w32 k ++ take n rest) (drop n rest)) (sym len) (Takes-then first second) in
        let short : length (take n rest) < 2 ^ 32 = omega (arith, length-take n rest) in
        let fits : IsText (take n rest) = record { short = short; utf8 = IsUtf8-from_is_utf8 (take n rest) tests.1 } in
        subst (λ (y : List ℕ × List ℕ). Takes bytes (to_be_bytes w32 (length y.0) ++ y.0) y.1 × IsText y.0) p.1 (whole, fits)

    again : (text rest : List ℕ) → IsText text → (count_at ((to_be_bytes w32 (length text) ++ text) ++ rest) >>= sized ((to_be_bytes w32 (length text) ++ text) ++ rest)) ≡ Ok (text, rest)
    again text rest fits =
        let regrouped : (to_be_bytes w32 (length text) ++ text) ++ rest ≡ to_be_bytes w32 (length text) ++ (text ++ rest) = append_assoc (to_be_bytes w32 (length text)) text rest in
        let counted : count_at ((to_be_bytes w32 (length text) ++ text) ++ rest) ≡ Ok (length text, text ++ rest) = ap count_at regrouped ∙ count_part.again (length text) (text ++ rest) fits.short in
        let long : leb (length text) (length (text ++ rest)) ≡ true = le-leb (length text) (length (text ++ rest)) (omega (arith, length-append text rest)) in
        let front : take (length text) (text ++ rest) ≡ text = take_at text rest (length text) refl in
        let back : drop (length text) (text ++ rest) ≡ rest = drop_at text rest (length text) refl in
        let utf8 : is_utf8 text ≡ true = is_utf8-from_IsUtf8 text fits.utf8 in
        rw (counted, long, front, back, utf8) refl
