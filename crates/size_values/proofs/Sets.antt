-- CPU sets, number by number.
use Rattle.std.proofs.Common.{◌≡◌, ℕ, ◌+◌, ◌-◌, ◌^◌, ◌<◌, ◌≤◌, min, Bool, true, false, cond, not, ◌&&◌, ◌||◌, List, [], ◌∷◌, ◌++◌, length, take, drop, get_or, None, Ok, Err, sym, refl, ap, ◌∙◌, subst, inl, inr, arith, length-take, get_or-take}
use Rattle.std.proofs.lemmas.Bool.Decides.{nat_tests}
use Rattle.std.proofs.lemmas.Bool.{true≢false}
use Rattle.std.proofs.lemmas.List.{take_all, take_at, drop_at, drop-drop, nil_from_length}
use Rattle.std.proofs.lemmas.List.Splits.{slice_split-cons_no}
use Rattle.std.proofs.lemmas.List.Folds.{list_any-append, list_any_none, length-prefix_len}
use Rattle.std.proofs.lemmas.List.Elements.{filter-append}
use Rattle.std.proofs.lemmas.List.Sums.{prefix_len_passes, take_while-cons}
use Rattle.std.specs.Prelude.{nat_lt, nat_le, filter}
use Rattle.std.specs.Char.{is_ascii_digit}
use Rattle.std.specs.Str.Parse.{digits_value}
use Rattle.std.specs.List.{prefix_len, take_while, list_any, position_or_len, before_first, after_first, slice_split, onto_first}
use Rattle.size_values.specs.Form.{StandsTo}
use Rattle.size_values.specs.Number.{number_at}
use Rattle.size_values.specs.Reading.{stray, last_byte, is_too_large, is_outside}
use Rattle.size_values.specs.Cpu.{is_comma, is_dash, may_follow_in_set, is_whole_set, falls, set_of}
use Rattle.size_values.specs.Set.{is_sign, is_number_large, BeginsSet, ContinuesSet, BreaksSet}
use Rattle.size_values.specs.declared.cpu.SetFront.{SetFront}
use Rattle.size_values.specs.declared.fault.ValueFault.TheVariants.{BadByte, TooLarge, OutOfRange}
use Rattle.size_values.specs.declared.cpu.Cpu.TheVariants.{Pinned}
use Rattle.size_values.proofs.Counts.{too_large-is}
use Rattle.size_values.proofs.Forms.{reading-here, reading-past, reading-strays, reading-formed, stray-at, stray-none, leaves, whole-front, stands-start, stands-run, stands-more}
use Rattle.size_values.proofs.Fronts.{take-more, last_byte-take, last_byte-push, slice_split-snoc, slice_split-extend, passing-inside, run-unsplit, run-within, run-digit, run-end}

abbrev separates : ℕ → Bool
separates b = is_comma b || is_dash b

-- the bytes that are no digits
abbrev signs : List ℕ → List ℕ
signs text = filter (λ c. not (is_ascii_digit c)) text

-- the last part is a number of these digits, or a range
pub record EndsWithPart (parts : List (List ℕ)) (in_range : Bool) (digits : List ℕ) : Type 0 where
  pub init : List (List ℕ)
  pub part : List ℕ
  pub is : parts ≡ init ++ part ∷ []
  pub single : in_range ≡ false → part ≡ digits

-- the front of a set, as far as it has been read
pub record IsSetFront (text : List ℕ) (front : SetFront) : Type 0 where
  pub stands : StandsTo may_follow_in_set text front.end
  pub whole : is_ascii_digit (last_byte (take front.end text)) ≡ true
  pub ends : is_ascii_digit (get_or text front.end 0) ≡ false
  pub sign : is_dash (last_byte (signs (take front.end text))) ≡ front.in_range
  pub large : list_any is_too_large (slice_split separates (take front.end text)) ≡ front.too_large
  pub digits : List ℕ
  pub ending : EndsWithPart (slice_split is_comma (take front.end text)) front.in_range digits
  pub no_dash : list_any is_dash digits ≡ false
  pub last : front.last ≡ min (digits_value 10 digits) (2 ^ 64 - 1)
  pub seen : is_outside 0 1000000 digits ≡ true → front.unfit ≡ true
  pub unfit : (list_any (is_outside 0 1000000) (slice_split separates (take front.end text)) || list_any falls (slice_split is_comma (take front.end text))) ≡ front.unfit

digit-no_comma : (c : ℕ) → is_ascii_digit c ≡ true → is_comma c ≡ false
digit-no_comma c h = grind (arith, nat_tests)

digit-no_dash : (c : ℕ) → is_ascii_digit c ≡ true → is_dash c ≡ false
digit-no_dash c h = grind (arith, nat_tests)

digit-no_sign : (c : ℕ) → is_ascii_digit c ≡ true → separates c ≡ false
digit-no_sign c h = grind (arith, nat_tests)

-- digits have no sign in them
digits-no_dash : (xs : List ℕ) → list_any is_dash (take_while is_ascii_digit xs) ≡ false
digits-no_dash xs = list_any_none is_dash (take_while is_ascii_digit xs) (λ k d less. by k d (omega (arith, less, length-take (prefix_len is_ascii_digit xs) xs)))
  where
    by : (k d : ℕ) → k < prefix_len is_ascii_digit xs → is_dash (get_or (take_while is_ascii_digit xs) k d) ≡ false
    by k d less = ap is_dash (get_or-take (prefix_len is_ascii_digit xs) xs k d less) ∙ digit-no_dash (get_or xs k d) (prefix_len_passes is_ascii_digit xs k d less)

digits-signs : (xs : List ℕ) → signs (take_while is_ascii_digit xs) ≡ []
digits-signs [] = refl
digits-signs (x ∷ xs) = ap signs (take_while-cons is_ascii_digit x xs) ∙ at (is_ascii_digit x) refl (digits-signs xs)
  where
    at : (b : Bool) → is_ascii_digit x ≡ b → signs (take_while is_ascii_digit xs) ≡ [] → signs (cond b (x ∷ take_while is_ascii_digit xs) []) ≡ []
    at true e rest = ap (λ c. cond (not c) (x ∷ signs (take_while is_ascii_digit xs)) (signs (take_while is_ascii_digit xs))) e ∙ rest
    at false e rest = refl

-- the last sign of a front that goes on with a sign and digits
last-sign : (front : List ℕ) (c : ℕ) (xs : List ℕ) → is_ascii_digit c ≡ false → last_byte (signs (front ++ c ∷ take_while is_ascii_digit xs)) ≡ c
last-sign front c xs sign =
    ap last_byte (filter-append (λ b. not (is_ascii_digit b)) front (c ∷ take_while is_ascii_digit xs)
    ∙ ap (λ (ys : List ℕ). signs front ++ ys) (ap (λ b. cond (not b) (c ∷ signs (take_while is_ascii_digit xs)) (signs (take_while is_ascii_digit xs))) sign
    ∙ ap (λ (ys : List ℕ). c ∷ ys) (digits-signs xs)))
    ∙ last_byte-push (signs front) c

digit-stands : (front : List ℕ) (c : ℕ) → is_ascii_digit c ≡ true → may_follow_in_set front c ≡ true
digit-stands front c h = grind arith

-- the digits of a number stand after a front that stands
digits-stand : (text : List ℕ) (at : ℕ) → StandsTo may_follow_in_set text at → StandsTo may_follow_in_set text (at + prefix_len is_ascii_digit (drop at text))
digits-stand text at h =
    stands-run may_follow_in_set text at (prefix_len is_ascii_digit (drop at text)) h (run-within text at h.within)
    (λ k low high. digit-stands (take k text) (get_or text k 0) (run-digit text at h.within k low high))

digits-last : (text : List ℕ) (at n : ℕ) → at ≤ length text → n ≡ at + prefix_len is_ascii_digit (drop at text) → at < n → is_ascii_digit (last_byte (take n text)) ≡ true
digits-last text at n within end some =
    ap is_ascii_digit (last_byte-take text n (omega arith) (omega (arith, run-within text at within)))
    ∙ run-digit text at within (n - 1) (omega arith) (omega arith)

-- what is known of a number's digits by its length and its value
number-large : (xs : List ℕ) → is_number_large (number_at xs) ≡ is_too_large (take_while is_ascii_digit xs)
number-large xs =
    ap (λ n. nat_lt 20 n || nat_le (2 ^ 63) (number_at xs).value) (sym (length-prefix_len is_ascii_digit xs))
    ∙ too_large-is (take_while is_ascii_digit xs) (number_at xs).value refl

above-is : (digits : List ℕ) (v : ℕ) → v ≡ min (digits_value 10 digits) (2 ^ 64 - 1) → nat_lt 1000000 v ≡ is_outside 0 1000000 digits
above-is digits v h = by (digits_value 10 digits) h
  where
    by : (n : ℕ) → v ≡ min n (2 ^ 64 - 1) → nat_lt 1000000 v ≡ (nat_lt n 0 || nat_lt 1000000 n)
    by n e = grind (arith, nat_tests)

or-false : (b : Bool) → (b || false) ≡ b
or-false true = refl
or-false false = refl

-- a part without a dash does not fall
dashless : (part : List ℕ) → list_any is_dash part ≡ false → falls part ≡ false
dashless part h = ap (λ b. b && nat_lt (digits_value 10 (after_first is_dash part)) (digits_value 10 (before_first is_dash part))) h

dash-first : (xs : List ℕ) (c : ℕ) (ys : List ℕ) → list_any is_dash xs ≡ false → is_dash c ≡ true → position_or_len is_dash (xs ++ c ∷ ys) ≡ length xs
dash-first [] c ys none dash = ap (λ b. cond (not b) (1 + position_or_len is_dash ys) 0) dash
dash-first (x ∷ xs) c ys none dash =
    ap (λ b. cond (not b) (1 + position_or_len is_dash (xs ++ c ∷ ys)) 0) (first (is_dash x) (list_any is_dash xs) none)
    ∙ (let rest = dash-first xs c ys (others (is_dash x) (list_any is_dash xs) none) dash in omega arith)
  where
    first : (a b : Bool) → (a || b) ≡ false → a ≡ false
    first a b e = grind arith

    others : (a b : Bool) → (a || b) ≡ false → b ≡ false
    others a b e = grind arith

-- a range falls where its second number is below its first
range-falls : (xs : List ℕ) (c : ℕ) (ys : List ℕ) → list_any is_dash xs ≡ false → is_dash c ≡ true
    → falls (xs ++ c ∷ ys) ≡ nat_lt (digits_value 10 ys) (digits_value 10 xs)
range-falls xs c ys none dash =
    ap (λ b. b && nat_lt (digits_value 10 (after_first is_dash (xs ++ c ∷ ys))) (digits_value 10 (before_first is_dash (xs ++ c ∷ ys)))) has_dash
    ∙ (λ i. nat_lt (digits_value 10 (following i)) (digits_value 10 (before i)))
  where
    has_dash : list_any is_dash (xs ++ c ∷ ys) ≡ true
    has_dash = list_any-append is_dash xs (c ∷ ys) ∙ by (list_any is_dash xs) (is_dash c) (list_any is_dash ys) dash
      where
        by : (a b d : Bool) → b ≡ true → (a || (b || d)) ≡ true
        by a b d e = grind arith

    at : position_or_len is_dash (xs ++ c ∷ ys) ≡ length xs
    at = dash-first xs c ys none dash

    before : before_first is_dash (xs ++ c ∷ ys) ≡ xs
    before = ap (λ n. take n (xs ++ c ∷ ys)) at ∙ take_at xs (c ∷ ys) (length xs) refl

    following : after_first is_dash (xs ++ c ∷ ys) ≡ ys
    following =
        ap (λ n. drop (n + 1) (xs ++ c ∷ ys)) at
        ∙ sym (drop-drop 1 (length xs) (xs ++ c ∷ ys)) ∙ ap (drop 1) (drop_at xs (c ∷ ys) (length xs) refl)

-- the first number of a set
pub first-front : (text : List ℕ) (front : SetFront) → BeginsSet (number_at text) front → IsSetFront text front
first-front text front h = record {
  stands = subst (λ (n : ℕ). StandsTo may_follow_in_set text n) (sym end) (digits-stand text 0 (stands-start may_follow_in_set text));
  whole = digits-last text 0 front.end (omega arith) end (omega (arith, h.some));
  ends = ap (λ n. is_ascii_digit (get_or text n 0)) end ∙ run-end text 0 (omega arith);
  sign = ap (λ n. is_dash (last_byte (signs (take n text)))) h.end ∙ ap (λ (ys : List ℕ). is_dash (last_byte ys)) (digits-signs text) ∙ sym h.in_range;
  large =
      ap (λ n. list_any is_too_large (slice_split separates (take n text))) h.end
      ∙ ap (list_any is_too_large) (run-unsplit separates digit-no_sign text) ∙ or-false (is_too_large (take_while is_ascii_digit text)) ∙ sym (number-large text) ∙ sym h.too_large;
  digits = take_while is_ascii_digit text;
  ending = record { init = []; part = take_while is_ascii_digit text; is = one_part; single = λ _. refl };
  no_dash = digits-no_dash text;
  last = h.last;
  seen = λ e. h.unfit ∙ above-is (take_while is_ascii_digit text) (number_at text).value refl ∙ e;
  unfit =
      (λ i. list_any (is_outside 0 1000000) (numbers i) || list_any falls (one_part i))
      ∙ by (is_outside 0 1000000 (take_while is_ascii_digit text)) (falls (take_while is_ascii_digit text)) (dashless (take_while is_ascii_digit text) (digits-no_dash text))
      ∙ sym (h.unfit ∙ above-is (take_while is_ascii_digit text) (number_at text).value refl);
} where
  numbers : slice_split separates (take front.end text) ≡ take_while is_ascii_digit text ∷ []
  numbers = ap (λ n. slice_split separates (take n text)) h.end ∙ run-unsplit separates digit-no_sign text

  one_part : slice_split is_comma (take front.end text) ≡ take_while is_ascii_digit text ∷ []
  one_part = ap (λ n. slice_split is_comma (take n text)) h.end ∙ run-unsplit is_comma digit-no_comma text

  by : (a b : Bool) → b ≡ false → ((a || false) || (b || false)) ≡ a
  by a b e = grind arith

  end : front.end ≡ 0 + prefix_len is_ascii_digit (drop 0 text)
  end = omega (arith, h.end)

-- A range is seen to fall by numbers that stop at the last value of 64 bits, since numbers so large are unfit anyway.
unfit-range : (o f u : Bool) (second first v w : ℕ) → (o || (f || (false || false))) ≡ u → v ≡ min second (2 ^ 64 - 1) → w ≡ min first (2 ^ 64 - 1)
    → ((nat_lt first 0 || nat_lt 1000000 first) ≡ true → u ≡ true)
    → ((o || ((nat_lt second 0 || nat_lt 1000000 second) || false)) || (f || (nat_lt second first || false))) ≡ (u || nat_lt 1000000 v || (true && nat_lt v w))
unfit-range o f u second first v w was h k seen = grind (arith, nat_tests)

module _ (text : List ℕ) (old : SetFront) (h : IsSetFront text old) where
  sign-stands : is_sign text old ≡ true → may_follow_in_set (take old.end text) (get_or text old.end 0) ≡ true
  sign-stands sign = by (is_ascii_digit (last_byte (take old.end text))) (is_dash (last_byte (signs (take old.end text)))) h.whole h.sign sign
    where
      by : (last dash : Bool) → last ≡ true → dash ≡ old.in_range → is_sign text old ≡ true
          → (is_ascii_digit (get_or text old.end 0) || (last && (is_comma (get_or text old.end 0) || (is_dash (get_or text old.end 0) && not dash)))) ≡ true
      by last dash l d s = grind arith

  sign-falls : is_sign text old ≡ false → may_follow_in_set (take old.end text) (get_or text old.end 0) ≡ false
  sign-falls sign = by (is_ascii_digit (last_byte (take old.end text))) (is_dash (last_byte (signs (take old.end text)))) h.ends h.whole h.sign sign
    where
      by : (last dash : Bool) → is_ascii_digit (get_or text old.end 0) ≡ false → last ≡ true → dash ≡ old.in_range → is_sign text old ≡ false
          → (is_ascii_digit (get_or text old.end 0) || (last && (is_comma (get_or text old.end 0) || (is_dash (get_or text old.end 0) && not dash)))) ≡ false
      by last dash e l d s = grind arith

  sign-separates : is_sign text old ≡ true → separates (get_or text old.end 0) ≡ true
  sign-separates sign = by (is_comma (get_or text old.end 0)) (is_dash (get_or text old.end 0)) sign
    where
      by : (a b : Bool) → (a || (b && not old.in_range)) ≡ true → (a || b) ≡ true
      by a b e = grind arith

  module _ (sign : is_sign text old ≡ true) where
    inside : old.end < length text
    inside = passing-inside separates refl text old.end (sign-separates sign)

    no_digit : is_ascii_digit (get_or text old.end 0) ≡ false
    no_digit = h.ends

    stands-after : StandsTo may_follow_in_set text (old.end + 1)
    stands-after = stands-more may_follow_in_set text old.end h.stands inside (sign-stands sign)

  -- one more sign and number
  pub next-front : (new : SetFront) → ContinuesSet text old new → IsSetFront text new
  next-front new g = record {
    stands = subst (λ (n : ℕ). StandsTo may_follow_in_set text n) (sym g.end) (digits-stand text (old.end + 1) (stands-after g.sign));
    whole = digits-last text (old.end + 1) new.end (stands-after g.sign).within g.end g.some;
    ends = ap (λ n. is_ascii_digit (get_or text n 0)) g.end ∙ run-end text (old.end + 1) (stands-after g.sign).within;
    sign = ap (λ (f : List ℕ). is_dash (last_byte (signs f))) front ∙ ap is_dash (last-sign (take old.end text) (get_or text old.end 0) (drop (old.end + 1) text) h.ends) ∙ sym g.in_range;
    large =
        ap (list_any is_too_large) numbers ∙ list_any-append is_too_large (slice_split separates (take old.end text)) (D ∷ [])
        ∙ (λ i. h.large i || or-false (is_too_large D) i) ∙ ap (λ b. old.too_large || b) (sym (number-large (drop (old.end + 1) text))) ∙ sym g.too_large;
    digits = take_while is_ascii_digit (drop (old.end + 1) text);
    ending = ending (is_dash (get_or text old.end 0)) refl;
    no_dash = digits-no_dash (drop (old.end + 1) text);
    last = g.last;
    seen = λ e. g.unfit ∙ or-middle old.unfit (nat_lt 1000000 new.last) (new.in_range && nat_lt new.last old.last) (above ∙ e);
    unfit = unfit (is_dash (get_or text old.end 0)) refl;
  } where
    front : take new.end text ≡ take old.end text ++ get_or text old.end 0 ∷ take_while is_ascii_digit (drop (old.end + 1) text)
    front = ap (λ n. take n text) g.end ∙ take-more old.end (prefix_len is_ascii_digit (drop (old.end + 1) text)) text (inside g.sign)

    D : List ℕ
    D = take_while is_ascii_digit (drop (old.end + 1) text)

    numbers : slice_split separates (take new.end text) ≡ slice_split separates (take old.end text) ++ D ∷ []
    numbers =
        ap (slice_split separates) front
        ∙ slice_split-snoc separates (take old.end text) (get_or text old.end 0) D (sign-separates g.sign) (run-unsplit separates digit-no_sign (drop (old.end + 1) text))

    above : nat_lt 1000000 new.last ≡ is_outside 0 1000000 D
    above = above-is D new.last g.last

    or-middle : (a b d : Bool) → b ≡ true → (a || b || d) ≡ true
    or-middle a b d e = grind arith

    comma : is_dash (get_or text old.end 0) ≡ false → is_comma (get_or text old.end 0) ≡ true
    comma e = by (is_comma (get_or text old.end 0)) (is_dash (get_or text old.end 0)) e g.sign
      where
        by : (a b : Bool) → b ≡ false → (a || (b && not old.in_range)) ≡ true → a ≡ true
        by a b n s = grind arith

    no_comma : is_dash (get_or text old.end 0) ≡ true → is_comma (get_or text old.end 0) ≡ false
    no_comma e = by (get_or text old.end 0) e
      where
        by : (b : ℕ) → is_dash b ≡ true → is_comma b ≡ false
        by b d = grind (arith, nat_tests)

    was-single : is_dash (get_or text old.end 0) ≡ true → old.in_range ≡ false
    was-single e = by (is_comma (get_or text old.end 0)) (is_dash (get_or text old.end 0)) (no_comma e) g.sign
      where
        by : (a b : Bool) → a ≡ false → (a || (b && not old.in_range)) ≡ true → old.in_range ≡ false
        by a b n s = grind arith

    -- the parts after a comma and after a dash
    parts-comma : is_dash (get_or text old.end 0) ≡ false → slice_split is_comma (take new.end text) ≡ slice_split is_comma (take old.end text) ++ D ∷ []
    parts-comma e =
        ap (slice_split is_comma) front
        ∙ slice_split-snoc is_comma (take old.end text) (get_or text old.end 0) D (comma e) (run-unsplit is_comma digit-no_comma (drop (old.end + 1) text))

    parts-dash : is_dash (get_or text old.end 0) ≡ true → slice_split is_comma (take new.end text) ≡ h.ending.init ++ (h.ending.part ++ get_or text old.end 0 ∷ D) ∷ []
    parts-dash e =
        ap (slice_split is_comma) front
        ∙ slice_split-extend is_comma (take old.end text) (get_or text old.end 0 ∷ D) h.ending.init h.ending.part
        (slice_split-cons_no is_comma (get_or text old.end 0) D (no_comma e) ∙ ap (onto_first (get_or text old.end 0)) (run-unsplit is_comma digit-no_comma (drop (old.end + 1) text)))
        h.ending.is

    ending : (b : Bool) → is_dash (get_or text old.end 0) ≡ b → EndsWithPart (slice_split is_comma (take new.end text)) new.in_range D
    ending true e = record {
      init = h.ending.init;
      part = h.ending.part ++ get_or text old.end 0 ∷ D;
      is = parts-dash e;
      single = λ n. absurd (true≢false (sym (g.in_range ∙ e) ∙ n));
    }
    ending false e = record {
      init = slice_split is_comma (take old.end text);
      part = D;
      is = parts-comma e;
      single = λ _. refl;
    }

    unfit : (b : Bool) → is_dash (get_or text old.end 0) ≡ b
        → (list_any (is_outside 0 1000000) (slice_split separates (take new.end text)) || list_any falls (slice_split is_comma (take new.end text))) ≡ new.unfit
    unfit true e =
        (λ i. list_any (is_outside 0 1000000) (numbers i) || list_any falls (parts-dash e i))
        ∙ (λ i. list_any-append (is_outside 0 1000000) (slice_split separates (take old.end text)) (D ∷ []) i
        || list_any-append falls h.ending.init ((h.ending.part ++ get_or text old.end 0 ∷ D) ∷ []) i)
        ∙ ap (λ r. (list_any (is_outside 0 1000000) (slice_split separates (take old.end text)) || (is_outside 0 1000000 D || false)) || (list_any falls h.ending.init || (r || false))) falls-now
        ∙ unfit-range (list_any (is_outside 0 1000000) (slice_split separates (take old.end text))) (list_any falls h.ending.init) old.unfit (digits_value 10 D) (digits_value 10 h.digits)
        new.last old.last was g.last h.last h.seen
        ∙ sym (g.unfit ∙ ap (λ r. old.unfit || nat_lt 1000000 new.last || (r && nat_lt new.last old.last)) (g.in_range ∙ e))
      where
        single : h.ending.part ≡ h.digits
        single = h.ending.single (was-single e)

        falls-now : falls (h.ending.part ++ get_or text old.end 0 ∷ D) ≡ nat_lt (digits_value 10 D) (digits_value 10 h.digits)
        falls-now = ap (λ (p : List ℕ). falls (p ++ get_or text old.end 0 ∷ D)) single ∙ range-falls h.digits (get_or text old.end 0) D h.no_dash e

        was : (list_any (is_outside 0 1000000) (slice_split separates (take old.end text)) || (list_any falls h.ending.init || (false || false))) ≡ old.unfit
        was =
            ap (λ r. list_any (is_outside 0 1000000) (slice_split separates (take old.end text)) || (list_any falls h.ending.init || (r || false)))
            (sym (ap falls single ∙ dashless h.digits h.no_dash))
            ∙ ap (λ r. list_any (is_outside 0 1000000) (slice_split separates (take old.end text)) || r)
            (sym (ap (list_any falls) h.ending.is ∙ list_any-append falls h.ending.init (h.ending.part ∷ [])))
            ∙ h.unfit
    unfit false e =
        (λ i. list_any (is_outside 0 1000000) (numbers i) || list_any falls (parts-comma e i))
        ∙ (λ i. list_any-append (is_outside 0 1000000) (slice_split separates (take old.end text)) (D ∷ []) i || list_any-append falls (slice_split is_comma (take old.end text)) (D ∷ []) i)
        ∙ by (list_any (is_outside 0 1000000) (slice_split separates (take old.end text))) (list_any falls (slice_split is_comma (take old.end text))) (is_outside 0 1000000 D) (falls D)
        h.unfit (dashless D (digits-no_dash (drop (old.end + 1) text)))
        ∙ sym (g.unfit ∙ no_range old.unfit (nat_lt 1000000 new.last) new.in_range (nat_lt new.last old.last) (g.in_range ∙ e) ∙ ap (λ b. old.unfit || b) above)
      where
        no_range : (a b r l : Bool) → r ≡ false → (a || b || (r && l)) ≡ (a || b)
        no_range a b r l n = grind arith

        by : (o f d r : Bool) → (o || f) ≡ old.unfit → r ≡ false → ((o || (d || false)) || (f || (r || false))) ≡ (old.unfit || d)
        by o f d r u n = grind arith

-- neither a digit nor a sign may follow where no digit stands last
no_digit-falls : (front : List ℕ) (c : ℕ) → is_ascii_digit c ≡ false → is_ascii_digit (last_byte front) ≡ false → may_follow_in_set front c ≡ false
no_digit-falls front c d last =
    by (is_ascii_digit c) (is_ascii_digit (last_byte front)) (is_comma c || (is_dash c && not (is_dash (last_byte (signs front))))) d last
  where
    by : (a b e : Bool) → a ≡ false → b ≡ false → (a || (b && e)) ≡ false
    by a b e h k = grind arith

pub set-none : (text : List ℕ) (place : ℕ) → (number_at text).len ≡ 0 → place ≡ 0 → Err (BadByte place) ≡ set_of text
unfolding set_of
set-none text place none first =
    ap (λ n. Err (BadByte n)) first
    ∙ reading-strays _ _ _ _ (leaves may_follow_in_set is_whole_set text 0 (stands-start may_follow_in_set text)
    (λ less. no_digit-falls [] (get_or text 0 0) no_digit refl) (λ e. ap (λ (t : List ℕ). is_ascii_digit (last_byte t)) (nil_from_length text (sym e))))
  where
    no_digit : is_ascii_digit (get_or text 0 0) ≡ false
    no_digit = let same : 0 + prefix_len is_ascii_digit text ≡ 0 = omega (arith, none) in
        subst (λ (k : ℕ). is_ascii_digit (get_or text k 0) ≡ false) same (run-end text 0 (omega arith))

module _ (text : List ℕ) (front : SetFront) (h : IsSetFront text front) where
  pub set-breaks : (place : ℕ) → front.end < length text → BreaksSet text front place → Err (BadByte place) ≡ set_of text
  unfolding set_of
  set-breaks place less (inl at) =
      ap (λ n. Err (BadByte n)) at.0
      ∙ reading-strays _ _ _ _ (stray-at may_follow_in_set is_whole_set text front.end h.stands less (sign-falls text front h at.1))
  set-breaks place less (inr following) =
      ap (λ n. Err (BadByte n)) following.0
      ∙ reading-strays _ _ _ _ (leaves may_follow_in_set is_whole_set text (front.end + 1) (stands-after text front h following.1)
      (λ more. no_digit-falls (take (front.end + 1) text) (get_or text (front.end + 1) 0) ends last) (λ e. whole-front is_whole_set text (front.end + 1) false (omega arith) last))
    where
      ends : is_ascii_digit (get_or text (front.end + 1) 0) ≡ false
      ends = let same : front.end + 1 + prefix_len is_ascii_digit (drop (front.end + 1) text) ≡ front.end + 1 = omega (arith, following.2) in
          subst (λ (k : ℕ). is_ascii_digit (get_or text k 0) ≡ false) same (run-end text (front.end + 1) (omega arith))

      last : is_ascii_digit (last_byte (take (front.end + 1) text)) ≡ false
      last = let same : front.end + 1 - 1 ≡ front.end = omega arith in
          ap is_ascii_digit (last_byte-take text (front.end + 1) (omega arith) (omega arith) ∙ ap (λ k. get_or text k 0) same) ∙ h.ends

  module _ (all : length text ≤ front.end) where
    same : take front.end text ≡ text
    same = take_all front.end text all

    end : front.end ≡ length text
    end = omega (arith, h.stands.within)

    formed : stray may_follow_in_set is_whole_set text ≡ None
    formed = stray-none may_follow_in_set is_whole_set text (subst (λ (k : ℕ). StandsTo may_follow_in_set text k) end h.stands) (whole-front is_whole_set text front.end true all h.whole)

    large : list_any is_too_large (slice_split separates text) ≡ front.too_large
    large = ap (λ (t : List ℕ). list_any is_too_large (slice_split separates t)) (sym same) ∙ h.large

    unfit : (list_any (is_outside 0 1000000) (slice_split separates text) || list_any falls (slice_split is_comma text)) ≡ front.unfit
    unfit = ap (λ (t : List ℕ). list_any (is_outside 0 1000000) (slice_split separates t) || list_any falls (slice_split is_comma t)) (sym same) ∙ h.unfit

    pub set-large : front.too_large ≡ true → Err TooLarge ≡ set_of text
    unfolding set_of
    set-large is = reading-here _ _ _ _ (large ∙ is) ∙ reading-formed _ _ _ formed

    pub set-unfit : front.too_large ≡ false → front.unfit ≡ true → Err OutOfRange ≡ set_of text
    unfolding set_of
    set-unfit small is = reading-here _ _ _ _ (unfit ∙ is) ∙ reading-past _ _ _ _ (large ∙ small) ∙ reading-formed _ _ _ formed

    pub set-fit : front.too_large ≡ false → front.unfit ≡ false → Ok Pinned ≡ set_of text
    unfolding set_of
    set-fit small is = reading-past _ _ _ _ (unfit ∙ is) ∙ reading-past _ _ _ _ (large ∙ small) ∙ reading-formed _ _ _ formed
