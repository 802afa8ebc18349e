-- The exits of the reader of sizes.
use Rattle.std.proofs.Common.{◌≡◌, ℕ, ◌+◌, ◌-◌, ◌*◌, ◌^◌, ◌<◌, ◌≤◌, min, Bool, true, false, cond, ◌&&◌, ◌||◌, List, [], ◌∷◌, length, take, drop, get_or, Option, Some, None, Result, Ok, Err, sym, refl, ap, ◌∙◌, subst, arith, eqb, inl, inr, ◌⊎◌, ◌≢◌, length-take, length-drop, get_or-take, get_or-drop}
use Rattle.std.proofs.lemmas.List.{get_or_default, take_rest}
use Rattle.std.proofs.lemmas.Bool.{cases_lt}
use Rattle.std.proofs.Math.Nat.{le-mul_of_pos_right}
use Rattle.std.proofs.lemmas.Bool.Decides.{nat_tests}
use Rattle.std.proofs.lemmas.List.Folds.{list_any_none, list_any_at}
use Rattle.std.proofs.lemmas.List.Sums.{prefix_len_passes, prefix_len_stops, prefix_len-le-length, position_or_len_is}
use Rattle.std.specs.Prelude.{nat_lt, nat_le, find}
use Rattle.std.specs.Option.{option_map, unwrap_or, is_none}
use Rattle.std.specs.Char.{is_ascii_digit, is_ascii_alphabetic}
use Rattle.std.specs.List.{prefix_len, position_or_len, list_any, list_all}
use Rattle.std.specs.Str.{bytes_eq}
use Rattle.std.specs.Str.Parse.{digits_value}
use Rattle.size_values.specs.Reading.{reading, fault_if, stray}
use Rattle.size_values.specs.Number.{number_at}
use Rattle.size_values.specs.Size.{suffixes, factor_of, may_follow_in_size, size_of}
use Rattle.size_values.specs.declared.number.Number.{Number}
use Rattle.size_values.specs.declared.fault.ValueFault.{ValueFault}
use Rattle.size_values.specs.declared.fault.ValueFault.TheVariants.{Empty, BadByte, UnknownSuffix, TooLarge}
use Rattle.size_values.specs.Form.{StandsTo}
use Rattle.size_values.proofs.Forms.{reading-here, reading-past, reading-strays, reading-formed, stands-start, stands-run, stray-at, stray-none}

digit-no_letter : (c : ℕ) → is_ascii_digit c ≡ true → is_ascii_alphabetic c ≡ false
digit-no_letter c h = grind (arith, nat_tests)

-- a digit may stand where no letter stands before it; a letter after a digit or after a letter
digit-stands : (front : List ℕ) (c : ℕ) → list_any is_ascii_alphabetic front ≡ false → is_ascii_digit c ≡ true → may_follow_in_size front c ≡ true
digit-stands front c h d = grind arith

letter-stands : (front : List ℕ) (c : ℕ) → 0 < length front → is_ascii_alphabetic c ≡ true → may_follow_in_size front c ≡ true
letter-stands front c some d = grind (arith, nat_tests)

neither-stands : (front : List ℕ) (c : ℕ) → is_ascii_digit c ≡ false → is_ascii_alphabetic c ≡ false → may_follow_in_size front c ≡ false
neither-stands front c d l = grind arith

letter-first : (c : ℕ) → is_ascii_digit c ≡ false → may_follow_in_size [] c ≡ false
letter-first c d = grind arith

no-digit-after : (front : List ℕ) (c : ℕ) → list_any is_ascii_alphabetic front ≡ true → is_ascii_alphabetic c ≡ false → may_follow_in_size front c ≡ false
no-digit-after front c h l = grind arith

-- a product that stops at the last value, of a number that stops there, stops where the whole product does
stops-times : (n v f last : ℕ) → v ≡ min n last → 1 ≤ f → min (v * f) last ≡ min (n * f) last
stops-times n v f last h one = by (cases_lt last n)
  where
    by : (last < n) ⊎ (n ≤ last) → min (v * f) last ≡ min (n * f) last
    by (inl over) =
        let same : v ≡ last = omega arith in
        let whole : n ≤ n * f = le-mul_of_pos_right n one in
        let stopped : last ≤ last * f = le-mul_of_pos_right last one in
        let product : v * f ≡ last * f = ap (λ k. k * f) same in
        omega arith
    by (inr under) = let same : v ≡ n = omega arith in ap (λ k. min (k * f) last) same

filled-positive : (n : ℕ) → eqb n 0 ≡ false → 0 < n
filled-positive n h = grind (arith, nat_tests)

-- the factor of every suffix is 1 at least
found-positive : (p : List ℕ × ℕ → Bool) (rows : List (List ℕ × ℕ)) (f : ℕ) → list_all (λ (row : List ℕ × ℕ). nat_le 1 row.1) rows ≡ true
    → option_map (λ (row : List ℕ × ℕ). row.1) (find p rows) ≡ Some f → 1 ≤ f
found-positive p [] f all h = absurd (cc)
found-positive p (row ∷ rows) f all h = at (p row) refl (found-positive p rows f (both (nat_le 1 row.1) (list_all (λ (r : List ℕ × ℕ). nat_le 1 r.1) rows) all).1)
  where
    both : (a b : Bool) → (a && b) ≡ true → (a ≡ true) × (b ≡ true)
    both true true e = (refl, refl)
    both true false e = absurd (cc)
    both false b e = absurd (cc)

    is : (b : Bool) → p row ≡ b → option_map (λ (r : List ℕ × ℕ). r.1) (cond b (Some row) (find p rows)) ≡ Some f
    is b e = ap (λ c. option_map (λ (r : List ℕ × ℕ). r.1) (cond c (Some row) (find p rows))) (sym e) ∙ h

    at : (b : Bool) → p row ≡ b → (option_map (λ (r : List ℕ × ℕ). r.1) (find p rows) ≡ Some f → 1 ≤ f) → 1 ≤ f
    at true e rest =
        let same : row.1 ≡ f = cc (is true e) in
        let one : nat_le 1 row.1 ≡ true = (both (nat_le 1 row.1) (list_all (λ (r : List ℕ × ℕ). nat_le 1 r.1) rows) all).0 in
        grind (arith, nat_tests)
    at false e rest = rest (is false e)

factor-positive : (suffix : List ℕ) (f : ℕ) → factor_of suffix ≡ Some f → 1 ≤ f
factor-positive suffix f h = found-positive (λ (row : List ℕ × ℕ). bytes_eq row.0 suffix) suffixes f refl h

-- the reading by the length and the number of the digits and by the factor
abbrev outcome : List ℕ → ℕ → ℕ → Option ℕ → Result ℕ ValueFault
outcome text n value factor =
    reading (value * unwrap_or factor 0) (
    fault_if (eqb (length text) 0) Empty
    ∷ option_map BadByte (stray may_follow_in_size (λ _. true) text)
    ∷ fault_if (is_none factor) (UnknownSuffix n)
    ∷ fault_if (nat_lt 20 n || nat_le (2 ^ 63) (value * unwrap_or factor 0)) TooLarge
    ∷ [])

-- and the same after the form
abbrev late : ℕ → ℕ → Option ℕ → Result ℕ ValueFault
late n value factor =
    reading (value * unwrap_or factor 0) (
    fault_if (is_none factor) (UnknownSuffix n)
    ∷ fault_if (nat_lt 20 n || nat_le (2 ^ 63) (value * unwrap_or factor 0)) TooLarge
    ∷ [])

late-large : (n value f : ℕ) → (nat_lt 20 n || nat_le (2 ^ 63) (value * f)) ≡ true → Err TooLarge ≡ late n value (Some f)
late-large n value f h = reading-here (value * f) (nat_lt 20 n || nat_le (2 ^ 63) (value * f)) TooLarge [] h

late-value : (n value f : ℕ) → (nat_lt 20 n || nat_le (2 ^ 63) (value * f)) ≡ false → Ok (value * f) ≡ late n value (Some f)
late-value n value f h = reading-past (value * f) (nat_lt 20 n || nat_le (2 ^ 63) (value * f)) TooLarge [] h

pub size-empty : (text : List ℕ) → eqb (length text) 0 ≡ true → Err Empty ≡ size_of text
unfolding size_of
size-empty text h = reading-here _ _ _ _ h

module _ (text : List ℕ) (number : Number) (front : number ≡ number_at text) (filled : eqb (length text) 0 ≡ false) where
  len : number.len ≡ prefix_len is_ascii_digit text
  len = ap (λ (n : Number). n.len) front

  within : number.len ≤ length text
  within = omega (arith, len, prefix_len-le-length is_ascii_digit text)

  digits : (k : ℕ) → k < number.len → is_ascii_digit (get_or text k 0) ≡ true
  digits k less = prefix_len_passes is_ascii_digit text k 0 (omega (arith, len))

  no_letter : (k : ℕ) → k ≤ number.len → list_any is_ascii_alphabetic (take k text) ≡ false
  no_letter k low = list_any_none is_ascii_alphabetic (take k text) (λ j d less. at j d (omega (arith, less, length-take k text)))
    where
      at : (j d : ℕ) → j < k → is_ascii_alphabetic (get_or (take k text) j d) ≡ false
      at j d less =
          ap is_ascii_alphabetic (get_or-take k text j d less ∙ get_or_default text j d 0 (omega (arith, within))) ∙ digit-no_letter (get_or text j 0) (digits j (omega arith))

  digits-stand : StandsTo may_follow_in_size text number.len
  digits-stand = record {
    within = within;
    each = λ k less. digit-stands (take k text) (get_or text k 0) (no_letter k (omega arith)) (digits k less);
  }

  pub size-letter_first : number.len ≡ 0 → Err (BadByte 0) ≡ size_of text
  unfolding size_of
  size-letter_first none =
      let zero : prefix_len is_ascii_digit text ≡ 0 = sym len ∙ none in
      let more : 0 < length text = filled-positive (length text) filled in
      let stops : is_ascii_digit (get_or text 0 0) ≡ false = subst (λ (k : ℕ). is_ascii_digit (get_or text k 0) ≡ false) zero (prefix_len_stops is_ascii_digit text 0 (omega arith)) in
      reading-strays _ _ _ _ (stray-at may_follow_in_size (λ _. true) text 0 (stands-start may_follow_in_size text) more (letter-first (get_or text 0 0) stops))
      ∙ reading-past _ _ _ _ filled

  module _ (some : number.len ≢ 0) (suffix : List ℕ) (rest : suffix ≡ take (length text - number.len) (drop number.len text))
      (letters : ℕ) (suffix-run : letters ≡ prefix_len is_ascii_alphabetic suffix) where
    tail : suffix ≡ drop number.len text
    tail = rest ∙ take_rest text number.len

    run : letters ≡ prefix_len is_ascii_alphabetic (drop number.len text)
    run = suffix-run ∙ ap (λ (t : List ℕ). prefix_len is_ascii_alphabetic t) tail

    letter-run : (k : ℕ) → number.len ≤ k → k < number.len + letters → is_ascii_alphabetic (get_or text k 0) ≡ true
    letter-run k low high =
        let same : number.len + (k - number.len) ≡ k = omega arith in
        subst (λ (j : ℕ). is_ascii_alphabetic (get_or text j 0) ≡ true) same
        (ap is_ascii_alphabetic (sym (get_or-drop number.len text (k - number.len) 0))
        ∙ prefix_len_passes is_ascii_alphabetic (drop number.len text) (k - number.len) 0 (omega (arith, run)))

    in_text : number.len + letters ≤ length text
    in_text = omega (arith, run, within, length-drop number.len text, prefix_len-le-length is_ascii_alphabetic (drop number.len text))

    -- digits and then letters stand
    letters-stand : StandsTo may_follow_in_size text (number.len + letters)
    letters-stand = stands-run may_follow_in_size text number.len letters digits-stand in_text
        (λ k low high. letter-stands (take k text) (get_or text k 0) (omega (arith, in_text, length-take k text)) (letter-run k low high))

    pub size-strays : letters < length suffix → Err (BadByte (number.len + letters)) ≡ size_of text
    unfolding size_of
    size-strays less =
        reading-strays _ _ _ _ (stray-at may_follow_in_size (λ _. true) text (number.len + letters) letters-stand more (by (cases_lt 0 letters)))
        ∙ reading-past _ _ _ _ filled
      where
        more : number.len + letters < length text
        more = omega (arith, length-drop number.len text, ap (λ (t : List ℕ). length t) tail)

        no_more : is_ascii_alphabetic (get_or text (number.len + letters) 0) ≡ false
        no_more = ap is_ascii_alphabetic (sym (get_or-drop number.len text letters 0))
            ∙ subst (λ (k : ℕ). is_ascii_alphabetic (get_or (drop number.len text) k 0) ≡ false) (sym run) (prefix_len_stops is_ascii_alphabetic (drop number.len text) 0 (omega (arith, run, more, length-drop number.len text)))

        has_letter : 0 < letters → list_any is_ascii_alphabetic (take (number.len + letters) text) ≡ true
        has_letter some' = list_any_at is_ascii_alphabetic (take (number.len + letters) text) number.len 0 (omega (arith, in_text, length-take (number.len + letters) text))
            (ap is_ascii_alphabetic (get_or-take (number.len + letters) text number.len 0 (omega arith)) ∙ letter-run number.len (omega arith) (omega arith))

        no_digit : letters ≡ 0 → is_ascii_digit (get_or text (number.len + letters) 0) ≡ false
        no_digit none =
            let same : prefix_len is_ascii_digit text ≡ number.len + letters = omega (arith, len) in
            subst (λ (k : ℕ). is_ascii_digit (get_or text k 0) ≡ false) same (prefix_len_stops is_ascii_digit text 0 (omega (arith, more)))

        by : (0 < letters) ⊎ (letters ≤ 0) → may_follow_in_size (take (number.len + letters) text) (get_or text (number.len + letters) 0) ≡ false
        by (inl some') = no-digit-after (take (number.len + letters) text) (get_or text (number.len + letters) 0) (has_letter some') no_more
        by (inr none) = neither-stands (take (number.len + letters) text) (get_or text (number.len + letters) 0) (no_digit (omega arith)) no_more

    module _ (all : length suffix ≤ letters) where
      whole : number.len + letters ≡ length text
      whole = omega (arith, in_text, length-drop number.len text, ap (λ (t : List ℕ). length t) tail)

      formed : stray may_follow_in_size (λ _. true) text ≡ None
      formed = stray-none may_follow_in_size (λ _. true) text (subst (λ (n : ℕ). StandsTo may_follow_in_size text n) whole letters-stand) refl

      -- the first letter stands after the digits
      first : position_or_len is_ascii_alphabetic text ≡ number.len
      first = position_or_len_is is_ascii_alphabetic text number.len 0 within
          (λ k less. digit-no_letter (get_or text k 0) (digits k less))
          (λ less. letter-run number.len (omega arith) (omega (arith, whole)))

      size-is : (factor : Option ℕ) → factor_of (drop number.len text) ≡ factor → outcome text number.len (digits_value 10 (take number.len text)) factor ≡ size_of text
      unfolding size_of
      size-is factor found =
          ap (outcome text number.len (digits_value 10 (take number.len text))) (sym found)
          ∙ ap (λ n. outcome text n (digits_value 10 (take number.len text)) (factor_of (drop n text))) (sym length-digits)
          ∙ ap (λ (ds : List ℕ). outcome text (length ds) (digits_value 10 ds) (factor_of (drop (length ds) text))) (ap (λ n. take n text) (sym first))
        where
          length-digits : length (take number.len text) ≡ number.len
          length-digits = omega (arith, within, length-take number.len text)

      past-form : (n value : ℕ) (factor : Option ℕ) → late n value factor ≡ outcome text n value factor
      past-form n value factor = reading-formed _ _ _ formed ∙ reading-past _ _ _ _ filled

      pub size-unknown : factor_of suffix ≡ None → Err (UnknownSuffix number.len) ≡ size_of text
      size-unknown none = past-form number.len (digits_value 10 (take number.len text)) None ∙ size-is None (ap factor_of (sym tail) ∙ none)

      module _ (factor : ℕ) (suffix-found : factor_of suffix ≡ Some factor) (size : Number)
          (made : size ≡ record number { value = min (number.value * factor) (2 ^ 64 - 1) }) where
        found : factor_of (drop number.len text) ≡ Some factor
        found = ap factor_of (sym tail) ∙ suffix-found

        value : size.value ≡ min (digits_value 10 (take number.len text) * factor) (2 ^ 64 - 1)
        value =
            ap (λ (n : Number). n.value) made
            ∙ stops-times (digits_value 10 (take number.len text)) number.value factor (2 ^ 64 - 1) number-value (factor-positive (drop number.len text) factor found)
          where
            number-value : number.value ≡ min (digits_value 10 (take number.len text)) (2 ^ 64 - 1)
            number-value = ap (λ (n : Number). n.value) front ∙ ap (λ n. min (digits_value 10 (take n text)) (2 ^ 64 - 1)) (sym len)

        same-len : size.len ≡ number.len
        same-len = ap (λ (n : Number). n.len) made

        too_large : (nat_lt 20 size.len || nat_le (2 ^ 63) size.value) ≡ (nat_lt 20 number.len || nat_le (2 ^ 63) (digits_value 10 (take number.len text) * factor))
        too_large = by (digits_value 10 (take number.len text) * factor) value same-len
          where
            by : (n : ℕ) → size.value ≡ min n (2 ^ 64 - 1) → size.len ≡ number.len
                → (nat_lt 20 size.len || nat_le (2 ^ 63) size.value) ≡ (nat_lt 20 number.len || nat_le (2 ^ 63) n)
            by n e same = grind (arith, nat_tests)

        pub size-large : (nat_lt 20 size.len || nat_le (2 ^ 63) size.value) ≡ true → Err TooLarge ≡ size_of text
        size-large is =
            late-large number.len (digits_value 10 (take number.len text)) factor (sym too_large ∙ is)
            ∙ past-form number.len (digits_value 10 (take number.len text)) (Some factor) ∙ size-is (Some factor) found

        exact : (nat_lt 20 size.len || nat_le (2 ^ 63) size.value) ≡ false → size.value ≡ digits_value 10 (take number.len text) * factor
        exact small = by (digits_value 10 (take number.len text) * factor) value small
          where
            by : (n : ℕ) → size.value ≡ min n (2 ^ 64 - 1) → (nat_lt 20 size.len || nat_le (2 ^ 63) size.value) ≡ false → size.value ≡ n
            by n e s = grind (arith, nat_tests)

        pub size-value : (nat_lt 20 size.len || nat_le (2 ^ 63) size.value) ≡ false → Ok size.value ≡ size_of text
        size-value is =
            ap (λ n. Ok n) (exact is) ∙ late-value number.len (digits_value 10 (take number.len text)) factor (sym too_large ∙ is)
            ∙ past-form number.len (digits_value 10 (take number.len text)) (Some factor) ∙ size-is (Some factor) found
