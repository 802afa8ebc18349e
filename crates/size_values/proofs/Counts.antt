-- The exits of the reader of counts.
use Rattle.std.proofs.Common.{◌≡◌, ℕ, ◌-◌, ◌^◌, ◌<◌, ◌≤◌, min, true, false, not, ◌&&◌, ◌||◌, List, ◌∷◌, length, Option, Some, None, Ok, Err, sym, refl, ap, ◌∙◌, arith, eqb}
use Rattle.std.proofs.lemmas.List.{take_all}
use Rattle.std.proofs.lemmas.Bool.Decides.{nat_tests}
use Rattle.std.proofs.lemmas.List.Sums.{prefix_len_passes, prefix_len_stops, prefix_len-le-length}
use Rattle.std.specs.Prelude.{nat_lt, nat_le}
use Rattle.std.specs.Char.{is_ascii_digit}
use Rattle.std.specs.List.{prefix_len, take_while}
use Rattle.std.specs.Str.Parse.{digits_value}
use Rattle.size_values.specs.Reading.{reading, fault_if, stray, is_too_large, is_outside}
use Rattle.size_values.specs.Count.{count_of}
use Rattle.size_values.specs.Number.{number_at}
use Rattle.size_values.specs.declared.number.Number.{Number}
use Rattle.size_values.specs.declared.fault.ValueFault.{ValueFault}
use Rattle.std.specs.Option.{option_map}
use Rattle.size_values.specs.declared.fault.ValueFault.TheVariants.{Empty, BadByte, TooLarge, OutOfRange}
use Rattle.size_values.specs.Form.{StandsTo}
use Rattle.size_values.proofs.Forms.{reading-here, reading-past, reading-strays, reading-formed, stray-at, stray-none}

-- digits stand up to the first byte that is none
digits-stand : (text : List ℕ) (n : ℕ) → n ≡ prefix_len is_ascii_digit text → StandsTo (λ front b. is_ascii_digit b) text n
digits-stand text n e = record {
  within = omega (arith, prefix_len-le-length is_ascii_digit text);
  each = λ k less. prefix_len_passes is_ascii_digit text k 0 (omega arith);
}

digits-stray : (text : List ℕ) → prefix_len is_ascii_digit text < length text
    → stray (λ front b. is_ascii_digit b) (λ _. true) text ≡ Some (prefix_len is_ascii_digit text)
digits-stray text less =
    stray-at (λ front b. is_ascii_digit b) (λ _. true) text (prefix_len is_ascii_digit text) (digits-stand text _ refl) less
    (prefix_len_stops is_ascii_digit text 0 less)

digits-formed : (text : List ℕ) → prefix_len is_ascii_digit text ≡ length text → stray (λ front b. is_ascii_digit b) (λ _. true) text ≡ None
digits-formed text all = stray-none (λ front b. is_ascii_digit b) (λ _. true) text (digits-stand text _ (sym all)) refl

-- a number that stops at the last value of 64 bits is too large where the whole number is
pub too_large-is : (digits : List ℕ) (v : ℕ) → v ≡ min (digits_value 10 digits) (2 ^ 64 - 1)
    → (nat_lt 20 (length digits) || nat_le (2 ^ 63) v) ≡ is_too_large digits
too_large-is digits v h = by (length digits) (digits_value 10 digits) h
  where
    by : (len n : ℕ) → v ≡ min n (2 ^ 64 - 1) → (nat_lt 20 len || nat_le (2 ^ 63) v) ≡ (nat_lt 20 len || nat_le (2 ^ 63) n)
    by len n e = grind (arith, nat_tests)

-- and is within bounds below that value where the whole number is
pub outside-is : (least most : ℕ) (digits : List ℕ) (v : ℕ) → v ≡ min (digits_value 10 digits) (2 ^ 64 - 1) → least < 2 ^ 64 → most < 2 ^ 64 - 1
    → not (nat_le least v && nat_le v most) ≡ is_outside least most digits
outside-is least most digits v h low high = by (digits_value 10 digits) h
  where
    by : (n : ℕ) → v ≡ min n (2 ^ 64 - 1) → not (nat_le least v && nat_le v most) ≡ (nat_lt n least || nat_lt most n)
    by n e = grind (arith, nat_tests)

-- a text of digits alone is its own front
whole-front : (text : List ℕ) → prefix_len is_ascii_digit text ≡ length text → take_while is_ascii_digit text ≡ text
whole-front text all = take_all _ text (omega arith)

pub count-empty : (text : List ℕ) (least most : ℕ) → eqb (length text) 0 ≡ true → Err Empty ≡ count_of text least most
unfolding count_of
count-empty text least most h = reading-here _ _ _ _ h

-- the exits after the number at the front
module _ (text : List ℕ) (least most : ℕ) (number : Number) (front : number ≡ number_at text) (filled : eqb (length text) 0 ≡ false) where
  len : number.len ≡ prefix_len is_ascii_digit text
  len = ap (λ (n : Number). n.len) front

  pub count-strays : number.len < length text → Err (BadByte number.len) ≡ count_of text least most
  unfolding count_of
  count-strays less =
      ap (λ n. Err (BadByte n)) len
      ∙ reading-strays _ _ _ _ (digits-stray text (omega (arith, len))) ∙ reading-past _ _ _ _ filled

  module _ (all : length text ≤ number.len) where
    same : prefix_len is_ascii_digit text ≡ length text
    same = omega (arith, len, prefix_len-le-length is_ascii_digit text)

    value : number.value ≡ min (digits_value 10 text) (2 ^ 64 - 1)
    value = ap (λ (n : Number). n.value) front ∙ ap (λ ds. min (digits_value 10 ds) (2 ^ 64 - 1)) (whole-front text same)

    large : (nat_lt 20 number.len || nat_le (2 ^ 63) number.value) ≡ is_too_large text
    large = ap (λ n. nat_lt 20 n || nat_le (2 ^ 63) number.value) (len ∙ same) ∙ too_large-is text number.value value

    -- the faults before too large
    formed : {T : Type 0} (v : T) (faults : List (Option ValueFault)) → reading v faults
        ≡ reading v (fault_if (eqb (length text) 0) Empty ∷ option_map BadByte (stray (λ front b. is_ascii_digit b) (λ _. true) text) ∷ faults)
    formed v faults = reading-formed _ _ _ (digits-formed text same) ∙ reading-past _ _ _ _ filled

    pub count-large : (nat_lt 20 number.len || nat_le (2 ^ 63) number.value) ≡ true → Err TooLarge ≡ count_of text least most
    unfolding count_of
    count-large is = reading-here _ _ _ _ (sym large ∙ is) ∙ formed _ _

    module _ (small : (nat_lt 20 number.len || nat_le (2 ^ 63) number.value) ≡ false) where
      exact : number.value ≡ digits_value 10 text
      exact = by (digits_value 10 text) value small
        where
          by : (n : ℕ) → number.value ≡ min n (2 ^ 64 - 1) → (nat_lt 20 number.len || nat_le (2 ^ 63) number.value) ≡ false → number.value ≡ n
          by n e s = grind (arith, nat_tests)

      outside : not (nat_le least number.value && nat_le number.value most) ≡ is_outside least most text
      outside = by (digits_value 10 text) exact
        where
          by : (n : ℕ) → number.value ≡ n → not (nat_le least number.value && nat_le number.value most) ≡ (nat_lt n least || nat_lt most n)
          by n e = grind (arith, nat_tests)

      pub count-outside : (nat_le least number.value && nat_le number.value most) ≡ false → Err OutOfRange ≡ count_of text least most
      unfolding count_of
      count-outside is = reading-here _ _ _ _ (sym outside ∙ ap not is) ∙ reading-past _ _ _ _ (sym large ∙ small) ∙ formed _ _

      pub count-value : (nat_le least number.value && nat_le number.value most) ≡ true → Ok number.value ≡ count_of text least most
      unfolding count_of
      count-value is =
          ap (λ n. Ok n) exact ∙ reading-past _ _ _ _ (sym outside ∙ ap not is) ∙ reading-past _ _ _ _ (sym large ∙ small) ∙ formed _ _
