-- Four numbers joined by dots, one after the other.
use Rattle.std.proofs.Common.{◌≡◌, ℕ, ◌+◌, ◌-◌, ◌*◌, ◌<◌, ◌≤◌, Bool, true, false, cond, ◌&&◌, ◌||◌, List, [], ◌∷◌, ◌++◌, length, take, drop, get_or, Option, Some, None, sym, refl, ap, ◌∙◌, subst, inl, inr, ◌⊎◌, arith, eqb, lit≤}
use Rattle.std.proofs.lemmas.Bool.Decides.{nat_tests}
use Rattle.std.proofs.lemmas.List.Splits.{length-slice_split}
use Rattle.std.specs.Prelude.{nat_lt, fold, count_by}
use Rattle.std.specs.Char.{is_ascii_digit}
use Rattle.std.specs.Str.Parse.{digits_value}
use Rattle.std.specs.List.{prefix_len, take_while, list_any, slice_split}
use Rattle.size_values.specs.Form.{StandsTo}
use Rattle.size_values.specs.Reading.{last_byte}
use Rattle.size_values.specs.Address.{is_dot, may_follow_in_address, is_whole_address, is_unfit}
use Rattle.size_values.specs.Quad.{fit_of, quad_value, IsFrom, Follows, Misses, IsQuad, IsAstray}
use Rattle.size_values.specs.declared.address.SmallNumber.{SmallNumber}
use Rattle.size_values.proofs.Forms.{stands-start, stands-run, stands-more}
use Rattle.size_values.proofs.Fronts.{take-more, last_byte-take, slice_split-snoc, passing-inside, run-unsplit, run-within, run-digit, run-end}

-- these numbers, joined by dots, stand at the front, and no digit follows them
pub record IsFront (text : List ℕ) (n : ℕ) (parts : List (List ℕ)) : Type 0 where
  pub stands : StandsTo may_follow_in_address text n
  pub split : slice_split is_dot (take n text) ≡ parts
  pub last : is_ascii_digit (last_byte (take n text)) ≡ true
  pub ends : is_ascii_digit (get_or text n 0) ≡ false

digit-no_dot : (c : ℕ) → is_ascii_digit c ≡ true → is_dot c ≡ false
digit-no_dot c h = grind (arith, nat_tests)

digit-stands : (front : List ℕ) (c : ℕ) → is_ascii_digit c ≡ true → may_follow_in_address front c ≡ true
digit-stands front c h = grind arith

dot-stands : (front : List ℕ) (c : ℕ) → is_dot c ≡ true → is_ascii_digit (last_byte front) ≡ true → count_by is_dot front < 3 → may_follow_in_address front c ≡ true
dot-stands front c dot last few = by (count_by is_dot front) few
  where
    by : (n : ℕ) → n < 3 → (is_ascii_digit c || (is_dot c && is_ascii_digit (last_byte front) && nat_lt n 3)) ≡ true
    by n h = grind (arith, nat_tests)

-- neither a digit nor a dot in its place
neither-stands : (front : List ℕ) (c : ℕ) → is_ascii_digit c ≡ false → is_dot c ≡ false → may_follow_in_address front c ≡ false
neither-stands front c d e = grind arith

no_digit-after : (front : List ℕ) (c : ℕ) → is_ascii_digit c ≡ false → is_ascii_digit (last_byte front) ≡ false → may_follow_in_address front c ≡ false
no_digit-after front c d e = grind arith

-- the digits of a number stand after a front that stands
digits-stand : (text : List ℕ) (at : ℕ) → StandsTo may_follow_in_address text at → StandsTo may_follow_in_address text (at + prefix_len is_ascii_digit (drop at text))
digits-stand text at h =
    stands-run may_follow_in_address text at (prefix_len is_ascii_digit (drop at text)) h (run-within text at h.within)
    (λ k low high. digit-stands (take k text) (get_or text k 0) (run-digit text at h.within k low high))

digits-last : (text : List ℕ) (at n : ℕ) → at ≤ length text → n ≡ at + prefix_len is_ascii_digit (drop at text) → at < n → is_ascii_digit (last_byte (take n text)) ≡ true
digits-last text at n within end some =
    ap is_ascii_digit (last_byte-take text n (omega arith) (omega (arith, run-within text at within)))
    ∙ run-digit text at within (n - 1) (omega arith) (omega arith)

pub front-first : (text : List ℕ) (number : SmallNumber) → IsFrom 0 255 text 0 number → IsFront text number.end (take_while is_ascii_digit text ∷ [])
front-first text number h = record {
  stands = subst (λ (n : ℕ). StandsTo may_follow_in_address text n) (sym h.end) (digits-stand text 0 (stands-start may_follow_in_address text));
  split = ap (λ n. slice_split is_dot (take n text)) end ∙ run-unsplit is_dot digit-no_dot text;
  last = digits-last text 0 number.end (omega arith) h.end h.some;
  ends = ap (λ n. is_ascii_digit (get_or text n 0)) h.end ∙ run-end text 0 (omega arith);
} where
  end : number.end ≡ prefix_len is_ascii_digit text
  end = omega (arith, h.end)

module _ (text : List ℕ) (n : ℕ) (parts : List (List ℕ)) (front : IsFront text n parts) (few : length parts ≤ 3) where
  dots : count_by is_dot (take n text) < 3
  dots = omega (arith, length-slice_split is_dot (take n text), ap (λ (ps : List (List ℕ)). length ps) front.split)

  not-whole : is_whole_address (take n text) ≡ false
  not-whole = by (count_by is_dot (take n text)) dots
    where
      by : (k : ℕ) → k < 3 → (is_ascii_digit (last_byte (take n text)) && eqb k 3) ≡ false
      by k h = grind (arith, nat_tests)

  module _ (dot : is_dot (get_or text n 0) ≡ true) where
    inside : n < length text
    inside = passing-inside is_dot refl text n dot

    dot-in-place : StandsTo may_follow_in_address text (n + 1)
    dot-in-place = stands-more may_follow_in_address text n front.stands inside (dot-stands (take n text) (get_or text n 0) dot front.last dots)

    dot-last : is_ascii_digit (last_byte (take (n + 1) text)) ≡ false
    dot-last = ap is_ascii_digit (last_byte-take text (n + 1) (omega arith) (omega (arith, inside)) ∙ ap (λ k. get_or text k 0) same) ∙ no_digit (get_or text n 0) dot
      where
        same : n + 1 - 1 ≡ n
        same = omega arith

        no_digit : (c : ℕ) → is_dot c ≡ true → is_ascii_digit c ≡ false
        no_digit c h = grind (arith, nat_tests)

    dot-not-whole : is_whole_address (take (n + 1) text) ≡ false
    dot-not-whole = by (is_ascii_digit (last_byte (take (n + 1) text))) dot-last
      where
        by : (b : Bool) → b ≡ false → (b && eqb (count_by is_dot (take (n + 1) text)) 3) ≡ false
        by b h = grind arith

  -- one more number
  pub front-next : (number : SmallNumber) → Follows 46 0 255 text n number → IsFront text number.end (parts ++ take_while is_ascii_digit (drop (n + 1) text) ∷ [])
  front-next number h = record {
    stands = subst (λ (k : ℕ). StandsTo may_follow_in_address text k) (sym h.number_is.end) (digits-stand text (n + 1) (dot-in-place h.separates));
    split =
        ap (λ k. slice_split is_dot (take k text)) h.number_is.end
        ∙ ap (slice_split is_dot) (take-more n (prefix_len is_ascii_digit (drop (n + 1) text)) text (inside h.separates))
        ∙ slice_split-snoc is_dot (take n text) (get_or text n 0) (take_while is_ascii_digit (drop (n + 1) text)) h.separates
        (run-unsplit is_dot digit-no_dot (drop (n + 1) text))
        ∙ ap (λ (ps : List (List ℕ)). ps ++ take_while is_ascii_digit (drop (n + 1) text) ∷ []) front.split;
    last = digits-last text (n + 1) number.end (omega (arith, inside h.separates)) h.number_is.end h.number_is.some;
    ends = ap (λ k. is_ascii_digit (get_or text k 0)) h.number_is.end ∙ run-end text (n + 1) (omega (arith, inside h.separates));
  }

  -- or none
  pub astray-next : (place : ℕ) → Misses 46 text n place → IsAstray text place
  astray-next place h = by h.misses
    where
      by : ((place ≡ n) × (is_dot (get_or text n 0) ≡ false)) ⊎ ((place ≡ n + 1) × (is_dot (get_or text n 0) ≡ true) × (prefix_len is_ascii_digit (drop place text) ≡ 0))
          → IsAstray text place
      by (inl at) = subst (λ (k : ℕ). IsAstray text k) (sym at.0) (record {
        stands = front.stands;
        stops = λ _. neither-stands (take n text) (get_or text n 0) front.ends at.1;
        part = not-whole;
      })
      by (inr following) =
          let none : prefix_len is_ascii_digit (drop (n + 1) text) ≡ 0 = subst (λ (k : ℕ). prefix_len is_ascii_digit (drop k text) ≡ 0) following.0 following.2 in
          let same : n + 1 + prefix_len is_ascii_digit (drop (n + 1) text) ≡ n + 1 = omega arith in
          let ends : is_ascii_digit (get_or text (n + 1) 0) ≡ false = subst (λ (k : ℕ). is_ascii_digit (get_or text k 0) ≡ false) same (run-end text (n + 1) (omega (arith, inside following.1))) in
          subst (λ (k : ℕ). IsAstray text k) (sym following.0) (record {
            stands = dot-in-place following.1;
            stops = λ _. no_digit-after (take (n + 1) text) (get_or text (n + 1) 0) ends (dot-last following.1);
            part = dot-not-whole following.1;
          })

-- no number at the front
pub astray-first : (text : List ℕ) → prefix_len is_ascii_digit text ≡ 0 → IsAstray text 0
astray-first text none = record {
  stands = stands-start may_follow_in_address text;
  stops = λ _. no_digit-after [] (get_or text 0 0) ends refl;
  part = refl;
} where
  ends : is_ascii_digit (get_or text 0 0) ≡ false
  ends = let same : 0 + prefix_len is_ascii_digit text ≡ 0 = omega arith in
      subst (λ (k : ℕ). is_ascii_digit (get_or text k 0) ≡ false) same (run-end text 0 (omega arith))

four-fit : (p q r s : Bool) (w x y z : ℕ)
    → quad_value (cond p None (Some w)) (cond q None (Some x)) (cond r None (Some y)) (cond s None (Some z))
    ≡ cond (p || (q || (r || (s || false)))) None (Some ((((0 * 256 + w) * 256 + x) * 256 + y) * 256 + z))
four-fit true q r s w x y z = refl
four-fit false true r s w x y z = refl
four-fit false false true s w x y z = refl
four-fit false false false true w x y z = refl
four-fit false false false false w x y z =
    let same : ((w * 256 + x) * 256 + y) * 256 + z ≡ (((0 * 256 + w) * 256 + x) * 256 + y) * 256 + z = omega arith in
    ap (λ n. Some n) same

-- four numbers
pub quad-is : (text : List ℕ) (n : ℕ) (a b c d : List ℕ) (address : Option ℕ) → IsFront text n (a ∷ b ∷ c ∷ d ∷ [])
    → address ≡ quad_value (fit_of 0 255 a) (fit_of 0 255 b) (fit_of 0 255 c) (fit_of 0 255 d) → IsQuad text (record { end = n; address = address })
quad-is text n a b c d address front is = record {
  stands = front.stands;
  whole = by (count_by is_dot (take n text)) (is_ascii_digit (last_byte (take n text))) dots front.last;
  ends = front.ends;
  address =
      is ∙ four-fit (is_unfit 0 255 a) (is_unfit 0 255 b) (is_unfit 0 255 c) (is_unfit 0 255 d) (digits_value 10 a) (digits_value 10 b) (digits_value 10 c) (digits_value 10 d)
      ∙ ap (λ (ps : List (List ℕ)). cond (list_any (is_unfit 0 255) ps) None (Some (fold (λ value part. value * 256 + digits_value 10 part) 0 ps))) (sym front.split);
} where
  dots : count_by is_dot (take n text) ≡ 3
  dots = omega (arith, length-slice_split is_dot (take n text), ap (λ (ps : List (List ℕ)). length ps) front.split)

  by : (k : ℕ) (b : Bool) → k ≡ 3 → b ≡ true → (b && eqb k 3) ≡ true
  by k b e h = grind (arith, nat_tests)

-- the four numbers that are read, each after those before it
module _ (text : List ℕ) (first : SmallNumber) (h₁ : IsFrom 0 255 text 0 first) where
  front₁ : IsFront text first.end (take_while is_ascii_digit text ∷ [])
  front₁ = front-first text first h₁

  pub second-astray : (place : ℕ) → Misses 46 text first.end place → IsAstray text place
  second-astray place h = astray-next text first.end _ front₁ (lit≤ tt) place h

  module _ (second : SmallNumber) (h₂ : Follows 46 0 255 text first.end second) where
    front₂ : IsFront text second.end (take_while is_ascii_digit text ∷ take_while is_ascii_digit (drop (first.end + 1) text) ∷ [])
    front₂ = front-next text first.end _ front₁ (lit≤ tt) second h₂

    pub third-astray : (place : ℕ) → Misses 46 text second.end place → IsAstray text place
    third-astray place h = astray-next text second.end _ front₂ (lit≤ tt) place h

    module _ (third : SmallNumber) (h₃ : Follows 46 0 255 text second.end third) where
      front₃ : IsFront text third.end (take_while is_ascii_digit text ∷ take_while is_ascii_digit (drop (first.end + 1) text)
          ∷ take_while is_ascii_digit (drop (second.end + 1) text) ∷ [])
      front₃ = front-next text second.end _ front₂ (lit≤ tt) third h₃

      pub fourth-astray : (place : ℕ) → Misses 46 text third.end place → IsAstray text place
      fourth-astray place h = astray-next text third.end _ front₃ (lit≤ tt) place h

      pub quad-read : (fourth : SmallNumber) → Follows 46 0 255 text third.end fourth → (address : Option ℕ)
          → address ≡ quad_value first.value second.value third.value fourth.value → IsQuad text (record { end = fourth.end; address = address })
      quad-read fourth h₄ address is =
          quad-is text fourth.end _ _ _ _ address (front-next text third.end _ front₃ (lit≤ tt) fourth h₄)
          (is ∙ λ i. quad_value (h₁.value i) (h₂.number_is.value i) (h₃.number_is.value i) (h₄.number_is.value i))
