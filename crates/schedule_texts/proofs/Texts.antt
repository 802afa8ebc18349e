-- Texts that are cut, and numbers in them.
use Rattle.std.proofs.Common.{◌≡◌, ◌≢◌, ℕ, suc, ◌+◌, ◌-◌, ◌*◌, ◌<◌, min, Bool, true, false, ◌&&◌, if◌then◌else◌, List, [], ◌∷◌, length, take, get_or, Option, Some, None, Bor, unwrap_or, MatchOption, IfSome, IfNone, refl, sym, ap, ◌∙◌, arith}
use Rattle.std.specs.List.{slice_split, before_first, after_first, position_or_len, list_any}
use Rattle.std.specs.Char.{is_ascii_digit, digit_value}
use Rattle.std.specs.Str.Parse.{digits_value}
use Rattle.std.proofs.lemmas.Bool.Decides.{nat_tests}
use Rattle.std.proofs.lemmas.Int.Digits.{digits_value_more}
use Rattle.std.proofs.lemmas.List.Splits.{slice_split_first, slice_split_none}
use Rattle.std.proofs.lemmas.List.Sums.{fails_before_first, passes_at_first}
use Rattle.std.proofs.lemmas.List.Folds.{list_any_at}
use Rattle.schedule_texts.specs.Signs.{is_sign, is_space}
use Rattle.schedule_texts.specs.Aliases.{without_space}

-- ---- a space at the front

space_kept : (sign : ℕ) (signs : List ℕ) (b : Bool) → is_space sign ≡ b → ((rest : List ℕ) → sign ∷ signs ≢ 32 ∷ rest)
    → sign ∷ signs ≡ (if b then signs else sign ∷ signs)
space_kept sign signs true e never = absurd (never signs (let same : sign ≡ 32 = grind (arith, nat_tests) in ap (λ s. s ∷ signs) same))
space_kept sign signs false e never = refl

kept : (text : List ℕ) → ((rest : List ℕ) → text ≢ 32 ∷ rest) → text ≡ without_space text
kept [] never = refl
kept (sign ∷ signs) never = space_kept sign signs (is_space sign) refl never

pub front_space_gone : (text : List ℕ) (whole : Bor (List ℕ)) (cut : Option (Bor (List ℕ))) → whole.now ≡ text
    → MatchOption cut ((rest : List ℕ) → text ≢ 32 ∷ rest) (λ x. text ≡ 32 ∷ x.now) → (unwrap_or cut whole).now ≡ without_space text
front_space_gone text whole None same never = same ∙ kept text never
front_space_gone text whole (Some x) same cut = sym (ap without_space cut)

-- ---- digits

digit_value-digit : (c : ℕ) → is_ascii_digit c ≡ true → digit_value c ≡ c - 48
digit_value-digit c h = grind (arith, nat_tests)

stops-step : (v n d last : ℕ) → v ≡ min n last → min (min (v * 10) last + d) last ≡ min (n * 10 + d) last
stops-step v n d last h = omega arith

-- the number after one more digit
pub number-next : (text : List ℕ) (i v : ℕ) → i < length text → is_ascii_digit (get_or text i 0) ≡ true
    → v ≡ min (digits_value 10 (take i text)) 255
    → min (min (v * 10) 255 + (get_or text i 0 - 48)) 255 ≡ min (digits_value 10 (take (i + 1) text)) 255
number-next text i v less digit h =
    stops-step v (digits_value 10 (take i text)) (get_or text i 0 - 48) 255 h
    ∙ ap (λ n. min n 255) (sym (digits_value_more 10 text i less ∙ ap (λ d. digits_value 10 (take i text) * 10 + d) (digit_value-digit (get_or text i 0) digit)))

-- ---- cuts at a sign

-- the two texts round the first sign, or none
abbrev pub CutsAt : ℕ → List ℕ → Option (Bor (List ℕ) × Bor (List ℕ)) → Type 0
CutsAt sign text cut = MatchOption cut (position_or_len (is_sign sign) text ≡ length text)
    (λ x. (x.0.now ≡ before_first (is_sign sign) text) × (x.1.now ≡ after_first (is_sign sign) text) × (position_or_len (is_sign sign) text < length text))

-- what a cut is
pub record IsCut (sign : ℕ) (text : List ℕ) (cut : Option (Bor (List ℕ) × Bor (List ℕ))) : Type 0 where
  pub there : IfSome cut (λ x. list_any (is_sign sign) text ≡ true)
  pub front : IfSome cut (λ x. x.0.now ≡ before_first (is_sign sign) text)
  pub back : IfSome cut (λ x. x.1.now ≡ after_first (is_sign sign) text)
  pub split : IfSome cut (λ x. slice_split (is_sign sign) text ≡ x.0.now ∷ slice_split (is_sign sign) x.1.now)
  pub none : IfNone cut (list_any (is_sign sign) text ≡ false)
  pub whole : IfNone cut (slice_split (is_sign sign) text ≡ text ∷ [])

none_passes : (sign : ℕ) (text : List ℕ) → ((k : ℕ) → k < length text → is_sign sign (get_or text k 0) ≡ false) → list_any (is_sign sign) text ≡ false
none_passes sign [] each = refl
none_passes sign (x ∷ xs) each = rw (each 0 (omega arith)) (none_passes sign xs (λ k l. each (suc k) (omega arith)))

one_passes : (sign : ℕ) (text : List ℕ) (i : ℕ) → i < length text → is_sign sign (get_or text i 0) ≡ true → list_any (is_sign sign) text ≡ true
one_passes sign text i l h = list_any_at (is_sign sign) text i 0 l h

pub cut_is : (sign : ℕ) (text : List ℕ) (cut : Option (Bor (List ℕ) × Bor (List ℕ))) → CutsAt sign text cut → IsCut sign text cut
cut_is sign text None h = record {
  there = tt;
  front = tt;
  back = tt;
  split = tt;
  none = none_passes sign text (λ k l. fails_before_first (is_sign sign) text k 0 (omega (arith, h, l)));
  whole = slice_split_none (is_sign sign) text (λ k d l. fails_before_first (is_sign sign) text k d (omega (arith, h, l)));
}
cut_is sign text (Some x) h = record {
  there = one_passes sign text (position_or_len (is_sign sign) text) h.2 (passes_at_first (is_sign sign) text 0 h.2);
  front = h.0;
  back = h.1;
  split = rw (h.0, h.1) (slice_split_first (is_sign sign) text 0 h.2);
  none = tt;
  whole = tt;
}

pub both_true : {a b : Bool} → a ≡ true → b ≡ true → a && b ≡ true
both_true {a} {b} h k = ap (λ x. x && b) h ∙ k
