-- Where a text leaves its form, and which fault a reader answers.
use Rattle.std.proofs.Common.{◌≡◌, ℕ, ◌+◌, ◌<◌, ◌≤◌, Bool, true, false, not, cond, ◌||◌, List, ◌∷◌, length, take, get_or, Option, Some, None, Err, sym, refl, ap, ◌∙◌, subst, arith, zero-add, ◌⊎◌, inl, inr}
use Rattle.std.proofs.lemmas.Bool.{cases_lt}
use Rattle.std.proofs.lemmas.List.{take_all}
use Rattle.std.proofs.lemmas.Bool.Decides.{nat_tests}
use Rattle.std.specs.Prelude.{nat_lt}
use Rattle.std.specs.Option.{option_map}
use Rattle.std.specs.List.{prefix_len, enumerate_from}
use Rattle.std.proofs.lemmas.List.FromFn.{length-enumerate_from, get_or-enumerate_from}
use Rattle.std.proofs.lemmas.List.Sums.{prefix_len_is}
use Rattle.size_values.specs.Form.{StandsTo}
use Rattle.size_values.specs.Reading.{reading, fault_if, stray}
use Rattle.size_values.specs.declared.fault.ValueFault.{ValueFault}
use Rattle.size_values.specs.declared.fault.ValueFault.TheVariants.{BadByte}

-- a fault that stands is answered, and one that does not is passed over
pub reading-here : {T : Type 0} (value : T) (b : Bool) (fault : ValueFault) (faults : List (Option ValueFault)) → b ≡ true → Err fault ≡ reading value (fault_if b fault ∷ faults)
reading-here value true fault faults h = refl
reading-here value false fault faults h = grind arith

pub reading-past : {T : Type 0} (value : T) (b : Bool) (fault : ValueFault) (faults : List (Option ValueFault)) → b ≡ false → reading value faults ≡ reading value (fault_if b fault ∷ faults)
reading-past value true fault faults h = grind arith
reading-past value false fault faults h = refl

pub reading-strays : {T : Type 0} (value : T) (place : Option ℕ) (n : ℕ) (faults : List (Option ValueFault)) → place ≡ Some n → Err (BadByte n) ≡ reading value (option_map BadByte place ∷ faults)
reading-strays value place n faults h = ap (λ p. reading value (option_map BadByte p ∷ faults)) (sym h)

pub reading-formed : {T : Type 0} (value : T) (place : Option ℕ) (faults : List (Option ValueFault)) → place ≡ None → reading value faults ≡ reading value (option_map BadByte place ∷ faults)
reading-formed value place faults h = ap (λ p. reading value (option_map BadByte p ∷ faults)) (sym h)

module _ (may_follow : List ℕ → ℕ → Bool) where
  place-is : (text : List ℕ) (n : ℕ) → StandsTo may_follow text n → (n < length text → may_follow (take n text) (get_or text n 0) ≡ false)
      → prefix_len (λ (b : ℕ × ℕ). may_follow (take b.0 text) b.1) (enumerate_from 0 text) ≡ n
  place-is text n h stops =
      prefix_len_is (λ (b : ℕ × ℕ). may_follow (take b.0 text) b.1) (enumerate_from 0 text) n (0, 0)
      (omega (arith, h.within, length-enumerate_from 0 text))
      (λ k less. at k (omega (arith, h.within)) true (h.each k less))
      (λ less. at n (omega (arith, less, length-enumerate_from 0 text)) false (stops (omega (arith, less, length-enumerate_from 0 text))))
    where
      at : (k : ℕ) → k < length text → (b : Bool) → may_follow (take k text) (get_or text k 0) ≡ b
          → (λ (p : ℕ × ℕ). may_follow (take p.0 text) p.1) (get_or (enumerate_from 0 text) k (0, 0)) ≡ b
      at k less b is =
          ap (λ (p : ℕ × ℕ). may_follow (take p.0 text) p.1) (get_or-enumerate_from 0 text k (0, 0) less ∙ ap (λ (j : ℕ). (j, get_or text k 0)) (zero-add k)) ∙ is

  pub stray-at : (is_whole : List ℕ → Bool) (text : List ℕ) (n : ℕ) → StandsTo may_follow text n → n < length text → may_follow (take n text) (get_or text n 0) ≡ false
      → stray may_follow is_whole text ≡ Some n
  stray-at is_whole text n h less stops = by (prefix_len (λ (b : ℕ × ℕ). may_follow (take b.0 text) b.1) (enumerate_from 0 text)) (place-is text n h (λ _. stops))
    where
      by : (place : ℕ) → place ≡ n → cond (nat_lt place (length text) || not (is_whole text)) (Some place) None ≡ Some n
      by place e = grind (arith, nat_tests)

  pub stray-end : (is_whole : List ℕ → Bool) (text : List ℕ) → StandsTo may_follow text (length text) → is_whole text ≡ false
      → stray may_follow is_whole text ≡ Some (length text)
  stray-end is_whole text h ends = by (prefix_len (λ (b : ℕ × ℕ). may_follow (take b.0 text) b.1) (enumerate_from 0 text)) (place-is text (length text) h (λ less. absurd (omega arith)))
    where
      by : (place : ℕ) → place ≡ length text → cond (nat_lt place (length text) || not (is_whole text)) (Some place) None ≡ Some (length text)
      by place e = grind (arith, nat_tests)

  pub stray-none : (is_whole : List ℕ → Bool) (text : List ℕ) → StandsTo may_follow text (length text) → is_whole text ≡ true
      → stray may_follow is_whole text ≡ None
  stray-none is_whole text h ends = by (prefix_len (λ (b : ℕ × ℕ). may_follow (take b.0 text) b.1) (enumerate_from 0 text)) (place-is text (length text) h (λ less. absurd (omega arith)))
    where
      nowhere : Option ℕ
      nowhere = None

      by : (place : ℕ) → place ≡ length text → cond (nat_lt place (length text) || not (is_whole text)) (Some place) None ≡ nowhere
      by place e = grind (arith, nat_tests)

  pub stands-start : (text : List ℕ) → StandsTo may_follow text 0
  stands-start text = record { within = omega arith; each = λ k less. absurd (omega arith) }

  -- j more bytes that may stand where they do
  pub stands-run : (text : List ℕ) (n j : ℕ) → StandsTo may_follow text n → n + j ≤ length text
      → ((k : ℕ) → n ≤ k → k < n + j → may_follow (take k text) (get_or text k 0) ≡ true) → StandsTo may_follow text (n + j)
  stands-run text n j h within more = record {
    within = within;
    each = λ k less. by k less (cases_lt k n);
  } where
    by : (k : ℕ) → k < n + j → (k < n) ⊎ (n ≤ k) → may_follow (take k text) (get_or text k 0) ≡ true
    by k less (inl below) = h.each k below
    by k less (inr above) = more k above less

  pub stands-more : (text : List ℕ) (n : ℕ) → StandsTo may_follow text n → n < length text → may_follow (take n text) (get_or text n 0) ≡ true
      → StandsTo may_follow text (n + 1)
  stands-more text n h less is = stands-run text n 1 h (omega arith) (λ k low high. let e : n ≡ k = omega arith in subst (λ (i : ℕ). may_follow (take i text) (get_or text i 0) ≡ true) e is)

-- where a front stands, the form is left at the next byte or at the end
pub leaves : (may_follow : List ℕ → ℕ → Bool) (is_whole : List ℕ → Bool) (text : List ℕ) (n : ℕ) → StandsTo may_follow text n
    → (n < length text → may_follow (take n text) (get_or text n 0) ≡ false) → (n ≡ length text → is_whole text ≡ false) → stray may_follow is_whole text ≡ Some n
leaves may_follow is_whole text n stands stops part = by (cases_lt n (length text))
  where
    by : (n < length text) ⊎ (length text ≤ n) → stray may_follow is_whole text ≡ Some n
    by (inl less) = stray-at may_follow is_whole text n stands less (stops less)
    by (inr more) =
        let same : n ≡ length text = omega (arith, stands.within) in
        stray-end may_follow is_whole text (subst (λ (k : ℕ). StandsTo may_follow text k) same stands) (part same) ∙ ap (λ k. Some k) (sym same)

-- the front is the whole text where it ends with it
pub whole-front : (test : List ℕ → Bool) (text : List ℕ) (n : ℕ) (b : Bool) → length text ≤ n → test (take n text) ≡ b → test text ≡ b
whole-front test text n b all is = ap test (sym (take_all n text all)) ∙ is
