-- A text parted at a mark, place by place.
use Rattle.std.proofs.Common.{◌≡◌, ℕ, ◌+◌, ◌-◌, ◌<◌, Bool, true, false, cond, Option, Some, None, List, [], ◌∷◌, ◌++◌, length, take, drop, get_or, refl, ap, sym, ◌∙◌, arith, append-nil, append_assoc}
use Rattle.std.specs.List.{starts_with}
use Rattle.std.specs.Prelude.{nat_eq, option_map}
use Rattle.std.proofs.lemmas.List.{take_more, drop_more, drop-drop, take_rest}
use Rattle.workload.specs.Summary.{parted}

-- the parts with more before them
abbrev pub after : List ℕ → Option (List ℕ × List ℕ) → Option (List ℕ × List ℕ)
after front parts = option_map (λ p. (front ++ p.0, p.1)) parts

pub after-none : (parts : Option (List ℕ × List ℕ)) → parts ≡ after [] parts
after-none None = refl
after-none (Some p) = refl

after-twice : (front : List ℕ) (x : ℕ) (parts : Option (List ℕ × List ℕ)) → after front (option_map (λ p. (x ∷ p.0, p.1)) parts) ≡ after (front ++ x ∷ []) parts
after-twice front x None = refl
after-twice front x (Some p) = ap (λ f. Some (f, p.1)) (sym (append_assoc front (x ∷ []) p.0))

module _ (mark : List ℕ) where
  -- the mark stands here
  found : (front xs : List ℕ) → 0 < length xs → starts_with nat_eq xs mark ≡ true → after front (parted mark xs) ≡ Some (front, drop (length mark) xs)
  found front [] some at = absurd (omega arith)
  found front (x ∷ xs) some at =
      ap (λ b. after front (cond b (Some ([], drop (length mark) (x ∷ xs))) (option_map (λ p. (x ∷ p.0, p.1)) (parted mark xs)))) at
      ∙ ap (λ f. Some (f, drop (length mark) (x ∷ xs))) (append-nil front)

  -- it does not stand here
  missed : (front : List ℕ) (x : ℕ) (xs : List ℕ) → starts_with nat_eq (x ∷ xs) mark ≡ false → after front (parted mark (x ∷ xs)) ≡ after (front ++ x ∷ []) (parted mark xs)
  missed front x xs off =
      ap (λ b. after front (cond b (Some ([], drop (length mark) (x ∷ xs))) (option_map (λ p. (x ∷ p.0, p.1)) (parted mark xs)))) off
      ∙ after-twice front x (parted mark xs)

  -- the same at a place of the text
  pub found-at : (text : List ℕ) (i : ℕ) → i < length text → starts_with nat_eq (drop i text) mark ≡ true
      → after (take i text) (parted mark (drop i text)) ≡ Some (take i text, drop (i + length mark) text)
  found-at text i within at =
      found (take i text) (drop i text) (omega (arith, ap length (drop_more text i 0 within))) at ∙ ap (λ xs. Some (take i text, xs)) (drop-drop (length mark) i text)

  pub missed-at : (text : List ℕ) (i : ℕ) → i < length text → starts_with nat_eq (drop i text) mark ≡ false
      → after (take i text) (parted mark (drop i text)) ≡ after (take (i + 1) text) (parted mark (drop (i + 1) text))
  missed-at text i within off =
      ap (λ xs. after (take i text) (parted mark xs)) (drop_more text i 0 within)
      ∙ missed (take i text) (get_or text i 0) (drop (i + 1) text) (ap (λ xs. starts_with nat_eq xs mark) (sym (drop_more text i 0 within)) ∙ off)
      ∙ ap (λ f. after f (parted mark (drop (i + 1) text))) (sym (take_more text i 0 within))

  -- the test of the rest of a text, which a slice to its end gives
  pub tested : (text : List ℕ) (i : ℕ) (b : Bool) → b ≡ starts_with nat_eq (take (length text - i) (drop i text)) mark → starts_with nat_eq (drop i text) mark ≡ b
  tested text i b e = ap (λ xs. starts_with nat_eq xs mark) (sym (take_rest text i)) ∙ sym e
