-- The codes of a text's replies, one reply at a time.
use Rattle.std.proofs.Common.{◌≡◌, ℕ, zero, suc, ◌-◌, ◌<◌, ◌≤◌, Bool, true, false, cond, Option, Some, None, List, [], ◌∷◌, ◌++◌, length, take, drop, refl, ap, sym, ◌∙◌, subst, arith, length-drop, append_assoc, append-nil}
use Rattle.std.specs.List.{starts_with}
use Rattle.std.specs.Option.{option_map_or}
use Rattle.std.specs.Prelude.{nat_eq, nat_le, option_map, option_and_then, IfSome, codes}
use Rattle.std.proofs.lemmas.List.{take_rest}
use Rattle.workload.specs.Summary.{parted, with_body, length_in, code_in, first_reply, codes_within, codes_of}

-- fewer than n bytes stand after the part that was found
abbrev IsShorter : {A : Type 0} → ℕ → Option (A × List ℕ) → Type 0
IsShorter n found = IfSome found (λ p. length p.1 < n)

parted-shorter : (mark : List ℕ) → 0 < length mark → (xs : List ℕ) → IsShorter (length xs) (parted mark xs)
parted-shorter mark some [] = tt
parted-shorter mark some (x ∷ xs) = by (starts_with nat_eq (x ∷ xs) mark) (parted mark xs) (parted-shorter mark some xs)
  where
    by : (b : Bool) (rest : Option (List ℕ × List ℕ)) → IsShorter (length xs) rest
        → IsShorter (length (x ∷ xs)) (cond b (Some ([], drop (length mark) (x ∷ xs))) (option_map (λ p. (x ∷ p.0, p.1)) rest))
    by true rest h = omega (arith, length-drop (length mark) (x ∷ xs))
    by false None h = tt
    by false (Some p) h = omega (arith, h)

reply-shorter : (bytes : List ℕ) → IsShorter (length bytes) (first_reply bytes)
reply-shorter bytes = by (parted (codes "\r\n\r\n") bytes) (parted-shorter (codes "\r\n\r\n") (omega arith) bytes)
  where
    body : (rest : List ℕ) (code len : ℕ) → length rest < length bytes → IsShorter (length bytes) (with_body rest code len)
    body rest code len h = within (nat_le len (length rest))
      where
        within : (b : Bool) → IsShorter (length bytes) (cond b (Some (code, drop len rest)) None)
        within true = omega (arith, length-drop len rest, h)
        within false = tt

    told : (rest : List ℕ) (code len : Option ℕ) → length rest < length bytes → IsShorter (length bytes) (option_and_then (λ c. option_and_then (with_body rest c) len) code)
    told rest None len h = tt
    told rest (Some c) None h = tt
    told rest (Some c) (Some n) h = body rest c n h

    by : (parts : Option (List ℕ × List ℕ)) → IsShorter (length bytes) parts
        → IsShorter (length bytes) (option_and_then (λ p. option_and_then (λ c. option_and_then (with_body p.1 c) (length_in p.0)) (code_in p.0)) parts)
    by None h = tt
    by (Some p) h = told p.1 (code_in p.0) (length_in p.0) h

-- more steps than bytes change nothing
enough : (n m : ℕ) (bytes : List ℕ) → length bytes ≤ n → length bytes ≤ m → codes_within n bytes ≡ codes_within m bytes
enough zero zero bytes low high = refl
enough zero (suc m) [] low high = refl
enough zero (suc m) (x ∷ xs) low high = absurd (omega arith)
enough (suc n) zero [] low high = refl
enough (suc n) zero (x ∷ xs) low high = absurd (omega arith)
enough (suc n) (suc m) bytes low high = by (first_reply bytes) (reply-shorter bytes) (λ rest h. enough n m rest (omega (arith, h)) (omega (arith, h)))
  where
    by : (found : Option (ℕ × List ℕ)) → IsShorter (length bytes) found → ((rest : List ℕ) → length rest < length bytes → codes_within n rest ≡ codes_within m rest)
        → option_map_or (λ r. r.0 ∷ codes_within n r.1) found [] ≡ option_map_or (λ r. r.0 ∷ codes_within m r.1) found []
    by None h same = refl
    by (Some r) h same = ap (λ cs. r.0 ∷ cs) (same r.1 h)

-- one whole reply, and those after it
codes_of-more : (bytes : List ℕ) (code : ℕ) (rest : List ℕ) → Some (code, rest) ≡ first_reply bytes → codes_of bytes ≡ code ∷ codes_of rest
codes_of-more [] code rest is = cc
codes_of-more (x ∷ xs) code rest is =
    let shorter : length rest < length (x ∷ xs) = subst (IsShorter (length (x ∷ xs))) (sym is) (reply-shorter (x ∷ xs)) in
    ap (λ found. option_map_or (λ r. r.0 ∷ codes_within (length xs) r.1) found []) (sym is)
    ∙ ap (λ cs. code ∷ cs) (enough (length xs) (length rest) rest (omega (arith, shorter)) (omega arith))

-- no whole reply
codes_of-none : (bytes : List ℕ) → None ≡ first_reply bytes → codes_of bytes ≡ []
codes_of-none [] is = refl
codes_of-none (x ∷ xs) is = ap (λ found. option_map_or (λ r. r.0 ∷ codes_within (length xs) r.1) found []) (sym is)

-- a loop's step: the codes so far, those of the rest, and the rest as a slice to its end
pub codes_of-step : (all done next rest : List ℕ) (code end : ℕ) → all ≡ done ++ codes_of rest → Some (code, drop end rest) ≡ first_reply rest → next ≡ done ++ code ∷ []
    → all ≡ next ++ codes_of (take (length rest - end) (drop end rest))
codes_of-step all done next rest code end so_far is pushed =
    so_far
    ∙ ap (λ cs. done ++ cs) (codes_of-more rest code (drop end rest) is ∙ ap (λ xs. code ∷ codes_of xs) (sym (take_rest rest end)))
    ∙ sym (append_assoc done (code ∷ []) (codes_of (take (length rest - end) (drop end rest))))
    ∙ ap (λ cs. cs ++ codes_of (take (length rest - end) (drop end rest))) (sym pushed)

-- its end
pub codes_of-end : (all done rest : List ℕ) → all ≡ done ++ codes_of rest → None ≡ first_reply rest → done ≡ all
codes_of-end all done rest so_far is = sym (so_far ∙ ap (λ cs. done ++ cs) (codes_of-none rest is) ∙ append-nil done)
