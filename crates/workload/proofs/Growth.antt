-- The stream grows by one creation at a time, and the summary by one line.
use Rattle.std.proofs.Common.{◌≡◌, ℕ, zero, suc, ◌+◌, ◌-◌, ◌≤◌, List, [], ◌∷◌, ◌++◌, ap, sym, ◌∙◌, append-nil, arith, length, codes, decimal}
use Rattle.std.specs.List.{flat_map, range_with_len}
use Rattle.std.proofs.lemmas.List.{flat_map_more}
use Rattle.workload.specs.Stream.{following, number_of, creation, stream_of, opening}
use Rattle.workload.specs.Summary.{code_line, summary_by}

-- one more number at the end of a range
pub range-more : (a n : ℕ) → range_with_len a (suc n) ≡ range_with_len a n ++ (a + n) ∷ []
range-more a zero = let e : a ≡ a + 0 = omega arith in ap (λ b. b ∷ []) e
range-more a (suc n) = let e : a + 1 + n ≡ a + suc n = omega arith in
    ap (λ xs. a ∷ xs) (range-more (a + 1) n) ∙ ap (λ b. a ∷ range_with_len (a + 1) n ++ b ∷ []) e

pub number_of-more : (seed made : ℕ) → number_of seed (made + 1) ≡ following (number_of seed made)
number_of-more seed made = let e : made + 1 ≡ suc made = omega arith in ap (number_of seed) e

pub stream_of-none : (seed : ℕ) → stream_of seed 0 ≡ opening
unfolding stream_of
stream_of-none seed = append-nil opening

pub stream_of-more : (seed made : ℕ) → stream_of seed (made + 1) ≡ stream_of seed made ++ creation (made + 1) (number_of seed (made + 1))
unfolding stream_of
stream_of-more seed made =
    let step : made + 1 ≡ suc made = omega arith in
    let last : 1 + made ≡ made + 1 = omega arith in
    ap (λ n. opening ++ flat_map made_by (range_with_len 1 n)) step
    ∙ ap (λ ks. opening ++ flat_map made_by ks) (range-more 1 made)
    ∙ sym (flat_map_more made_by opening (range_with_len 1 made) (1 + made))
    ∙ ap (λ k. (opening ++ flat_map made_by (range_with_len 1 made)) ++ made_by k) last
  where
    made_by : ℕ → List ℕ
    made_by k = creation k (number_of seed k)

-- the lines of the codes up to one, and its line
pub lines-more : (front all : List ℕ) (code : ℕ) → 100 ≤ code
    → (front ++ flat_map (code_line all) (range_with_len 100 (code - 100))) ++ code_line all code ≡ front ++ flat_map (code_line all) (range_with_len 100 (code + 1 - 100))
lines-more front all code low =
    let at : 100 + (code - 100) ≡ code = omega arith in
    let more : suc (code - 100) ≡ code + 1 - 100 = omega arith in
    flat_map_more (code_line all) front (range_with_len 100 (code - 100)) code
    ∙ ap (λ k. front ++ flat_map (code_line all) (range_with_len 100 (code - 100) ++ k ∷ [])) (sym at)
    ∙ ap (λ ks. front ++ flat_map (code_line all) ks) (sym (range-more 100 (code - 100)))
    ∙ ap (λ n. front ++ flat_map (code_line all) (range_with_len 100 n)) more

-- the lines of all codes
pub lines-all : (all : List ℕ) (code : ℕ) → code ≡ 1000
    → codes "requests " ++ decimal (length all) ++ codes "\n" ++ flat_map (code_line all) (range_with_len 100 (code - 100)) ≡ summary_by all
unfolding summary_by
lines-all all code end =
    let width : code - 100 ≡ 900 = omega arith in
    ap (λ n. codes "requests " ++ decimal (length all) ++ codes "\n" ++ flat_map (code_line all) (range_with_len 100 n)) width
