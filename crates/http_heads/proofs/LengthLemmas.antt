-- More bytes after a whole head change nothing of it.
use Rattle.std.proofs.Common.{◌≡◌, ℕ, zero, suc, ◌+◌, ◌-◌, ◌<◌, ◌≤◌, ◌==◌, Bool, true, false, cond, List, [], ◌∷◌, ◌++◌, length, take, drop, Option, Some, None, Result, Ok, Err, IfOk, refl, sym, ap, ◌∙◌, subst, ◌⊎◌, inl, inr, arith, length-take, take-append-drop}
use Rattle.std.specs.Option.{option_map, option_or}
use Rattle.std.proofs.lemmas.Option.{same_Some}
use Rattle.std.proofs.lemmas.Bool.{cases_lt}
use Rattle.std.proofs.lemmas.List.{take-append-le, take-take, take_all, drop_all}
use Rattle.std.proofs.Math.Seq.{take-append-add}
use Rattle.http_heads.specs.Limits.{max_head}
use Rattle.http_heads.specs.Heads.{is_line_byte, blank_len, line_end, empty_line_end, head_end, head_len}
use Rattle.http_heads.proofs.SearchLemmas.{head_end-blank, head_end-begins, end_past}

-- the first n bytes of a text and more
pub take-append : (n : ℕ) (bytes more : List ℕ) → length bytes ≤ n → take n (bytes ++ more) ≡ bytes ++ take (n - length bytes) more
take-append n bytes more h =
    let e : n ≡ length bytes + (n - length bytes) = omega arith in
    ap (λ k. take k (bytes ++ more)) e ∙ take-append-add bytes more (n - length bytes)

-- what an option that is mapped to a value is
pub mapped : (f : ℕ → ℕ) (o : Option ℕ) (n : ℕ) → option_map f o ≡ Some n → (k : ℕ) × (o ≡ Some k) × (f k ≡ n)
mapped f None n e = cc
mapped f (Some k) n e = (k, refl, cc)

line_end-append : (bytes more : List ℕ) (n : ℕ) → line_end bytes ≡ Some n → line_end (bytes ++ more) ≡ Some n
line_end-append [] more n e = cc
line_end-append (b ∷ []) [] n e = e
line_end-append (b ∷ []) (c ∷ more) n e = by_test (b == 10) refl
  where
    by_test : (t : Bool) → (b == 10) ≡ t → line_end (b ∷ c ∷ more) ≡ Some n
    by_test true is = let f : cond true (Some 1) None ≡ Some n = rw is at e in rw is f
    by_test false is = let f : cond false (Some 1) None ≡ Some n = rw is at e in cc
line_end-append (b ∷ c ∷ bytes) more n e = e

line_end-le : (bytes : List ℕ) (n : ℕ) → line_end bytes ≡ Some n → n ≤ length bytes
line_end-le [] n e = cc
line_end-le (b ∷ []) n e = by_test (b == 10) refl
  where
    by_test : (t : Bool) → (b == 10) ≡ t → n ≤ 1
    by_test true is = let f : Some 1 ≡ Some n = rw is at e in omega (arith, same_Some 1 n f)
    by_test false is = let f : None ≡ Some n = rw is at e in cc
line_end-le (b ∷ c ∷ bytes) n e = by_tests (b == 10) (b == 13) (c == 10) e
  where
    by_tests : (t u v : Bool) → cond t (Some 1) (cond u (cond v (Some 2) None) None) ≡ Some n → n ≤ length (b ∷ c ∷ bytes)
    by_tests true u v f = omega (arith, same_Some 1 n f)
    by_tests false true true f = omega (arith, same_Some 2 n f)
    by_tests false true false f = cc
    by_tests false false v f = cc

-- where an empty line stands after this place, the bytes up to it were enough to tell
line_end-told : (bytes more : List ℕ) (n : ℕ) → line_end bytes ≡ None → empty_line_end bytes ≡ Some n → line_end (bytes ++ more) ≡ None
line_end-told [] more n e f = cc
line_end-told (b ∷ []) more n e f = by_test (b == 10) refl
  where
    by_test : (t : Bool) → (b == 10) ≡ t → line_end (b ∷ more) ≡ None
    by_test true is = let g : option_map suc (option_or (cond true None None) None) ≡ Some n = rw is at f in cc
    by_test false is = let g : option_map suc (option_or (cond false None None) None) ≡ Some n = rw is at f in cc
line_end-told (b ∷ c ∷ bytes) more n e f = e

end_past-append : (b : ℕ) (bytes more : List ℕ) (n : ℕ) → end_past b bytes ≡ Some n → end_past b (bytes ++ more) ≡ Some n
end_past-append b bytes more n e = by_test (b == 10) refl
  where
    by_test : (t : Bool) → (b == 10) ≡ t → end_past b (bytes ++ more) ≡ Some n
    by_test true is = let f : line_end bytes ≡ Some n = rw is at e in rw is (line_end-append bytes more n f)
    by_test false is = let f : None ≡ Some n = rw is at e in cc

end_past-told : (b : ℕ) (bytes more : List ℕ) (n : ℕ) → end_past b bytes ≡ None → empty_line_end bytes ≡ Some n → end_past b (bytes ++ more) ≡ None
end_past-told b bytes more n e f = by_test (b == 10) refl
  where
    by_test : (t : Bool) → (b == 10) ≡ t → end_past b (bytes ++ more) ≡ None
    by_test true is = let g : line_end bytes ≡ None = rw is at e in rw is (line_end-told bytes more n g f)
    by_test false is = rw is refl

end_past-le : (b : ℕ) (bytes : List ℕ) (n : ℕ) → end_past b bytes ≡ Some n → n ≤ length bytes
end_past-le b bytes n e = by_test (b == 10) refl
  where
    by_test : (t : Bool) → (b == 10) ≡ t → n ≤ length bytes
    by_test true is = let f : line_end bytes ≡ Some n = rw is at e in line_end-le bytes n f
    by_test false is = let f : None ≡ Some n = rw is at e in cc

-- what an LF with an empty line after it gives, and what another byte gives
abbrev end_or : Option ℕ → List ℕ → Option ℕ
end_or o bytes = option_map suc (option_or o (empty_line_end bytes))

pub empty_line_end-append : (bytes more : List ℕ) (n : ℕ) → empty_line_end bytes ≡ Some n → empty_line_end (bytes ++ more) ≡ Some n
empty_line_end-append [] more n e = cc
empty_line_end-append (b ∷ bytes) more n e = by_end (end_past b bytes) refl (λ k. empty_line_end-append bytes more k)
  where
    by_end : (o : Option ℕ) → end_past b bytes ≡ o
        → ((k : ℕ) → empty_line_end bytes ≡ Some k → empty_line_end (bytes ++ more) ≡ Some k)
        → empty_line_end (b ∷ bytes ++ more) ≡ Some n
    by_end (Some k) is later =
        ap (λ o. end_or o (bytes ++ more)) (end_past-append b bytes more k is) ∙ sym (ap (λ o. end_or o bytes) is) ∙ e
    by_end None is later =
        let m = mapped suc (empty_line_end bytes) n (sym (ap (λ o. end_or o bytes) is) ∙ e) in
        ap (λ o. end_or o (bytes ++ more)) (end_past-told b bytes more m.0 is m.1) ∙ ap (option_map suc) (later m.0 m.1) ∙ ap Some m.2

pub empty_line_end-le : (bytes : List ℕ) (n : ℕ) → empty_line_end bytes ≡ Some n → n ≤ length bytes
empty_line_end-le [] n e = cc
empty_line_end-le (b ∷ bytes) n e = by_end (end_past b bytes) refl (λ k. empty_line_end-le bytes k)
  where
    by_end : (o : Option ℕ) → end_past b bytes ≡ o → ((k : ℕ) → empty_line_end bytes ≡ Some k → k ≤ length bytes)
        → n ≤ length (b ∷ bytes)
    by_end (Some k) is later =
        let f : suc k ≡ n = same_Some (suc k) n (sym (ap (λ o. end_or o bytes) is) ∙ e) in
        omega (arith, end_past-le b bytes k is)
    by_end None is later =
        let m = mapped suc (empty_line_end bytes) n (sym (ap (λ o. end_or o bytes) is) ∙ e) in omega (arith, m.2, later m.0 m.1)

pub head_end-append : (bytes more : List ℕ) (n : ℕ) → head_end bytes ≡ Some n → head_end (bytes ++ more) ≡ Some n
head_end-append [] more n e = cc
head_end-append (b ∷ bytes) more n e = by_test (is_line_byte b) refl (λ k. head_end-append bytes more k)
  where
    by_test : (t : Bool) → is_line_byte b ≡ t → ((k : ℕ) → head_end bytes ≡ Some k → head_end (bytes ++ more) ≡ Some k)
        → head_end (b ∷ bytes ++ more) ≡ Some n
    by_test true is later =
        let m = mapped suc (head_end bytes) n (sym (head_end-blank b bytes is) ∙ e) in
        head_end-blank b (bytes ++ more) is ∙ ap (option_map suc) (later m.0 m.1) ∙ ap Some m.2
    by_test false is later =
        head_end-begins b (bytes ++ more) is ∙ empty_line_end-append (b ∷ bytes) more n (sym (head_end-begins b bytes is) ∙ e)

pub head_end-le : (bytes : List ℕ) (n : ℕ) → head_end bytes ≡ Some n → n ≤ length bytes
head_end-le [] n e = cc
head_end-le (b ∷ bytes) n e = by_test (is_line_byte b) refl (λ k. head_end-le bytes k)
  where
    by_test : (t : Bool) → is_line_byte b ≡ t → ((k : ℕ) → head_end bytes ≡ Some k → k ≤ length bytes) → n ≤ length (b ∷ bytes)
    by_test true is later =
        let m = mapped suc (head_end bytes) n (sym (head_end-blank b bytes is) ∙ e) in omega (arith, m.2, later m.0 m.1)
    by_test false is later = empty_line_end-le (b ∷ bytes) n (sym (head_end-begins b bytes is) ∙ e)

pub found_within : {E : Type 0} (bytes : List ℕ) (r : Result ℕ E) → IfOk r (λ n. head_end bytes ≡ Some n) → IfOk r (λ n. n ≤ length bytes)
found_within bytes (Ok n) e = head_end-le bytes n e
found_within bytes (Err x) e = tt

-- no head ends where there are only CR and LF bytes
pub head_end-all_blank : (bytes : List ℕ) → blank_len bytes ≡ length bytes → head_end bytes ≡ None
head_end-all_blank bytes all =
    ap (λ n. option_map (λ k. n + k) (empty_line_end (drop n bytes))) all
    ∙ ap (λ l. option_map (λ k. length bytes + k) (empty_line_end l)) (drop_all (length bytes) bytes (omega arith))

pub blank_len-le : (bytes : List ℕ) → blank_len bytes ≤ length bytes
blank_len-le [] = omega arith
blank_len-le (b ∷ bytes) = by_test (is_line_byte b) (blank_len-le bytes)
  where
    by_test : (t : Bool) → blank_len bytes ≤ length bytes → cond t (suc (blank_len bytes)) 0 ≤ length (b ∷ bytes)
    by_test true later = omega arith
    by_test false later = omega arith

-- ---- within the first 16,384 bytes

pub head_len-short : (bytes : List ℕ) → length bytes ≤ max_head → head_len bytes ≡ head_end bytes
unfolding head_len
head_len-short bytes h = ap head_end (take_all max_head bytes h)

-- the bytes after the first 16,384 do not count
pub head_len-long : (bytes more : List ℕ) → max_head ≤ length bytes → head_len (bytes ++ more) ≡ head_len bytes
unfolding head_len
head_len-long bytes more h = ap head_end (take-append-le max_head bytes more h)

pub head_len-append : (bytes more : List ℕ) (n : ℕ) → head_len bytes ≡ Some n → head_len (bytes ++ more) ≡ Some n
unfolding head_len
head_len-append bytes more n e = by_length (cases_lt max_head (length bytes))
  where
    by_length : (max_head < length bytes) ⊎ (length bytes ≤ max_head) → head_len (bytes ++ more) ≡ Some n
    by_length (inl long) = head_len-long bytes more (omega arith) ∙ e
    by_length (inr short) =
        ap head_end (take-append max_head bytes more short)
        ∙ head_end-append bytes (take (max_head - length bytes) more) n (ap head_end (sym (take_all max_head bytes short)) ∙ e)

pub head_len-le : (bytes : List ℕ) (n : ℕ) → head_len bytes ≡ Some n → (n ≤ max_head) × (n ≤ length bytes)
unfolding head_len
head_len-le bytes n e =
    let few : n ≤ length (take max_head bytes) = head_end-le (take max_head bytes) n e in
    let len = length-take max_head bytes in (omega arith, omega arith)

-- ---- the bytes of a head alone

line_end-front : (bytes : List ℕ) (n : ℕ) → line_end bytes ≡ Some n → line_end (take n bytes) ≡ Some n
line_end-front [] n e = cc
line_end-front (b ∷ []) n e = by_test (b == 10) refl e
  where
    by_test : (t : Bool) → (b == 10) ≡ t → cond t (Some 1) None ≡ Some n → line_end (take n (b ∷ [])) ≡ Some n
    by_test true is f = subst (λ k. line_end (take k (b ∷ [])) ≡ Some k) (same_Some 1 n f) (rw is refl)
    by_test false is f = cc
line_end-front (b ∷ c ∷ bytes) n e = by_tests (b == 10) (b == 13) (c == 10) refl refl refl e
  where
    by_tests : (t u v : Bool) → (b == 10) ≡ t → (b == 13) ≡ u → (c == 10) ≡ v
        → cond t (Some 1) (cond u (cond v (Some 2) None) None) ≡ Some n → line_end (take n (b ∷ c ∷ bytes)) ≡ Some n
    by_tests true u v is is_13 is_c f =
        subst (λ k. line_end (take k (b ∷ c ∷ bytes)) ≡ Some k) (same_Some 1 n f) (rw is refl)
    by_tests false true true is is_13 is_c f =
        subst (λ k. line_end (take k (b ∷ c ∷ bytes)) ≡ Some k) (same_Some 2 n f) (rw is (rw is_13 (rw is_c refl)))
    by_tests false true false is is_13 is_c f = cc
    by_tests false false v is is_13 is_c f = cc

end_past-front : (b : ℕ) (bytes : List ℕ) (n : ℕ) → end_past b bytes ≡ Some n → end_past b (take n bytes) ≡ Some n
end_past-front b bytes n e = by_test (b == 10) refl
  where
    by_test : (t : Bool) → (b == 10) ≡ t → end_past b (take n bytes) ≡ Some n
    by_test true is = let f : line_end bytes ≡ Some n = rw is at e in rw is (line_end-front bytes n f)
    by_test false is = let f : None ≡ Some n = rw is at e in cc

end_past-none : (b : ℕ) (bytes : List ℕ) (n : ℕ) → end_past b bytes ≡ None → end_past b (take n bytes) ≡ None
end_past-none b bytes n e = by_end (end_past b (take n bytes)) refl
  where
    by_end : (o : Option ℕ) → end_past b (take n bytes) ≡ o → end_past b (take n bytes) ≡ None
    by_end None is = is
    by_end (Some k) is =
        let f : end_past b bytes ≡ Some k = subst (λ l. end_past b l ≡ Some k) (take-append-drop n bytes) (end_past-append b (take n bytes) (drop n bytes) k is) in
        let g : None ≡ Some k = sym e ∙ f in cc

empty_line_end-front : (bytes : List ℕ) (n : ℕ) → empty_line_end bytes ≡ Some n → empty_line_end (take n bytes) ≡ Some n
empty_line_end-front [] n e = cc
empty_line_end-front (b ∷ bytes) n e = by_end (end_past b bytes) refl (λ k. empty_line_end-front bytes k)
  where
    by_end : (o : Option ℕ) → end_past b bytes ≡ o → ((k : ℕ) → empty_line_end bytes ≡ Some k → empty_line_end (take k bytes) ≡ Some k)
        → empty_line_end (take n (b ∷ bytes)) ≡ Some n
    by_end (Some k) is later =
        let f : suc k ≡ n = same_Some (suc k) n (sym (ap (λ o. end_or o bytes) is) ∙ e) in
        subst (λ m. empty_line_end (take m (b ∷ bytes)) ≡ Some m) f (ap (λ o. end_or o (take k bytes)) (end_past-front b bytes k is))
    by_end None is later =
        let m = mapped suc (empty_line_end bytes) n (sym (ap (λ o. end_or o bytes) is) ∙ e) in
        subst (λ j. empty_line_end (take j (b ∷ bytes)) ≡ Some j) m.2
        (ap (λ o. end_or o (take m.0 bytes)) (end_past-none b bytes m.0 is) ∙ ap (option_map suc) (later m.0 m.1))

head_end-front : (bytes : List ℕ) (n : ℕ) → head_end bytes ≡ Some n → head_end (take n bytes) ≡ Some n
head_end-front [] n e = cc
head_end-front (b ∷ bytes) n e = by_test (is_line_byte b) refl (λ k. head_end-front bytes k)
  where
    begun : (k : ℕ) → is_line_byte b ≡ false → empty_line_end (take k (b ∷ bytes)) ≡ Some k → head_end (take k (b ∷ bytes)) ≡ Some k
    begun zero is f = cc
    begun (suc k) is f = head_end-begins b (take k bytes) is ∙ f

    by_test : (t : Bool) → is_line_byte b ≡ t → ((k : ℕ) → head_end bytes ≡ Some k → head_end (take k bytes) ≡ Some k)
        → head_end (take n (b ∷ bytes)) ≡ Some n
    by_test true is later =
        let m = mapped suc (head_end bytes) n (sym (head_end-blank b bytes is) ∙ e) in
        subst (λ k. head_end (take k (b ∷ bytes)) ≡ Some k) m.2 (head_end-blank b (take m.0 bytes) is ∙ ap (option_map suc) (later m.0 m.1))
    by_test false is later = begun n is (empty_line_end-front (b ∷ bytes) n (sym (head_end-begins b bytes is) ∙ e))

-- the head that a text begins with is a head by itself
pub head_len-front : (bytes : List ℕ) (n : ℕ) → head_len bytes ≡ Some n → head_len (take n bytes) ≡ Some n
unfolding head_len
head_len-front bytes n e =
    let few = head_len-le bytes n e in
    let short : length (take n bytes) ≤ max_head = omega (arith, length-take n bytes, few.0) in
    ap head_end (take_all max_head (take n bytes) short)
    ∙ ap head_end (sym (take-take n max_head bytes few.0))
    ∙ head_end-front (take max_head bytes) n e
