-- Frames in the order of the code, which has the innermost last.
use Rattle.std.proofs.Common.{◌≡◌, ℕ, ◌+◌, ◌-◌, ◌<◌, true, cond, List, [], ◌∷◌, ◌++◌, length, take, reverse, Option, Some, None, refl, sym, ap, subst, ◌∙◌, arith, count_by, IfNone, nat_lt}
use Rattle.std.proofs.lemmas.Bool.Decides.{nat_tests}
use Rattle.std.specs.List.{slice_get}
use Rattle.std.proofs.lemmas.List.{reverse-append, take_more}
use Rattle.std.proofs.Math.Seq.{take-length}
use Rattle.std.proofs.lemmas.List.Sums.{sum_by-append}
use Rattle.std.proofs.lemmas.Option.{slice_get_within, get_or_from_slice_get}
use Rattle.filter_texts.specs.declared.choice.Step.{Step}
use Rattle.filter_texts.specs.declared.reader.Frame.{Frame}
use Rattle.filter_texts.specs.Reading.{Stage, behind, is_nested, depth, due, ended, nested}

-- the last of a list is the first of the list turned around
pub last_is_first : {X : Type 0} (xs : List X) (x : X) → slice_get xs (length xs - 1) ≡ Some x
    → reverse xs ≡ x ∷ reverse (take (length xs - 1) xs)
last_is_first xs x e =
    let there = slice_get_within xs (length xs - 1) x e in
    let whole : length xs ≡ length xs - 1 + 1 = omega (arith, there) in
    let same = sym (take-length xs) ∙ ap (λ n. take n xs) whole ∙ take_more xs (length xs - 1) x there
    ∙ ap (λ y. take (length xs - 1) xs ++ y ∷ []) (get_or_from_slice_get xs (length xs - 1) x x e) in
    ap reverse same ∙ reverse-append (take (length xs - 1) xs) (x ∷ [])

some_last : {X : Type 0} (x : X) (xs : List X) → slice_get (x ∷ xs) (length xs) ≡ None → ⊥
some_last x [] e = cc
some_last x (y ∷ ys) e = some_last y ys e

-- where the last is none, there is nothing
pub none_last : {X : Type 0} (xs : List X) → slice_get xs (length xs - 1) ≡ None → xs ≡ []
none_last [] e = refl
none_last (x ∷ xs) e = let less : length xs ≡ length (x ∷ xs) - 1 = omega arith in absurd (some_last x xs (ap (slice_get (x ∷ xs)) less ∙ e))

pub ended_due : (innermost : Frame) (frames : List Frame) (steps : List Step) (waiting : Step) → due innermost ≡ Some waiting
    → ended (innermost ∷ frames) steps ≡ ended frames (steps ++ waiting ∷ [])
unfolding ended
ended_due innermost frames steps waiting e = rw e refl

pub ended_open : (innermost : Frame) (frames : List Frame) (steps : List Step) → due innermost ≡ None
    → ended (innermost ∷ frames) steps ≡ record { frames = innermost ∷ frames; stage = behind; steps = steps }
unfolding ended
ended_open innermost frames steps e = rw e refl

ended_none : (steps : List Step) → ended [] steps ≡ record { frames = []; stage = behind; steps = steps }
unfolding ended
ended_none steps = refl

-- the step of the last frame is taken
pub taken_last : (xs seen rest : List Frame) (n : ℕ) (innermost : Frame) (waiting : Step) → seen ≡ xs → length seen ≡ n
    → Some innermost ≡ slice_get seen (length seen - 1) → Some waiting ≡ due innermost → rest ≡ take (n - 1) xs
    → (steps : List Step) → ended (reverse xs) steps ≡ ended (reverse rest) (steps ++ waiting ∷ [])
taken_last xs seen rest n innermost waiting same len last waits rests steps =
    ap (λ fs. ended (reverse fs) steps) (sym same)
    ∙ ap (λ fs. ended fs steps) (last_is_first seen innermost (sym last))
    ∙ ended_due innermost (reverse (take (length seen - 1) seen)) steps waiting (sym waits)
    ∙ ap (λ fs. ended (reverse fs) (steps ++ waiting ∷ []))
    (ap (λ k. take (k - 1) seen) len ∙ ap (take (n - 1)) same ∙ sym rests)

-- there is no frame
pub taken_none : (xs seen : List Frame) → seen ≡ xs → None ≡ slice_get seen (length seen - 1)
    → (steps : List Step) → ended (reverse xs) steps ≡ record { frames = reverse xs; stage = behind; steps = steps }
taken_none xs seen same last steps =
    let P : List Frame → Type 0 = λ fs. ended (reverse fs) steps ≡ record { frames = reverse fs; stage = behind; steps = steps } in
    subst P (sym (none_last seen (sym last)) ∙ same) (ended_none steps)

-- the last frame is an open parenthesis
pub taken_open : (xs seen : List Frame) (innermost : Frame) → seen ≡ xs → Some innermost ≡ slice_get seen (length seen - 1)
    → None ≡ due innermost
    → (steps : List Step) → ended (reverse xs) steps ≡ record { frames = reverse xs; stage = behind; steps = steps }
taken_open xs seen innermost same last waits steps =
    let P : List Frame → Type 0 = λ fs. ended fs steps ≡ record { frames = fs; stage = behind; steps = steps } in
    subst P (sym (last_is_first seen innermost (sym last)) ∙ ap reverse same) (ended_open innermost _ steps (sym waits))

pub if_none : {X : Type 0} (r : Option X) (P : Type 0) → r ≡ None → P → IfNone r P
if_none None P e p = p
if_none (Some x) P e p = tt

count_first : (f : Frame) (fs : List Frame) → count_by is_nested (f ∷ fs) ≡ count_by is_nested (f ∷ []) + count_by is_nested fs
count_first f fs = sum_by-append (λ g. cond (is_nested g) 1 0) (f ∷ []) fs

-- the order of frames does not change how deep they are
pub depth_turned : (fs : List Frame) → depth (reverse fs) ≡ count_by is_nested fs
depth_turned [] = refl
depth_turned (f ∷ fs) =
    ap depth (reverse-append (f ∷ []) fs) ∙ sum_by-append (λ g. cond (is_nested g) 1 0) (reverse fs) (f ∷ [])
    ∙ omega (arith, depth_turned fs, count_first f fs)

below : (n : ℕ) → n < 64 → nat_lt n 64 ≡ true
below n h = grind (arith, nat_tests)

-- one frame more, where it is not too deep
pub nested_pushed : (inner : Frame) (xs new : List Frame) (stage : Stage) (steps : List Step) (n : ℕ) → n ≡ count_by is_nested xs
    → n < 64 → new ≡ xs ++ inner ∷ [] → nested inner (record { frames = reverse xs; stage = stage; steps = steps })
    ≡ Some (record { frames = reverse new; stage = stage; steps = steps })
nested_pushed inner xs new stage steps n count few pushed =
    let turned : reverse new ≡ inner ∷ reverse xs = ap reverse pushed ∙ reverse-append xs (inner ∷ []) in
    rw (depth_turned xs, sym count, below n few, turned) refl
