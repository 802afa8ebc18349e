use Rattle.std.proofs.Common.{◌≡◌, ℕ, suc, zero, ◌+◌, ◌<◌, Bool, true, false, cond, Option, Some, None, List, [], ◌∷◌, ◌++◌, length, take, get_or, refl, ◌∙◌, ap, arith}
use Rattle.std.specs.Option.{option_or, option_map, option_and_then}
use Rattle.std.specs.List.{filter_map, cons_option}
use Rattle.std.proofs.lemmas.List.{take_more}
use Rattle.plain_lists.specs.Members.{Each}
use Rattle.plain_lists.specs.Puts.{Puts}
use Rattle.plain_lists.specs.Puts.Puts.{here, later}
use Rattle.plain_lists.specs.Firsts.{first_of}
use Rattle.plain_lists.proofs.Elements.{Each-none, Each-cons, Each-head, Each-tail}

-- a rule that is not broken

pub none_both : {R : Type 0} (a b : Option R) → option_or a b ≡ None → (a ≡ None) × (b ≡ None)
none_both None b e = (refl, e)
none_both (Some r) b e = cc

pub told_if : {R : Type 0} (b : Bool) (r : R) → cond b (Some r) None ≡ None → b ≡ false
told_if true r e = cc
told_if false r e = refl

pub told_unless : {R : Type 0} (b : Bool) (r : R) → cond b None (Some r) ≡ None → b ≡ true
told_unless true r e = refl
told_unless false r e = cc

pub not_mapped : {X R : Type 0} (f : X → R) (o : Option X) → option_map f o ≡ None → o ≡ None
not_mapped f None e = refl
not_mapped f (Some x) e = cc

-- the first object at which a rule is broken

pub first_of-none : {X R : Type 0} (rule : X → Option R) (xs : List X) → first_of rule xs ≡ None → Each (λ x. rule x ≡ None) xs
first_of-none rule [] e = Each-none
first_of-none rule (x ∷ xs) e =
    let parts = none_both (rule x) (first_of rule xs) e in
    Each-cons (λ y. rule y ≡ None) parts.0 (first_of-none rule xs parts.1)

pub none-first_of : {X R : Type 0} (rule : X → Option R) (xs : List X) → Each (λ x. rule x ≡ None) xs → first_of rule xs ≡ None
none-first_of rule [] e = refl
none-first_of rule (x ∷ xs) e = ap (λ o. option_or o (first_of rule xs)) (Each-head e) ∙ none-first_of rule xs (Each-tail e)

-- where no other object breaks the rule, one decides
pub first_of-only : {X R : Type 0} (rule : X → Option R) {x : X} {xs ys : List X}
    → Puts x xs ys → Each (λ y. rule y ≡ None) xs → first_of rule ys ≡ rule x
first_of-only {R} rule {x} (here {rest = xs}) e = ap (option_or (rule x)) (none-first_of rule xs e) ∙ or-none (rule x) where
  or-none : (o : Option R) → option_or o None ≡ o
  or-none None = refl
  or-none (Some r) = refl
first_of-only rule (later {other = y} {rest = xs} {whole = ys} p) e =
    ap (λ o. option_or o (first_of rule ys)) (Each-head e) ∙ first_of-only rule p (Each-tail e)

pub first_of-same : {X R : Type 0} (rule other : X → Option R) (xs : List X)
    → Each (λ x. rule x ≡ other x) xs → first_of rule xs ≡ first_of other xs
first_of-same rule other [] e = refl
first_of-same rule other (x ∷ xs) e =
    ap (λ o. option_or o (first_of rule xs)) (Each-head e) ∙ ap (option_or (other x)) (first_of-same rule other xs (Each-tail e))

pub first_of-append : {X R : Type 0} (rule : X → Option R) (xs ys : List X)
    → first_of rule (xs ++ ys) ≡ option_or (first_of rule xs) (first_of rule ys)
first_of-append rule [] ys = refl
first_of-append {R} rule (x ∷ xs) ys = ap (option_or (rule x)) (first_of-append rule xs ys) ∙ or_assoc (rule x) where
  or_assoc : (o : Option R) → option_or o (option_or (first_of rule xs) (first_of rule ys)) ≡ option_or (option_or o (first_of rule xs)) (first_of rule ys)
  or_assoc None = refl
  or_assoc (Some r) = refl

-- a rule over what is read is a rule over the elements
pub first_of-read : {X Y R : Type 0} (h : X → Option Y) (rule : Y → Option R) (xs : List X)
    → first_of rule (filter_map h xs) ≡ first_of (λ x. option_and_then rule (h x)) xs
first_of-read h rule [] = refl
first_of-read {Y} h rule (x ∷ xs) = at (h x) ∙ ap (option_or (option_and_then rule (h x))) (first_of-read h rule xs) where
  at : (o : Option Y) → first_of rule (cons_option o (filter_map h xs)) ≡ option_or (option_and_then rule o) (first_of rule (filter_map h xs))
  at None = refl
  at (Some y) = refl

-- the steps of a loop that asks one object after another

-- the objects so far break nothing, and this one does: its answer is the first
pub first_of-at : {X R : Type 0} (rule : X → Option R) (xs : List X) (i : ℕ) (d : X) (r : R)
    → i < length xs → first_of rule (take i xs) ≡ None → rule (get_or xs i d) ≡ Some r → first_of rule xs ≡ Some r
first_of-at rule [] i d r h e is = absurd (omega arith)
first_of-at rule (x ∷ xs) zero d r h e is = ap (λ o. option_or o (first_of rule xs)) is
first_of-at rule (x ∷ xs) (suc i) d r h e is =
    let parts = none_both (rule x) (first_of rule (take i xs)) e in
    ap (λ o. option_or o (first_of rule xs)) parts.0 ∙ first_of-at rule xs i d r (omega arith) parts.1 is

-- the objects so far break nothing, and neither does this one
pub first_of-next : {X R : Type 0} (rule : X → Option R) (xs : List X) (i : ℕ) (d : X)
    → i < length xs → first_of rule (take i xs) ≡ None → rule (get_or xs i d) ≡ None → first_of rule (take (i + 1) xs) ≡ None
first_of-next rule xs i d h e is =
    ap (first_of rule) (take_more xs i d h) ∙ first_of-append rule (take i xs) (get_or xs i d ∷ [])
    ∙ ap (λ o. option_or o (option_or (rule (get_or xs i d)) None)) e ∙ ap (λ o. option_or o None) is
