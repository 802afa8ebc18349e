-- Rules that are asked one after the other: the first answer that is one.
use Rattle.std.proofs.Common.{◌≡◌, IfOk, Result, Option, Some, None, refl, sym, ap, subst, ◌∙◌}
use Rattle.std.specs.Option.{option_or}

-- this rule is broken
pub now-told : {R : Type 0} (told a rest : Option R) (r : R) → told ≡ a → told ≡ Some r → Some r ≡ option_or a rest
now-told told a rest r e s = ap (λ o. option_or o rest) (sym s ∙ e)

-- it is not, and the others decide
pub later-told : {R : Type 0} (told a rest x : Option R) → told ≡ a → told ≡ None → x ≡ rest → x ≡ option_or a rest
later-told told a rest x e n more = more ∙ ap (λ o. option_or o rest) (sym n ∙ e)

-- the same of an answer that may be out of memory
pub ok-is : {R E : Type 0} (answer : Result R E) (x y : R) → IfOk answer (λ r. r ≡ x) → x ≡ y → IfOk answer (λ r. r ≡ y)
ok-is answer x y h e = subst (λ z. IfOk answer (λ r. r ≡ z)) e h

-- the last rule of a list
pub or-none : {R : Type 0} (o : Option R) → option_or o None ≡ o
or-none None = refl
or-none (Some r) = refl

-- not this rule: the others are the answer
pub skipped : {R : Type 0} (told a rest : Option R) → told ≡ a → told ≡ None → rest ≡ option_or a rest
skipped told a rest e n = ap (λ o. option_or o rest) (sym n ∙ e)
