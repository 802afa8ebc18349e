-- The steps of a loop that asks one object after another, each of which answers the rule that it breaks.
use Rattle.std.proofs.Common.{◌≡◌, ℕ, ◌+◌, ◌<◌, ◌≤◌, Bool, if◌then◌else◌, List, ◌++◌, length, filter, take, drop, get_or, slice_get, Option, Some, None, Result, option_and_then, refl, sym, ap, subst, ◌∙◌}
use Rattle.std.specs.List.{filter_map}
use Rattle.std.specs.Option.{option_or}
use Rattle.plain_lists.specs.Firsts.{first_of}
use Rattle.plain_lists.proofs.FirstLemmas.{first_of-at, first_of-next, first_of-append, first_of-read}
use Rattle.size_values.specs.Causes.{Says, Refuses}
use Rattle.size_values.specs.declared.memory.Or.{Or}
use Rattle.size_values.specs.declared.memory.Or.TheVariants as or
use Rattle.rules_refusals.proofs.Loops.{place-here, place-next, place-end, first_of-filter}

module _ {X R : Type 0} (rule : X → Option R) (xs : List X) (i : ℕ) (x : X) where
  -- those before break nothing, and this one does: its refusal is the first
  pub refuses-here : (e : Or R) → i < length xs → x ≡ get_or xs i x → first_of rule (take i xs) ≡ None
      → Refuses e (rule x) → Refuses e (first_of rule xs)
  refuses-here or.NoMemory within is before refuses = refuses
  refuses-here (or.Why r) within is before refuses = first_of-at rule xs i x r within before (ap rule (sym is) ∙ refuses)

  -- nor does this one break anything
  pub free-next : i < length xs → x ≡ get_or xs i x → first_of rule (take i xs) ≡ None → rule x ≡ None → first_of rule (take (i + 1) xs) ≡ None
  free-next within is before free = first_of-next rule xs i x within before (ap rule (sym is) ∙ free)

  -- the same over places: what is at a place decides, and then what is after it
  pub refuses-place : (e : Or R) → slice_get xs i ≡ Some x → first_of rule (drop i xs) ≡ first_of rule xs
      → Refuses e (rule x) → Refuses e (first_of rule xs)
  refuses-place or.NoMemory at before refuses = refuses
  refuses-place (or.Why r) at before refuses = sym (place-here rule xs i x at before (rule x) r refl refuses)

  pub free-place : slice_get xs i ≡ Some x → first_of rule (drop i xs) ≡ first_of rule xs
      → rule x ≡ None → first_of rule (drop (i + 1) xs) ≡ first_of rule xs
  free-place at before free = place-next rule xs i x at before (rule x) refl free

-- after the last place there is nothing
pub free-end : {X R : Type 0} (rule : X → Option R) (xs : List X) (i : ℕ) → length xs ≤ i → first_of rule (drop i xs) ≡ first_of rule xs → first_of rule xs ≡ None
free-end rule xs i past before = sym (place-end rule xs i past before)

-- neither rule is broken
pub none-or : {R : Type 0} {a b : Option R} → a ≡ None → b ≡ None → option_or a b ≡ None
none-or {b} e f = ap (λ o. option_or o b) e ∙ f

-- two rules as one, and each after the other
pub or-flat : {R : Type 0} (a b : Option R) → option_or (option_or a b) None ≡ option_or a (option_or b None)
or-flat None b = refl
or-flat (Some r) b = refl

-- the same answer says as much of a rule that is the same
pub says-as : {T R : Type 0} (answer : Result T (Or R)) {a b : Option R} → a ≡ b → Says answer a → Says answer b
says-as answer same says = subst (Says answer) same says

-- a rule over those of two lists that pass a test, of which the second is read
pub first_of-judged : {X Y R : Type 0} (rule : X → Option R) (test : X → Bool) (read : Y → Option X) (xs : List X) (ys : List Y)
    → first_of rule (filter test (xs ++ filter_map read ys))
    ≡ option_or (first_of (λ x. if test x then rule x else None) xs) (first_of (λ y. option_and_then (λ x. if test x then rule x else None) (read y)) ys)
first_of-judged rule test read xs ys =
    first_of-filter rule test (xs ++ filter_map read ys)
    ∙ first_of-append (λ x. if test x then rule x else None) xs (filter_map read ys)
    ∙ ap (option_or (first_of (λ x. if test x then rule x else None) xs)) (first_of-read read (λ x. if test x then rule x else None) ys)
