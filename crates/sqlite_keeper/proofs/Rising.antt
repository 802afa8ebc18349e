-- Entries each of which stands above the one before it are in order, and others are not.
use Rattle.std.proofs.Common.{◌≡◌, ℕ, zero, suc, ◌+◌, ◌<◌, Bool, true, false, List, [], ◌∷◌, length, get_or, refl, ap, ◌∙◌, sym, subst, arith}
use Rattle.std.specs.Prelude.{◌↔◌, IsTrue}
use Rattle.std.specs.List.{AllAdjacentBelow, AllByRecursion, IsAllAdjacentAnswer}
use Rattle.std.specs.List.Sorted.{IsStrictlySortedBy}
use Rattle.std.specs.Ordering.{is_lt}
use Rattle.std.specs.declared.cmp.Ordering.{Ordering}
use Rattle.std.specs.declared.cmp.Ordering.TheVariants.{Less, Equal, Greater}
use Rattle.std.proofs.lemmas.Bool.{false≢true}
use Rattle.std.proofs.lemmas.Map.Keys.{Less-from_sorted}
use Rattle.size_values.specs.declared.entry.Entry.{Entry}
use Rattle.record_keeper.specs.Entries.{entry_order, IsOrderedEntries}
use Rattle.record_keeper.proofs.Listed.{each-map}
use Rattle.record_keeper.proofs.Ordered.{entry_total}

-- an entry stands before another one
abbrev pub stands_before : Entry → Entry → Bool
stands_before a b = is_lt (entry_order a b)

before-Less : (o : Ordering) → is_lt o ≡ true → o ≡ Less
before-Less Less e = refl
before-Less Equal e = cc
before-Less Greater e = cc

-- all stand above the first, where the next one and all after that do
above-first : (x y : Entry) (zs : List Entry) → entry_order x y ≡ Less → AllByRecursion (λ z. entry_order y z ≡ Less) zs
    → AllByRecursion (λ z. entry_order x z ≡ Less) zs
above-first x y zs low above = each-map _ _ (λ z high. entry_total.trans x y z low high) zs above

pub rising-ordered : (es : List Entry) → AllAdjacentBelow (λ a b. stands_before a b ≡ true) es (length es) → IsOrderedEntries es
unfolding IsStrictlySortedBy
rising-ordered [] rising = tt
rising-ordered (x ∷ []) rising = (tt, tt)
rising-ordered (x ∷ y ∷ zs) rising =
    let low : entry_order x y ≡ Less = before-Less (entry_order x y) (rising 0 x (omega arith)) in
    let rest : IsOrderedEntries (y ∷ zs) = rising-ordered (y ∷ zs) (λ k d within. let next : suc k + 1 ≡ suc (k + 1) = omega arith in
    subst (λ j. stands_before (get_or (y ∷ zs) k d) (get_or (x ∷ y ∷ zs) j d) ≡ true) next (rising (suc k) d (omega (arith, within)))) in
    ((low, above-first x y zs low rest.0), rest)

pub ordered-rising : (es : List Entry) → IsOrderedEntries es → (k : ℕ) (d : Entry) → k + 1 < length es
    → stands_before (get_or es k d) (get_or es (k + 1) d) ≡ true
ordered-rising es ordered k d within = ap is_lt (Less-from_sorted entry_order es k (k + 1) d ordered (omega arith) within)

-- what a test of each entry and the next one tells of the list
pub judged : (es : List Entry) (r : Bool) → IsAllAdjacentAnswer (λ a b answer. answer ≡ stands_before a b) es r → IsTrue r ↔ IsOrderedEntries es
judged es true rising = (λ _. rising-ordered es (λ k d within. sym (rising k d within)), λ _. refl)
judged es false falls = (
  λ no. absurd (false≢true no),
  λ ordered.
      let none : Entry = record { kind = 0; key = []; body = [] } in
      absurd (false≢true (falls.2 none ∙ ordered-rising es ordered falls.0 none falls.1)),
)
