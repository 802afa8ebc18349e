-- The order of keys and the test of keys agree, and what it means that keys rise.
use Rattle.std.proofs.Common.{◌≡◌, cond, filter, ℕ, ◌+◌, ◌<◌, Bool, true, false, List, [], ◌∷◌, length, get_or, suc, refl, sym, ap, ◌∙◌, arith}
use Rattle.std.specs.Cmp.{IsTotalOrder}
use Rattle.std.specs.Cmp.Lexicographic.{slice_cmp}
use Rattle.std.specs.declared.cmp.Ordering.{Ordering}
use Rattle.std.specs.declared.cmp.Ordering.TheVariants.{Less, Equal, Greater}
use Rattle.std.specs.List.{AllByRecursion}
use Rattle.std.specs.List.Sorted.{IsSortedBy, IsStrictlySortedBy}
use Rattle.std.specs.Map.{keys_of}
use Rattle.std.specs.Ordering.{nat_cmp, is_eq, is_lt, ordering_reverse}
use Rattle.std.specs.Str.{bytes_eq}
use Rattle.std.proofs.lemmas.Bool.Decides.{nat_tests}
use Rattle.std.proofs.lemmas.Cmp.{nat_list_cmp_total, same_from_slice_cmp, tied_back, tied_itself}
use Rattle.std.proofs.lemmas.List.{get_or-map, length-map}
use Rattle.std.proofs.lemmas.Map.Keys.{Less-from_sorted, sorted_head, sorted_tail}
use Rattle.std.proofs.lemmas.Map.Lookups.{exact_bytes}
use Rattle.config_lists.specs.Entries.{KeysRise}

-- the order of keys
abbrev pub order : List ℕ → List ℕ → Ordering
order = slice_cmp nat_cmp

pub total : IsTotalOrder order
total = nat_list_cmp_total

-- two keys are the same where the order says `Equal`
pub bytes_eq-order : (a b : List ℕ) → bytes_eq a b ≡ is_eq (order a b)
bytes_eq-order a b = sym (same_from_slice_cmp nat_cmp is_eq bytes_eq refl (λ _ _. refl) (λ _ _. refl) (λ x y xs ys o h. grind (arith, nat_tests)) a b (order a b) refl)

pub same : (a b : List ℕ) → bytes_eq a b ≡ true → a ≡ b
same a b h = exact_bytes a b (equal (order a b) (sym (bytes_eq-order a b) ∙ h))
  where
    equal : (o : Ordering) → is_eq o ≡ true → o ≡ Equal
    equal Less h = cc
    equal Equal h = refl
    equal Greater h = cc

pub bytes_eq-itself : (a : List ℕ) → bytes_eq a a ≡ true
bytes_eq-itself a = bytes_eq-order a a ∙ ap is_eq (tied_itself total a)

-- a key that the order calls `Equal` to the one looked for
pub met : (k key : List ℕ) → order k key ≡ Equal → bytes_eq key k ≡ true
met k key is = bytes_eq-order key k ∙ ap is_eq (tied_back total k key is)

pub apart_below : (k key : List ℕ) → order k key ≡ Less → bytes_eq key k ≡ false
apart_below k key is = bytes_eq-order key k ∙ ap is_eq (total.antisymm key k ∙ ap ordering_reverse is)

pub apart_above : (k key : List ℕ) → order k key ≡ Greater → bytes_eq key k ≡ false
apart_above k key is = bytes_eq-order key k ∙ ap is_eq (total.antisymm key k ∙ ap ordering_reverse is)

-- a key below another is below each that the other is below
pub below_trans : (a b c : List ℕ) → order a b ≡ Less → order b c ≡ Less → order a c ≡ Less
below_trans = total.trans

pub below_from_above : (a b : List ℕ) → order a b ≡ Greater → order b a ≡ Less
below_from_above a b is = total.antisymm b a ∙ ap ordering_reverse is

pub above_from_below : (a b : List ℕ) → order a b ≡ Less → order b a ≡ Greater
above_from_below a b is = total.antisymm b a ∙ ap ordering_reverse is

pub same_from_equal : (a b : List ℕ) → order a b ≡ Equal → a ≡ b
same_from_equal = exact_bytes

pub KeysRise-nil : (V : Type 0) → KeysRise {V = V} []
unfolding KeysRise IsStrictlySortedBy
KeysRise-nil V = tt

module _ {V : Type 0} where
  -- the key is below each key of the entries
  abbrev pub IsBelow : List ℕ → List (List ℕ × V) → Type 0
  IsBelow key es = AllByRecursion (λ k. order key k ≡ Less) (keys_of es)

  pub IsBelow-trans : (a b : List ℕ) (es : List (List ℕ × V)) → order a b ≡ Less → IsBelow b es → IsBelow a es
  IsBelow-trans a b [] is below = tt
  IsBelow-trans a b (e ∷ es) is below = (below_trans a b e.0 is below.0, IsBelow-trans a b es is below.1)

  pub KeysRise-cons : (e : List ℕ × V) (es : List (List ℕ × V)) → IsBelow e.0 es → KeysRise es → KeysRise (e ∷ es)
  unfolding KeysRise IsStrictlySortedBy
  KeysRise-cons e es below up = (below, up)

  pub KeysRise-head : (e : List ℕ × V) (es : List (List ℕ × V)) → KeysRise (e ∷ es) → IsBelow e.0 es
  unfolding KeysRise
  KeysRise-head e es up = sorted_head order e.0 (keys_of es) up

  pub KeysRise-tail : (e : List ℕ × V) (es : List (List ℕ × V)) → KeysRise (e ∷ es) → KeysRise es
  unfolding KeysRise
  KeysRise-tail e es up = sorted_tail order e.0 (keys_of es) up

  -- the first key is below each later one
  pub first_below : (e : List ℕ × V) (es : List (List ℕ × V)) (i : ℕ) (d : List ℕ × V) → KeysRise (e ∷ es) → i < length es → order e.0 (get_or es i d).0 ≡ Less
  unfolding KeysRise
  first_below e es i d up within =
      ap (order e.0) (sym (get_or-map (λ (x : List ℕ × V). x.0) es i d d.0 within)) ∙ Less-from_sorted order (keys_of (e ∷ es)) 0 (suc i) d.0 up (omega arith) (rw length-map (omega arith))

  pub ascending : (es : List (List ℕ × V)) → KeysRise es → IsSortedBy (λ a b. is_lt (order a.0 b.0)) es
  unfolding KeysRise
  ascending es up k d low within =
      ap is_lt (total.antisymm (get_or es (k + 1) d).0 (get_or es k d).0 ∙ ap ordering_reverse below)
    where
      below : order (get_or es k d).0 (get_or es (k + 1) d).0 ≡ Less
      below =
          ap (λ x. order x (get_or es (k + 1) d).0) (sym (get_or-map (λ (x : List ℕ × V). x.0) es k d d.0 (omega arith)))
          ∙ ap (order (get_or (keys_of es) k d.0)) (sym (get_or-map (λ (x : List ℕ × V). x.0) es (k + 1) d d.0 within))
          ∙ Less-from_sorted order (keys_of es) k (k + 1) d.0 up (omega arith) (rw length-map within)

  -- what some of the entries are
  pub IsBelow-filter : (p : List ℕ × V → Bool) (key : List ℕ) (es : List (List ℕ × V)) → IsBelow key es → IsBelow key (filter p es)
  IsBelow-filter p key [] below = tt
  IsBelow-filter p key (e ∷ es) below = kept (p e) (IsBelow-filter p key es below.1)
    where
      kept : (b : Bool) → IsBelow key (filter p es) → IsBelow key (cond b (e ∷ filter p es) (filter p es))
      kept true rest = (below.0, rest)
      kept false rest = rest

  pub KeysRise-filter : (p : List ℕ × V → Bool) (es : List (List ℕ × V)) → KeysRise es → KeysRise (filter p es)
  KeysRise-filter p [] up = up
  KeysRise-filter p (e ∷ es) up = kept (p e) (KeysRise-filter p es (KeysRise-tail e es up))
    where
      kept : (b : Bool) → KeysRise (filter p es) → KeysRise (cond b (e ∷ filter p es) (filter p es))
      kept true rest = KeysRise-cons e (filter p es) (IsBelow-filter p e.0 es (KeysRise-head e es up)) rest
      kept false rest = rest
