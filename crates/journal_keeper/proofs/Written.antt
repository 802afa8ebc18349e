-- A list that is written item by item, as a loop does.
use Rattle.std.proofs.Common.{◌≡◌, ℕ, ◌+◌, ◌≤◌, List, [], ◌∷◌, ◌++◌, length, take, zero, suc, Bool, true, false, ◌&&◌, slice_get, Some, refl, sym, ap, subst, ◌∙◌, append_assoc}
use Rattle.std.specs.Int.{w32, to_be_bytes}
use Rattle.std.specs.List.{flat_map, AllByRecursion, list_all}
use Rattle.std.proofs.lemmas.Option.{same_Some}
use Rattle.std.proofs.lemmas.Grind.{flat_map-append}
use Rattle.std.proofs.lemmas.List.{append-nil, take_all}
use Rattle.std.proofs.lemmas.List.Concat.{flat_map-cons}

pub both_true : (a b : Bool) → (a && b) ≡ true → (a ≡ true) × (b ≡ true)
both_true true b e = (refl, e)
both_true false b e = absurd cc

module _ {X : Type 0} (spelled : X → List ℕ) (Typed : X → Type 0) where
  -- the count, and the first of the items, stand after what was there before; what the types give of these items
  pub record Written (old new : List ℕ) (items : List X) (i : ℕ) : Type 0 where
    pub bytes : new ≡ old ++ (to_be_bytes w32 (length items) ++ flat_map spelled (take i items))
    pub typed : AllByRecursion Typed (take i items)

  each-append : (xs : List X) (x : X) → AllByRecursion Typed xs → Typed x → AllByRecursion Typed (xs ++ x ∷ [])
  each-append [] x all is = (is, tt)
  each-append (y ∷ ys) x all is = (all.0, each-append ys x all.1 is)

  pub begins : (old new : List ℕ) (items : List X) → new ≡ old ++ to_be_bytes w32 (length items) → Written old new items 0
  begins old new items is = record { bytes = is ∙ ap (λ (t : List ℕ). old ++ t) (sym (append-nil (to_be_bytes w32 (length items)))); typed = tt }

  pub one_more : (old mid new : List ℕ) (items : List X) (i : ℕ) (x : X) → Written old mid items i → new ≡ mid ++ spelled x → Typed x → take (i + 1) items ≡ take i items ++ x ∷ [] → Written old new items (i + 1)
  one_more old mid new items i x w is typed more =
      let count : List ℕ = to_be_bytes w32 (length items) in
      let front : List ℕ = flat_map spelled (take i items) in
      let one : flat_map spelled (x ∷ []) ≡ spelled x = flat_map-cons spelled x [] ∙ append-nil (spelled x) in
      let all : flat_map spelled (take (i + 1) items) ≡ front ++ spelled x = ap (flat_map spelled) more ∙ flat_map-append spelled (take i items) (x ∷ []) ∙ ap (λ (t : List ℕ). front ++ t) one in
      record {
        bytes = is ∙ ap (λ (t : List ℕ). t ++ spelled x) w.bytes ∙ append_assoc old (count ++ front) (spelled x) ∙ ap (λ (t : List ℕ). old ++ t) (append_assoc count front (spelled x) ∙ ap (λ (t : List ℕ). count ++ t) (sym all));
        typed = subst (AllByRecursion Typed) (sym more) (each-append (take i items) x w.typed typed);
      }

  pub all_bytes : (old new : List ℕ) (items : List X) (i : ℕ) → length items ≤ i → Written old new items i → new ≡ old ++ (to_be_bytes w32 (length items) ++ flat_map spelled items)
  all_bytes old new items i past w = w.bytes ∙ ap (λ (xs : List X). old ++ (to_be_bytes w32 (length items) ++ flat_map spelled xs)) (take_all i items past)

  pub all_typed : (old new : List ℕ) (items : List X) (i : ℕ) → length items ≤ i → Written old new items i → AllByRecursion Typed items
  all_typed old new items i past w = subst (AllByRecursion Typed) (take_all i items past) w.typed

-- what holds of each item holds of the one at a place
pub each_true : {X : Type 0} (p : X → Bool) (xs : List X) (i : ℕ) (x : X) → list_all p xs ≡ true → slice_get xs i ≡ Some x → p x ≡ true
each_true p [] i x all at = absurd cc
each_true p (y ∷ ys) zero x all at = subst (λ (z : _). p z ≡ true) (same_Some y x at) (both_true (p y) (list_all p ys) all).0
each_true p (y ∷ ys) (suc i) x all at = each_true p ys i x (both_true (p y) (list_all p ys) all).1 at
