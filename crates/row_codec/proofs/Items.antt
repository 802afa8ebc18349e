-- Items that are read one after the other, as a loop does.
use Rattle.std.proofs.Common.{◌≡◌, ℕ, suc, ◌-◌, ◌+◌, ◌≤◌, ◌<◌, List, [], ◌∷◌, ◌++◌, Option, Some, Ok, Err, refl, sym, ap, ◌∙◌, append_assoc, arith}
use Rattle.std.proofs.lemmas.List.{append-nil}
use Rattle.size_values.specs.declared.memory.Or.{Or}
use Rattle.size_values.specs.declared.memory.Or.TheVariants as or
use Rattle.row_codec.specs.declared.unreadable.Unreadable.{Unreadable}
use Rattle.row_codec.specs.FieldReading.{◌>>=◌, Read, Fails, last_of, added, items_at}

module _ {X : Type 0} where
  -- what was read before, and what is still read
  abbrev pub with_front : List X → Read (List X) → Read (List X)
  with_front front read = read >>= λ x. Ok (front ++ x.0, x.1)

  pub last_of-push : (front : List X) (x : X) → last_of (front ++ x ∷ []) ≡ Some x
  last_of-push [] x = refl
  last_of-push (y ∷ []) x = refl
  last_of-push (y ∷ z ∷ zs) x = last_of-push (z ∷ zs) x

  regroup : (front : List X) (x : X) (read : Read (List X)) → with_front front (read >>= λ others. Ok (x ∷ others.0, others.1)) ≡ with_front (front ++ x ∷ []) read
  regroup front x (Ok others) = ap (λ (xs : List X). Ok (xs, others.1)) (sym (append_assoc front (x ∷ []) others.0))
  regroup front x (Err u) = refl

  with_nothing : (read : Read (List X)) → with_front [] read ≡ read
  with_nothing (Ok x) = refl
  with_nothing (Err u) = refl

  module _ (item : Option X → List ℕ → Read X) where
    -- one item, and those after it
    step : (n : ℕ) (front : List X) (bytes : List ℕ) (read : Read X) → item (last_of front) bytes ≡ read → (next : List X) (after : List ℕ) → added front read ≡ Ok (next, after)
        → with_front front (items_at item (suc n) (last_of front) bytes) ≡ with_front next (items_at item n (last_of next) after)
    unfolding items_at
    step n front bytes (Ok x) is next after made =
        let pair : (front ++ x.0 ∷ [], x.1) ≡ (next, after) = cc in
        ap (λ (r : Read X). with_front front (r >>= λ first. items_at item n (Some first.0) first.1 >>= λ others. Ok (first.0 ∷ others.0, others.1))) is
        ∙ regroup front x.0 (items_at item n (Some x.0) x.1)
        ∙ ap (λ (last : Option X). with_front (front ++ x.0 ∷ []) (items_at item n last x.1)) (sym (last_of-push front x.0))
        ∙ ap (λ (p : List X × List ℕ). with_front p.0 (items_at item n (last_of p.0) p.1)) pair
    step n front bytes (Err u) is next after made = absurd cc

    stop : (n : ℕ) (front : List X) (bytes : List ℕ) (u : Unreadable) (read : Read X) → item (last_of front) bytes ≡ read → added front read ≡ Err u → with_front front (items_at item (suc n) (last_of front) bytes) ≡ Err u
    unfolding items_at
    stop n front bytes u (Ok x) is failed = absurd cc
    stop n front bytes u (Err w) is failed =
        ap (λ (r : Read X). with_front front (r >>= λ first. items_at item n (Some first.0) first.1 >>= λ others. Ok (first.0 ∷ others.0, others.1))) is ∙ failed

    pub goes_on : (count i : ℕ) (front next : List X) (bytes after : List ℕ) (total : Read (List X)) → i < count → added front (item (last_of front) bytes) ≡ Ok (next, after)
        → with_front front (items_at item (count - i) (last_of front) bytes) ≡ total → with_front next (items_at item (count - (i + 1)) (last_of next) after) ≡ total
    goes_on count i front next bytes after total lt made so_far =
        let k : count - i ≡ suc (count - (i + 1)) = omega arith in
        sym (ap (λ n. with_front front (items_at item n (last_of front) bytes)) k ∙ step (count - (i + 1)) front bytes (item (last_of front) bytes) refl next after made) ∙ so_far

    pub ends : (e : Or Unreadable) (count i : ℕ) (front : List X) (bytes : List ℕ) (total : Read (List X)) → i < count → Fails e (added front (item (last_of front) bytes))
        → with_front front (items_at item (count - i) (last_of front) bytes) ≡ total → Fails e total
    ends or.NoMemory count i front bytes total lt failed so_far = tt
    ends (or.Why u) count i front bytes total lt failed so_far =
        let k : count - i ≡ suc (count - (i + 1)) = omega arith in
        sym so_far ∙ ap (λ n. with_front front (items_at item n (last_of front) bytes)) k ∙ stop (count - (i + 1)) front bytes u (item (last_of front) bytes) refl failed

    pub is_done : (count i : ℕ) (front : List X) (bytes : List ℕ) (total : Read (List X)) → count ≤ i → with_front front (items_at item (count - i) (last_of front) bytes) ≡ total → total ≡ Ok (front, bytes)
    unfolding items_at
    is_done count i front bytes total le so_far =
        let k : count - i ≡ 0 = omega arith in
        let one : with_front front (items_at item (count - i) (last_of front) bytes) ≡ Ok (front, bytes) = rw k (ap (λ (xs : List X). Ok (xs, bytes)) (append-nil front)) in
        sym so_far ∙ one
