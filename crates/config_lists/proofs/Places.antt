-- A key's place among entries whose keys rise, and what the entries are after a change there.
use Rattle.std.proofs.Common.{◌≡◌, ℕ, zero, suc, ◌<◌, ◌≤◌, not, cond, List, [], ◌∷◌, length, get_or, set, filter, Some, None, Result, Ok, Err, IfOk, IfErr, refl, sym, ap, subst, ◌∙◌, arith}
use Rattle.std.specs.declared.cmp.Ordering.TheVariants.{Less, Equal, Greater}
use Rattle.std.specs.Ordering.{match_ordering}
use Rattle.std.specs.BTreeMap.{insert_entry}
use Rattle.std.specs.List.{insert, remove}
use Rattle.std.specs.List.Sorted.{IsBinarySearchResult, IsSearchInRange, IsPartitionPoint}
use Rattle.std.specs.Map.{lookup}
use Rattle.std.specs.Str.{bytes_eq}
use Rattle.std.proofs.lemmas.Cmp.{alike_right, tied_back}
use Rattle.std.proofs.lemmas.List.Sorted.{searchable_from_sorted}
use Rattle.config_lists.specs.Entries.{value_of, put, without, KeysRise, IsAt, IsGap}
use Rattle.config_lists.proofs.Keys.{order, total, ascending, apart_below, apart_above, met, first_below, KeysRise-tail, KeysRise-head, IsBelow, below_from_above, above_from_below, same_from_equal}

module _ {V : Type 0} where
  -- what a binary search answers is the place
  pub searched : (es : List (List ℕ × V)) (key : List ℕ) (r : Result ℕ ℕ) → KeysRise es → IsSearchInRange r (length es) → IsBinarySearchResult (λ e. order e.0 key) es r
      → record { found : IfOk r (IsAt es key); absent : IfErr r (IsGap es key) }
  searched es key (Ok place) up within found = record { found = record { within = within; same = found }; absent = tt }
  searched es key (Err place) up within found = record { found = tt; absent = record { within = within; between = found (searchable_from_sorted total (λ e. e.0) es key (ascending es up)) } }

  -- the first of rising keys is below the one looked for, which stands further on
  before : (e : List ℕ × V) (es : List (List ℕ × V)) (key : List ℕ) (i : ℕ) (d : List ℕ × V) → KeysRise (e ∷ es) → i < length es → order (get_or es i d).0 key ≡ Equal → order e.0 key ≡ Less
  before e es key i d up within is = sym (alike_right total (get_or es i d).0 key e.0 is) ∙ first_below e es i d up within

  -- no key of entries above the key is the key
  pub filter-above : (es : List (List ℕ × V)) (key : List ℕ) → IsBelow key es → filter (λ e. not (bytes_eq key e.0)) es ≡ es
  filter-above [] key below = refl
  filter-above (e ∷ es) key below =
      ap (λ t. cond (not t) (e ∷ filter (λ x. not (bytes_eq key x.0)) es) (filter (λ x. not (bytes_eq key x.0)) es)) (apart_above e.0 key (above_from_below key e.0 below.0))
      ∙ ap (λ xs. e ∷ xs) (filter-above es key below.1)

  module _ (key : List ℕ) where
    value_of-place : (es : List (List ℕ × V)) (i : ℕ) (d : List ℕ × V) → KeysRise es → i < length es → order (get_or es i d).0 key ≡ Equal → value_of es key ≡ Some (get_or es i d).1
    unfolding value_of
    value_of-place [] i d up within is = absurd (omega arith)
    value_of-place (e ∷ es) zero d up within is = ap (λ t. cond t (Some e.1) (lookup (bytes_eq key) es)) (met e.0 key is)
    value_of-place (e ∷ es) (suc i) d up within is =
        ap (λ t. cond t (Some e.1) (lookup (bytes_eq key) es)) (apart_below e.0 key (before e es key i d up (omega arith) is)) ∙ value_of-place es i d (KeysRise-tail e es up) (omega arith) is

    put-place : (es : List (List ℕ × V)) (i : ℕ) (d : List ℕ × V) (value : V) → KeysRise es → i < length es → order (get_or es i d).0 key ≡ Equal → set es i ((get_or es i d).0, value) ≡ put es key value
    unfolding put
    put-place [] i d value up within is = absurd (omega arith)
    put-place (e ∷ es) zero d value up within is = ap (λ o. match_ordering o ((key, value) ∷ e ∷ es) ((e.0, value) ∷ es) (e ∷ insert_entry order es key value)) (sym (tied_back total e.0 key is))
    put-place (e ∷ es) (suc i) d value up within is =
        ap (λ xs. e ∷ xs) (put-place es i d value (KeysRise-tail e es up) (omega arith) is)
        ∙ ap (λ o. match_ordering o ((key, value) ∷ e ∷ es) ((e.0, value) ∷ es) (e ∷ insert_entry order es key value)) (sym (above_from_below e.0 key (before e es key i d up (omega arith) is)))

    without-place : (es : List (List ℕ × V)) (i : ℕ) (d : List ℕ × V) → KeysRise es → i < length es → order (get_or es i d).0 key ≡ Equal → remove es i ≡ without es key
    unfolding without
    without-place [] i d up within is = absurd (omega arith)
    without-place (e ∷ es) zero d up within is =
        sym (filter-above es key (subst (λ k. IsBelow k es) (same_from_equal e.0 key is) (KeysRise-head e es up)))
        ∙ ap (λ t. cond (not t) (e ∷ filter (λ x. not (bytes_eq key x.0)) es) (filter (λ x. not (bytes_eq key x.0)) es)) (sym (met e.0 key is))
    without-place (e ∷ es) (suc i) d up within is =
        ap (λ xs. e ∷ xs) (without-place es i d (KeysRise-tail e es up) (omega arith) is)
        ∙ ap (λ t. cond (not t) (e ∷ filter (λ x. not (bytes_eq key x.0)) es) (filter (λ x. not (bytes_eq key x.0)) es)) (sym (apart_below e.0 key (before e es key i d up (omega arith) is)))

    -- a place between the keys below and the keys above
    abbrev IsBetween : List (List ℕ × V) → ℕ → Type 0
    IsBetween es i = IsPartitionPoint (λ e. order e.0 key ≡ Less) (λ e. order e.0 key ≡ Greater) es i

    later : (e : List ℕ × V) (es : List (List ℕ × V)) (i : ℕ) → IsBetween (e ∷ es) (suc i) → IsBetween es i
    later e es i here = (λ k d low high. here.0 (suc k) d (omega arith) (omega arith), λ k d low high. here.1 (suc k) d (omega arith) (omega arith))

    first : (e : List ℕ × V) (es : List (List ℕ × V)) → IsBetween (e ∷ es) 0 → IsBetween es 0
    first e es here = (λ k d low high. absurd (omega arith), λ k d low high. here.1 (suc k) d (omega arith) (omega arith))

    value_of-between : (es : List (List ℕ × V)) (i : ℕ) → IsBetween es i → value_of es key ≡ None
    unfolding value_of
    value_of-between [] i here = refl
    value_of-between (e ∷ es) zero here = ap (λ t. cond t (Some e.1) (lookup (bytes_eq key) es)) (apart_above e.0 key (here.1 0 e (omega arith) (omega arith))) ∙ value_of-between es 0 (first e es here)
    value_of-between (e ∷ es) (suc i) here = ap (λ t. cond t (Some e.1) (lookup (bytes_eq key) es)) (apart_below e.0 key (here.0 0 e (omega arith) (omega arith))) ∙ value_of-between es i (later e es i here)

    put-between : (es : List (List ℕ × V)) (i : ℕ) (value : V) → i ≤ length es → IsBetween es i → insert es i (key, value) ≡ put es key value
    unfolding put
    put-between [] zero value within here = refl
    put-between [] (suc i) value within here = absurd (omega arith)
    put-between (e ∷ es) zero value within here = ap (λ o. match_ordering o ((key, value) ∷ e ∷ es) ((e.0, value) ∷ es) (e ∷ insert_entry order es key value)) (sym (below_from_above e.0 key (here.1 0 e (omega arith) (omega arith))))
    put-between (e ∷ es) (suc i) value within here =
        ap (λ xs. e ∷ xs) (put-between es i value (omega arith) (later e es i here))
        ∙ ap (λ o. match_ordering o ((key, value) ∷ e ∷ es) ((e.0, value) ∷ es) (e ∷ insert_entry order es key value)) (sym (above_from_below e.0 key (here.0 0 e (omega arith) (omega arith))))

    without-between : (es : List (List ℕ × V)) (i : ℕ) → IsBetween es i → without es key ≡ es
    unfolding without
    without-between [] i here = refl
    without-between (e ∷ es) zero here =
        ap (λ t. cond (not t) (e ∷ filter (λ x. not (bytes_eq key x.0)) es) (filter (λ x. not (bytes_eq key x.0)) es)) (apart_above e.0 key (here.1 0 e (omega arith) (omega arith)))
        ∙ ap (λ xs. e ∷ xs) (without-between es 0 (first e es here))
    without-between (e ∷ es) (suc i) here =
        ap (λ t. cond (not t) (e ∷ filter (λ x. not (bytes_eq key x.0)) es) (filter (λ x. not (bytes_eq key x.0)) es)) (apart_below e.0 key (here.0 0 e (omega arith) (omega arith)))
        ∙ ap (λ xs. e ∷ xs) (without-between es i (later e es i here))

    pub value_of-at : (es : List (List ℕ × V)) (i : ℕ) (d : List ℕ × V) → KeysRise es → IsAt es key i → value_of es key ≡ Some (get_or es i d).1
    value_of-at es i d up at = value_of-place es i d up at.within (at.same d)

    pub put-at : (es : List (List ℕ × V)) (i : ℕ) (d : List ℕ × V) (value : V) → KeysRise es → IsAt es key i → set es i ((get_or es i d).0, value) ≡ put es key value
    put-at es i d value up at = put-place es i d value up at.within (at.same d)

    pub without-at : (es : List (List ℕ × V)) (i : ℕ) (d : List ℕ × V) → KeysRise es → IsAt es key i → remove es i ≡ without es key
    without-at es i d up at = without-place es i d up at.within (at.same d)

    pub value_of-gap : (es : List (List ℕ × V)) (i : ℕ) → IsGap es key i → value_of es key ≡ None
    value_of-gap es i gap = value_of-between es i gap.between

    pub put-gap : (es : List (List ℕ × V)) (i : ℕ) (value : V) → IsGap es key i → insert es i (key, value) ≡ put es key value
    put-gap es i value gap = put-between es i value gap.within gap.between

    pub without-gap : (es : List (List ℕ × V)) (i : ℕ) → IsGap es key i → without es key ≡ es
    without-gap es i gap = without-between es i gap.between

    -- the same of an entry that was read at the key's place
    pub value_of-read : (es : List (List ℕ × V)) (i : ℕ) (e : List ℕ × V) → KeysRise es → IsAt es key i → e ≡ get_or es i e → Some e.1 ≡ value_of es key
    value_of-read es i e up at read = sym (value_of-at es i e up at ∙ ap (λ x. Some x.1) (sym read))

    -- a write at the key's place, of an entry that was read there
    pub set-read : (es : List (List ℕ × V)) (i : ℕ) (e : List ℕ × V) (value : V) → KeysRise es → IsAt es key i → e ≡ get_or es i e → set es i (e.0, value) ≡ put es key value
    set-read es i e value up at read = ap (λ x. set es i (x.0, value)) read ∙ put-at es i e value up at
