-- The pools that projects limit rise by the names of projects and of pools.
use Rattle.std.proofs.Common.{◌≡◌, ℕ, ◌+◌, true, List, [], ◌∷◌, ◌++◌, Option, Some, None, map, take, refl, sym, ap, ap₂, subst, ◌∙◌, inl, inr}
use Rattle.std.specs.Prelude.{slice_get, option_map, option_and_then}
use Rattle.std.specs.List.{cons_option, filter_map}
use Rattle.std.specs.Map.{keys_of}
use Rattle.std.specs.Option.{option_to_list}
use Rattle.std.specs.Ordering.{is_lt, ordering_then}
use Rattle.std.specs.declared.cmp.Ordering.{Ordering}
use Rattle.std.specs.declared.cmp.Ordering.TheVariants.{Less, Equal, Greater}
use Rattle.std.specs.Cmp.{tied_itself}
use Rattle.std.proofs.lemmas.List.{append_assoc}
use Rattle.std.proofs.lemmas.Option.{slice_get_within, get_or_from_slice_get}
use Rattle.config_lists.specs.Entries.{KeysRise}
use Rattle.config_lists.specs.Settings.{Settings}
use Rattle.config_lists.proofs.Joined.{order-behind}
use Rattle.config_lists.proofs.Keys.{order, total, IsBelow, KeysRise-head, KeysRise-tail}
use Rattle.plain_lists.specs.Members.{Mem, Each}
use Rattle.plain_lists.proofs.Elements.{Mem-append, Mem-from_map, Each-append, Each-head, Each-tail}
use Rattle.plain_lists.proofs.Readings.{Mem-from_read}
use Rattle.project_limits.specs.Pools.{limited_pools, pool_key_front, pool_of_key}
use Rattle.project_limits.proofs.PoolKeys.{key-is}
use Rattle.records.specs.declared.rows.Project.{Project}
use Rattle.row_machine.specs.facts.Whole.{Rise}
use Rattle.row_machine.specs.machine.Rows.{project_names, texts_before}
use Rattle.row_readings.specs.PoolLimits.{limit_names, limit_of, limit_of_key, limit_at, own_limits, all_limits}
use Rattle.row_readings.specs.declared.pool_limits.PoolLimit.{PoolLimit}
use Rattle.row_readings.proofs.Totals.{read-next}

-- ---- the limits of a project, key by key

pub limits-by_key : (project : Project) (keys : List (List ℕ)) → filter_map (limit_of_key project) keys ≡ map (limit_of project) (filter_map pool_of_key keys)
limits-by_key project [] = refl
limits-by_key project (key ∷ keys) = at (pool_of_key key) (limits-by_key project keys) where
  rest : List (List ℕ)
  rest = filter_map pool_of_key keys

  at : (o : Option (List ℕ)) → filter_map (limit_of_key project) keys ≡ map (limit_of project) rest
      → cons_option (option_map (limit_of project) o) (filter_map (limit_of_key project) keys) ≡ map (limit_of project) (cons_option o rest)
  at None more = more
  at (Some pool) more = ap (λ limits. limit_of project pool ∷ limits) more

-- all keys were walked
pub limits-walked : (project : Project) → filter_map (limit_of_key project) (keys_of project.config) ≡ own_limits project
unfolding limited_pools
limits-walked project = limits-by_key project (keys_of project.config)

-- one more key
pub limits-next : (project : Project) (front : List PoolLimit) (place : ℕ) (key : List ℕ) → slice_get (keys_of project.config) place ≡ Some key
    → (front ++ filter_map (limit_of_key project) (take place (keys_of project.config))) ++ option_to_list (limit_at project place)
    ≡ front ++ filter_map (limit_of_key project) (take (place + 1) (keys_of project.config))
limits-next project front place key is =
    let keys = keys_of project.config in
    ap (λ o. (front ++ filter_map (limit_of_key project) (take place keys)) ++ option_to_list (option_and_then (limit_of_key project) o)) is
    ∙ read-next (limit_of_key project) front keys place key (slice_get_within keys place key is) (sym (get_or_from_slice_get keys place key key is))

-- all projects, one more
pub all-more : (projects : List Project) (project : Project) → all_limits projects ++ own_limits project ≡ all_limits (projects ++ project ∷ [])
all-more [] project = sym (nothing-after (own_limits project)) where
  nothing-after : (xs : List PoolLimit) → xs ++ [] ≡ xs
  nothing-after [] = refl
  nothing-after (x ∷ xs) = ap (λ ys. x ∷ ys) (nothing-after xs)
all-more (p ∷ ps) project = append_assoc (own_limits p) (all_limits ps) (own_limits project) ∙ ap (λ rest. own_limits p ++ rest) (all-more ps project)

-- ---- texts

below-pools : (k l a b : List ℕ) → pool_of_key k ≡ Some a → pool_of_key l ≡ Some b → order k l ≡ Less → order a b ≡ Less
below-pools k l a b is_a is_b less = sym (order-behind pool_key_front a b) ∙ sym (ap₂ order (key-is k a is_a) (key-is l b is_b)) ∙ less

below-mem : {V : Type 0} (k : List ℕ) (es : List (List ℕ × V)) → IsBelow k es → (l : List ℕ) → Mem l (keys_of es) → order k l ≡ Less
below-mem k [] below l m = absurd m
below-mem k (e ∷ es) below l (inl is) = ap (order k) is ∙ below.0
below-mem k (e ∷ es) below l (inr m) = below-mem k es below.1 l m

-- names of which the second decides, and names of which the first does
second-before : (p a b : List ℕ) → order a b ≡ Less → texts_before (p ∷ a ∷ []) (p ∷ b ∷ []) ≡ true
second-before p a b less =
    ap (λ o. is_lt (ordering_then o (ordering_then (order a b) Equal))) (tied_itself total p) ∙ ap (λ o. is_lt (ordering_then o Equal)) less

first-before : (p q a b : List ℕ) → order p q ≡ Less → texts_before (p ∷ a ∷ []) (q ∷ b ∷ []) ≡ true
first-before p q a b less = ap (λ o. is_lt (ordering_then o (ordering_then (order a b) Equal))) less

is-before : (o : Ordering) → is_lt (ordering_then o Equal) ≡ true → o ≡ Less
is-before Less h = refl
is-before Equal h = cc
is-before Greater h = cc

-- ---- one project

-- each limit is of it
pub each-own : (p : Project) (name : List ℕ) → p.name ≡ name → Each (λ (l : PoolLimit). l.project ≡ name) (own_limits p)
each-own p name own = record {
  at = λ l m. let from = Mem-from_map (limit_of p) l (limited_pools p.config) m in ap (λ (x : PoolLimit). x.project) from.1.1 ∙ own;
}

rise-pools : (p : Project) (es : Settings) → KeysRise es → Rise limit_names (map (limit_of p) (filter_map pool_of_key (keys_of es)))
rise-pools p [] up = tt
rise-pools p (e ∷ es) up = at (pool_of_key e.0) refl (rise-pools p es (KeysRise-tail e es up)) where
  rest : List PoolLimit
  rest = map (limit_of p) (filter_map pool_of_key (keys_of es))

  first : (a : List ℕ) → pool_of_key e.0 ≡ Some a → (other : PoolLimit) → Mem other rest → texts_before (limit_names (limit_of p a)) (limit_names other) ≡ true
  first a is other m =
      let from = Mem-from_map (limit_of p) other (filter_map pool_of_key (keys_of es)) m in
      let key = Mem-from_read pool_of_key from.0 (keys_of es) from.1.0 in
      subst (λ o. texts_before (limit_names (limit_of p a)) (limit_names o) ≡ true) (sym from.1.1)
      (second-before p.name a from.0 (below-pools e.0 key.0 a from.0 is key.1.1 (below-mem e.0 es (KeysRise-head e es up) key.0 key.1.0)))

  at : (o : Option (List ℕ)) → pool_of_key e.0 ≡ o → Rise limit_names rest → Rise limit_names (map (limit_of p) (cons_option o (filter_map pool_of_key (keys_of es))))
  at None is more = more
  at (Some a) is more = (record { at = λ other m. first a is other m }, more)

pub rise-own : (p : Project) → KeysRise p.config → Rise limit_names (own_limits p)
unfolding limited_pools
rise-own p up = rise-pools p p.config up

-- ---- all projects

rise-append : {X : Type 0} (names : X → List (List ℕ)) (xs ys : List X) → Rise names xs → Rise names ys
    → ((x y : X) → Mem x xs → Mem y ys → texts_before (names x) (names y) ≡ true) → Rise names (xs ++ ys)
rise-append names [] ys up more far = more
rise-append names (x ∷ xs) ys up more far =
    (Each-append up.0 (record { at = λ y m. far x y (inl refl) m }), rise-append names xs ys up.1 more (λ u v m n. far u v (inr m) n))

of-project : (p : Project) (l : PoolLimit) → Mem l (own_limits p) → l.project ≡ p.name
of-project p l m = let from = Mem-from_map (limit_of p) l (limited_pools p.config) m in ap (λ (x : PoolLimit). x.project) from.1.1

pub own-project : (p : Project) → Each (λ (l : PoolLimit). l.project ≡ p.name) (own_limits p)
own-project p = record { at = λ l m. of-project p l m }

after : (p : Project) (ps : List Project) → Each (λ (q : Project). texts_before (project_names p) (project_names q) ≡ true) ps → (l : PoolLimit) → Mem l (all_limits ps)
    → order p.name l.project ≡ Less
after p [] before l m = absurd m
after p (q ∷ qs) before l m = elim (Mem-append l (own_limits q) (all_limits qs) m) [
  | inl own ↦ ap (order p.name) (of-project q l own) ∙ is-before (order p.name q.name) (Each-head before)
  | inr more ↦ after p qs (Each-tail before) l more
]

pub rise-all : (ps : List Project) → Rise project_names ps → Each (λ (p : Project). KeysRise p.config) ps → Rise limit_names (all_limits ps)
rise-all [] up rising = tt
rise-all (p ∷ ps) up rising = rise-append limit_names (own_limits p) (all_limits ps) (rise-own p (Each-head rising)) (rise-all ps up.1 (Each-tail rising))
    (λ x y own far. subst (λ name. texts_before (name ∷ x.pool ∷ []) (limit_names y) ≡ true) (sym (of-project p x own))
    (first-before p.name y.project x.pool y.pool (after p ps up.0 y far)))
