-- The names that are read off a listed path are those that its pattern has parameters for.
use Rattle.std.proofs.Common.{◌≡◌, ℕ, suc, ◌+◌, List, [], ◌∷◌, ◌++◌, length, drop, take, Bool, true, false, cond, refl, sym, ap, subst, ◌∙◌, arith, ◌==◌, ◌⊎◌, inl, inr, codes}
use Rattle.std.specs.List.{position_or_len}
use Rattle.matchit.proofs.OnLiterals.{matchit_on_literals}
use Rattle.matchit.specs.Router.{RouteOf}
use Rattle.matchit.specs.Rows.{RowsOf}
use Rattle.matchit.specs.Seek.{has_slash, slash}
use Rattle.size_values.specs.declared.kinds.ObjectKind.TheVariants as kind
use Rattle.rest_routes.specs.Filled.{filled, names_in, NamesFill}
use Rattle.rest_routes.specs.Paths.{is_slash, before_slash, after_slash, after_three_slashes, name_of, pool_of, instance_of}
use Rattle.rest_routes.specs.Endpoints.{routes, rows}
use Rattle.rest_routes.specs.declared.endpoints.Line.{Line}
use Rattle.rest_routes.proofs.Matching.{AreParts, Fits, In, params_in, has_catch_all, sound}

-- ---- cutting at slashes

-- how many bytes stand before the first slash
abbrev bytes-before : List ℕ → ℕ
bytes-before text = position_or_len is_slash text

take-more : (n b : ℕ) (text : List ℕ) → take (1 + n) (b ∷ text) ≡ b ∷ take n text
take-more n b text =
    let next : 1 + n ≡ suc n = omega arith in
    rw next refl

drop-more : (n b : ℕ) (text : List ℕ) → drop (1 + n + 1) (b ∷ text) ≡ drop (n + 1) text
drop-more n b text =
    let next : 1 + n + 1 ≡ suc (n + 1) = omega arith in
    rw next refl

before-end : (p : List ℕ) → has_slash p ≡ false → before_slash (p ++ []) ≡ p
unfolding before_slash
before-end [] clean = refl
before-end (b ∷ p) clean = at (b == slash) refl clean (before-end p)
  where
    at : (v : Bool) → (b == slash) ≡ v → cond v true (has_slash p) ≡ false → (has_slash p ≡ false → before_slash (p ++ []) ≡ p) → before_slash (b ∷ p ++ []) ≡ b ∷ p
    at true is clean more = cc
    at false is clean more = rw is (take-more (bytes-before (p ++ [])) b (p ++ []) ∙ ap (λ q. b ∷ q) (more clean))

before-next : (p rest : List ℕ) → has_slash p ≡ false → before_slash (p ++ slash ∷ rest) ≡ p
unfolding before_slash
before-next [] rest clean = refl
before-next (b ∷ p) rest clean = at (b == slash) refl clean (before-next p rest)
  where
    at : (v : Bool) → (b == slash) ≡ v → cond v true (has_slash p) ≡ false → (has_slash p ≡ false → before_slash (p ++ slash ∷ rest) ≡ p)
        → before_slash (b ∷ p ++ slash ∷ rest) ≡ b ∷ p
    at true is clean more = cc
    at false is clean more = rw is (take-more (bytes-before (p ++ slash ∷ rest)) b (p ++ slash ∷ rest) ∙ ap (λ q. b ∷ q) (more clean))

after-part : (p rest : List ℕ) → has_slash p ≡ false → after_slash (p ++ slash ∷ rest) ≡ rest
unfolding after_slash
after-part [] rest clean = refl
after-part (b ∷ p) rest clean = at (b == slash) refl clean (after-part p rest)
  where
    at : (v : Bool) → (b == slash) ≡ v → cond v true (has_slash p) ≡ false → (has_slash p ≡ false → after_slash (p ++ slash ∷ rest) ≡ rest)
        → after_slash (b ∷ p ++ slash ∷ rest) ≡ rest
    at true is clean more = cc
    at false is clean more = rw is (drop-more (bytes-before (p ++ slash ∷ rest)) b (p ++ slash ∷ rest) ∙ more clean)

-- the name of a volume, after its pool
volume-name : (p q : List ℕ) → has_slash p ≡ false → has_slash q ≡ false → before_slash (after_three_slashes (p ++ slash ∷ (codes "volumes/custom/" ++ (q ++ [])))) ≡ q
unfolding after_slash after_three_slashes
volume-name p q clean last =
    ap (λ r. before_slash (after_slash (after_slash r))) (after-part p (codes "volumes/custom/" ++ (q ++ [])) clean) ∙ before-end q last

-- the name of a snapshot, after its instance
snapshot-name : (p q : List ℕ) → has_slash p ≡ false → has_slash q ≡ false → before_slash (after_slash (after_slash (p ++ slash ∷ (codes "snapshots/" ++ (q ++ []))))) ≡ q
unfolding after_slash
snapshot-name p q clean last =
    ap (λ r. before_slash (after_slash r)) (after-part p (codes "snapshots/" ++ (q ++ [])) clean) ∙ before-end q last

-- ---- patterns with no, one and two parameters

module _ {path : List ℕ} where
  plain : (t : List ℕ) → params_in t ≡ 0 → has_catch_all t ≡ false → Fits t path ⊎ (has_catch_all t ≡ true) → path ≡ filled t []
  plain t none whole (inr h) = absurd (subst (λ b. cond b (Unit {0}) ⊥) (sym h ∙ whole) tt)
  plain t none whole (inl h) = by h.parts (h.enough ∙ none) h.is
    where
      by : (parts : List (List ℕ)) → length parts ≡ 0 → path ≡ filled t parts → path ≡ filled t []
      by [] e is = is
      by (p ∷ ps) e is = cc

  one : (t : List ℕ) (name : List ℕ → List ℕ) → params_in t ≡ 1 → has_catch_all t ≡ false
      → ((p : List ℕ) → has_slash p ≡ false → name (filled t (p ∷ [])) ≡ p) → Fits t path ⊎ (has_catch_all t ≡ true) → path ≡ filled t (name path ∷ [])
  one t name few whole cut (inr h) = absurd (subst (λ b. cond b (Unit {0}) ⊥) (sym h ∙ whole) tt)
  one t name few whole cut (inl h) = by h.parts (h.enough ∙ few) h.are h.is
    where
      by : (parts : List (List ℕ)) → length parts ≡ 1 → AreParts parts → path ≡ filled t parts → path ≡ filled t (name path ∷ [])
      by [] e are is = cc
      by (p ∷ []) e are is = is ∙ ap (λ q. filled t (q ∷ [])) (sym (ap name is ∙ cut p are.0))
      by (p ∷ q ∷ ps) e are is = cc

  two : (t : List ℕ) (outer inner : List ℕ → List ℕ) → params_in t ≡ 2 → has_catch_all t ≡ false
      → ((p q : List ℕ) → has_slash p ≡ false → outer (filled t (p ∷ q ∷ [])) ≡ p)
      → ((p q : List ℕ) → has_slash p ≡ false → has_slash q ≡ false → inner (filled t (p ∷ q ∷ [])) ≡ q)
      → Fits t path ⊎ (has_catch_all t ≡ true) → path ≡ filled t (outer path ∷ inner path ∷ [])
  two t outer inner few whole cut last (inr h) = absurd (subst (λ b. cond b (Unit {0}) ⊥) (sym h ∙ whole) tt)
  two t outer inner few whole cut last (inl h) = by h.parts (h.enough ∙ few) h.are h.is
    where
      by : (parts : List (List ℕ)) → length parts ≡ 2 → AreParts parts → path ≡ filled t parts → path ≡ filled t (outer path ∷ inner path ∷ [])
      by [] e are is = cc
      by (p ∷ []) e are is = cc
      by (p ∷ q ∷ []) e are is =
          is ∙ ap (λ r. filled t (r ∷ q ∷ [])) (sym (ap outer is ∙ cut p q are.0)) ∙ ap (λ r. filled t (outer path ∷ r ∷ [])) (sym (ap inner is ∙ last p q are.0 are.1.0))
      by (p ∷ q ∷ r ∷ ps) e are is = cc

-- ---- all rows

-- what is said of each row
abbrev Each : {K : Type 0} → (List ℕ → K → Type 0) → RowsOf K → Type 0
Each P [] = Unit {0}
Each P ((t, key) ∷ more) = P t key × Each P more

of-row : {K : Type 0} (P : List ℕ → K → Type 0) (all : RowsOf K) → Each P all → (t : List ℕ) (key : K) → In t key all → P t key
of-row P [] each t key h = absurd h
of-row P ((u, k) ∷ more) each t key (inl h) = subst (λ x. P x key) h.0 (subst (λ x. P u x) h.1 each.0)
of-row P ((u, k) ∷ more) each t key (inr h) = of-row P more each.1 t key h

-- a path that fits a row has its names
abbrev Names : List ℕ → List ℕ → RouteOf Line → Type 0
Names path t route = Fits t path ⊎ (has_catch_all t ≡ true) → path ≡ filled route.pattern (names_in route.value.endpoint path)

each-names : (path : List ℕ) → Each (Names path) rows
unfolding matchit_on_literals routes rows before_slash after_slash after_three_slashes
each-names path = (
  λ f. plain _ refl refl f,
  (
    λ f. two _ (instance_of kind.Snapshot) (name_of kind.Snapshot) refl refl (λ p q clean. before-next p _ clean) snapshot-name f,
    (
      λ f. one _ (instance_of kind.Snapshot) refl refl (λ p clean. before-next p _ clean) f,
      (
        λ f. one _ (name_of kind.Instance) refl refl (λ p clean. before-next p _ clean) f,
        (
          λ f. one _ (name_of kind.Instance) refl refl (λ p clean. before-end p clean) f,
          (
            λ f. plain _ refl refl f,
            (
              λ f. one _ (name_of kind.Network) refl refl (λ p clean. before-end p clean) f,
              (
                λ f. plain _ refl refl f,
                (
                  λ f. one _ (name_of kind.Operation) refl refl (λ p clean. before-next p _ clean) f,
                  (
                    λ f. one _ (name_of kind.Operation) refl refl (λ p clean. before-end p clean) f,
                    (
                      λ f. plain _ refl refl f,
                      (
                        λ f. one _ (name_of kind.Profile) refl refl (λ p clean. before-end p clean) f,
                        (
                          λ f. plain _ refl refl f,
                          (
                            λ f. one _ (name_of kind.Project) refl refl (λ p clean. before-next p _ clean) f,
                            (
                              λ f. one _ (name_of kind.Project) refl refl (λ p clean. before-end p clean) f,
                              (
                                λ f. plain _ refl refl f,
                                (
                                  λ f. two _ (pool_of kind.Volume) (name_of kind.Volume) refl refl (λ p q clean. before-next p _ clean) volume-name f,
                                  (
                                    λ f. one _ (pool_of kind.Volume) refl refl (λ p clean. before-next p _ clean) f,
                                    (
                                      λ f. one _ (pool_of kind.Volume) refl refl (λ p clean. before-next p _ clean) f,
                                      (
                                        λ f. one _ (name_of kind.Pool) refl refl (λ p clean. before-end p clean) f,
                                        (
                                          λ f. plain _ refl refl f,
                                          (
                                            λ f. plain _ refl refl f,
                                            (
                                              λ f. plain _ refl refl f,
                                              tt,
                                            ),
                                          ),
                                        ),
                                      ),
                                    ),
                                  ),
                                ),
                              ),
                            ),
                          ),
                        ),
                      ),
                    ),
                  ),
                ),
              ),
            ),
          ),
        ),
      ),
    ),
  ),
)

pub names-fill : NamesFill
names-fill path route text e =
    let found = sound path 0 rows route text e in
    of-row (Names path) rows (each-names path) found.pattern route found.there found.fits
