-- Paths as they are added to the rows of a router.
use Rattle.std.proofs.Common.{◌≡◌, ◌+◌, ◌<◌, add-one, List, ◌∷◌, length, drop, get_or, map, Option, Some, None, Bool, true, false, ◌&&◌, Result, Ok, Err, is_none, refl, subst, ℕ}
use Rattle.std.proofs.Math.Seq.{drop-cons}
use Rattle.matchit.specs.Route.{Scan}
use Rattle.matchit.specs.Router.{RouteOf, InsertsRead, Refused, nearest}
use Rattle.matchit.specs.Rows.{RowsOf}
use Rattle.matchit.specs.declared.error.InsertError.{InsertError}
use Rattle.matchit.specs.declared.error.InsertError.TheVariants.{Conflict, InvalidParam, InvalidParamSegment, InvalidCatchAll, OutOfMemory}
use Rattle.rest_routes.specs.Endpoints.{row_added, is_taken, are_taken}
use Rattle.rest_routes.specs.declared.endpoints.Line.{Line}

-- a path that was inserted is added to the rows
pub inserted : (read : Result Scan InsertError) (line : Line) (old new : RowsOf (RouteOf Line)) → InsertsRead read line old new (Ok tt) → new ≡ row_added read line old
inserted (Ok scan) line old new h = h.1
inserted (Err error) line old new h = h.0

-- what is none is no value
none_value : {X : Type 0} (o : Option X) (x : X) → is_none o ≡ true → o ≡ Some x → ⊥
none_value None x is_none is_some = cc
none_value (Some y) x is_none is_some = cc

-- a path that no row conflicts with is refused for memory alone
refused_for_memory : (pattern : List ℕ) (rows : RowsOf (RouteOf Line)) (error : InsertError) → is_none (nearest pattern rows) ≡ true → Refused pattern rows error → error ≡ OutOfMemory
refused_for_memory pattern rows OutOfMemory free h = refl
refused_for_memory pattern rows (Conflict with) free h = absurd (none_value _ h.0 free h.1)
refused_for_memory pattern rows InvalidParamSegment free h = absurd h
refused_for_memory pattern rows InvalidParam free h = absurd h
refused_for_memory pattern rows InvalidCatchAll free h = absurd h

-- of two tests that pass, the first and the second
first_passes : (a b : Bool) → (a && b) ≡ true → a ≡ true
first_passes true b h = refl
first_passes false b h = h

second_passes : (a b : Bool) → (a && b) ≡ true → b ≡ true
second_passes true b h = h
second_passes false b h = cc

-- the first of these paths fails for memory alone
pub only_memory : (read : Result Scan InsertError) (line : Line) (more : List (List ℕ × Line)) (old new : RowsOf (RouteOf Line)) (error : InsertError)
    → (is_taken read old && are_taken more (row_added read line old)) ≡ true → InsertsRead read line old new (Err error) → error ≡ OutOfMemory
only_memory (Ok scan) line more old new error free h = refused_for_memory scan.pattern old error (first_passes _ _ free) h.1
only_memory (Err failed) line more old new error free h = cc

-- the paths from a line on begin with the one at that place
pub taken_from : {A : Type 0} (f : A → List ℕ × Line) (all : List A) (i : ℕ) (d : A) (rows : RowsOf (RouteOf Line)) → i < length all → are_taken (map f (drop i all)) rows ≡ true → are_taken (f (get_or all i d) ∷ map f (drop (i + 1) all)) rows ≡ true
taken_from {A} f all i d rows within h =
    let P : List A → Type 0 = λ xs. are_taken (map f xs) rows ≡ true in
    rw add-one (subst P (drop-cons all i d within) h)

-- the others can be taken after it
pub later_taken : (read : Result Scan InsertError) (line : Line) (more : List (List ℕ × Line)) (old new : RowsOf (RouteOf Line))
    → (is_taken read old && are_taken more (row_added read line old)) ≡ true → InsertsRead read line old new (Ok tt) → are_taken more new ≡ true
later_taken read line more old new free h = rw (inserted read line old new h) (second_passes _ _ free)
