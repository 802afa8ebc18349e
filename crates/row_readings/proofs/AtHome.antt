-- What only rows of projects with a home pass, it passes among the rows of those that may have this home.
use Rattle.std.proofs.Common.{◌≡◌, ℕ, Bool, true, false, cond, Option, None, List, filter, refl}
use Rattle.std.specs.Str.{bytes_eq}
use Rattle.plain_lists.specs.Firsts.{first_of}
use Rattle.records.specs.declared.rows.Project.{Project}
use Rattle.row_machine.specs.machine.Homes.{has_feature, home_by}
use Rattle.row_machine.specs.machine.Rows.{default_name}
use Rattle.row_readings.specs.Rising.{begins_with, rows_at_home}
use Rattle.row_readings.proofs.Ranges.{apart, filter-filter, first_of-filter}

-- a home other than `default` is that of the project of this name alone
pub other-home : (projects : List Project) (name home key : List ℕ) → bytes_eq home default_name ≡ false → bytes_eq name home ≡ false
    → bytes_eq (home_by projects name key) home ≡ false
other-home projects name home key own other = at (has_feature projects name key) where
  at : (b : Bool) → bytes_eq (cond b name default_name) home ≡ false
  at true = other
  at false = apart home default_name own

module _ {X : Type 0} (names : X → List (List ℕ)) (home : List ℕ) (rows : List X) where
  -- a test that no row of another project passes, where the home is not `default`
  pub filter-at_home : (q : X → Bool)
      → ((row : X) → bytes_eq home default_name ≡ false → begins_with home (names row) ≡ false → q row ≡ false)
      → filter q (rows_at_home names home rows) ≡ filter q rows
  filter-at_home q other = at (bytes_eq home default_name) refl where
    at : (b : Bool) → bytes_eq home default_name ≡ b
        → filter q (cond b rows (filter (λ row. begins_with home (names row)) rows)) ≡ filter q rows
    at true is = refl
    at false is = filter-filter q (λ row. begins_with home (names row)) rows (λ row. other row is)

  -- a rule that no row of another project breaks
  pub first_of-at_home : {R : Type 0} (rule : X → Option R)
      → ((row : X) → bytes_eq home default_name ≡ false → begins_with home (names row) ≡ false → rule row ≡ None)
      → first_of rule (rows_at_home names home rows) ≡ first_of rule rows
  first_of-at_home rule other = at (bytes_eq home default_name) refl where
    at : (b : Bool) → bytes_eq home default_name ≡ b
        → first_of rule (cond b rows (filter (λ row. begins_with home (names row)) rows)) ≡ first_of rule rows
    at true is = refl
    at false is = first_of-filter rule (λ row. begins_with home (names row)) rows (λ row. other row is)
