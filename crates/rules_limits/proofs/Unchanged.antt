-- Changes that put no project with a limit leave projects without limits.
use Rattle.std.proofs.Common.{◌≡◌, ℕ, false, List, [], ◌∷◌}
use Rattle.std.specs.List.{list_any}
use Rattle.plain_lists.specs.Members.{Each}
use Rattle.plain_lists.proofs.EditLemmas.{replaced-is, Each-Replaces, Each-dropped}
use Rattle.plain_lists.proofs.Searches.{any-none, none-any}
use Rattle.size_values.specs.declared.kinds.ObjectKind.{ObjectKind}
use Rattle.size_values.specs.declared.kinds.ObjectKind.TheVariants as kind
use Rattle.records.specs.declared.rows.Project.{Project}
use Rattle.records.specs.declared.rows.Row.{Row}
use Rattle.records.specs.declared.rows.Row.TheVariants as row
use Rattle.row_machine.specs.declared.changes.RowChange.{RowChange}
use Rattle.row_machine.specs.declared.changes.RowChange.TheVariants as change
use Rattle.row_machine.specs.machine.State.{State}
use Rattle.row_machine.specs.machine.Rows.{is_project, project_names, texts_before}
use Rattle.row_machine.specs.machine.Changes.{with_row, without_row, changed, applied, has_key}
use Rattle.rules_limits.specs.AllProjects.{is_any_limited, is_limited, is_limited_row, sets_limit}
use Rattle.rules_limits.proofs.Unlimited.{neither}

-- a fact on each project that one without a limit meets
module _ (P : Project → Type 0) (frees : (p : Project) → is_limited p ≡ false → P p) where
  put-free : (r : Row) (s : State) → is_limited_row r ≡ false → Each P s.projects → Each P (with_row r s).projects
  put-free (row.Project p) s e free =
      Each-Replaces P (replaced-is (is_project p.name) (λ y. texts_before (project_names p) (project_names y)) p s.projects) (frees p e) free
  put-free (row.Profile r) s e free = free
  put-free (row.Network r) s e free = free
  put-free (row.Pool r) s e free = free
  put-free (row.Volume r) s e free = free
  put-free (row.Instance r) s e free = free
  put-free (row.Snapshot r) s e free = free

  remove-free : (of : ObjectKind) (key : List ℕ) (s : State) → Each P s.projects → Each P (without_row of key s).projects
  remove-free kind.Project key s free = Each-dropped (λ r. has_key key (row.Project r)) free
  remove-free kind.Profile key s free = free
  remove-free kind.Network key s free = free
  remove-free kind.Pool key s free = free
  remove-free kind.Volume key s free = free
  remove-free kind.Instance key s free = free
  remove-free kind.Snapshot key s free = free
  remove-free kind.Operation key s free = free

  change-free : (c : RowChange) (s : State) → sets_limit c ≡ false → Each P s.projects → Each P (changed s c).projects
  change-free (change.Put r) s e free = put-free r s e free
  change-free (change.Remove of key) s e free = remove-free of key s free

  all-free : (cs : List RowChange) (s : State) → list_any sets_limit cs ≡ false → Each P s.projects → Each P (applied s cs).projects
  all-free [] s e free = free
  all-free (c ∷ cs) s e free =
      let parts = neither (sets_limit c) (list_any sets_limit cs) e in
      all-free cs (changed s c) parts.1 (change-free c s parts.0 free)

pub stays-free : (s : State) (cs : List RowChange) → is_any_limited s.projects ≡ false → list_any sets_limit cs ≡ false → is_any_limited (applied s cs).projects ≡ false
stays-free s cs none unset =
    none-any is_limited (applied s cs).projects
    (all-free (λ p. is_limited p ≡ false) (λ p is. is) cs s unset (any-none is_limited s.projects none))
