-- The project of a name after changes, change by change.
use Rattle.std.proofs.Common.{◌≡◌, ℕ, Bool, true, false, cond, List, [], ◌∷◌, Option, Some, None, refl, sym, ap, subst, ◌∙◌}
use Rattle.std.specs.Str.{bytes_eq}
use Rattle.plain_lists.proofs.EditLemmas.{find-dropped, find-gone, find-put, find-replaced}
use Rattle.config_lists.proofs.Keys.{same, bytes_eq-itself}
use Rattle.size_values.specs.declared.kinds.ObjectKind.{ObjectKind}
use Rattle.size_values.specs.declared.kinds.ObjectKind.TheVariants as kind
use Rattle.records.specs.declared.rows.Project.{Project}
use Rattle.records.specs.declared.rows.Row.{Row}
use Rattle.records.specs.declared.rows.Row.TheVariants as row
use Rattle.row_machine.specs.declared.changes.RowChange.{RowChange}
use Rattle.row_machine.specs.declared.changes.RowChange.TheVariants as change
use Rattle.row_machine.specs.facts.Whole.{Rise}
use Rattle.row_machine.specs.machine.Changes.{applied, changed, has_key, with_row, without_row}
use Rattle.row_machine.specs.machine.Rows.{is_project, project_named, project_names, same_names, texts_before, with_project}
use Rattle.row_machine.specs.machine.State.{State}
use Rattle.machine_laws.proofs.NamesRise.{Rise-Distinct}
use Rattle.core_totals.proofs.Named.{rise-changed}
use Rattle.core_judging.specs.Before.{after_change}

put-named : (r : Row) (s : State) (name : List ℕ)
    → project_named (with_row r s).projects name ≡ after_change (change.Put r) name (project_named s.projects name)
put-named (row.Project p) s name = at (bytes_eq p.name name) refl where
  own : Project → Bool
  own q = same_names (project_names q) (project_names p)

  later : Project → Bool
  later q = texts_before (project_names p) (project_names q)

  at : (b : Bool) → bytes_eq p.name name ≡ b → project_named (with_project p s.projects) name ≡ cond b (Some p) (project_named s.projects name)
  at true is = subst (λ n. project_named (with_project p s.projects) n ≡ Some p) (same p.name name is)
      (find-put own later p s.projects (bytes_eq-itself p.name))
  at false other = find-replaced own later (is_project name) p s.projects other
      (λ q hit. ap (λ n. bytes_eq n name) (same q.name p.name hit) ∙ other)
put-named (row.Profile r) s name = refl
put-named (row.Network r) s name = refl
put-named (row.Pool r) s name = refl
put-named (row.Volume r) s name = refl
put-named (row.Instance r) s name = refl
put-named (row.Snapshot r) s name = refl

remove-named : (of : ObjectKind) (key : List ℕ) (s : State) (name : List ℕ) → Rise project_names s.projects
    → project_named (without_row of key s).projects name ≡ after_change (change.Remove of key) name (project_named s.projects name)
remove-named kind.Project key s name up = at (bytes_eq key name) refl where
  keyed : Project → Bool
  keyed r = has_key key (row.Project r)

  at : (b : Bool) → bytes_eq key name ≡ b
      → project_named (without_row kind.Project key s).projects name ≡ cond b None (project_named s.projects name)
  at true is = subst (λ n. project_named (without_row kind.Project key s).projects n ≡ None) (same key name is)
      (find-gone project_names keyed s.projects (Rise-Distinct project_names s.projects up)
      (λ x y one other. ap (λ n. n ∷ []) (same y.name key other ∙ sym (same x.name key one))))
  at false other = find-dropped keyed (is_project name) s.projects
      (λ q hit. ap (λ n. bytes_eq n name) (same q.name key hit) ∙ other)
remove-named kind.Profile key s name up = refl
remove-named kind.Network key s name up = refl
remove-named kind.Pool key s name up = refl
remove-named kind.Volume key s name up = refl
remove-named kind.Instance key s name up = refl
remove-named kind.Snapshot key s name up = refl
remove-named kind.Operation key s name up = refl

changed-named : (c : RowChange) (s : State) (name : List ℕ) → Rise project_names s.projects
    → project_named (changed s c).projects name ≡ after_change c name (project_named s.projects name)
changed-named (change.Put r) s name up = put-named r s name
changed-named (change.Remove of key) s name up = remove-named of key s name up

-- after one change and then another
abbrev pub after_all : List RowChange → List ℕ → Option Project → Option Project
after_all [] name found = found
after_all (c ∷ cs) name found = after_all cs name (after_change c name found)

pub after-applied : (cs : List RowChange) (s : State) (name : List ℕ) → Rise project_names s.projects
    → after_all cs name (project_named s.projects name) ≡ project_named (applied s cs).projects name
after-applied [] s name up = refl
after-applied (c ∷ cs) s name up =
    ap (after_all cs name) (sym (changed-named c s name up)) ∙ after-applied cs (changed s c) name (rise-changed c s up)
