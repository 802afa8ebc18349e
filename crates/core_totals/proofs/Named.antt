-- What is asked of the projects of a name is asked of the project of that name.
use Rattle.std.proofs.Common.{◌≡◌, ℕ, Bool, true, false, cond, Option, Some, None, List, [], ◌∷◌, filter, refl, sym, ◌∙◌, ap, true≢false}
use Rattle.std.specs.Option.{option_and_then, option_to_list}
use Rattle.std.specs.Str.{bytes_eq}
use Rattle.plain_lists.specs.Firsts.{first_of}
use Rattle.plain_lists.specs.Members.{Each, Distinct}
use Rattle.plain_lists.proofs.Elements.{Each-head, Each-map, Each-tail}
use Rattle.config_lists.proofs.Keys.{same, bytes_eq-itself}
use Rattle.size_values.specs.declared.kinds.ObjectKind.{ObjectKind}
use Rattle.size_values.specs.declared.kinds.ObjectKind.TheVariants as kind
use Rattle.records.specs.declared.rows.Project.{Project}
use Rattle.records.specs.declared.rows.Row.{Row}
use Rattle.records.specs.declared.rows.Row.TheVariants as row
use Rattle.row_machine.specs.declared.changes.RowChange.{RowChange}
use Rattle.row_machine.specs.declared.changes.RowChange.TheVariants as change
use Rattle.row_machine.specs.facts.Whole.{IsWhole, Rise}
use Rattle.row_machine.specs.machine.Changes.{applied, changed, has_key, with_row, without_row}
use Rattle.row_machine.specs.machine.Rows.{project_named, project_names, same_names}
use Rattle.row_machine.specs.machine.State.{State}
use Rattle.machine_laws.proofs.ExpansionsApart.{fails-by}
use Rattle.machine_laws.proofs.NamesRise.{Rise-Distinct, Rise-dropped, Rise-replaced}
use Rattle.rules_limits.specs.OneProject.{of_project}
use Rattle.core_totals.proofs.Own.{or-none}

-- ---- the projects of a name

pub none-filter : {X : Type 0} (q : X → Bool) (xs : List X) → Each (λ x. q x ≡ false) xs → filter q xs ≡ []
none-filter q [] none = refl
none-filter q (x ∷ xs) none =
    ap (λ b. cond b (x ∷ filter q xs) (filter q xs)) (Each-head none) ∙ none-filter q xs (Each-tail none)

-- there is at most one
pub named-list : (name : List ℕ) (ps : List Project) → Distinct project_names ps
    → filter (λ p. bytes_eq p.name name) ps ≡ option_to_list (project_named ps name)
named-list name [] distinct = refl
named-list name (p ∷ ps) distinct = at (bytes_eq p.name name) refl (named-list name ps distinct.1) where
  own : Project → Bool
  own q = bytes_eq q.name name

  at : (b : Bool) → bytes_eq p.name name ≡ b → filter own ps ≡ option_to_list (project_named ps name)
      → cond b (p ∷ filter own ps) (filter own ps) ≡ option_to_list (cond b (Some p) (project_named ps name))
  at true is more =
      ap (λ qs. p ∷ qs) (none-filter own ps (Each-map
      (λ q differs. fails-by (own q) (λ hit. differs (ap (λ n. n ∷ []) (same q.name name hit ∙ sym (same p.name name is))))) distinct.0))
  at false is more = more

first_of-one : {X R : Type 0} (rule : X → Option R) (o : Option X) → first_of rule (option_to_list o) ≡ option_and_then rule o
first_of-one rule None = refl
first_of-one rule (Some x) = or-none (rule x)

pub named-first : {R : Type 0} (rule : Project → Option R) (name : List ℕ) (ps : List Project) → Distinct project_names ps
    → first_of rule (filter (λ p. bytes_eq p.name name) ps) ≡ of_project rule ps name
named-first rule name ps distinct = ap (first_of rule) (named-list name ps distinct) ∙ first_of-one rule (project_named ps name)

-- ---- after changes

rise-with : (r : Row) (s : State) → Rise project_names s.projects → Rise project_names (with_row r s).projects
rise-with (row.Project p) s up =
    Rise-replaced project_names (λ q. same_names (project_names q) (project_names p)) p s.projects tells differs up where
      tells : (q : Project) → bytes_eq q.name p.name ≡ true → project_names q ≡ project_names p
      tells q is = ap (λ n. n ∷ []) (same q.name p.name is)

      differs : (q : Project) → bytes_eq q.name p.name ≡ false → project_names q ≡ project_names p → ⊥
      differs q other e =
          let is : q.name ≡ p.name = cc in
          true≢false (sym (bytes_eq-itself p.name) ∙ ap (λ n. bytes_eq n p.name) (sym is) ∙ other)
rise-with (row.Profile r) s up = up
rise-with (row.Network r) s up = up
rise-with (row.Pool r) s up = up
rise-with (row.Volume r) s up = up
rise-with (row.Instance r) s up = up
rise-with (row.Snapshot r) s up = up

rise-without : (of : ObjectKind) (key : List ℕ) (s : State) → Rise project_names s.projects → Rise project_names (without_row of key s).projects
rise-without kind.Project key s up = Rise-dropped project_names (λ r. has_key key (row.Project r)) s.projects up
rise-without kind.Profile key s up = up
rise-without kind.Network key s up = up
rise-without kind.Pool key s up = up
rise-without kind.Volume key s up = up
rise-without kind.Instance key s up = up
rise-without kind.Snapshot key s up = up
rise-without kind.Operation key s up = up

pub rise-changed : (c : RowChange) (s : State) → Rise project_names s.projects → Rise project_names (changed s c).projects
rise-changed (change.Put r) s up = rise-with r s up
rise-changed (change.Remove of key) s up = rise-without of key s up

pub rise-applied : (cs : List RowChange) (s : State) → Rise project_names s.projects → Rise project_names (applied s cs).projects
rise-applied [] s up = up
rise-applied (c ∷ cs) s up = rise-applied cs (changed s c) (rise-changed c s up)

pub distinct-applied : (s : State) (cs : List RowChange) → IsWhole s → Distinct project_names (applied s cs).projects
distinct-applied s cs h = Rise-Distinct project_names (applied s cs).projects (rise-applied cs s h.names.projects)
