-- Changes of a project that gets another name are judged in it alone: none is left under the old name.
use Rattle.std.proofs.Common.{◌≡◌, ◌||◌, ◌&&◌, ℕ, Bool, true, false, cond, Option, Some, None, List, [], ◌∷◌, filter, refl, sym, ◌∙◌, ap, ap₂, subst, true≢false}
use Rattle.std.specs.List.{list_all}
use Rattle.std.specs.Option.{option_map_or, option_or}
use Rattle.std.specs.Str.{bytes_eq}
use Rattle.plain_lists.specs.Edits.{dropped}
use Rattle.plain_lists.specs.Firsts.{first_of}
use Rattle.plain_lists.specs.Members.{Each, Distinct}
use Rattle.plain_lists.proofs.Elements.{Each-head, Each-tail}
use Rattle.config_lists.proofs.Keys.{same, bytes_eq-itself}
use Rattle.size_values.specs.declared.kinds.ObjectKind.{ObjectKind}
use Rattle.size_values.specs.declared.kinds.ObjectKind.TheVariants as kind
use Rattle.records.specs.declared.rows.Project.{Project}
use Rattle.records.specs.declared.rows.Row.{Row}
use Rattle.records.specs.declared.rows.Row.TheVariants as row
use Rattle.row_codec.proofs.Fields.{both_true}
use Rattle.row_machine.specs.declared.changes.RowChange.{RowChange}
use Rattle.row_machine.specs.declared.changes.RowChange.TheVariants as change
use Rattle.row_machine.specs.facts.Whole.{IsWhole}
use Rattle.row_machine.specs.machine.Changes.{applied, changed, has_key, with_row, without_row}
use Rattle.row_machine.specs.machine.LimitRules.{project_without_amount}
use Rattle.row_machine.specs.machine.Rows.{same_names, texts_before, project_names}
use Rattle.row_machine.specs.machine.State.{State}
use Rattle.machine_laws.proofs.DefaultsProjects.{distinct_projects}
use Rattle.machine_laws.proofs.ExpansionsApart.{fails-by}
use Rattle.rules_policy.specs.Within.{policy_broken_in}
use Rattle.core_totals.specs.OneProject.{are_profiles_shared, is_after_rename, is_between, project_of_all, project_renamed, project_put, projects_of}
use Rattle.core_totals.specs.OneProject.{IsProjectJudgedAlone, ProjectsAreJudgedAlone}
use Rattle.core_totals.proofs.Named.{distinct-applied, named-first, none-filter}
use Rattle.core_totals.proofs.Others.{AreBeside, beside-itself, changes-beside, filter-replaced}
use Rattle.core_totals.proofs.OneProject.{counts-within, exceeding, exceeding-own, limits-within, one-alone, other-not, policy-within}

-- ---- lists

filter-or : {X : Type 0} (q r : X → Bool) (xs : List X) → filter q xs ≡ [] → filter (λ x. q x || r x) xs ≡ filter r xs
filter-or q r [] none = refl
filter-or {X} q r (x ∷ xs) none = at (q x) none (filter-or q r xs) where
  at : (b : Bool) → cond b (x ∷ filter q xs) (filter q xs) ≡ [] → (filter q xs ≡ [] → filter (λ y. q y || r y) xs ≡ filter r xs)
      → cond (b || r x) (x ∷ filter (λ y. q y || r y) xs) (filter (λ y. q y || r y) xs) ≡ cond (r x) (x ∷ filter r xs) (filter r xs)
  at true none more = cc
  at false none more = ap (λ zs. cond (r x) (x ∷ zs) zs) (more none)

-- of elements with keys of their own no other one passes what tells the key
gone-filter : {X K : Type 0} (key : X → K) (q : X → Bool) (xs : List X) → Distinct key xs
    → ((x y : X) → q x ≡ true → q y ≡ true → key x ≡ key y) → filter q (dropped q xs) ≡ []
gone-filter key q [] distinct tells = refl
gone-filter {X} key q (x ∷ xs) distinct tells = at (q x) refl (gone-filter key q xs distinct.1 tells) where
  at : (b : Bool) → q x ≡ b → filter q (dropped q xs) ≡ [] → filter q (cond b xs (x ∷ dropped q xs)) ≡ []
  at true is more = none-filter q xs (record { at = λ y m. fails-by (q y) (λ hit. distinct.0.at y m (tells y x hit is)) })
  at false is more = ap (λ b. cond b (x ∷ filter q (dropped q xs)) (filter q (dropped q xs))) is ∙ more

-- what no element passes, none of fewer passes
still-none : {X : Type 0} (q p : X → Bool) (xs : List X) → filter q xs ≡ [] → filter q (dropped p xs) ≡ []
still-none q p [] none = refl
still-none {X} q p (x ∷ xs) none = at (q x) (p x) refl none (still-none q p xs) where
  at : (b c : Bool) → q x ≡ b → cond b (x ∷ filter q xs) (filter q xs) ≡ [] → (filter q xs ≡ [] → filter q (dropped p xs) ≡ [])
      → filter q (cond c xs (x ∷ dropped p xs)) ≡ []
  at true c is none more = cc
  at false true is none more = none
  at false false is none more = ap (λ b. cond b (x ∷ filter q (dropped p xs)) (filter q (dropped p xs))) is ∙ more none

module _ (old : List ℕ) where
  abbrev named : Project → Bool
  named r = bytes_eq r.name old

  -- whether a change puts it
  abbrev comes_back : RowChange → Bool
  comes_back c = option_map_or (λ put. bytes_eq put old) (project_put c) false

  -- no project has the name
  abbrev HasGone : State → Type 0
  HasGone u = filter named u.projects ≡ []

  put-gone : (r : Row) (u : State) → comes_back (change.Put r) ≡ false → HasGone u → HasGone (with_row r u)
  put-gone (row.Project r) u is gone =
      filter-replaced named (λ y. same_names (project_names y) (project_names r)) (λ y. texts_before (project_names r) (project_names y)) r u.projects is
      (λ y names. ap (λ n. bytes_eq n old) (same y.name r.name names) ∙ is) ∙ gone
  put-gone (row.Profile r) u is gone = gone
  put-gone (row.Network r) u is gone = gone
  put-gone (row.Volume r) u is gone = gone
  put-gone (row.Instance r) u is gone = gone
  put-gone (row.Pool r) u is gone = gone
  put-gone (row.Snapshot r) u is gone = gone

  remove-gone : (of : ObjectKind) (key : List ℕ) (u : State) → HasGone u → HasGone (without_row of key u)
  remove-gone kind.Project key u gone = still-none named (λ r. has_key key (row.Project r)) u.projects gone
  remove-gone kind.Profile key u gone = gone
  remove-gone kind.Network key u gone = gone
  remove-gone kind.Volume key u gone = gone
  remove-gone kind.Instance key u gone = gone
  remove-gone kind.Pool key u gone = gone
  remove-gone kind.Snapshot key u gone = gone
  remove-gone kind.Operation key u gone = gone

  change-gone : (c : RowChange) (u : State) → comes_back c ≡ false → HasGone u → HasGone (changed u c)
  change-gone (change.Put r) u is = put-gone r u is
  change-gone (change.Remove of key) u is = remove-gone of key u

  changes-gone : (new : List ℕ) (cs : List RowChange) (u : State) → list_all (is_after_rename old new) cs ≡ true → HasGone u → HasGone (applied u cs)
  changes-gone new [] u all gone = gone
  changes-gone new (c ∷ cs) u all gone =
      let parts = both_true (is_after_rename old new c) (list_all (is_after_rename old new) cs) all in
      changes-gone new cs (changed u c) parts.1
      (change-gone c u (other-not (comes_back c) (both_true (is_between old new c) _ parts.0).1) gone)

  first-gone : (s : State) → IsWhole s → HasGone (changed s (change.Remove kind.Project old))
  first-gone s h = gone-filter project_names named s.projects (distinct_projects h)
      (λ x y is own. ap (λ n. n ∷ []) (same x.name old is ∙ sym (same y.name old own)))

-- the changes after a rename are between the two names
all-between : (old new : List ℕ) (cs : List RowChange) → list_all (is_after_rename old new) cs ≡ true → list_all (is_between old new) cs ≡ true
all-between old new [] all = refl
all-between old new (c ∷ cs) all =
    let parts = both_true (is_after_rename old new c) (list_all (is_after_rename old new) cs) all in
    ap₂ (λ a b. a && b) (both_true (is_between old new c) _ parts.0).0 (all-between old new cs parts.1)

renamed-alone : (s : State) (old new : List ℕ) (cs : List RowChange) → IsWhole s → list_all (is_after_rename old new) cs ≡ true
    → IsProjectJudgedAlone s (applied s (change.Remove kind.Project old ∷ cs)) new
renamed-alone s old new cs h all = record {
  policy = policy-within s t true either h always b ∙ ap (policy_broken_in t) those-are;
  counts =
      counts-within s t true either h always b
      ∙ ap (first_of (project_without_amount t)) those-are
      ∙ named-first (project_without_amount t) new t.projects (distinct-applied s changes h);
  limits =
      limits-within s t true either h always b
      ∙ ap (exceeding s t) those-are
      ∙ exceeding-own s t new (distinct-applied s changes h);
} where
  changes : List RowChange
  changes = change.Remove kind.Project old ∷ cs

  t : State
  t = applied s changes

  either : List ℕ → Bool
  either name = bytes_eq name old || bytes_eq name new

  within : list_all (is_between old new) changes ≡ true
  within = ap₂ (λ a b. ((a || bytes_eq old new) && true) && b) (bytes_eq-itself old) (all-between old new cs all)

  -- as if others shared the profiles of `default`
  always : true ≡ false → are_profiles_shared s ≡ false
  always e = absurd (true≢false e)

  b : AreBeside true either s t
  b = changes-beside true either s h changes s within (beside-itself true either s)

  those-are : filter (λ (q : Project). either q.name) t.projects ≡ projects_of t new
  those-are = filter-or (λ (q : Project). bytes_eq q.name old) (λ (q : Project). bytes_eq q.name new) t.projects
      (changes-gone old new cs (changed s (change.Remove kind.Project old)) all (first-gone old s h))

-- ---- changes of one project, or of one that gets another name

renamed-by : (s : State) (cs : List RowChange) (p : List ℕ) → IsWhole s → project_renamed cs ≡ Some p → IsProjectJudgedAlone s (applied s cs) p
renamed-by s (change.Remove kind.Project old ∷ change.Put (row.Project new) ∷ more) p h is =
    at (list_all (is_after_rename old new.name) (change.Put (row.Project new) ∷ more)) refl is where
      cs : List RowChange
      cs = change.Put (row.Project new) ∷ more

      at : (b : Bool) → list_all (is_after_rename old new.name) cs ≡ b → cond b (Some new.name) None ≡ Some p
          → IsProjectJudgedAlone s (applied s (change.Remove kind.Project old ∷ cs)) p
      at true all found =
          let named : new.name ≡ p = cc in
          subst (IsProjectJudgedAlone s (applied s (change.Remove kind.Project old ∷ cs))) named (renamed-alone s old new.name cs h all)
      at false all found = cc
renamed-by s other p h is = cc

pub projects-alone : ProjectsAreJudgedAlone
projects-alone s cs p h is = at (project_of_all (are_profiles_shared s) cs) refl is where
  at : (o : Option (List ℕ)) → project_of_all (are_profiles_shared s) cs ≡ o → option_or o (project_renamed cs) ≡ Some p → IsProjectJudgedAlone s (applied s cs) p
  at (Some name) own found = let named : name ≡ p = cc in one-alone s cs p h (own ∙ ap Some named)
  at None own found = renamed-by s cs p h found
