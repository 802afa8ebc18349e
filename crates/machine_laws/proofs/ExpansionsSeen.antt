-- What each judged instance has after changes at once, for each form of changes.
use Rattle.std.proofs.Common.{◌≡◌, ℕ, Bool, true, false, Some, None, List, [], ◌∷◌, ◌⊎◌, refl, sym, ◌∙◌, ap, inl, inr}
use Rattle.std.specs.Prelude.{is_some, codes}
use Rattle.std.proofs.lemmas.Bool.{false≢true}
use Rattle.plain_lists.specs.Members.{Mem}
use Rattle.plain_lists.proofs.Searches.{find-some}
use Rattle.plain_lists.proofs.Elements.{Each-head}
use Rattle.plain_lists.proofs.FirstLemmas.{first_of-none, none_both}
use Rattle.operations.specs.declared.operation.Operation.{Operation}
use Rattle.records.specs.declared.rows.Project.{Project}
use Rattle.records.specs.declared.rows.Profile.{Profile}
use Rattle.records.specs.declared.rows.Instance.{Instance}
use Rattle.records.specs.declared.rows.Row.{Row}
use Rattle.records.specs.declared.rows.Row.TheVariants as row
use Rattle.option_tables.specs.Checks.{project_fault}
use Rattle.row_machine.specs.declared.changes.RowChange.{RowChange}
use Rattle.row_machine.specs.machine.State.{State}
use Rattle.row_machine.specs.machine.Rows.{default_name, is_profile, project_named, profile_named}
use Rattle.row_machine.specs.machine.Homes.{is_on}
use Rattle.row_machine.specs.machine.Changes.{applied, rows_put}
use Rattle.row_machine.specs.machine.Claims.{judged_instances}
use Rattle.row_machine.specs.machine.Holders.{names_profile, holder_of, claim_rows}
use Rattle.row_machine.specs.machine.StandingRules.{changes_features, is_occupied}
use Rattle.row_machine.specs.machine.SettingRules.{settings_broken, row_settings, tables_break}
use Rattle.row_machine.specs.machine.Plans.{project_change, put_all}
use Rattle.row_machine.specs.machine.Task.{Task}
use Rattle.row_machine.specs.facts.Whole.{IsWhole}
use Rattle.machine_laws.proofs.Cases.{AtOnce, IsNotDefault, makes_project, changes_project, renames_project, deletes_project, makes_profile, changes_profile, renames_profile, deletes_profile, makes_network, changes_network, renames_network, deletes_network, makes_pool, changes_pool, deletes_pool, makes_volume, changes_volume, renames_volume, deletes_volume, changes_instance}
use Rattle.machine_laws.proofs.DefaultsFeatures.{tables-accept, features-same}
use Rattle.machine_laws.proofs.Expansions.{IsAlike}
use Rattle.machine_laws.proofs.ExpansionsApart.{apart-elsewhere}
use Rattle.machine_laws.proofs.ExpansionsAtOnce.{Sees, alike, named, made-apart, deleted-apart, renamed-apart, changed-apart, kept-alike, put-alike, drop-alike, move-alike}
use Rattle.machine_laws.proofs.ExpansionsNamed.{named-there, not-missing, not-default, unoccupied, unheld, unnamed}
use Rattle.machine_laws.proofs.ExpansionsRows.{alike-rows}
use Rattle.machine_laws.proofs.ExpansionsApart.{fails-by}

-- the tables accept a project that is put
accepted-project : (later : State) (r : Project) (rows : List Row) → settings_broken later (row.Project r ∷ rows) ≡ None → project_fault r.config ≡ None
unfolding settings_broken row_settings
accepted-project later r rows h = tables-accept r (none_both (tables_break r.config (project_fault r.config) []) _ (Each-head (first_of-none (row_settings later) (row.Project r ∷ rows) h))).0

-- the row that a change of a project puts first
accepted-change : (later : State) (old r : Project) → settings_broken later (rows_put (project_change old r)) ≡ None → project_fault r.config ≡ None
accepted-change later old r h = at (is_on old.config (codes "features.profiles")) refl (is_on r.config (codes "features.profiles")) refl h where
  at : (b : Bool) → is_on old.config (codes "features.profiles") ≡ b → (d : Bool) → is_on r.config (codes "features.profiles") ≡ d
      → settings_broken later (rows_put (project_change old r)) ≡ None → project_fault r.config ≡ None
  at true was true now k = accepted-project later r _ k
  at true was false now k = accepted-project later r _ k
  at false was true now k = accepted-project later r _ k
  at false was false now k = accepted-project later r _ k

module _ (s : State) (i : Instance) (h : IsWhole s) (m : Mem i (judged_instances s)) where
  -- a new name of a profile is named by nobody
  unnamed-new : (home name : List ℕ) → is_some (profile_named s.profiles home name) ≡ false → names_profile s home name i ≡ false
  unnamed-new home name free = fails-by (names_profile s home name i) (λ is. false≢true (sym free ∙ named-there s i home name h m is))

  -- a profile is put: nobody holds it
  sees-put : (r : Profile) → holder_of s r.project r.name ≡ None → Sees s (put_all (row.Profile r ∷ [])) i
  unfolding judged_instances
  sees-put r unheld_by = at (names_profile s r.project r.name i) refl where
    at : (b : Bool) → names_profile s r.project r.name i ≡ b → Sees s (put_all (row.Profile r ∷ [])) i
    at true is = named r (inl refl) unheld_by is is refl
    at false is = alike (put-alike s i r is)

  sees-change : (old r : Project) → project_named s.projects old.name ≡ Some old → r.name ≡ old.name
      → (changes_features old r ≡ true → (is_occupied s old.name ≡ false) × IsNotDefault old.name)
      → project_fault r.config ≡ None → IsAlike s (applied s (project_change old r)) i
  sees-change old r found name needs accepted = at (changes_features old r) refl where
    at : (b : Bool) → changes_features old r ≡ b → IsAlike s (applied s (project_change old r)) i
    at true is = let empty = needs is in apart-elsewhere i (changed-apart s old r h found name) (λ e. empty.1 (sym e)) (unoccupied s old.name i h empty.0 m)
    at false is = kept-alike s old r i found name ((features-same old r is accepted).at (codes "features.profiles") (inl refl))

  -- for each form of changes
  pub sees : (cs : List RowChange) → AtOnce s cs → settings_broken (applied s cs) (rows_put cs) ≡ None → Sees s cs i
  sees cs (makes_project r good free) k = alike (apart-elsewhere i (made-apart s r) (not-default s r.name h free) (not-missing s r.name i h free m))
  sees cs (changes_project old r found name needs) k = alike (sees-change old r found name needs (accepted-change (applied s cs) old r k))
  sees cs (renames_project old to found other empty good free) k = alike (apart-elsewhere i (renamed-apart s old to h) default never) where
    default : (default_name ≡ old.name) ⊎ (default_name ≡ to) → ⊥
    default (inl is) = other (sym is)
    default (inr is) = not-default s to h free is

    never : (i.project ≡ old.name) ⊎ (i.project ≡ to) → ⊥
    never (inl is) = unoccupied s old.name i h empty m is
    never (inr is) = not-missing s to i h free m is
  sees cs (deletes_project old found other empty) k = alike (apart-elsewhere i (deleted-apart s old h) (λ is. other (sym is)) (unoccupied s old.name i h empty m))
  sees cs (makes_profile r home new) k = alike (put-alike s i r (unnamed-new r.project r.name new.free))
  sees cs (changes_profile old r home found project name held) k =
      sees-put r (ap (λ p. holder_of s p r.name) project ∙ ap (λ n. holder_of s old.project n) name ∙ held)
  sees cs (renames_profile old to home found other unused held new) k = alike (move-alike s i old to h (find-some (is_profile old.project old.name) s.profiles old found).0
      (unnamed s old i unused held m) (unnamed-new old.project to new.free))
  sees cs (deletes_profile old home found other unused held) k = alike (drop-alike s i old h (find-some (is_profile old.project old.name) s.profiles old found).0
      (unnamed s old i unused held m))
  sees cs (makes_network r home new) k = alike (alike-rows s (applied s cs) i refl refl)
  sees cs (changes_network old r home found project name) k = alike (alike-rows s (applied s cs) i refl refl)
  sees cs (renames_network old to home found unused new) k = alike (alike-rows s (applied s cs) i refl refl)
  sees cs (deletes_network old home found unused) k = alike (alike-rows s (applied s cs) i refl refl)
  sees cs (makes_pool home r new) k = alike (alike-rows s (applied s cs) i refl refl)
  sees cs (changes_pool old r found name) k = alike (alike-rows s (applied s cs) i refl refl)
  sees cs (deletes_pool home old found unused) k = alike (alike-rows s (applied s cs) i refl refl)
  sees cs (makes_volume r home pool new early) k = alike (alike-rows s (applied s cs) i refl refl)
  sees cs (changes_volume old r home found project pool name created) k = alike (alike-rows s (applied s cs) i refl refl)
  sees cs (renames_volume old to home found unused new) k = alike (alike-rows s (applied s cs) i refl refl)
  sees cs (deletes_volume old home found unused) k = alike (alike-rows s (applied s cs) i refl refl)
  sees cs (changes_instance old j idle same) k = alike (alike-rows s (applied s cs) i refl refl)

-- what a live operation speaks of has the same
pub claims-alike : (s : State) (cs : List RowChange) (o : Operation Task) (i : Instance) → IsWhole s → AtOnce s cs → settings_broken (applied s cs) (rows_put cs) ≡ None
    → Mem o s.operations.live → Mem i (claim_rows s o.work) → Mem i (judged_instances s) → IsAlike s (applied s cs) i
claims-alike s cs o i h form k live speaks m = at (sees s i h m cs form k) where
  at : Sees s cs i → IsAlike s (applied s cs) i
  at (alike is) = is
  at (named r put none names later judged) = absurd (false≢true (sym (unheld s r.project r.name o i none live speaks) ∙ names))
