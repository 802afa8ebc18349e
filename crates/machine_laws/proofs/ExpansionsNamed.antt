-- Judged instances: their projects are there, their profiles too, and who names a profile.
use Rattle.std.proofs.Common.{◌≡◌, ◌≢◌, ℕ, ◌&&◌, ◌||◌, Bool, true, false, Option, Some, None, List, ◌++◌, ◌⊎◌, refl, sym, ◌∙◌, ap, subst, inl, inr}
use Rattle.std.specs.Prelude.{is_some, is_none, not}
use Rattle.std.specs.List.{list_any}
use Rattle.std.specs.Option.{option_map, option_to_list}
use Rattle.std.specs.Str.{bytes_eq}
use Rattle.std.proofs.lemmas.Bool.{false≢true}
use Rattle.plain_lists.specs.Members.{Mem}
use Rattle.plain_lists.proofs.Elements.{Mem-left, Mem-append}
use Rattle.plain_lists.proofs.FirstLemmas.{told_if, not_mapped, first_of-none}
use Rattle.plain_lists.proofs.Readings.{Mem-from_read}
use Rattle.plain_lists.proofs.Searches.{find-none, any-none, any-some}
use Rattle.config_lists.proofs.Keys.{same, bytes_eq-itself}
use Rattle.operations.specs.declared.operation.Operation.{Operation}
use Rattle.records.specs.declared.refusals.Rule.TheVariants as rule
use Rattle.records.specs.declared.rows.Project.{Project}
use Rattle.records.specs.declared.rows.Profile.{Profile}
use Rattle.records.specs.declared.rows.Network.{Network}
use Rattle.records.specs.declared.rows.Volume.{Volume}
use Rattle.records.specs.declared.rows.Instance.{Instance}
use Rattle.records.specs.declared.rows.Row.{Row}
use Rattle.records.specs.declared.rows.Row.TheVariants as row
use Rattle.row_codec.proofs.Fields.{both_true}
use Rattle.row_machine.specs.machine.Task.{Task}
use Rattle.row_machine.specs.machine.State.{State}
use Rattle.row_machine.specs.machine.Rows.{default_name, project_named, profile_named}
use Rattle.row_machine.specs.machine.Claims.{of_live, claimed_instance, judged_instances, replaced_instance}
use Rattle.row_machine.specs.shown.Urls.{target_of}
use Rattle.row_machine.specs.machine.Holders.{names_profile, claim_rows, holder_of, first_user_of, user_url}
use Rattle.row_machine.specs.machine.SettingRules.{profile_missing}
use Rattle.row_machine.specs.machine.StandingRules.{is_occupied}
use Rattle.row_machine.specs.opening.Opening.{has_all_features}
use Rattle.row_machine.specs.facts.Whole.{IsWhole}
use Rattle.machine_laws.proofs.Expansions.{home_in}
use Rattle.machine_laws.proofs.NamesRows.{each-row}

-- ---- tests

pub or-false : (a b : Bool) → (a || b) ≡ false → (a ≡ false) × (b ≡ false)
or-false true b h = absurd (false≢true (sym h))
or-false false b h = (refl, h)

some-from : {X : Type 0} (o : Option X) → is_none o ≡ false → is_some o ≡ true
some-from None h = absurd (false≢true (sym h))
some-from (Some x) h = refl

none-not_some : {X : Type 0} (o : Option X) → o ≡ None → is_some o ≡ true → ⊥
none-not_some o is there = false≢true (sym (ap is_some is) ∙ there)

-- ---- a judged instance is a row or a claim

pub data IsJudgedAs (s : State) (i : Instance) : Type 0 where
  as_row : Mem i s.instances → IsJudgedAs s i
  as_claim : (o : Operation Task) → Mem o s.operations.live → claimed_instance o.work ≡ Some i → o.work.claim ≡ Some (row.Instance i) → IsJudgedAs s i

-- the claim is the instance
pub claim-is : (task : Task) (i : Instance) → claimed_instance task ≡ Some i → task.claim ≡ Some (row.Instance i)
claim-is task i is = at task.claim refl is where
  at : (claim : Option Row) → task.claim ≡ claim → claimed_instance (record task { claim = claim }) ≡ Some i → task.claim ≡ Some (row.Instance i)
  at None e h = absurd (cc)
  at (Some (row.Project r)) e h = absurd (cc)
  at (Some (row.Profile r)) e h = absurd (cc)
  at (Some (row.Network r)) e h = absurd (cc)
  at (Some (row.Pool r)) e h = absurd (cc)
  at (Some (row.Volume r)) e h = absurd (cc)
  at (Some (row.Instance j)) e h = let one : j ≡ i = cc in e ∙ ap (λ x. Some (row.Instance x)) one
  at (Some (row.Snapshot r)) e h = absurd (cc)

pub judged-as : (s : State) (i : Instance) → Mem i (judged_instances s) → IsJudgedAs s i
unfolding judged_instances
judged-as s i m = at (Mem-append i s.instances (of_live claimed_instance s) m) where
  at : Mem i s.instances ⊎ Mem i (of_live claimed_instance s) → IsJudgedAs s i
  at (inl there) = as_row there
  at (inr claimed) = let found = Mem-from_read (λ (o : Operation Task). claimed_instance o.work) i s.operations.live claimed in
      as_claim found.0 found.1.0 found.1.1 (claim-is found.0.work i found.1.1)

pub row-judged : (s : State) (i : Instance) → Mem i s.instances → Mem i (judged_instances s)
unfolding judged_instances
row-judged s i m = Mem-left i s.instances (of_live claimed_instance s) m

-- ---- its project

pub judged-home : (s : State) (i : Instance) → IsWhole s → Mem i (judged_instances s) → is_some (project_named s.projects i.project) ≡ true
judged-home s i h m = at (judged-as s i m) where
  at : IsJudgedAs s i → is_some (project_named s.projects i.project) ≡ true
  at (as_row there) = some-from (project_named s.projects i.project)
      (or-false (is_none (project_named s.projects i.project)) _ (told_if _ rule.N1 ((each-row s h.references.homes).instances.at i there))).0
  at (as_claim o live claimed is) =
      let placed = h.references.operations.at o live in
      ap (λ p. is_some (project_named s.projects p)) (placed.claim_project (row.Instance i) is) ∙ placed.project

pub default-there : (s : State) → IsWhole s → is_some (project_named s.projects default_name) ≡ true
default-there s h = at (project_named s.projects default_name) h.defaults.project where
  at : (o : Option Project) → option_map has_all_features o ≡ Some true → is_some o ≡ true
  at None e = absurd (cc)
  at (Some p) e = refl

-- no instance and no operation is in a project that is not occupied
empty-parts : (s : State) (name : List ℕ) → is_occupied s name ≡ false
    → (list_any (λ (r : Instance). bytes_eq r.project name) s.instances ≡ false) × (list_any (λ (o : Operation Task). bytes_eq o.work.project name) s.operations.live ≡ false)
empty-parts s name empty = parts
    (list_any (λ (r : Instance). bytes_eq r.project name) s.instances) (list_any (λ (r : Network). bytes_eq r.project name) s.networks)
    (list_any (λ (r : Volume). bytes_eq r.project name) s.volumes) (list_any (λ (r : Profile). bytes_eq r.project name && not (bytes_eq r.name default_name)) s.profiles)
    (list_any (λ (o : Operation Task). bytes_eq o.work.project name) s.operations.live) empty where
      parts : (a b c d e : Bool) → (a || b || c || d || e) ≡ false → (a ≡ false) × (e ≡ false)
      parts true b c d e h = absurd (false≢true (sym h))
      parts false true c d e h = absurd (false≢true (sym h))
      parts false false true d e h = absurd (false≢true (sym h))
      parts false false false true e h = absurd (false≢true (sym h))
      parts false false false false e h = (refl, h)

pub unoccupied : (s : State) (name : List ℕ) (i : Instance) → IsWhole s → is_occupied s name ≡ false → Mem i (judged_instances s) → i.project ≢ name
unoccupied s name i h empty m in_it = at (judged-as s i m) where
  at : IsJudgedAs s i → ⊥
  at (as_row there) =
      false≢true (sym ((any-none (λ (r : Instance). bytes_eq r.project name) s.instances (empty-parts s name empty).0).at i there)
      ∙ ap (λ n. bytes_eq n name) in_it ∙ bytes_eq-itself name)
  at (as_claim o live claimed is) =
      false≢true (sym ((any-none (λ (x : Operation Task). bytes_eq x.work.project name) s.operations.live (empty-parts s name empty).1).at o live)
      ∙ ap (λ n. bytes_eq n name) (sym ((h.references.operations.at o live).claim_project (row.Instance i) is) ∙ in_it) ∙ bytes_eq-itself name)

-- and in none that is not there
pub not-missing : (s : State) (name : List ℕ) (i : Instance) → IsWhole s → project_named s.projects name ≡ None → Mem i (judged_instances s) → i.project ≢ name
not-missing s name i h gone m in_it = none-not_some (project_named s.projects name) gone (ap (λ n. is_some (project_named s.projects n)) (sym in_it) ∙ judged-home s i h m)

pub not-default : (s : State) (name : List ℕ) → IsWhole s → project_named s.projects name ≡ None → default_name ≢ name
not-default s name h gone is = none-not_some (project_named s.projects name) gone (ap (λ n. is_some (project_named s.projects n)) (sym is) ∙ default-there s h)

-- ---- its profiles

-- a profile that a judged instance names is there
pub named-there : (s : State) (i : Instance) (home profile : List ℕ) → IsWhole s → Mem i (judged_instances s) → names_profile s home profile i ≡ true
    → is_some (profile_named s.profiles home profile) ≡ true
unfolding profile_missing
named-there s i home profile h m names =
    let parts = both_true (bytes_eq (home_in s i) home) (list_any (λ name. bytes_eq name profile) i.profiles) names in
    let one = any-some (λ name. bytes_eq name profile) i.profiles parts.1 in
    let refers = (h.references.instances.at i m).profiles in
    let there = (find-none (λ name. is_none (profile_named s.profiles (home_in s i) name)) i.profiles (not_mapped _ _ refers)).at one.0 one.1.0 in
    ap (λ p. is_some (profile_named s.profiles p profile)) (sym (same (home_in s i) home parts.0))
    ∙ ap (λ n. is_some (profile_named s.profiles (home_in s i) n)) (sym (same one.0 profile one.1.1))
    ∙ some-from (profile_named s.profiles (home_in s i) one.0) there

-- no operation holds the profile
pub unheld : (s : State) (home profile : List ℕ) (o : Operation Task) (i : Instance) → holder_of s home profile ≡ None → Mem o s.operations.live
    → Mem i (claim_rows s o.work) → names_profile s home profile i ≡ false
unfolding holder_of
unheld s home profile o i none live m =
    (any-none (names_profile s home profile) (claim_rows s o.work)
    ((find-none (λ (x : Operation Task). list_any (names_profile s home profile) (claim_rows s x.work)) s.operations.live none).at o live)).at i m

-- nobody names the profile
pub unnamed : (s : State) (r : Profile) (i : Instance) → first_user_of s r.project (target_of (row.Profile r)) ≡ None → holder_of s r.project r.name ≡ None
    → Mem i (judged_instances s) → names_profile s r.project r.name i ≡ false
unfolding first_user_of
unnamed s r i unused none m = at (judged-as s i m) where
  url : (b : Bool) (x : Row) → user_url b x ≡ None → b ≡ false
  url true x h = absurd (cc)
  url false x h = refl

  at : IsJudgedAs s i → names_profile s r.project r.name i ≡ false
  at (as_row there) = url (names_profile s r.project r.name i) (row.Instance i)
      ((first_of-none (λ (j : Instance). user_url (names_profile s r.project r.name j) (row.Instance j)) s.instances unused).at i there)
  at (as_claim o live claimed is) = unheld s r.project r.name o i none live
      (subst (λ c. Mem i (option_to_list c ++ option_to_list (replaced_instance s o.work))) (sym claimed) (inl refl))
