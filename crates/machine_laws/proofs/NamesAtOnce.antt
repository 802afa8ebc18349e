-- The rows that changes at once put may be put.
use Rattle.std.proofs.Common.{◌≡◌, ◌≢◌, ℕ, ◌<◌, Bool, true, false, cond, Option, Some, None, List, [], ◌∷◌, ◌++◌, map, refl, sym, subst}
use Rattle.std.specs.Prelude.{codes}
use Rattle.std.specs.Option.{option_map_or, option_to_list}
use Rattle.plain_lists.specs.Members.{Mem, Each}
use Rattle.plain_lists.proofs.Elements.{Each-none, Each-cons, Each-right}
use Rattle.plain_lists.proofs.Keys.{Distinct-apart}
use Rattle.plain_lists.proofs.Searches.{find-some}
use Rattle.estate_rules.specs.Names.{is_object_name}
use Rattle.size_values.specs.Moments.{moment_limit}
use Rattle.size_values.specs.declared.kinds.ObjectKind.TheVariants as kind
use Rattle.records.specs.declared.rows.Project.{Project}
use Rattle.records.specs.declared.rows.Profile.{Profile}
use Rattle.records.specs.declared.rows.Volume.{Volume}
use Rattle.records.specs.declared.rows.Instance.{Instance}
use Rattle.records.specs.declared.rows.Row.{Row}
use Rattle.records.specs.declared.rows.Row.TheVariants as row
use Rattle.row_codec.specs.Rows.{IsGood, HasGoodKey, HasMoments}
use Rattle.row_machine.specs.declared.changes.RowChange.{RowChange}
use Rattle.row_machine.specs.machine.State.{State}
use Rattle.row_machine.specs.machine.Rows.{default_name, is_project, is_profile, is_network, is_pool, is_volume, instance_names, volume_names}
use Rattle.row_machine.specs.machine.Homes.{is_on}
use Rattle.row_machine.specs.machine.Changes.{rows_put, removal}
use Rattle.row_machine.specs.machine.Claims.{of_live, claimed_volume}
use Rattle.row_machine.specs.machine.NewRows.{default_profile}
use Rattle.row_machine.specs.machine.Plans.{put_all, moved_row, project_creation, project_change, project_rename, project_deletion, own_profile}
use Rattle.row_machine.specs.facts.Whole.{AreNamed, new_instance}
use Rattle.machine_laws.proofs.Cases.{AtOnce}
use Rattle.machine_laws.proofs.Cases.AtOnce.{makes_project, changes_project, renames_project, deletes_project, makes_profile, changes_profile, renames_profile, deletes_profile, makes_network, changes_network, renames_network, deletes_network, makes_pool, changes_pool, deletes_pool, makes_volume, changes_volume, renames_volume, deletes_volume, changes_instance}
use Rattle.machine_laws.proofs.NamesPut.{IsUnclaimed}
use Rattle.machine_laws.proofs.NamesApplied.{IsReady}
use Rattle.machine_laws.proofs.NamesNew.{fresh-volume}
use Rattle.machine_laws.proofs.NamesBegin.{good_rows, row_moments, good-project, good-pool, idle-there}

-- the name `default` is a good one
pub default_good : IsGood kind.Profile default_name
unfolding is_object_name
default_good = refl

pub one-put : (s : State) (r : Row) → HasGoodKey r → HasMoments r → IsUnclaimed s.operations r → Each (IsReady s.operations) (r ∷ [])
one-put s r good timely free = Each-cons (IsReady s.operations) (record { good = good; timely = timely; free = free }) Each-none

-- what the live operations claim is under other names than a volume that is there
taken-volume : (s : State) (v : Volume) → AreNamed s → Mem v s.volumes → Each (λ y. volume_names y ≢ volume_names v) (of_live claimed_volume s)
taken-volume s v h m = (Distinct-apart volume_names s.volumes (of_live claimed_volume s) h.new_volumes).at v m

taken-instance : (s : State) (i : Instance) → AreNamed s → Mem i s.instances → Each (λ y. instance_names y ≢ instance_names i) (of_live new_instance s)
taken-instance s i h m = (Distinct-apart instance_names s.instances (of_live new_instance s) h.new_instances).at i m

-- ---- projects

project-made : (s : State) (r : Project) → IsGood kind.Project r.name → Each (IsReady s.operations) (rows_put (project_creation r))
project-made s r good = at (is_on r.config (codes "features.profiles")) where
  own : IsReady s.operations (row.Profile (default_profile r.name))
  own = record { good = (good, default_good); timely = tt; free = tt }

  at : (b : Bool) → Each (IsReady s.operations)
      (rows_put (cond b (put_all (row.Project r ∷ row.Profile (default_profile r.name) ∷ [])) (put_all (row.Project r ∷ []))))
  at true = Each-cons (IsReady s.operations) (record { good = good; timely = tt; free = tt }) (Each-cons (IsReady s.operations) own Each-none)
  at false = one-put s (row.Project r) good tt tt

project-changed : (s : State) (old r : Project) → IsGood kind.Project r.name → Each (IsReady s.operations) (rows_put (project_change old r))
project-changed s old r good = at (is_on old.config (codes "features.profiles")) refl (is_on r.config (codes "features.profiles")) refl where
  itself : IsReady s.operations (row.Project r)
  itself = record { good = good; timely = tt; free = tt }

  own : IsReady s.operations (row.Profile (default_profile r.name))
  own = record { good = (good, default_good); timely = tt; free = tt }

  at : (b : Bool) → is_on old.config (codes "features.profiles") ≡ b → (d : Bool) → is_on r.config (codes "features.profiles") ≡ d
      → Each (IsReady s.operations) (rows_put (project_change old r))
  at true was true now = rw (was, now) (one-put s (row.Project r) good tt tt)
  at true was false now = rw (was, now) (one-put s (row.Project r) good tt tt)
  at false was true now = rw (was, now) (Each-cons (IsReady s.operations) itself (Each-cons (IsReady s.operations) own Each-none))
  at false was false now = rw (was, now) (one-put s (row.Project r) good tt tt)

project-renamed : (s : State) (old : Project) (to : List ℕ) → AreNamed s → IsGood kind.Project to → Each (IsReady s.operations) (rows_put (project_rename s to old))
project-renamed s old to h good = at (own_profile s old) refl where
  itself : IsReady s.operations (row.Project (record old { name = to }))
  itself = record { good = good; timely = tt; free = tt }

  at : (o : Option Profile) → own_profile s old ≡ o → Each (IsReady s.operations)
      (rows_put (moved_row (row.Project old) (row.Project (record old { name = to }))
      ++ option_map_or (λ p. moved_row (row.Profile p) (row.Profile (record p { project = to }))) o []))
  at None is = one-put s (row.Project (record old { name = to })) good tt tt
  at (Some p) is =
      let there = find-some (is_profile old.name default_name) s.profiles p is in
      Each-cons (IsReady s.operations) itself
      (one-put s (row.Profile (record p { project = to })) (good, ((good_rows s h).profiles.at p there.0).1) tt tt)

project-gone : (s : State) (old : Project) → Each (IsReady s.operations) (rows_put (project_deletion s old))
project-gone s old = at (own_profile s old) where
  at : (o : Option Profile) → Each (IsReady s.operations) (rows_put (map removal (row.Project old ∷ map row.Profile (option_to_list o))))
  at None = Each-none
  at (Some p) = Each-none

-- ---- by form

pub puts-ready : (s : State) (cs : List RowChange) → AreNamed s → AtOnce s cs → Each (IsReady s.operations) (rows_put cs)
puts-ready s cs h (makes_project r good free) = project-made s r good
puts-ready s cs h (changes_project old r found named features) =
    project-changed s old r
    (subst (IsGood kind.Project) (sym named) ((good_rows s h).projects.at old (find-some (is_project old.name) s.projects old found).0))
puts-ready s cs h (renames_project old to found other empty good free) = project-renamed s old to h good
puts-ready s cs h (deletes_project old found other empty) = project-gone s old
puts-ready s cs h (makes_profile r home new) = one-put s (row.Profile r) (good-project s r.project h home.there, new.good) tt tt
puts-ready s cs h (changes_profile old r home found project name free) =
    let good = (good_rows s h).profiles.at old (find-some (is_profile old.project old.name) s.profiles old found).0 in
    one-put s (row.Profile r) (subst (IsGood kind.Project) (sym project) good.0, subst (IsGood kind.Profile) (sym name) good.1) tt tt
puts-ready s cs h (renames_profile old to home found other unused free new) =
    one-put s (row.Profile (record old { name = to })) (good-project s old.project h home.there, new.good) tt tt
puts-ready s cs h (deletes_profile old home found other unused free) = Each-none
puts-ready s cs h (makes_network r home new) = one-put s (row.Network r) (good-project s r.project h home.there, new.good) tt tt
puts-ready s cs h (changes_network old r home found project name) =
    let good = (good_rows s h).networks.at old (find-some (is_network old.project old.name) s.networks old found).0 in
    one-put s (row.Network r) (subst (IsGood kind.Project) (sym project) good.0, subst (IsGood kind.Network) (sym name) good.1) tt tt
puts-ready s cs h (renames_network old to home found unused new) =
    one-put s (row.Network (record old { name = to })) (good-project s old.project h home.there, new.good) tt tt
puts-ready s cs h (deletes_network old home found unused) = Each-none
puts-ready s cs h (makes_pool home r new) = one-put s (row.Pool r) new.good tt tt
puts-ready s cs h (changes_pool old r found name) =
    one-put s (row.Pool r) (subst (IsGood kind.Pool) (sym name) ((good_rows s h).pools.at old (find-some (is_pool old.name) s.pools old found).0)) tt tt
puts-ready s cs h (deletes_pool home old found unused) = Each-none
puts-ready s cs h (makes_volume r home pool new early) =
    one-put s (row.Volume r) (good-project s r.project h home.there, good-pool s r.pool h pool, new.good) early
    (Each-right s.volumes (fresh-volume s r.project r.pool r.name new))
puts-ready s cs h (changes_volume old r home found project pool name created) =
    let there = (find-some (is_volume old.project old.pool old.name) s.volumes old found).0 in
    let good = (good_rows s h).volumes.at old there in
    let names : volume_names r ≡ volume_names old = λ j. project j ∷ pool j ∷ name j ∷ [] in
    one-put s (row.Volume r)
    (subst (IsGood kind.Project) (sym project) good.0, subst (IsGood kind.Pool) (sym pool) good.1, subst (IsGood kind.Volume) (sym name) good.2)
    (subst (λ m. m < moment_limit) (sym created) ((row_moments s h).volumes.at old there))
    (subst (λ n. Each (λ y. volume_names y ≢ n) (of_live claimed_volume s)) (sym names) (taken-volume s old h there))
puts-ready s cs h (renames_volume old to home found unused new) =
    let there = (find-some (is_volume old.project old.pool old.name) s.volumes old found).0 in
    let good = (good_rows s h).volumes.at old there in
    one-put s (row.Volume (record old { name = to })) (good.0, good.1, new.good) ((row_moments s h).volumes.at old there)
    (Each-right s.volumes (fresh-volume s old.project old.pool to new))
puts-ready s cs h (deletes_volume old home found unused) = Each-none
puts-ready s cs h (changes_instance old i idle alike) =
    let there = idle-there s old idle in
    let good = (good_rows s h).instances.at old there in
    let names : instance_names i ≡ instance_names old = λ j. alike.project j ∷ alike.name j ∷ [] in
    one-put s (row.Instance i)
    (subst (IsGood kind.Project) (sym alike.project) good.0, subst (IsGood kind.Instance) (sym alike.name) good.1)
    (subst (λ m. m < moment_limit) (sym alike.created) ((row_moments s h).instances.at old there))
    (subst (λ n. Each (λ y. instance_names y ≢ n) (of_live new_instance s)) (sym names) (taken-instance s old h there))
