-- Each operation that begins stands where it should: its project, its target, its source and its claim.
use Rattle.std.proofs.Common.{◌≡◌, ℕ, true, Option, Some, None, List, [], ◌∷◌, refl, sym, ap, subst, ◌∙◌}
use Rattle.std.specs.Option.{option_map_or, unwrap_or, is_some}
use Rattle.plain_lists.specs.Members.{Mem}
use Rattle.plain_lists.proofs.Elements.{Each-left}
use Rattle.plain_lists.proofs.Searches.{find-some}
use Rattle.size_values.specs.declared.kinds.ObjectKind.TheVariants as kind
use Rattle.records.specs.Forms.{are_profiles}
use Rattle.records.specs.declared.rows.Instance.{Instance}
use Rattle.records.specs.declared.rows.Snapshot.{Snapshot}
use Rattle.records.specs.declared.rows.Row.{Row}
use Rattle.records.specs.declared.rows.Row.TheVariants as row
use Rattle.records.specs.declared.commands.Target.{Target}
use Rattle.row_machine.specs.machine.Task.{Task}
use Rattle.row_machine.specs.machine.State.{State}
use Rattle.row_machine.specs.machine.Rows.{default_name, is_instance, is_snapshot, project_named, pool_named, volume_named, snapshot_named}
use Rattle.row_machine.specs.machine.Homes.{home_of}
use Rattle.row_machine.specs.machine.Claims.{of_live, project_of_row, claimed_instance, claimed_snapshot}
use Rattle.row_machine.specs.shown.Urls.{target_of}
use Rattle.row_machine.specs.machine.NewRows.{copied_volume}
use Rattle.row_machine.specs.machine.NameRules.{is_there}
use Rattle.row_machine.specs.opening.Opening.{home_missing}
use Rattle.row_machine.specs.facts.Whole.{IsPlaced, IsRenamed, ReferencesExist, instance_there}
use Rattle.row_machine.specs.machine.Deeds.{has_target}
use Rattle.machine_laws.proofs.Cases.{Begins, IsIdle, volume_target}
use Rattle.machine_laws.proofs.Cases.Begins.{creates, copies_instance, copies_snapshot, copies_volume, updates, restores, renames, deletes, acts, snaps, unsnaps}
use Rattle.machine_laws.proofs.Found.{some-is}
use Rattle.machine_laws.proofs.ReferencesHomes.{IsAtHome, at-home}
use Rattle.machine_laws.proofs.ReferencesGuests.{rows-refers}
use Rattle.machine_laws.proofs.ReferencesVolumes.{volume-home}

-- ---- what a claimed row stands in

record FitsClaim (s : State) (of : List ℕ) (r : Row) : Type 0 where
  project : project_of_row r ≡ of
  home : home_missing s r ≡ None
  pool : (target_of r).kind ≡ kind.Volume → is_some (pool_named s.pools (target_of r).pool) ≡ true
  instance : (target_of r).kind ≡ kind.Snapshot → instance_there s of (target_of r)

pub guest_home : (s : State) (project : List ℕ) → is_some (project_named s.projects project) ≡ true
    → IsAtHome s.projects project kind.Instance × IsAtHome s.projects project kind.Snapshot
unfolding home_of
guest_home s project there = (record { there = there; own = refl }, record { there = there; own = refl })

fits_instance : (s : State) (project : List ℕ) (i : Instance) → is_some (project_named s.projects project) ≡ true
    → i.project ≡ project → FitsClaim s project (row.Instance i)
fits_instance s project i there same = record {
  project = same;
  home =
      at-home s.projects i.project kind.Instance
      (subst (λ p. IsAtHome s.projects p kind.Instance) (sym same) (guest_home s project there).0);
  pool = λ e. absurd (cc);
  instance = λ e. absurd (cc);
}

-- what an operation needs besides its claim, whose row is known
placed_by : (s : State) (task : Task) (r : Row) → task.claim ≡ Some r
    → is_some (project_named s.projects task.project) ≡ true
    → (has_target task.deed ≡ true → instance_there s task.project task.target)
    → ((of : Target) → task.source ≡ Some of → is_there s task.project of ≡ true)
    → FitsClaim s task.project r → IsRenamed s task → IsPlaced s task
placed_by s task r claim project target source fits renamed = record {
  project = project;
  target = target;
  source = source;
  claim_project = λ x is. (all x is).project;
  claim_home = λ x is. (all x is).home;
  pool = λ x is. (all x is).pool;
  instance = λ x is. (all x is).instance;
  renamed = renamed;
} where
  all : (x : Row) → task.claim ≡ Some x → FitsClaim s task.project x
  all x is = subst (FitsClaim s task.project) (some-is (sym claim ∙ is)) fits

-- and one that claims nothing
placed_without : (s : State) (task : Task) → task.claim ≡ None
    → is_some (project_named s.projects task.project) ≡ true
    → (has_target task.deed ≡ true → instance_there s task.project task.target)
    → ((of : Target) → task.source ≡ Some of → is_there s task.project of ≡ true) → IsRenamed s task → IsPlaced s task
placed_without s task claim project target source renamed = record {
  project = project;
  target = target;
  source = source;
  claim_project = λ x is. absurd (none x is);
  claim_home = λ x is. absurd (none x is);
  pool = λ x is. absurd (none x is);
  instance = λ x is. absurd (none x is);
  renamed = renamed;
} where
  none : (x : Row) → task.claim ≡ Some x → ⊥
  none x is = let e : None ≡ Some x = sym claim ∙ is in cc

found_there : {X : Type 0} {o : Option X} {x : X} → o ≡ Some x → is_some o ≡ true
found_there e = ap is_some e

no_source : (s : State) (project : List ℕ) (of : Target) → None ≡ Some of → is_there s project of ≡ true
no_source s project of e = cc

one_source : (s : State) (project : List ℕ) (from of : Target) → is_there s project from ≡ true → Some from ≡ Some of
    → is_there s project of ≡ true
one_source s project from of there e = subst (λ x. is_there s project x ≡ true) (some-is e) there

-- ---- by deed

pub begins-placed : {s : State} {task : Task} → ReferencesExist s → Begins s task → IsPlaced s task
begins-placed {s} h (creates project name body moment there new few early) =
    placed_by s _ _ refl there (λ has. absurd (cc)) (no_source s project) (fits_instance s project _ there refl) tt
begins-placed {s} h (copies_instance name body moment i idle new few early) =
    placed_by s _ _ refl idle.project (λ has. absurd (cc))
    (λ of. one_source s i.project _ of (found_there idle.there)) (fits_instance s i.project _ idle.project refl)
    tt
begins-placed {s} h (copies_snapshot name body moment i r idle found new few early) =
    placed_by s _ _ refl idle.project (λ has. absurd (cc)) (λ of. one_source s i.project _ of (found_there found))
    (fits_instance s i.project _ idle.project refl) tt
begins-placed {s} h (copies_volume pool name body moment v home found from there new early) =
    placed_by s _ _ refl home.there (λ has. absurd (cc))
    (λ of. one_source s v.project _ of (ap (λ p. is_some (volume_named s.volumes p v.pool v.name)) home.own ∙ found_there found))
    (record { project = refl; home = volume-home s (copied_volume v.project (volume_target pool name) body moment v) v.project home refl; pool = λ e. there; instance = λ e. absurd (cc) })
    tt
begins-placed {s} h (updates old i idle alike) =
    placed_by s _ _ refl idle.project (λ has. found_there idle.there) (no_source s old.project)
    (fits_instance s old.project i idle.project alike.project) tt
begins-placed {s} h (restores i r idle allowed found) =
    placed_by s _ _ refl idle.project (λ has. found_there idle.there) (no_source s i.project)
    (fits_instance s i.project _ idle.project refl) tt
begins-placed {s} h (renames i to idle allowed new) =
    placed_by s _ _ refl idle.project (λ has. found_there idle.there) (no_source s i.project)
    (fits_instance s i.project _ idle.project refl) (sym idle.there)
begins-placed {s} h (deletes i idle allowed) =
    placed_without s _ refl idle.project (λ has. found_there idle.there) (no_source s i.project) tt
begins-placed {s} h (acts action i idle allowed) =
    placed_without s _ refl idle.project (λ has. found_there idle.there) (no_source s i.project) tt
begins-placed {s} h (snaps name moment i idle allowed new early) =
    placed_by s _ _ refl idle.project (λ has. found_there idle.there) (no_source s i.project)
    (record {
      project = refl;
      home = at-home s.projects i.project kind.Snapshot (guest_home s i.project idle.project).1;
      pool = λ e. absurd (cc);
      instance = λ e. found_there idle.there;
    }) tt
begins-placed {s} h (unsnaps i r idle found) =
    placed_without s _ refl idle.project (λ has. found_there idle.there) (no_source s i.project) tt

-- ---- the profiles of what is claimed

idle_row : {s : State} {i : Instance} → IsIdle s i → Mem i s.instances
idle_row {s} {i} idle = (find-some (is_instance i.project i.name) s.instances i idle.there).0

few_given : (given : Option (List (List ℕ))) (own : List (List ℕ)) → option_map_or are_profiles given true ≡ true
    → are_profiles own ≡ true → are_profiles (unwrap_or given own) ≡ true
few_given None own some_few own_few = own_few
few_given (Some ps) own some_few own_few = some_few

snapshot_few : {s : State} {r : Snapshot} (project instance : List ℕ) → ReferencesExist s
    → snapshot_named s.snapshots project instance r.name ≡ Some r → are_profiles r.profiles ≡ true
snapshot_few {s} {r} project instance h found =
    (Each-left (of_live claimed_snapshot s) h.snapshot_profiles).at r
    (find-some (is_snapshot project instance r.name) s.snapshots r found).0

-- the claim is the instance that a deed makes
claim_few : {x y : Instance} → Some x ≡ Some y → are_profiles x.profiles ≡ true → are_profiles y.profiles ≡ true
claim_few e few = subst (λ (i : Instance). are_profiles i.profiles ≡ true) (some-is e) few

pub begins-few : {s : State} {task : Task} → ReferencesExist s → Begins s task → (i : Instance)
    → claimed_instance task ≡ Some i → are_profiles i.profiles ≡ true
begins-few {s} h (creates project name body moment there new few early) i is =
    claim_few is (few_given body.profiles (default_name ∷ []) few refl)
begins-few {s} h (copies_instance name body moment x idle new few early) i is =
    claim_few is (few_given body.profiles x.profiles few ((rows-refers s h).at x (idle_row idle)).few)
begins-few {s} h (copies_snapshot name body moment x r idle found new few early) i is =
    claim_few is (few_given body.profiles r.profiles few (snapshot_few x.project x.name h found))
begins-few {s} h (copies_volume pool name body moment v home found from there new early) i is = cc
begins-few {s} h (updates old x idle alike) i is = claim_few is alike.profiles
begins-few {s} h (restores x r idle allowed found) i is = claim_few is (snapshot_few x.project x.name h found)
begins-few {s} h (renames x to idle allowed new) i is = claim_few is ((rows-refers s h).at x (idle_row idle)).few
begins-few {s} h (deletes x idle allowed) i is = cc
begins-few {s} h (acts action x idle allowed) i is = cc
begins-few {s} h (snaps name moment x idle allowed new early) i is = cc
begins-few {s} h (unsnaps x r idle found) i is = cc

pub begins-snapshot : {s : State} {task : Task} → ReferencesExist s → Begins s task → (r : Snapshot)
    → claimed_snapshot task ≡ Some r → are_profiles r.profiles ≡ true
begins-snapshot {s} h (snaps name moment x idle allowed new early) r is =
    subst (λ (y : Snapshot). are_profiles y.profiles ≡ true) (some-is is) ((rows-refers s h).at x (idle_row idle)).few
begins-snapshot h (creates project name body moment there new few early) r is = cc
begins-snapshot h (copies_instance name body moment x idle new few early) r is = cc
begins-snapshot h (copies_snapshot name body moment x y idle found new few early) r is = cc
begins-snapshot h (copies_volume pool name body moment v home found from there new early) r is = cc
begins-snapshot h (updates old x idle alike) r is = cc
begins-snapshot h (restores x y idle allowed found) r is = cc
begins-snapshot h (renames x to idle allowed new) r is = cc
begins-snapshot h (deletes x idle allowed) r is = cc
begins-snapshot h (acts action x idle allowed) r is = cc
begins-snapshot h (unsnaps x y idle found) r is = cc
