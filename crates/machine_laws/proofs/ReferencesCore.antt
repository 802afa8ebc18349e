-- What the references of a state are read from: its rows, and what its live operations are about.
use Rattle.std.proofs.Common.{◌≡◌, Option, List, [], refl, sym, ◌∙◌, ap, subst}
use Rattle.std.specs.List.{filter_map}
use Rattle.plain_lists.specs.Members.{Mem, Each}
use Rattle.plain_lists.proofs.Elements.{Each-map, Each-append, Each-left, Each-right}
use Rattle.plain_lists.proofs.Readings.{Mem-read, Mem-from_read}
use Rattle.operations.specs.declared.operation.Operation.{Operation}
use Rattle.operations.specs.OperationTable.{no_operations}
use Rattle.records.specs.declared.rows.Instance.{Instance}
use Rattle.row_machine.specs.machine.Task.{Task}
use Rattle.row_machine.specs.machine.State.{State, empty_state}
use Rattle.row_machine.specs.machine.Claims.{of_live, claimed_instance, claimed_snapshot, judged_instances}
use Rattle.row_machine.specs.machine.SettingRules.{profile_missing, devices_miss}
use Rattle.row_machine.specs.facts.Whole.{HasReferences, IsPlaced, ReferencesExist}

-- ---- rows and live operations alone

-- the rows of a state, with these live operations
abbrev pub bare : State → List (Operation Task) → State
bare s live = record empty_state {
  projects = s.projects;
  profiles = s.profiles;
  networks = s.networks;
  pools = s.pools;
  volumes = s.volumes;
  instances = s.instances;
  snapshots = s.snapshots;
  operations = record no_operations { live = live };
}

-- the rows of a state, with its own live operations
abbrev pub core : State → State
core s = bare s s.operations.live

-- ---- what one instance and one operation need is read from the rows

refers-bare : {s : State} {i : Instance} → HasReferences s i → HasReferences (bare s []) i
unfolding profile_missing devices_miss
refers-bare h = record { few = h.few; profiles = h.profiles; devices = h.devices }

bare-refers : {s : State} {i : Instance} → HasReferences (bare s []) i → HasReferences s i
unfolding profile_missing devices_miss
bare-refers h = record { few = h.few; profiles = h.profiles; devices = h.devices }

pub refers-rows : (s t : State) (i : Instance) → bare t [] ≡ bare s [] → HasReferences s i → HasReferences t i
refers-rows s t i same h = bare-refers (subst (λ x. HasReferences x i) (sym same) (refers-bare h))

placed-bare : {s : State} {task : Task} → IsPlaced s task → IsPlaced (bare s []) task
placed-bare h = record {
  project = h.project;
  target = h.target;
  source = h.source;
  claim_project = h.claim_project;
  claim_home = h.claim_home;
  pool = h.pool;
  instance = h.instance;
  renamed = h.renamed;
}

bare-placed : {s : State} {task : Task} → IsPlaced (bare s []) task → IsPlaced s task
bare-placed h = record {
  project = h.project;
  target = h.target;
  source = h.source;
  claim_project = h.claim_project;
  claim_home = h.claim_home;
  pool = h.pool;
  instance = h.instance;
  renamed = h.renamed;
}

pub placed-rows : (s t : State) (task : Task) → bare t [] ≡ bare s [] → IsPlaced s task → IsPlaced t task
placed-rows s t task same h = bare-placed (subst (λ x. IsPlaced x task) (sym same) (placed-bare h))

-- ---- operations that are about the same

-- the same task, but for its calls
abbrev pub IsSameTask : Task → Task → Type 0
IsSameTask a b = b ≡ record a { calls = b.calls; undo = b.undo; done = b.done }

-- each later operation is an earlier one, but for its calls
pub record AreOf (live later : List (Operation Task)) : Type 0 where
  pub at : (o : Operation Task) → Mem o later → (x : Operation Task) × (Mem x live × IsSameTask x.work o.work)

pub AreOf-itself : {live : List (Operation Task)} → AreOf live live
AreOf-itself = record { at = λ o m. (o, (m, refl)) }

pub AreOf-both : {a b c : List (Operation Task)} → AreOf a b → AreOf b c → AreOf a c
AreOf-both f g = record {
  at = λ o m.
      let later = g.at o m in
      let first = f.at later.0 later.1.0 in
      (first.0, (first.1.0, same_both first.0.work later.0.work o.work first.1.1 later.1.1));
} where
  same_both : (x y z : Task) → IsSameTask x y → IsSameTask y z → IsSameTask x z
  same_both x y z f g = g ∙ ap (λ (w : Task). record w { calls = z.calls; undo = z.undo; done = z.done }) f

placed-work : (s : State) (a b : Task) → IsSameTask a b → IsPlaced s a → IsPlaced s b
placed-work s a b same h = subst (IsPlaced s) (sym same) (going h) where
  going : IsPlaced s a → IsPlaced s (record a { calls = b.calls; undo = b.undo; done = b.done })
  going h = record {
    project = h.project;
    target = h.target;
    source = h.source;
    claim_project = h.claim_project;
    claim_home = h.claim_home;
    pool = h.pool;
    instance = h.instance;
    renamed = h.renamed;
  }

-- what each claim meets, each claim of the later operations meets
claims-of : {X : Type 0} (read : Task → Option X)
    → ((task later : Task) → IsSameTask task later → read later ≡ read task)
    → {P : X → Type 0} {live later : List (Operation Task)} → AreOf live later
    → Each P (filter_map (λ o. read o.work) live) → Each P (filter_map (λ o. read o.work) later)
claims-of {X} read keeps {P} {live} {later} of e = record {
  at = λ x m.
      let found = Mem-from_read (λ (o : Operation Task). read o.work) x later m in
      let first = of.at found.0 found.1.0 in
      e.at x (Mem-read (λ (o : Operation Task). read o.work) first.0 x live first.1.0
      (sym (keeps first.0.work found.0.work first.1.1) ∙ found.1.1));
}

-- ---- the references of a state

-- with fewer live operations
fewer-references : {s : State} {live : List (Operation Task)} → AreOf s.operations.live live → ReferencesExist s
    → ReferencesExist (bare s live)
unfolding judged_instances devices_miss
fewer-references {s} {live} of h = record {
  homes = h.homes;
  volumes = h.volumes;
  snapshots = h.snapshots;
  snapshot_profiles = Each-append (Each-left (of_live claimed_snapshot s) h.snapshot_profiles)
      (claims-of claimed_snapshot (λ a b same. ap claimed_snapshot same) of (Each-right s.snapshots h.snapshot_profiles));
  profiles = h.profiles;
  instances = Each-map (λ i. refers-rows s (bare s live) i refl)
      (Each-append (Each-left (of_live claimed_instance s) h.instances)
      (claims-of claimed_instance (λ a b same. ap claimed_instance same) of (Each-right s.instances h.instances)));
  operations = record {
    at = λ o m.
        let first = of.at o m in
        placed-rows s (bare s live) o.work refl
        (placed-work s first.0.work o.work first.1.1 (h.operations.at first.0 first.1.0));
  };
}

core-references : {t : State} → ReferencesExist (core t) → ReferencesExist t
unfolding judged_instances devices_miss
core-references {t} h = record {
  homes = h.homes;
  volumes = h.volumes;
  snapshots = h.snapshots;
  snapshot_profiles = h.snapshot_profiles;
  profiles = h.profiles;
  instances = Each-map (λ i. refers-rows (core t) t i refl) h.instances;
  operations = Each-map (λ o. placed-rows (core t) t o.work refl) h.operations;
}

-- References stay where the rows stay and the live operations are some of those that were there.
pub references-fewer : (s t : State) → bare t [] ≡ bare s [] → AreOf s.operations.live t.operations.live → ReferencesExist s
    → ReferencesExist t
references-fewer s t same of h =
    core-references (subst ReferencesExist (ap (λ x. bare x t.operations.live) (sym same)) (fewer-references of h))

-- References are read from rows and live operations alone.
pub references-core : (s t : State) → core t ≡ core s → ReferencesExist s → ReferencesExist t
references-core s t same = references-fewer s t (ap (λ x. bare x []) same)
    (subst (AreOf s.operations.live) (sym (ap (λ (x : State). x.operations.live) same)) AreOf-itself)
