-- What a command with its settings and devices in order plans to put is in order too.
use Rattle.std.proofs.Common.{◌≡◌, ℕ, Bool, true, false, cond, ◌==◌, length, Option, Some, None, List, [], ◌∷◌, ◌++◌, map, refl, subst}
use Rattle.std.specs.Prelude.{codes}
use Rattle.std.specs.Option.{option_map, option_map_or, option_to_list}
use Rattle.plain_lists.specs.Members.{Each}
use Rattle.plain_lists.proofs.Elements.{Each-none, Each-cons}
use Rattle.plain_lists.proofs.Searches.{find-some}
use Rattle.size_values.specs.declared.kinds.ObjectKind.{ObjectKind}
use Rattle.size_values.specs.declared.kinds.ObjectKind.TheVariants as kind
use Rattle.records.specs.declared.commands.Body.{Body}
use Rattle.records.specs.declared.commands.Origin.{Origin}
use Rattle.records.specs.declared.commands.Origin.TheVariants as origin
use Rattle.records.specs.declared.commands.Command.{Command}
use Rattle.records.specs.declared.commands.Target.{Target}
use Rattle.records.specs.declared.commands.What.{What}
use Rattle.records.specs.declared.commands.What.TheVariants as what
use Rattle.records.specs.declared.rows.Project.{Project}
use Rattle.records.specs.declared.rows.Profile.{Profile}
use Rattle.records.specs.declared.rows.Instance.{Instance}
use Rattle.records.specs.declared.rows.Snapshot.{Snapshot}
use Rattle.records.specs.declared.rows.Row.{Row}
use Rattle.records.specs.declared.rows.Row.TheVariants as row
use Rattle.row_machine.specs.machine.State.{State}
use Rattle.row_machine.specs.machine.Rows.{default_name, is_profile, is_instance, is_snapshot, project_named, profile_named, network_named, pool_named, volume_named, instance_named, snapshot_named}
use Rattle.row_machine.specs.machine.Homes.{home_of, is_on}
use Rattle.row_machine.specs.machine.Asked.{with_name}
use Rattle.row_machine.specs.machine.Changes.{rows_put}
use Rattle.row_machine.specs.machine.NewRows as new
use Rattle.row_machine.specs.machine.Plans.{Plan, nothing, changes, starts, plan_of, if_there, put_all, moved_row, project_creation, project_change, project_rename, project_deletion, own_profile, volume_creation, instance_creation, plan_create, plan_put, plan_patch, plan_move, plan_delete, row_of}
use Rattle.machine_laws.specs.Sorted.{IsSortedBody, IsSortedRequest, IsSortedRow}
use Rattle.machine_laws.proofs.NamesRows.{EachRow}
use Rattle.machine_laws.proofs.NamesApplied.{removals-none}
use Rattle.machine_laws.proofs.SortedRows.{sorted-default, sorted-made_profile, sorted-put_profile, sorted-patched_profile, sorted-made_instance, sorted-copied_instance, sorted-put_instance, sorted-patched_instance, sorted-restored, sorted-snapshot}

-- what a plan puts, at once or at its success
abbrev pub PutsSorted : Plan → Type 0
PutsSorted nothing = Unit {0}
PutsSorted (changes cs) = Each IsSortedRow (rows_put cs)
PutsSorted (starts task) = (r : Row) → task.claim ≡ Some r → IsSortedRow r

-- one row that is put
one : {r : Row} → IsSortedRow r → Each IsSortedRow (r ∷ [])
one h = Each-cons IsSortedRow h Each-none

-- a claim of a task that has none, and of one that has this one
claims-none : {X : Type 0} {r : Row} → None ≡ Some r → X
claims-none e = cc

claims-one : (r : Row) → IsSortedRow r → (x : Row) → Some r ≡ Some x → IsSortedRow x
claims-one r h x e = subst IsSortedRow (some-is e) h where
  some-is : {a b : Row} → Some a ≡ Some b → a ≡ b
  some-is same = cc

-- of an object that is there, with what is known of it
there : {X : Type 0} (P : X → Type 0) (plan : X → Plan) (o : Option X) → ((x : X) → o ≡ Some x → P x) → ((x : X) → P x → PutsSorted (plan x)) → PutsSorted (if_there plan o)
there P plan None known puts = tt
there P plan (Some x) known puts = puts x (known x refl)

either : (b : Bool) (p q : Plan) → PutsSorted p → PutsSorted q → PutsSorted (cond b p q)
either true p q left right = left
either false p q left right = right

-- of a row that is there
of-row : {X : Type 0} (P : X → Type 0) (r : X → Row) (plan : Row → Plan) (o : Option X) → ((x : X) → o ≡ Some x → P x) → ((x : X) → P x → PutsSorted (plan (r x)))
    → PutsSorted (if_there plan (option_map r o))
of-row P r plan None known puts = tt
of-row P r plan (Some x) known puts = puts x (known x refl)

-- nothing is known
any : {X : Type 0} {o : Option X} (x : X) → o ≡ Some x → Unit {0}
any x e = tt

module _ (s : State) (h : EachRow IsSortedRow s) where
  of-profile : (project name : List ℕ) (r : Profile) → profile_named s.profiles project name ≡ Some r → IsSortedRow (row.Profile r)
  of-profile project name r e = h.profiles.at r (find-some (is_profile project name) s.profiles r e).0

  of-instance : (project name : List ℕ) (i : Instance) → instance_named s.instances project name ≡ Some i → IsSortedRow (row.Instance i)
  of-instance project name i e = h.instances.at i (find-some (is_instance project name) s.instances i e).0

  of-snapshot : (project instance name : List ℕ) (r : Snapshot) → snapshot_named s.snapshots project instance name ≡ Some r → IsSortedRow (row.Snapshot r)
  of-snapshot project instance name r e = h.snapshots.at r (find-some (is_snapshot project instance name) s.snapshots r e).0

  -- ---- projects, with their profiles

  creation : (r : Project) → Each IsSortedRow (rows_put (project_creation r))
  creation r = by (is_on r.config (codes "features.profiles")) where
    by : (b : Bool) → Each IsSortedRow (rows_put (cond b (put_all (row.Project r ∷ row.Profile (new.default_profile r.name) ∷ [])) (put_all (row.Project r ∷ []))))
    by true = Each-cons IsSortedRow tt (one (sorted-default r.name))
    by false = one tt

  changed : (old r : Project) → Each IsSortedRow (rows_put (project_change old r))
  changed old r = by (is_on old.config (codes "features.profiles")) (is_on r.config (codes "features.profiles")) refl refl where
    by : (a b : Bool) → is_on old.config (codes "features.profiles") ≡ a → is_on r.config (codes "features.profiles") ≡ b → Each IsSortedRow (rows_put (project_change old r))
    by true true was now = rw (was, now) (one tt)
    by true false was now = rw (was, now) (one tt)
    by false true was now = rw (was, now) (Each-cons IsSortedRow tt (one (sorted-default r.name)))
    by false false was now = rw (was, now) (one tt)

  renamed : (to : List ℕ) (r : Project) → Each IsSortedRow (rows_put (project_rename s to r))
  renamed to r = by (own_profile s r) refl where
    by : (o : Option Profile) → own_profile s r ≡ o
        → Each IsSortedRow (rows_put (moved_row (row.Project r) (row.Project (record r { name = to }))
        ++ option_map_or (λ p. moved_row (row.Profile p) (row.Profile (record p { project = to }))) o []))
    by None is = one tt
    by (Some p) is = let known = of-profile r.name default_name p is in Each-cons IsSortedRow tt (one (record { config = known.config; devices = known.devices }))

  deleted : (r : Project) → Each IsSortedRow (rows_put (project_deletion s r))
  deleted r = removals-none (row.Project r ∷ map row.Profile (option_to_list (own_profile s r)))

  -- ---- creations

  creates : (project : List ℕ) (k : ObjectKind) (pool instance name : List ℕ) (body : Body) (moment : ℕ) → IsSortedBody body
      → PutsSorted (plan_create s project (record { kind = k; pool = pool; instance = instance; name = name }) body moment)
  creates project kind.Project pool instance name body moment b = creation (new.made_project name body)
  creates project kind.Profile pool instance name body moment b = one (sorted-made_profile (home_of s.projects project kind.Profile) name body b)
  creates project kind.Network pool instance name body moment b = one tt
  creates project kind.Pool pool instance name body moment b = one tt
  creates project kind.Volume pool instance name body moment b = volume body.origin where
    of : Target
    of = record { kind = kind.Volume; pool = pool; instance = instance; name = name }

    volume : (o : Origin) → PutsSorted (volume_creation s (home_of s.projects project kind.Volume) of body moment o)
    volume origin.None = one tt
    volume (origin.Image alias) = one tt
    volume (origin.Copy from snapshot from_pool) =
        there (λ v. Unit {0}) _ (volume_named s.volumes (home_of s.projects project kind.Volume) from_pool from) (λ v e. tt) (λ v known. claims-one _ tt)
  creates project kind.Instance pool instance name body moment b = from body.origin where
    of : Target
    of = record { kind = kind.Instance; pool = pool; instance = instance; name = name }

    from : (o : Origin) → PutsSorted (instance_creation s project of body moment o)
    from origin.None = claims-one _ (sorted-made_instance project name body moment b)
    from (origin.Image alias) = claims-one _ (sorted-made_instance project name body moment b)
    from (origin.Copy from_name snapshot from_pool) =
        there (λ i. IsSortedRow (row.Instance i)) _ (instance_named s.instances project from_name) (of-instance project from_name) (λ i known.
        either (length snapshot == 0) _ _
        (claims-one _ (sorted-copied_instance project name body moment (new.source_instance i) b known.config known.devices))
        (there (λ r. IsSortedRow (row.Snapshot r)) _ (snapshot_named s.snapshots project from_name snapshot) (of-snapshot project from_name snapshot)
        (λ r kept. claims-one _ (sorted-copied_instance project name body moment (new.source_snapshot i r) b kept.config kept.devices))))
  creates project kind.Snapshot pool instance name body moment b =
      there (λ i. IsSortedRow (row.Instance i)) _ (instance_named s.instances project instance) (of-instance project instance) (λ i known. claims-one _ (sorted-snapshot i (with_name s project (record { kind = kind.Snapshot; pool = pool; instance = instance; name = name })).name moment known))
  creates project kind.Operation pool instance name body moment b = tt

  -- ---- PUT and PATCH

  puts : (project : List ℕ) (k : ObjectKind) (pool instance name : List ℕ) (body : Body) → IsSortedBody body
      → PutsSorted (if_there (plan_put s project (record { kind = k; pool = pool; instance = instance; name = name }) body) (row_of s project (record { kind = k; pool = pool; instance = instance; name = name })))
  puts project kind.Project pool instance name body b = of-row (λ r. Unit {0}) row.Project _ (project_named s.projects name) any (λ r known. changed r (new.put_project r body))
  puts project kind.Profile pool instance name body b =
      of-row (λ r. Unit {0}) row.Profile _ (profile_named s.profiles (home_of s.projects project kind.Profile) name) any (λ r known. one (sorted-put_profile r body b))
  puts project kind.Network pool instance name body b = of-row (λ r. Unit {0}) row.Network _ (network_named s.networks (home_of s.projects project kind.Network) name) any (λ r known. one tt)
  puts project kind.Pool pool instance name body b = of-row (λ r. Unit {0}) row.Pool _ (pool_named s.pools name) any (λ r known. one tt)
  puts project kind.Volume pool instance name body b =
      of-row (λ r. Unit {0}) row.Volume _ (volume_named s.volumes (home_of s.projects project kind.Volume) pool name) any (λ r known. one tt)
  puts project kind.Instance pool instance name body b =
      of-row (λ i. Unit {0}) row.Instance _ (instance_named s.instances project name) any (λ i known. claims-one _ (sorted-put_instance i body b))
  puts project kind.Snapshot pool instance name body b = of-row (λ r. Unit {0}) row.Snapshot _ (snapshot_named s.snapshots project instance name) any (λ r known. tt)
  puts project kind.Operation pool instance name body b = tt

  patches : (project : List ℕ) (k : ObjectKind) (pool instance name : List ℕ) (body : Body) → IsSortedBody body
      → PutsSorted (if_there (plan_patch body) (row_of s project (record { kind = k; pool = pool; instance = instance; name = name })))
  patches project kind.Project pool instance name body b = of-row (λ r. Unit {0}) row.Project _ (project_named s.projects name) any (λ r known. changed r (new.patched_project r body))
  patches project kind.Profile pool instance name body b =
      of-row (λ r. IsSortedRow (row.Profile r)) row.Profile _ (profile_named s.profiles (home_of s.projects project kind.Profile) name)
      (of-profile (home_of s.projects project kind.Profile) name) (λ r known. one (sorted-patched_profile r body b known))
  patches project kind.Network pool instance name body b = of-row (λ r. Unit {0}) row.Network _ (network_named s.networks (home_of s.projects project kind.Network) name) any (λ r known. one tt)
  patches project kind.Pool pool instance name body b = of-row (λ r. Unit {0}) row.Pool _ (pool_named s.pools name) any (λ r known. one tt)
  patches project kind.Volume pool instance name body b =
      of-row (λ r. Unit {0}) row.Volume _ (volume_named s.volumes (home_of s.projects project kind.Volume) pool name) any (λ r known. one tt)
  patches project kind.Instance pool instance name body b =
      of-row (λ i. IsSortedRow (row.Instance i)) row.Instance _ (instance_named s.instances project name) (of-instance project name) (λ i known. one (sorted-patched_instance i body b known))
  patches project kind.Snapshot pool instance name body b = of-row (λ r. Unit {0}) row.Snapshot _ (snapshot_named s.snapshots project instance name) any (λ r known. tt)
  patches project kind.Operation pool instance name body b = tt

  -- ---- renames and deletions

  moves : (project : List ℕ) (k : ObjectKind) (pool instance name to : List ℕ)
      → PutsSorted (if_there (plan_move s project (record { kind = k; pool = pool; instance = instance; name = name }) to) (row_of s project (record { kind = k; pool = pool; instance = instance; name = name })))
  moves project kind.Project pool instance name to = of-row (λ r. Unit {0}) row.Project _ (project_named s.projects name) any (λ r known. renamed to r)
  moves project kind.Profile pool instance name to =
      of-row (λ r. IsSortedRow (row.Profile r)) row.Profile _ (profile_named s.profiles (home_of s.projects project kind.Profile) name)
      (of-profile (home_of s.projects project kind.Profile) name) (λ r known. one (record { config = known.config; devices = known.devices }))
  moves project kind.Network pool instance name to = of-row (λ r. Unit {0}) row.Network _ (network_named s.networks (home_of s.projects project kind.Network) name) any (λ r known. one tt)
  moves project kind.Pool pool instance name to = of-row (λ r. Unit {0}) row.Pool _ (pool_named s.pools name) any (λ r known. tt)
  moves project kind.Volume pool instance name to =
      of-row (λ r. Unit {0}) row.Volume _ (volume_named s.volumes (home_of s.projects project kind.Volume) pool name) any (λ r known. one tt)
  moves project kind.Instance pool instance name to =
      of-row (λ i. IsSortedRow (row.Instance i)) row.Instance _ (instance_named s.instances project name) (of-instance project name)
      (λ i known. claims-one (row.Instance (record i { name = to })) (record { config = known.config; devices = known.devices }))
  moves project kind.Snapshot pool instance name to = of-row (λ r. Unit {0}) row.Snapshot _ (snapshot_named s.snapshots project instance name) any (λ r known. tt)
  moves project kind.Operation pool instance name to = tt

  removes : (project : List ℕ) (k : ObjectKind) (pool instance name : List ℕ)
      → PutsSorted (if_there (plan_delete s project (record { kind = k; pool = pool; instance = instance; name = name })) (row_of s project (record { kind = k; pool = pool; instance = instance; name = name })))
  removes project kind.Project pool instance name = of-row (λ r. Unit {0}) row.Project _ (project_named s.projects name) any (λ r known. deleted r)
  removes project kind.Profile pool instance name =
      of-row (λ r. Unit {0}) row.Profile _ (profile_named s.profiles (home_of s.projects project kind.Profile) name) any (λ r known. Each-none)
  removes project kind.Network pool instance name =
      of-row (λ r. Unit {0}) row.Network _ (network_named s.networks (home_of s.projects project kind.Network) name) any (λ r known. Each-none)
  removes project kind.Pool pool instance name = of-row (λ r. Unit {0}) row.Pool _ (pool_named s.pools name) any (λ r known. Each-none)
  removes project kind.Volume pool instance name =
      of-row (λ r. Unit {0}) row.Volume _ (volume_named s.volumes (home_of s.projects project kind.Volume) pool name) any (λ r known. Each-none)
  removes project kind.Instance pool instance name = of-row (λ i. Unit {0}) row.Instance _ (instance_named s.instances project name) any (λ i known r e. claims-none e)
  removes project kind.Snapshot pool instance name =
      of-row (λ r. Unit {0}) row.Snapshot _ (snapshot_named s.snapshots project instance name) any (λ r known x e. claims-none e)
  removes project kind.Operation pool instance name = tt

  -- ---- by command

  by-what : (project : List ℕ) (expects : Option (List ℕ)) (w : What) (moment : ℕ) → IsSortedRequest w → PutsSorted (plan_of s (record { project = project; what = w; expects = expects }) moment)
  unfolding plan_of
  by-what project expects (what.Create of body) moment b = creates project of.kind of.pool of.instance of.name body moment b
  by-what project expects (what.Put of body) moment b = puts project of.kind of.pool of.instance of.name body b
  by-what project expects (what.Patch of body) moment b = patches project of.kind of.pool of.instance of.name body b
  by-what project expects (what.Move of to) moment b = moves project of.kind of.pool of.instance of.name to
  by-what project expects (what.Delete of) moment b = removes project of.kind of.pool of.instance of.name
  by-what project expects (what.Act of action) moment b = there (λ i. Unit {0}) _ (instance_named s.instances project of.name) any (λ i known r e. claims-none e)
  by-what project expects (what.Restore of snapshot) moment b =
      there (λ i. Unit {0}) _ (instance_named s.instances project of.name) any (λ i known.
      there (λ r. IsSortedRow (row.Snapshot r)) _ (snapshot_named s.snapshots project of.name snapshot) (of-snapshot project of.name snapshot)
      (λ r kept. claims-one _ (sorted-restored i r kept)))
  by-what project expects what.Root moment b = tt
  by-what project expects what.Server moment b = tt
  by-what project expects (what.List of recursion) moment b = tt
  by-what project expects (what.Get of) moment b = tt
  by-what project expects (what.State of) moment b = tt
  by-what project expects (what.GetOp op) moment b = tt
  by-what project expects (what.Cancel op) moment b = tt
  by-what project expects (what.Wait op timeout) moment b = tt

  pub plan-sorted : (c : Command) (moment : ℕ) → IsSortedRequest c.what → PutsSorted (plan_of s c moment)
  plan-sorted c moment b = by-what c.project c.expects c.what moment b
