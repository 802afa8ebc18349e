-- Two live operations keep different instances busy, and what one puts or removes is not what the other replaces.
use Rattle.std.proofs.Common.{◌≡◌, ℕ, ◌+◌, ◌≤◌, ◌&&◌, ◌||◌, Bool, true, false, cond, Some, None, List, [], ◌∷◌, ◌++◌, ◌⊎◌, length, refl, sym, ◌∙◌, ap, subst, arith, inl, inr}
use Rattle.std.specs.Prelude.{map, filter, is_some}
use Rattle.std.specs.Option.{option_map_or}
use Rattle.std.specs.Str.{bytes_eq}
use Rattle.std.proofs.lemmas.Bool.{false≢true}
use Rattle.plain_lists.specs.Members.{Mem}
use Rattle.plain_lists.specs.Puts.{Puts}
use Rattle.plain_lists.specs.Puts.Puts.{here, later}
use Rattle.plain_lists.specs.Edits.{dropped}
use Rattle.plain_lists.proofs.Elements.{Mem-left, Mem-right, Mem-map}
use Rattle.plain_lists.proofs.Keys.{Distinct-apart}
use Rattle.plain_lists.proofs.Readings.{Mem-read}
use Rattle.plain_lists.proofs.EditLemmas.{dropped-Puts}
use Rattle.config_lists.proofs.Keys.{same, bytes_eq-itself}
use Rattle.size_values.specs.declared.kinds.Deed.{Deed}
use Rattle.size_values.specs.declared.kinds.Deed.TheVariants as deed
use Rattle.size_values.specs.declared.kinds.ObjectKind.TheVariants as kind
use Rattle.operations.specs.declared.operation.Operation.{Operation}
use Rattle.operations.specs.OperationTable.{has_number, live_at}
use Rattle.records.specs.declared.rows.Instance.{Instance}
use Rattle.records.specs.declared.rows.Profile.{Profile}
use Rattle.records.specs.declared.rows.Row.{Row}
use Rattle.records.specs.declared.rows.Row.TheVariants as row
use Rattle.row_codec.specs.Rows.{HasGoodKey}
use Rattle.row_codec.specs.Spelling.{two_names}
use Rattle.row_codec.proofs.Fields.{both_true}
use Rattle.row_codec.proofs.Names.{two_again}
use Rattle.row_machine.specs.machine.Task.{Task}
use Rattle.row_machine.specs.machine.State.{State}
use Rattle.row_machine.specs.machine.Rows.{is_instance, instance_named, instance_names}
use Rattle.row_machine.specs.machine.Changes.{has_key}
use Rattle.row_machine.specs.opening.Records.{rows_of}
use Rattle.row_machine.specs.machine.Claims.{of_live}
use Rattle.row_machine.specs.machine.Holders.{keeps_busy, is_about}
use Rattle.row_machine.specs.facts.Whole.{IsWhole, IsByDeed, IsPlaced, instance_there, new_instance, claims_of}
use Rattle.row_machine.specs.machine.Deeds.{replaces_target, target_kind, has_target}

-- ---- lists

filter-Puts : {X : Type 0} (p : X → Bool) {x : X} {xs ys : List X} → Puts x xs ys → p x ≡ true → length (filter p ys) ≡ length (filter p xs) + 1
filter-Puts p {x} (here {rest = xs}) is =
    let e : length (filter p (x ∷ xs)) ≡ length (x ∷ filter p xs) = ap (λ b. length (cond b (x ∷ filter p xs) (filter p xs))) is in
    omega (arith, e)
filter-Puts {X} p (later {other = y} {rest = xs} {whole = ys} q) is = at (p y) (filter-Puts p q is) where
  at : (b : Bool) → length (filter p ys) ≡ length (filter p xs) + 1 → length (cond b (y ∷ filter p ys) (filter p ys)) ≡ length (cond b (y ∷ filter p xs) (filter p xs)) + 1
  at true more = omega (arith, more)
  at false more = more

filter-mem : {X : Type 0} (p : X → Bool) (x : X) (xs : List X) → Mem x xs → p x ≡ true → 1 ≤ length (filter p xs)
filter-mem p x [] m is = absurd m
filter-mem {X} p x (y ∷ ys) m is = at (p y) refl m (λ n. filter-mem p x ys n is) where
  at : (b : Bool) → p y ≡ b → Mem x (y ∷ ys) → (Mem x ys → 1 ≤ length (filter p ys)) → 1 ≤ length (cond b (y ∷ filter p ys) (filter p ys))
  at true e n more = omega arith
  at false e (inl q) more = absurd (false≢true (sym e ∙ sym (ap p q) ∙ is))
  at false e (inr n) more = more n

-- ---- the rows of a kind are rows

pub instance-row : (s : State) (i : Instance) → Mem i s.instances → Mem (row.Instance i) (rows_of s ++ claims_of s)
instance-row s i m =
    Mem-left (row.Instance i) (rows_of s) (claims_of s)
    (Mem-left (row.Instance i) (before ++ map row.Instance s.instances) (map row.Snapshot s.snapshots)
    (Mem-right (row.Instance i) before (map row.Instance s.instances) (Mem-map row.Instance i s.instances m))) where
      before : List Row
      before = map row.Project s.projects ++ map row.Profile s.profiles ++ map row.Network s.networks ++ map row.Pool s.pools ++ map row.Volume s.volumes

pub profile-row : (s : State) (r : Profile) → Mem r s.profiles → Mem (row.Profile r) (rows_of s ++ claims_of s)
profile-row s r m =
    Mem-left (row.Profile r) (rows_of s) (claims_of s)
    (Mem-left (row.Profile r) (map row.Project s.projects ++ map row.Profile s.profiles ++ map row.Network s.networks ++ map row.Pool s.pools ++ map row.Volume s.volumes ++ map row.Instance s.instances) (map row.Snapshot s.snapshots)
    (Mem-left (row.Profile r) (map row.Project s.projects ++ map row.Profile s.profiles ++ map row.Network s.networks ++ map row.Pool s.pools ++ map row.Volume s.volumes) (map row.Instance s.instances)
    (Mem-left (row.Profile r) (map row.Project s.projects ++ map row.Profile s.profiles ++ map row.Network s.networks ++ map row.Pool s.pools) (map row.Volume s.volumes)
    (Mem-left (row.Profile r) (map row.Project s.projects ++ map row.Profile s.profiles ++ map row.Network s.networks) (map row.Pool s.pools)
    (Mem-left (row.Profile r) (map row.Project s.projects ++ map row.Profile s.profiles) (map row.Network s.networks)
    (Mem-right (row.Profile r) (map row.Project s.projects) (map row.Profile s.profiles) (Mem-map row.Profile r s.profiles m)))))))

-- ---- names of instances

pub instance-so : (project name : List ℕ) (i : Instance) → is_instance project name i ≡ true → (i.project ≡ project) × (i.name ≡ name)
instance-so project name i h =
    let parts = both_true (bytes_eq i.project project) (bytes_eq i.name name) h in
    (same i.project project parts.0, same i.name name parts.1)

pub instance-key : (x y : Instance) → HasGoodKey (row.Instance x) → HasGoodKey (row.Instance y) → has_key (two_names x.project x.name) (row.Instance y) ≡ true
    → (y.project ≡ x.project) × (y.name ≡ x.name)
instance-key x y good_x good_y h =
    let keys = same (two_names y.project y.name) (two_names x.project x.name) h in
    let of_y = two_again kind.Project kind.Instance y.project y.name good_y.0 good_y.1 in
    let of_x = two_again kind.Project kind.Instance x.project x.name good_x.0 good_x.1 in
    let pair : (y.project, y.name) ≡ (x.project, x.name) = cc in
    (ap (λ (z : List ℕ × List ℕ). z.0) pair, ap (λ (z : List ℕ × List ℕ). z.1) pair)

-- ---- what an operation replaces

-- the target of an operation that replaces an instance
pub record Replaces (s : State) (task : Task) : Type 0 where
  pub names : task.replaces ≡ Some (task.project, task.target.name)
  pub about : keeps_busy task.project task.target.name task ≡ true
  pub there : is_some (instance_named s.instances task.project task.target.name) ≡ true

-- an operation with an instance as its target keeps it busy
pub about-target : (task : Task) → task.target.kind ≡ kind.Instance → keeps_busy task.project task.target.name task ≡ true
about-target task is =
    ap (λ b. b && (is_about task.target.name task.target || option_map_or (is_about task.target.name) task.source false)) (bytes_eq-itself task.project)
    ∙ ap (λ b. b || option_map_or (is_about task.target.name) task.source false) itself where
      itself : is_about task.target.name task.target ≡ true
      itself = subst (λ k. is_about task.target.name (record task.target { kind = k }) ≡ true) (sym is) (bytes_eq-itself task.target.name)

pub replaces-or_not : (s : State) (task : Task) → IsByDeed task → IsPlaced s task → Replaces s task ⊎ (task.replaces ≡ None)
replaces-or_not s task deeds placed = at task.deed refl where
  replaces : (d : Deed) → task.deed ≡ d → replaces_target d ≡ true → target_kind d ≡ kind.Instance → has_target d ≡ true → Replaces s task
  replaces d is does of there = record {
    names = deeds.replaces ∙ ap (λ e. cond (replaces_target e) (Some (task.project, task.target.name)) None) is ∙ ap (λ b. cond b (Some (task.project, task.target.name)) None) does;
    about = about-target task instance;
    there = subst (λ k. instance_there s task.project (record task.target { kind = k })) instance (placed.target (ap has_target is ∙ there));
  } where
    instance : task.target.kind ≡ kind.Instance
    instance = deeds.target ∙ ap target_kind is ∙ of

  not : (d : Deed) → task.deed ≡ d → replaces_target d ≡ false → Replaces s task ⊎ (task.replaces ≡ None)
  not d is does = inr (deeds.replaces ∙ ap (λ e. cond (replaces_target e) (Some (task.project, task.target.name)) None) is
      ∙ ap (λ b. cond b (Some (task.project, task.target.name)) None) does)

  at : (d : Deed) → task.deed ≡ d → Replaces s task ⊎ (task.replaces ≡ None)
  at deed.Create is = not deed.Create is refl
  at deed.Copy is = not deed.Copy is refl
  at deed.Update is = inl (replaces deed.Update is refl refl refl)
  at deed.Restore is = inl (replaces deed.Restore is refl refl refl)
  at deed.Rename is = inl (replaces deed.Rename is refl refl refl)
  at deed.Delete is = not deed.Delete is refl
  at (deed.Act a e) is = not (deed.Act a e) is refl
  at deed.Snap is = not deed.Snap is refl
  at deed.Unsnap is = not deed.Unsnap is refl
  at deed.CopyVolume is = not deed.CopyVolume is refl

-- ---- two live operations

module _ (s : State) (o x : Operation Task) (h : IsWhole s) (live : live_at s.operations o.number ≡ Some o)
    (other : Mem x (dropped (has_number o.number) s.operations.live)) where
  -- no instance is kept busy by both
  pub not-both_busy : (project name : List ℕ) → keeps_busy project name o.work ≡ true → keeps_busy project name x.work ≡ true → ⊥
  not-both_busy project name by_o by_x =
      let put = dropped-Puts (has_number o.number) o s.operations.live live in
      let two = filter-Puts (λ (y : Operation Task). keeps_busy project name y.work) put by_o in
      let one = filter-mem (λ (y : Operation Task). keeps_busy project name y.work) x (dropped (has_number o.number) s.operations.live) other by_x in
      let most = h.operations.busy project name in
      let never : 2 ≤ 1 = omega (arith, two, one, most) in
      absurd (omega (arith, never))

  -- what x replaces is not the target of o
  pub not-target : o.work.target.kind ≡ kind.Instance → Replaces s x.work → (x.work.project ≡ o.work.project) × (x.work.target.name ≡ o.work.target.name) → ⊥
  not-target of replaces names = not-both_busy x.work.project x.work.target.name
      (subst (λ p. keeps_busy p x.work.target.name o.work ≡ true) (sym names.0)
      (subst (λ n. keeps_busy o.work.project n o.work ≡ true) (sym names.1) (about-target o.work of)))
      replaces.about

-- a new instance that a live operation claims is no row
pub new-no_row : (s : State) (o : Operation Task) (i j : Instance) → IsWhole s → Mem o s.operations.live → new_instance o.work ≡ Some i → Mem j s.instances
    → (i.project ≡ j.project) × (i.name ≡ j.name) → ⊥
new-no_row s o i j h m new there names =
    ((Distinct-apart instance_names s.instances (of_live new_instance s) h.names.new_instances).at j there).at i
    (Mem-read (λ (x : Operation Task). new_instance x.work) o i s.operations.live m new)
    (ap (λ p. p ∷ i.name ∷ []) names.0 ∙ ap (λ n. j.project ∷ n ∷ []) names.1)
