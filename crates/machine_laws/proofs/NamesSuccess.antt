-- Names after an operation succeeded: what its claim's row and the rows that follow it are named.
use Rattle.std.proofs.Common.{◌≡◌, ◌≢◌, ℕ, Bool, true, false, cond, Option, Some, None, List, [], ◌∷◌, ◌++◌, map, refl, sym, ap, subst, ◌∙◌, inl, inr}
use Rattle.std.specs.Prelude.{filter}
use Rattle.std.specs.Prelude.{IfSome}
use Rattle.std.specs.Option.{option_to_list, is_some}
use Rattle.plain_lists.specs.Members.{Mem, Each, Distinct}
use Rattle.plain_lists.specs.Puts.{Puts}
use Rattle.plain_lists.proofs.Elements.{Each-none, Each-cons, Each-right}
use Rattle.plain_lists.proofs.Keys.{Distinct-apart}
use Rattle.plain_lists.proofs.PutsLemmas.{Mem-puts}
use Rattle.plain_lists.proofs.Readings.{Mem-read, Mem-from_read}
use Rattle.plain_lists.proofs.Searches.{find-some}
use Rattle.size_values.specs.declared.kinds.Deed.TheVariants as deed
use Rattle.size_values.specs.declared.kinds.ObjectKind.TheVariants as kind
use Rattle.operations.specs.declared.operation.Operation.{Operation}
use Rattle.operations.specs.OperationTable.{OperationTable}
use Rattle.records.specs.declared.rows.Instance.{Instance}
use Rattle.records.specs.declared.rows.Snapshot.{Snapshot}
use Rattle.records.specs.declared.rows.Row.{Row}
use Rattle.records.specs.declared.rows.Row.TheVariants as row
use Rattle.records.specs.declared.commands.Target.{Target}
use Rattle.row_codec.specs.Rows.{HasGoodKey, HasMoments}
use Rattle.row_machine.specs.declared.changes.RowChange.TheVariants as change
use Rattle.row_machine.specs.machine.Task.{Task}
use Rattle.row_machine.specs.machine.State.{State}
use Rattle.row_machine.specs.machine.Rows.{instance_named, is_instance, volume_names, instance_names, snapshot_names}
use Rattle.row_machine.specs.machine.Changes.{rows_put}
use Rattle.row_machine.specs.machine.Claims.{of_live, claimed_volume, claimed_instance, claimed_snapshot}
use Rattle.row_machine.specs.shown.Urls.{target_of}
use Rattle.row_machine.specs.opening.Records.{rows_of}
use Rattle.row_machine.specs.facts.Whole.{IsWhole, IsByDeed, IsPlaced, claims_of, new_instance, instance_there}
use Rattle.row_machine.specs.machine.Deeds.{keeps_name}
use Rattle.machine_laws.proofs.NamesTests.{instance_is}
use Rattle.machine_laws.proofs.NamesPut.{IsUnclaimed}
use Rattle.machine_laws.proofs.NamesLive.{read_of, unclaimed-fewer}
use Rattle.machine_laws.proofs.NamesApplied.{IsReady, puts-each}

-- ---- what is there

pub some_there : {X : Type 0} (o : Option X) → is_some o ≡ true → (x : X) × (o ≡ Some x)
some_there None h = cc
some_there (Some x) h = (x, refl)

-- an instance that is there is in the list, under these names
pub instance-there : (rows : List Instance) (project name : List ℕ) → is_some (instance_named rows project name) ≡ true
    → (z : Instance) × (Mem z rows × (instance_names z ≡ project ∷ name ∷ []))
instance-there rows project name h =
    let found = some_there (instance_named rows project name) h in
    let there = find-some (is_instance project name) rows found.0 found.1 in
    (found.0, (there.0, instance_is project name found.0 there.1))

-- the instance of an update's or a restore's target is there
target-there : (s : State) (project : List ℕ) (of : Target) → of.kind ≡ kind.Instance → instance_there s project of → is_some (instance_named s.instances project of.name) ≡ true
target-there s project of is h = subst (λ k. instance_there s project (record of { kind = k })) is h

-- the instance of a snapshot's target is there
snapshot-there : (s : State) (project : List ℕ) (r : Snapshot) → instance_there s project (target_of (row.Snapshot r)) → is_some (instance_named s.instances project r.instance) ≡ true
snapshot-there s project r h = h

-- ---- the snapshots that go with a renamed instance

-- no live operation claims a snapshot of an instance that is not there
pub no-snapshot : (s : State) (project name : List ℕ) → Each (λ o. IsPlaced s o.work) s.operations.live
    → Each (λ z. instance_names z ≢ project ∷ name ∷ []) s.instances
    → Each (λ y. y.project ∷ y.instance ∷ [] ≢ project ∷ name ∷ []) (of_live claimed_snapshot s)
no-snapshot s project name placed fresh = record { at = λ y m. by y (Mem-from_read (λ (o : Operation Task). claimed_snapshot o.work) y s.operations.live m) } where
  claims : (task : Task) (y : Snapshot) → claimed_snapshot task ≡ Some y → task.claim ≡ Some (row.Snapshot y)
  claims task y is = at task.claim is where
    at : (claim : Option Row) → claimed_snapshot (record task { claim = claim }) ≡ Some y → claim ≡ Some (row.Snapshot y)
    at None e = cc
    at (Some (row.Snapshot r)) e = let same : r ≡ y = cc in ap (λ x. Some (row.Snapshot x)) same
    at (Some (row.Project r)) e = cc
    at (Some (row.Profile r)) e = cc
    at (Some (row.Network r)) e = cc
    at (Some (row.Pool r)) e = cc
    at (Some (row.Volume r)) e = cc
    at (Some (row.Instance r)) e = cc

  by : (y : Snapshot) → (o : Operation Task) × (Mem o s.operations.live × (claimed_snapshot o.work ≡ Some y)) → y.project ∷ y.instance ∷ [] ≢ project ∷ name ∷ []
  by y found same =
      let o = found.0 in
      let place = placed.at o found.1.0 in
      let claim = claims o.work y found.1.1 in
      let home : y.project ≡ o.work.project = place.claim_project (row.Snapshot y) claim in
      let there = instance-there s.instances o.work.project y.instance (snapshot-there s o.work.project y (place.instance (row.Snapshot y) claim refl)) in
      fresh.at there.0 there.1.0 (there.1.1 ∙ ap (λ p. p ∷ y.instance ∷ []) (sym home) ∙ same)

-- ---- what is known of an operation that ends

-- the others are those of k; what the operation claims is good, and none of the others claims it
pub record IsEnding (s : State) (k : OperationTable Task) (task : Task) : Type 0 where
  pub good : (r : Row) → task.claim ≡ Some r → HasGoodKey r
  pub timely : (r : Row) → task.claim ≡ Some r → HasMoments r
  pub volume : IfSome (claimed_volume task) (λ v. Each (λ y. volume_names y ≢ volume_names v) (read_of claimed_volume k.live))
  pub instance : IfSome (new_instance task) (λ i. Each (λ y. instance_names y ≢ instance_names i) (s.instances ++ read_of new_instance k.live))
  pub snapshot : IfSome (claimed_snapshot task) (λ r. Each (λ y. snapshot_names y ≢ snapshot_names r) (read_of claimed_snapshot k.live))
  pub others : Distinct instance_names (s.instances ++ read_of new_instance k.live)
  pub snapshots : Each (λ y. Mem y (of_live claimed_snapshot s)) (read_of claimed_snapshot k.live)
  pub by_deed : IsByDeed task
  pub placed : IsPlaced s task

fewer-read : {X : Type 0} (read : Task → Option X) (o : Operation Task) {less live : List (Operation Task)} → Puts o less live
    → Each (λ y. Mem y (read_of read live)) (read_of read less)
fewer-read {X} read o {less} {live} put = record { at = λ y m. by y (Mem-from_read (λ (x : Operation Task). read x.work) y less m) } where
  by : (y : X) → (x : Operation Task) × (Mem x less × (read x.work ≡ Some y)) → Mem y (read_of read live)
  by y found = Mem-read (λ (x : Operation Task). read x.work) found.0 y live (Mem-puts found.0 put found.1.0) found.1.1

-- what an operation claims, where it is read
if_read : {X : Type 0} {P : X → Type 0} (o : Option X) → ((x : X) → o ≡ Some x → P x) → IfSome o P
if_read None h = tt
if_read (Some x) h = h x refl

pub is-ending : (s : State) (k : OperationTable Task) (o : Operation Task) → IsWhole s → Puts o k.live s.operations.live → Mem o s.operations.live
    → Distinct instance_names (s.instances ++ read_of new_instance k.live) → IsEnding s k o.work
is-ending s k o h put there others = record {
  good = λ r e. (Each-right (rows_of s) h.names.good).at r (claimed r e);
  timely = λ r e. (Each-right (rows_of s) h.names.moments).at r (claimed r e);
  volume = if_read (claimed_volume o.work) (λ v e. Each-right s.volumes (unclaimed-fewer volume_names claimed_volume s.volumes o v put e h.names.new_volumes));
  instance = if_read (new_instance o.work) (λ i e. unclaimed-fewer instance_names new_instance s.instances o i put e h.names.new_instances);
  snapshot = if_read (claimed_snapshot o.work) (λ r e. Each-right s.snapshots (unclaimed-fewer snapshot_names claimed_snapshot s.snapshots o r put e h.names.new_snapshots));
  others = others;
  snapshots = fewer-read claimed_snapshot o put;
  by_deed = h.operations.deeds.at o there;
  placed = h.references.operations.at o there;
} where
  claimed : (r : Row) → o.work.claim ≡ Some r → Mem r (claims_of s)
  claimed r e = Mem-read (λ (x : Operation Task). x.work.claim) o r s.operations.live there e

-- ---- a claim becomes a row

claim-free : (s : State) (k : OperationTable Task) (task : Task) → IsEnding s k task
    → ((i : Instance) → task.claim ≡ Some (row.Instance i) → Each (λ y. instance_names y ≢ instance_names i) (read_of new_instance k.live))
    → (r : Row) → task.claim ≡ Some r → IsUnclaimed k r
claim-free s k task e instance (row.Volume v) is =
    subst (λ o. IfSome o (λ x. Each (λ y. volume_names y ≢ volume_names x) (read_of claimed_volume k.live))) (ap (λ c. claimed_volume (record task { claim = c })) is) e.volume
claim-free s k task e instance (row.Instance i) is = instance i is
claim-free s k task e instance (row.Snapshot r) is =
    subst (λ o. IfSome o (λ x. Each (λ y. snapshot_names y ≢ snapshot_names x) (read_of claimed_snapshot k.live))) (ap (λ c. claimed_snapshot (record task { claim = c })) is) e.snapshot
claim-free s k task e instance (row.Project r) is = tt
claim-free s k task e instance (row.Profile r) is = tt
claim-free s k task e instance (row.Network r) is = tt
claim-free s k task e instance (row.Pool r) is = tt

pub option-each : {X : Type 0} (P : X → Type 0) (o : Option X) → ((x : X) → o ≡ Some x → P x) → Each P (option_to_list o)
option-each P None h = Each-none
option-each P (Some x) h = Each-cons P (h x refl) Each-none

pub claim-ready : (s : State) (k : OperationTable Task) (task : Task) → IsEnding s k task
    → ((i : Instance) → task.claim ≡ Some (row.Instance i) → Each (λ y. instance_names y ≢ instance_names i) (read_of new_instance k.live))
    → Each (IsReady k) (rows_put (map change.Put (option_to_list task.claim)))
claim-ready s k task e instance =
    puts-each (option_to_list task.claim)
    (option-each (IsReady k) task.claim (λ r is. record { good = e.good r is; timely = e.timely r is; free = claim-free s k task e instance r is }))

-- a new instance is no row's and no other's
pub new-free : (s : State) (k : OperationTable Task) (task : Task) → IsEnding s k task → keeps_name task.deed ≡ false
    → (i : Instance) → task.claim ≡ Some (row.Instance i) → Each (λ y. instance_names y ≢ instance_names i) (s.instances ++ read_of new_instance k.live)
new-free s k task e keeps i is =
    subst (λ o. IfSome o (λ x. Each (λ y. instance_names y ≢ instance_names x) (s.instances ++ read_of new_instance k.live))) (new_is keeps is) e.instance
  where
    new_is : keeps_name task.deed ≡ false → task.claim ≡ Some (row.Instance i) → new_instance task ≡ Some i
    new_is keeps is = ap (λ b. cond b None (claimed_instance task)) keeps ∙ ap (λ c. claimed_instance (record task { claim = c })) is

-- one that takes its target's place is under a row's name, which none of the others claims
pub same-free : (s : State) (k : OperationTable Task) (task : Task) → IsEnding s k task → task.deed ≢ deed.Rename → task.target.kind ≡ kind.Instance
    → instance_there s task.project task.target
    → (i : Instance) → task.claim ≡ Some (row.Instance i) → Each (λ y. instance_names y ≢ instance_names i) (read_of new_instance k.live)
same-free s k task e other is_instance there i is =
    let z = instance-there s.instances task.project task.target.name (target-there s task.project task.target is_instance there) in
    subst (λ names. Each (λ y. instance_names y ≢ names) (read_of new_instance k.live)) (z.1.1 ∙ sym names)
    ((Distinct-apart instance_names s.instances (read_of new_instance k.live) e.others).at z.0 z.1.0)
  where
    target : target_of (row.Instance i) ≡ task.target
    target = subst (λ c. IfSome c (λ r. target_of r ≡ task.target)) is (e.by_deed.named other)

    names : instance_names i ≡ task.project ∷ task.target.name ∷ []
    names = λ j. e.placed.claim_project (row.Instance i) is j ∷ (target j).name ∷ []

-- ---- an instance gets another name

pub Mem-filter : {X : Type 0} (p : X → Bool) (x : X) (xs : List X) → Mem x (filter p xs) → Mem x xs
Mem-filter p x [] m = m
Mem-filter {X} p x (y ∷ ys) m = at (p y) m (Mem-filter p x ys) where
  at : (b : Bool) → Mem x (cond b (y ∷ filter p ys) (filter p ys)) → (Mem x (filter p ys) → Mem x ys) → Mem x (y ∷ ys)
  at true (inl e) more = inl e
  at true (inr n) more = inr (more n)
  at false n more = inr (more n)
