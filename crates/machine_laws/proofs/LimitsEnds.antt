-- The usage after an operation ended: of the project of its claim at most what it was, of the others what it was.
use Rattle.std.proofs.Common.{◌≡◌, ◌≢◌, ℕ, ◌+◌, ◌-◌, ◌≤◌, ◌&&◌, Bool, true, false, cond, Option, Some, None, List, [], ◌∷◌, refl, sym, ◌∙◌, ap, subst, arith}
use Rattle.std.specs.Prelude.{IfSome}
use Rattle.std.specs.List.{find, sum_by}
use Rattle.std.specs.Option.{option_map, option_map_or, option_and_then}
use Rattle.std.specs.Str.{bytes_eq}
use Rattle.plain_lists.specs.Members.{Mem, Each}
use Rattle.plain_lists.specs.Edits.{dropped, replaced}
use Rattle.plain_lists.proofs.PutsLemmas.{sum_by-Puts}
use Rattle.plain_lists.proofs.EditLemmas.{dropped-Puts}
use Rattle.plain_lists.proofs.Readings.{sum_by-same}
use Rattle.plain_lists.proofs.Searches.{find-some}
use Rattle.config_lists.proofs.Keys.{same, bytes_eq-itself}
use Rattle.size_values.specs.Amounts.{nothing, excess_of}
use Rattle.size_values.specs.PoolParts.{no_part, part_above}
use Rattle.size_values.specs.declared.amounts.Amounts.{Amounts}
use Rattle.size_values.specs.declared.pool_part.PoolPart.{PoolPart}
use Rattle.size_values.specs.declared.kinds.Deed.{Deed}
use Rattle.size_values.specs.declared.kinds.Deed.TheVariants as deed
use Rattle.size_values.specs.declared.kinds.ObjectKind.TheVariants as kind
use Rattle.operations.specs.declared.operation.Operation.{Operation}
use Rattle.operations.specs.OperationTable.{has_number, live_at}
use Rattle.records.specs.declared.commands.Target.{Target}
use Rattle.records.specs.declared.rows.Volume.{Volume}
use Rattle.records.specs.declared.rows.Instance.{Instance}
use Rattle.records.specs.declared.rows.Row.{Row}
use Rattle.records.specs.declared.rows.Row.TheVariants as row
use Rattle.row_codec.specs.Spelling.{two_names}
use Rattle.row_machine.specs.machine.Task.{Task}
use Rattle.row_machine.specs.machine.State.{State}
use Rattle.row_machine.specs.machine.Rows.{is_instance, is_volume, instance_named, instance_names, volume_names, with_instance, with_volume, texts_before}
use Rattle.row_machine.specs.machine.Changes.{has_key}
use Rattle.row_machine.specs.machine.Expansions.{expanded_of}
use Rattle.row_machine.specs.machine.Claims.{claimed_instance, replaced_instance, amounts_of_instance, amounts_of, part_of_instance, part_of_row, part_of_share, part_over, share_of, share_over, project_of_row}
use Rattle.row_machine.specs.shown.Urls.{target_of}
use Rattle.machine_laws.proofs.Expansions.{CountsAlike}
use Rattle.machine_laws.proofs.Measures.{Measure, IsMeasure, measured, used_by}
use Rattle.machine_laws.proofs.SharesAlike.{HoldsAlike}
use Rattle.row_machine.specs.facts.Whole.{IsWhole, IsByDeed, IsPlaced, IsRenamed}
use Rattle.row_machine.specs.machine.Deeds.{claim_kind, replaces_target}
use Rattle.machine_laws.proofs.Found.{instance-found, some-is}
use Rattle.machine_laws.proofs.LimitsRows.{Tables, tables, IsDone, stays, puts_volume, puts_instance, drops_instance, renames_instance_to, renames_none}
use Rattle.machine_laws.proofs.LimitsSums.{instance_part, volume_part, claim_part, used-split, sum-instead, sum-more, sum-put, sum-dropped}
use Rattle.machine_laws.proofs.SharesApart.{instance-key, instance-row, instance-so}
use Rattle.machine_laws.proofs.SharesSuccess.{counts-tables, done-projects}
use Rattle.machine_laws.proofs.ExpansionsApart.{fails-by}
use Rattle.std.proofs.lemmas.Bool.{false≢true}
use Rattle.plain_lists.proofs.Elements.{Each-head, Each-tail, Each-map}

-- ---- what an operation holds of a project

-- by its claim, its share, and the part of this on a pool
abbrev pub share_part : List ℕ → Measure → Row → Amounts → PoolPart → ℕ
share_part project k r share on = measured project k (record { project = project_of_row r; amounts = share; on = on })

claim-part : (s : State) (project : List ℕ) (k : Measure) (o : Operation Task) (r : Row) → o.work.claim ≡ Some r
    → claim_part s project k o ≡ share_part project k r (share_over s r (replaced_instance s o.work)) (part_over s r (replaced_instance s o.work))
unfolding share_of part_of_share
claim-part s project k o r is = ap (λ claim. option_map_or (measured project k)
    (option_map (λ new. record {
      project = project_of_row new;
      amounts = option_map_or (λ n. share_over s n (replaced_instance s o.work)) claim nothing;
      on = option_map_or (λ n. part_over s n (replaced_instance s o.work)) claim no_part;
    }) claim) 0) is

-- a share without a row that is replaced is what the claimed row counts for
pub share-new : (s : State) (project : List ℕ) (k : Measure) (o : Operation Task) (r : Row) → o.work.claim ≡ Some r → replaced_instance s o.work ≡ None
    → claim_part s project k o ≡ share_part project k r (amounts_of s r) (part_of_row s r)
share-new s project k o r is none = claim-part s project k o r is ∙ ap (λ old. share_part project k r (share_over s r old) (part_over s r old)) none

-- and with one of its project it is the excess
pub excess-part : (s : State) (project : List ℕ) (k : Measure) (o : Operation Task) (i old : Instance) → o.work.claim ≡ Some (row.Instance i)
    → replaced_instance s o.work ≡ Some old → old.project ≡ i.project
    → claim_part s project k o
    ≡ share_part project k (row.Instance i) (excess_of (amounts_of_instance s i) (amounts_of_instance s old)) (part_above (part_of_instance s i) (part_of_instance s old))
excess-part s project k o i old is replaced own =
    claim-part s project k o (row.Instance i) is
    ∙ ap (λ r. share_part project k (row.Instance i) (share_over s (row.Instance i) r) (part_over s (row.Instance i) r)) replaced
    ∙ ap (λ b. share_part project k (row.Instance i)
    (cond b (excess_of (amounts_of_instance s i) (amounts_of_instance s old)) (amounts_of_instance s i))
    (cond b (part_above (part_of_instance s i) (part_of_instance s old)) (part_of_instance s i)))
    (ap (λ p. bytes_eq p i.project) own ∙ bytes_eq-itself i.project)

share-excess : (s : State) (project : List ℕ) (k : Measure) → IsMeasure k → (o : Operation Task) (i old : Instance) → o.work.claim ≡ Some (row.Instance i)
    → replaced_instance s o.work ≡ Some old → old.project ≡ i.project
    → instance_part s project k i ≤ claim_part s project k o + instance_part s project k old
share-excess s project k measure o i old is replaced own = at (bytes_eq i.project project) refl where
  new_counts : ℕ
  new_counts = k (amounts_of_instance s i) (part_of_instance s i)

  old_counts : ℕ
  old_counts = k (amounts_of_instance s old) (part_of_instance s old)

  above : ℕ
  above = k (excess_of (amounts_of_instance s i) (amounts_of_instance s old)) (part_above (part_of_instance s i) (part_of_instance s old))

  at : (b : Bool) → bytes_eq i.project project ≡ b → instance_part s project k i ≤ claim_part s project k o + instance_part s project k old
  at false e =
      let none : instance_part s project k i ≡ 0 = ap (λ b. cond b new_counts 0) e in
      omega (arith, none)
  at true e =
      let new : instance_part s project k i ≡ new_counts = ap (λ b. cond b new_counts 0) e in
      let was : instance_part s project k old ≡ old_counts = ap (λ b. cond b old_counts 0) (ap (λ p. bytes_eq p project) own ∙ e) in
      let held : claim_part s project k o ≡ new_counts - old_counts =
      excess-part s project k o i old is replaced own ∙ ap (λ b. cond b above 0) e
      ∙ measure.excess (amounts_of_instance s i) (amounts_of_instance s old) (part_of_instance s i) (part_of_instance s old) in
      omega (arith, new, was, held)

-- ---- rows after a success

-- a volume is claimed for a new name
volume-new : (d : Deed) → claim_kind d ≡ Some kind.Volume → replaces_target d ≡ false
volume-new deed.Create h = absurd (cc)
volume-new deed.Copy h = absurd (cc)
volume-new deed.Update h = absurd (cc)
volume-new deed.Restore h = absurd (cc)
volume-new deed.Rename h = absurd (cc)
volume-new deed.Delete h = refl
volume-new (deed.Act a e) h = refl
volume-new deed.Snap h = refl
volume-new deed.Unsnap h = refl
volume-new deed.CopyVolume h = refl

-- a renamed instance counts for the same
renamed-part : (s : State) (project : List ℕ) (k : Measure) (i : Instance) (name : List ℕ) → instance_part s project k (record i { name = name }) ≡ instance_part s project k i
unfolding amounts_of_instance part_of_instance expanded_of
renamed-part s project k i name = refl

module _ (s : State) (o : Operation Task) (h : IsWhole s) (live : live_at s.operations o.number ≡ Some o) (project : List ℕ) (k : Measure) (measure : IsMeasure k) where
  o_live : Mem o s.operations.live
  o_live = (find-some (has_number o.number) s.operations.live o live).0

  deeds : IsByDeed o.work
  deeds = h.operations.deeds.at o o_live

  placed : IsPlaced s o.work
  placed = h.references.operations.at o o_live

  abbrev by_names : Option (List ℕ × List ℕ) → Option Instance
  by_names names = option_and_then (λ (n : List ℕ × List ℕ). instance_named s.instances n.0 n.1) names

  -- what is replaced, by the deed
  replaced-none : replaces_target o.work.deed ≡ false → replaced_instance s o.work ≡ None
  replaced-none e = ap by_names (deeds.replaces ∙ ap (λ b. cond b (Some (o.work.project, o.work.target.name)) None) e)

  replaced-target : replaces_target o.work.deed ≡ true → replaced_instance s o.work ≡ instance_named s.instances o.work.project o.work.target.name
  replaced-target e = ap by_names (deeds.replaces ∙ ap (λ b. cond b (Some (o.work.project, o.work.target.name)) None) e)

  abbrev pub a : Instance → ℕ
  a i = instance_part s project k i

  abbrev pub b : Volume → ℕ
  b v = volume_part project k v

  -- instances and volumes count for at most what they did, and what the operation holds
  abbrev pub RowsLess : Tables → Type 0
  RowsLess later = sum_by a later.instances + sum_by b later.volumes ≤ sum_by a s.instances + sum_by b s.volumes + claim_part s project k o

  volume-less : (v : Volume) → o.work.claim ≡ Some (row.Volume v) → RowsLess (record (tables s) { volumes = with_volume v s.volumes })
  volume-less v is =
      let put = sum-put b (is_volume v.project v.pool v.name) (λ y. texts_before (volume_names v) (volume_names y)) v s.volumes in
      let none = replaced-none (volume-new o.work.deed (sym deeds.kind ∙ ap (option_map (λ r. (target_of r).kind)) is)) in
      let share : claim_part s project k o ≡ b v = share-new s project k o (row.Volume v) is none in
      omega (arith, put, share)

  instance-less : (i : Instance) → o.work.claim ≡ Some (row.Instance i) → o.work.deed ≢ deed.Rename → RowsLess (record (tables s) { instances = with_instance i s.instances })
  instance-less i is other = by (replaces_target o.work.deed) refl where
    target : target_of (row.Instance i) ≡ o.work.target
    target = subst (λ c. IfSome c (λ r. target_of r ≡ o.work.target)) is (deeds.named other)

    names : instance_named s.instances o.work.project o.work.target.name ≡ instance_named s.instances i.project i.name
    names = ap (λ p. instance_named s.instances p o.work.target.name) (sym (placed.claim_project (row.Instance i) is))
        ∙ ap (λ n. instance_named s.instances i.project n) (sym (ap (λ (t : Target). t.name) target))

    at : (found : Option Instance) → instance_named s.instances i.project i.name ≡ found → replaced_instance s o.work ≡ found
        → RowsLess (record (tables s) { instances = with_instance i s.instances })
    at None none replaced =
        let more = sum-more a (is_instance i.project i.name) (λ y. texts_before (instance_names i) (instance_names y)) i s.instances none in
        let share : claim_part s project k o ≡ a i = share-new s project k o (row.Instance i) is replaced in
        omega (arith, more, share)
    at (Some old) found replaced =
        let instead = sum-instead a (is_instance i.project i.name) (λ y. texts_before (instance_names i) (instance_names y)) i old s.instances found in
        let share = share-excess s project k measure o i old is replaced (instance-found s.instances i.project i.name old found).0 in
        omega (arith, instead, share)

    by : (does : Bool) → replaces_target o.work.deed ≡ does → RowsLess (record (tables s) { instances = with_instance i s.instances })
    by true e = at (instance_named s.instances i.project i.name) refl (replaced-target e ∙ names)
    by false e =
        let put = sum-put a (is_instance i.project i.name) (λ y. texts_before (instance_names i) (instance_names y)) i s.instances in
        let share : claim_part s project k o ≡ a i = share-new s project k o (row.Instance i) is (replaced-none e) in
        omega (arith, put, share)

  -- the key of the target finds the target
  target-dropped : (old : Instance) → instance_named s.instances o.work.project o.work.target.name ≡ Some old
      → sum_by a s.instances ≡ a old + sum_by a (dropped (λ r. has_key (two_names old.project old.name) (row.Instance r)) s.instances)
  target-dropped old found = sum_by-Puts a (dropped-Puts (λ r. has_key (two_names old.project old.name) (row.Instance r)) old s.instances
      (find-alike s.instances (record { at = alike }) ∙ found)) where
        names : (old.project ≡ o.work.project) × (old.name ≡ o.work.target.name)
        names = instance-found s.instances o.work.project o.work.target.name old found

        there : Mem old s.instances
        there = (find-some (is_instance o.work.project o.work.target.name) s.instances old found).0

        alike : (y : Instance) → Mem y s.instances → has_key (two_names old.project old.name) (row.Instance y) ≡ is_instance o.work.project o.work.target.name y
        alike y m = by (is_instance o.work.project o.work.target.name y) refl where
          by : (so : Bool) → is_instance o.work.project o.work.target.name y ≡ so → has_key (two_names old.project old.name) (row.Instance y) ≡ so
          by true is =
              let y_names = instance-so o.work.project o.work.target.name y is in
              ap (λ p. bytes_eq (two_names p y.name) (two_names old.project old.name)) (y_names.0 ∙ sym names.0)
              ∙ ap (λ n. bytes_eq (two_names old.project n) (two_names old.project old.name)) (y_names.1 ∙ sym names.1)
              ∙ bytes_eq-itself (two_names old.project old.name)
          by false is = fails-by (has_key (two_names old.project old.name) (row.Instance y)) (λ hit.
              let key = instance-key old y (h.names.good.at (row.Instance old) (instance-row s old there)) (h.names.good.at (row.Instance y) (instance-row s y m)) hit in
              let so : is_instance o.work.project o.work.target.name y ≡ true =
              ap (λ p. bytes_eq p o.work.project && bytes_eq y.name o.work.target.name) (key.0 ∙ names.0)
              ∙ ap (λ q. q && bytes_eq y.name o.work.target.name) (bytes_eq-itself o.work.project)
              ∙ ap (λ n. bytes_eq n o.work.target.name) (key.1 ∙ names.1) ∙ bytes_eq-itself o.work.target.name in
              false≢true (sym is ∙ so))

        find-alike : {p q : Instance → Bool} (xs : List Instance) → Each (λ y. p y ≡ q y) xs → find p xs ≡ find q xs
        find-alike [] e = refl
        find-alike {p} {q} (y ∷ ys) e = ap (λ t. cond t (Some y) (find p ys)) (Each-head e) ∙ ap (λ r. cond (q y) (Some y) r) (find-alike ys (Each-tail e))

  drop-less : (old : Instance) → RowsLess (record (tables s) { instances = dropped (λ r. has_key (two_names old.project old.name) (row.Instance r)) s.instances })
  drop-less old = let less = sum-dropped a (λ r. has_key (two_names old.project old.name) (row.Instance r)) s.instances in omega (arith, less)

  -- the claim of a rename is its target under another name
  renames-target : (i : Instance) → o.work.claim ≡ Some (row.Instance i) → o.work.deed ≡ deed.Rename
      → Some (record i { name = o.work.target.name }) ≡ instance_named s.instances o.work.project o.work.target.name
  renames-target i is rename =
      ap (λ c. option_map (λ (x : Instance). record x { name = o.work.target.name }) (claimed_instance (record o.work { claim = c }))) (sym is)
      ∙ subst (λ d. IsRenamed s (record o.work { deed = d })) rename placed.renamed
      ∙ replaced-target (ap replaces_target rename)

  rename-less : (old i : Instance) → o.work.claim ≡ Some (row.Instance i) → o.work.deed ≡ deed.Rename
      → instance_named s.instances o.work.project o.work.target.name ≡ Some old
      → RowsLess (record (tables s) { instances = with_instance i (dropped (λ r. has_key (two_names old.project old.name) (row.Instance r)) s.instances) })
  rename-less old i is rename found =
      let was = target-dropped old found in
      let put = sum-put a (is_instance i.project i.name) (λ y. texts_before (instance_names i) (instance_names y)) i
      (dropped (λ r. has_key (two_names old.project old.name) (row.Instance r)) s.instances) in
      let renamed : record i { name = o.work.target.name } ≡ old = some-is (renames-target i is rename ∙ found) in
      let same_amounts : a i ≡ a old = sym (renamed-part s project k i o.work.target.name) ∙ ap a renamed in
      omega (arith, was, put, same_amounts)

  rows-less : {later : Tables} → IsDone (tables s) o.work later → RowsLess later
  rows-less (stays e) = subst RowsLess (sym e) (let none : RowsLess (tables s) = omega arith in none)
  rows-less (puts_volume v is e) = subst RowsLess (sym e) (volume-less v is)
  rows-less (puts_instance i is other keeps e) = subst RowsLess (sym e) (instance-less i is other)
  rows-less (drops_instance old found nothing of e) = subst RowsLess (sym e) (drop-less old)
  rows-less (renames_instance_to old i is rename found e) = subst RowsLess (sym e) (rename-less old i is rename found)
  rows-less (renames_none i is rename found e) = absurd (let never : Some (record i { name = o.work.target.name }) ≡ None = renames-target i is rename ∙ found in cc)

-- ---- usage

-- the claims of the others count for the same
pub claims-same : (s t : State) (project : List ℕ) (k : Measure) (xs : List (Operation Task)) → Each (λ (x : Operation Task). HoldsAlike s t x.work) xs
    → sum_by (claim_part t project k) xs ≡ sum_by (claim_part s project k) xs
claims-same s t project k xs same = sum_by-same (claim_part t project k) (claim_part s project k) xs (Each-map (λ x e. one x e) same) where
  one : (x : Operation Task) → HoldsAlike s t x.work → claim_part t project k x ≡ claim_part s project k x
  one x e =
      ap (λ share. option_map_or (measured project k) (option_map (λ new. record { project = project_of_row new; amounts = share; on = part_of_share t x.work }) x.work.claim) 0) e.share
      ∙ ap (λ part. option_map_or (measured project k) (option_map (λ new. record { project = project_of_row new; amounts = share_of s x.work; on = part }) x.work.claim) 0) e.part

-- and so do instances
pub instance-same : (s t : State) (project : List ℕ) (k : Measure) (i : Instance) → CountsAlike s t i → instance_part t project k i ≡ instance_part s project k i
instance-same s t project k i e =
    ap (λ x. measured project k (record { project = i.project; amounts = x; on = part_of_instance t i })) e.amounts
    ∙ ap (λ x. measured project k (record { project = i.project; amounts = amounts_of_instance s i; on = x })) e.part

-- after a success
pub used-done : (s : State) (o : Operation Task) (t : State) → IsWhole s → live_at s.operations o.number ≡ Some o → IsDone (tables s) o.work (tables t)
    → t.operations.live ≡ dropped (has_number o.number) s.operations.live
    → Each (λ (x : Operation Task). HoldsAlike s t x.work) (dropped (has_number o.number) s.operations.live)
    → (project : List ℕ) (k : Measure) → IsMeasure k → used_by t project k ≤ used_by s project k
used-done s o t h live done rest same project k measure =
    let before = used-split s project k in
    let after = used-split t project k in
    let claims : sum_by (claim_part s project k) s.operations.live ≡ claim_part s project k o + sum_by (claim_part s project k) (dropped (has_number o.number) s.operations.live) =
    sum_by-Puts (claim_part s project k) (dropped-Puts (has_number o.number) o s.operations.live live) in
    let others : sum_by (claim_part t project k) t.operations.live ≡ sum_by (claim_part s project k) (dropped (has_number o.number) s.operations.live) =
    ap (sum_by (claim_part t project k)) rest ∙ claims-same s t project k (dropped (has_number o.number) s.operations.live) same in
    let rows : sum_by (instance_part s project k) t.instances + sum_by (volume_part project k) t.volumes
    ≤ sum_by (instance_part s project k) s.instances + sum_by (volume_part project k) s.volumes + claim_part s project k o = rows-less s o h live project k measure done in
    let tables_same = done-projects s done in
    let instances : sum_by (instance_part t project k) t.instances ≡ sum_by (instance_part s project k) t.instances =
    sum_by-same (instance_part t project k) (instance_part s project k) t.instances
    (record { at = λ i m. instance-same s t project k i (counts-tables s t i tables_same.0 tables_same.1) }) in
    omega (arith, before, after, claims, others, rows, instances)

-- after a failure or a cancel: rows stay, and the claim goes
pub used-returned : (s t : State) (n : ℕ) → tables t ≡ tables s → t.operations.live ≡ dropped (has_number n) s.operations.live
    → ((task : Task) → HoldsAlike s t task)
    → (project : List ℕ) (k : Measure) → used_by t project k ≤ used_by s project k
used-returned s t n rows rest same project k =
    let before = used-split s project k in
    let after = used-split t project k in
    let less = sum-dropped (claim_part s project k) (has_number n) s.operations.live in
    let others : sum_by (claim_part t project k) t.operations.live ≡ sum_by (claim_part s project k) (dropped (has_number n) s.operations.live) =
    ap (sum_by (claim_part t project k)) rest ∙ claims-same s t project k (dropped (has_number n) s.operations.live) (record { at = λ x m. same x.work }) in
    let volumes : sum_by (volume_part project k) t.volumes ≡ sum_by (volume_part project k) s.volumes = ap (λ (x : Tables). sum_by (volume_part project k) x.volumes) rows in
    let instances : sum_by (instance_part t project k) t.instances ≡ sum_by (instance_part s project k) s.instances =
    sum_by-same (instance_part t project k) (instance_part s project k) t.instances
    (record {
      at = λ i m. instance-same s t project k i (counts-tables s t i (ap (λ (x : Tables). x.projects) rows) (ap (λ (x : Tables). x.profiles) rows));
    })
    ∙ ap (λ (x : Tables). sum_by (instance_part s project k) x.instances) rows in
    omega (arith, before, after, less, others, volumes, instances)
