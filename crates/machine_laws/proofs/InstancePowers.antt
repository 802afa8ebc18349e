-- The statuses of instances that rows open to: each is stopped.
use Rattle.std.proofs.Common.{◌≡◌, Bool, true, false, cond, List, [], ◌∷◌, map, refl}
use Rattle.std.specs.List.{list_any}
use Rattle.plain_lists.specs.Members.{Each}
use Rattle.plain_lists.proofs.Elements.{Each-none, Each-head, Each-tail}
use Rattle.plain_lists.proofs.EditLemmas.{replaced-is, Each-Replaces}
use Rattle.size_values.specs.declared.kinds.Power.TheVariants.{Stopped}
use Rattle.records.specs.declared.rows.Instance.{Instance}
use Rattle.records.specs.declared.rows.Row.{Row}
use Rattle.records.specs.declared.rows.Row.TheVariants as row
use Rattle.row_machine.specs.machine.State.{State, InstancePower, empty_state}
use Rattle.row_machine.specs.machine.Rows.{same_names, texts_before, power_names, instance_names, is_power_of, with_instance_power}
use Rattle.row_machine.specs.machine.Changes.{with_row}
use Rattle.machine_laws.proofs.OpeningRows.{with_all}
use Rattle.machine_laws.specs.Reopening.{stopped}

abbrev IsStopped : InstancePower → Type 0
IsStopped p = p.power ≡ Stopped

with-stopped : (r : Row) (s : State) → Each IsStopped s.powers → Each IsStopped (with_row r s).powers
with-stopped (row.Instance i) s all = at (list_any (is_power_of i.project i.name) s.powers) where
  at : (b : Bool) → Each IsStopped (cond b s.powers (with_instance_power (stopped i) s.powers))
  at true = all
  at false =
      Each-Replaces
      IsStopped
      (replaced-is (λ y. same_names (power_names y) (power_names (stopped i))) (λ y. texts_before (power_names (stopped i)) (power_names y)) (stopped i) s.powers)
      refl
      all
with-stopped (row.Project r) s all = all
with-stopped (row.Profile r) s all = all
with-stopped (row.Network r) s all = all
with-stopped (row.Pool r) s all = all
with-stopped (row.Volume r) s all = all
with-stopped (row.Snapshot r) s all = all

all-stopped_from : (rows : List Row) (s : State) → Each IsStopped s.powers → Each IsStopped (with_all rows s).powers
all-stopped_from [] s all = all
all-stopped_from (r ∷ rows) s all = all-stopped_from rows (with_row r s) (with-stopped r s all)

pub all-stopped : (rows : List Row) → Each IsStopped (with_all rows empty_state).powers
all-stopped rows = all-stopped_from rows empty_state Each-none

-- stopped instances of these names
pub stopped-are : (powers : List InstancePower) (instances : List Instance) → map power_names powers ≡ map instance_names instances
    → Each IsStopped powers → powers ≡ map stopped instances
stopped-are [] [] named all = refl
stopped-are [] (i ∷ is) named all = cc
stopped-are (p ∷ ps) [] named all = cc
stopped-are (p ∷ ps) (i ∷ is) named all =
    let project : p.project ≡ i.project = cc in
    let name : p.name ≡ i.name = cc in
    let power : p.power ≡ Stopped = Each-head all in
    let more : map power_names ps ≡ map instance_names is = cc in
    let rest = stopped-are ps is more (Each-tail all) in
    λ j. record { project = project j; name = name j; power = power j } ∷ rest j
