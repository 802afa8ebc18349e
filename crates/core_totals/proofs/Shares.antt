-- What is known of projects where an operation is entered, and where it ends and all rows stay.
use Rattle.std.proofs.Common.{◌≡◌, ◌≢◌, ℕ, ◌+◌, cond, Option, Some, None, List, refl, sym, ◌∙◌, ap, subst, arith}
use Rattle.std.specs.List.{find}
use Rattle.std.specs.Option.{option_map, option_map_or}
use Rattle.std.specs.Str.{bytes_eq}
use Rattle.config_lists.proofs.Keys.{same, bytes_eq-itself}
use Rattle.size_values.specs.Amounts.{nothing}
use Rattle.size_values.specs.PoolParts.{no_part}
use Rattle.size_values.specs.declared.amounts.Amounts.{Amounts}
use Rattle.size_values.specs.declared.pool_part.PoolPart.{PoolPart}
use Rattle.operations.specs.declared.operation.Operation.{Operation}
use Rattle.operations.specs.OperationTable.{has_number, live_at}
use Rattle.records.specs.declared.rows.Row.{Row}
use Rattle.reservations.specs.declared.books.Hold.{Hold}
use Rattle.row_machine.specs.machine.Claims.{share_of, part_of_share, project_of_row, amounts_of_instance, part_of_instance}
use Rattle.row_machine.specs.machine.State.{State}
use Rattle.row_machine.specs.machine.Task.{Task}
use Rattle.row_machine.specs.machine.Usage.{loads}
use Rattle.row_machine.specs.machine.Operations.{is_held_by, entered, project_of_task}
use Rattle.row_machine.specs.facts.Whole.{IsWhole, held_by}
use Rattle.row_readings.specs.Footprints.{share_footprint}
use Rattle.row_readings.specs.declared.amounts.Footprint.{Footprint}
use Rattle.machine_laws.proofs.EndsLive.{find-map}
use Rattle.machine_laws.proofs.ExpansionsApart.{fails-by}
use Rattle.machine_laws.proofs.LimitsSums.{claim_part}
use Rattle.machine_laws.proofs.Measures.{Measure, IsMeasure, measured, used_by}
use Rattle.core_totals.specs.declared.totals.Totals.{Totals}
use Rattle.core_totals.specs.Totals.{AreTotals, grown, lowered}
use Rattle.core_totals.specs.Ends.{given_back, held_footprint, held_given_back}
use Rattle.core_totals.proofs.Limits.{share_for, used-after}
use Rattle.core_totals.proofs.Usage.{SameUsage, Falls, Loses, falls-measured}
use Rattle.core_totals.proofs.Told.{totals-same, totals-fallen, totals-risen}

-- ---- what a live operation holds

-- its hold is by the rows
pub hold-found : (s : State) (n : ℕ) (o : Operation Task) → IsWhole s → live_at s.operations n ≡ Some o → find (is_held_by n) s.held ≡ Some (held_by s o)
hold-found s n o h live =
    ap (find (is_held_by n)) h.shares
    ∙ find-map (held_by s) (has_number n) (is_held_by n) s.operations.live (λ x. refl)
    ∙ ap (option_map (held_by s)) live

-- and so is the share
pub share-held : (s : State) (n : ℕ) (o : Operation Task) → IsWhole s → live_at s.operations n ≡ Some o → held_footprint s n ≡ share_footprint s o.work
share-held s n o h live = ap read (hold-found s n o h live) where
  read : Option Hold → Footprint
  read hold = record { amounts = option_map_or (λ (x : Hold). x.share) hold nothing; on = option_map_or (λ (x : Hold). x.part) hold no_part }

-- ---- a load of a project

-- counts for it whole
counts-own : (project : List ℕ) (amounts : Amounts) (on : PoolPart) (k : Measure) → measured project k (record { project = project; amounts = amounts; on = on }) ≡ k amounts on
counts-own project amounts on k = ap (λ b. cond b (k amounts on) 0) (bytes_eq-itself project)

-- and for no other
counts-other : (project other : List ℕ) (amounts : Amounts) (on : PoolPart) (k : Measure) → project ≢ other
    → measured other k (record { project = project; amounts = amounts; on = on }) ≡ 0
counts-other project other amounts on k apart =
    ap (λ b. cond b (k amounts on) 0) (fails-by (bytes_eq project other) (λ is. apart (same project other is)))

-- ---- an entry

entered-used : (s : State) (task : Task) (moment : ℕ) (project : List ℕ) (k : Measure) → IsMeasure k
    → used_by (entered s task moment) project k ≡ used_by s project k + share_for s task project k
unfolding entered loads share_of amounts_of_instance part_of_share part_of_instance
entered-used s task moment project k measure = used-after s task moment project k measure

entered-falls : (s : State) (task : Task) (moment : ℕ) → Falls (entered s task moment) s (project_of_task task) (share_footprint s task)
entered-falls s task moment = falls-measured (entered s task moment) s (project_of_task task) (share_footprint s task)
    (λ k measure. entered-used s task moment (project_of_task task) k measure
    ∙ ap (λ n. used_by s (project_of_task task) k + n) (counts-own (project_of_task task) (share_of s task) (part_of_share s task) k))
    (λ other apart k measure.
    let more = entered-used s task moment other k measure in
    let none = counts-other (project_of_task task) other (share_of s task) (part_of_share s task) k apart in
    omega (arith, more, none))

pub totals-entered : (s : State) (task : Task) (moment : ℕ) (totals : Totals) → AreTotals s totals
    → AreTotals (entered s task moment) (grown (project_of_task task) (share_of s task) (part_of_share s task) totals)
totals-entered s task moment totals are =
    totals-risen s (entered s task moment) totals are (project_of_task task) (share_footprint s task) (entered-falls s task moment)

-- ---- an end that leaves all rows

module _ (s t : State) (o : Operation Task) (loses : Loses s t o) where
  -- what a claim adds
  claimed : (claim : Option Row) → o.work.claim ≡ claim → (project : List ℕ) (k : Measure) → claim_part s project k o
      ≡ option_map_or (λ (r : Row). measured project k (record { project = project_of_row r; amounts = share_of s o.work; on = part_of_share s o.work })) claim 0
  claimed claim is project k = ap (λ c. option_map_or (measured project k)
      (option_map (λ (new : Row). record { project = project_of_row new; amounts = share_of s o.work; on = part_of_share s o.work }) c) 0) is
      ∙ read claim where
        read : (c : Option Row)
            → option_map_or (measured project k) (option_map (λ (new : Row). record { project = project_of_row new; amounts = share_of s o.work; on = part_of_share s o.work }) c) 0
            ≡ option_map_or (λ (r : Row). measured project k (record { project = project_of_row r; amounts = share_of s o.work; on = part_of_share s o.work })) c 0
        read None = refl
        read (Some r) = refl

  claimed-none : o.work.claim ≡ None → SameUsage s t
  claimed-none is project k measure =
      let none : claim_part s project k o ≡ 0 = claimed None is project k in
      omega (arith, loses project k measure, none)

  claimed-falls : (r : Row) → o.work.claim ≡ Some r → Falls s t (project_of_row r) (share_footprint s o.work)
  claimed-falls r is = falls-measured s t (project_of_row r) (share_footprint s o.work)
      (λ k measure.
      let share = claimed (Some r) is (project_of_row r) k in
      let whole = counts-own (project_of_row r) (share_of s o.work) (part_of_share s o.work) k in
      omega (arith, loses (project_of_row r) k measure, share, whole))
      (λ other apart k measure.
      let share = claimed (Some r) is other k in
      let none = counts-other (project_of_row r) other (share_of s o.work) (part_of_share s o.work) k apart in
      omega (arith, loses other k measure, share, none))

  pub totals-given_back : (totals : Totals) → AreTotals s totals → AreTotals t (given_back o.work (share_of s o.work) (part_of_share s o.work) totals)
  totals-given_back totals are = at o.work.claim refl where
    share : Footprint
    share = share_footprint s o.work

    at : (claim : Option Row) → o.work.claim ≡ claim
        → AreTotals t (option_map_or (λ r. lowered (project_of_row r) share.amounts share.on totals) claim totals)
    at None none = totals-same s t totals are (claimed-none none)
    at (Some r) some = totals-fallen s t totals are (project_of_row r) share (claimed-falls r some)

  -- by its hold
  pub totals-held_back : (totals : Totals) (n : ℕ) → AreTotals s totals → IsWhole s → live_at s.operations n ≡ Some o
      → AreTotals t (held_given_back s n o.work totals)
  totals-held_back totals n are h live =
      subst (λ hold. AreTotals t (option_map_or (λ (x : Hold). given_back o.work x.share x.part totals) hold totals)) (sym (hold-found s n o h live))
      (totals-given_back totals are)
