-- The share of an operation stays where its claim and the row that this one replaces count for the same.
use Rattle.std.proofs.Common.{◌≡◌, cond, Option, Some, None, refl, ◌∙◌, ap}
use Rattle.std.specs.Option.{option_map_or}
use Rattle.std.specs.Str.{bytes_eq}
use Rattle.size_values.specs.Amounts.{nothing, excess_of}
use Rattle.size_values.specs.PoolParts.{no_part, part_above}
use Rattle.records.specs.declared.rows.Instance.{Instance}
use Rattle.records.specs.declared.rows.Row.{Row}
use Rattle.records.specs.declared.rows.Row.TheVariants as row
use Rattle.row_machine.specs.machine.Task.{Task}
use Rattle.row_machine.specs.machine.State.{State}
use Rattle.row_machine.specs.machine.Claims.{claimed_instance, amounts_of, amounts_of_instance, part_of_row, part_of_instance, project_of_row, replaced_instance, share_of, share_over, part_of_share, part_over}
use Rattle.machine_laws.proofs.Expansions.{CountsAlike}

-- the claimed instance, the replaced one, and what each has are the same in both states
pub record IsShareAlike (s t : State) (task : Task) : Type 0 where
  pub claimed : (i : Instance) → claimed_instance task ≡ Some i → CountsAlike s t i
  pub replaced : replaced_instance t task ≡ replaced_instance s task
  pub old : (i : Instance) → replaced_instance s task ≡ Some i → CountsAlike s t i

-- an operation holds the same in both states
pub record HoldsAlike (s t : State) (task : Task) : Type 0 where
  pub share : share_of t task ≡ share_of s task
  pub part : part_of_share t task ≡ part_of_share s task

claim-amounts : {s t : State} (task : Task) (r : Row) → task.claim ≡ Some r → IsShareAlike s t task → amounts_of t r ≡ amounts_of s r
claim-amounts task (row.Instance i) is h = (h.claimed i (ap (λ claim. claimed_instance (record task { claim = claim })) is)).amounts
claim-amounts task (row.Project r) is h = refl
claim-amounts task (row.Profile r) is h = refl
claim-amounts task (row.Network r) is h = refl
claim-amounts task (row.Pool r) is h = refl
claim-amounts task (row.Volume r) is h = refl
claim-amounts task (row.Snapshot r) is h = refl

claim-part : {s t : State} (task : Task) (r : Row) → task.claim ≡ Some r → IsShareAlike s t task → part_of_row t r ≡ part_of_row s r
claim-part task (row.Instance i) is h = (h.claimed i (ap (λ claim. claimed_instance (record task { claim = claim })) is)).part
claim-part task (row.Project r) is h = refl
claim-part task (row.Profile r) is h = refl
claim-part task (row.Network r) is h = refl
claim-part task (row.Pool r) is h = refl
claim-part task (row.Volume r) is h = refl
claim-part task (row.Snapshot r) is h = refl

over-alike : (s t : State) (r : Row) (old : Option Instance) → amounts_of t r ≡ amounts_of s r
    → ((i : Instance) → old ≡ Some i → CountsAlike s t i) → share_over t r old ≡ share_over s r old
over-alike s t r None same olds = same
over-alike s t r (Some old) same olds =
    ap (λ a. cond (bytes_eq old.project (project_of_row r)) (excess_of a (amounts_of_instance t old)) a) same
    ∙ ap (λ b. cond (bytes_eq old.project (project_of_row r)) (excess_of (amounts_of s r) b) (amounts_of s r)) (olds old refl).amounts

part_over-alike : (s t : State) (r : Row) (old : Option Instance) → part_of_row t r ≡ part_of_row s r
    → ((i : Instance) → old ≡ Some i → CountsAlike s t i) → part_over t r old ≡ part_over s r old
part_over-alike s t r None same olds = same
part_over-alike s t r (Some old) same olds =
    ap (λ a. cond (bytes_eq old.project (project_of_row r)) (part_above a (part_of_instance t old)) a) same
    ∙ ap (λ b. cond (bytes_eq old.project (project_of_row r)) (part_above (part_of_row s r) b) (part_of_row s r)) (olds old refl).part

pub share-alike : {s t : State} (task : Task) → IsShareAlike s t task → HoldsAlike s t task
unfolding share_of part_of_share
share-alike {s} {t} task h = record { share = share task.claim refl; part = part task.claim refl } where
  share : (claim : Option Row) → task.claim ≡ claim
      → option_map_or (λ new. share_over t new (replaced_instance t task)) claim nothing
      ≡ option_map_or (λ new. share_over s new (replaced_instance s task)) claim nothing
  share None is = refl
  share (Some r) is = ap (share_over t r) h.replaced ∙ over-alike s t r (replaced_instance s task) (claim-amounts task r is h) h.old

  part : (claim : Option Row) → task.claim ≡ claim
      → option_map_or (λ new. part_over t new (replaced_instance t task)) claim no_part
      ≡ option_map_or (λ new. part_over s new (replaced_instance s task)) claim no_part
  part None is = refl
  part (Some r) is = ap (part_over t r) h.replaced ∙ part_over-alike s t r (replaced_instance s task) (claim-part task r is h) h.old
