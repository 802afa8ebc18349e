-- What live operations replace is as it was after changes at once: an instance that is changed at once is not busy.
use Rattle.std.proofs.Common.{◌≡◌, ℕ, Bool, true, false, Option, Some, None, List, refl, sym, ◌∙◌, ap}
use Rattle.std.specs.Option.{option_and_then}
use Rattle.std.specs.Prelude.{codes}
use Rattle.std.proofs.lemmas.Bool.{false≢true}
use Rattle.plain_lists.specs.Members.{Mem}
use Rattle.plain_lists.proofs.Elements.{Mem-right}
use Rattle.plain_lists.proofs.Readings.{Mem-read}
use Rattle.plain_lists.proofs.Searches.{find-some, find-none}
use Rattle.operations.specs.declared.operation.Operation.{Operation}
use Rattle.records.specs.declared.rows.Project.{Project}
use Rattle.records.specs.declared.rows.Profile.{Profile}
use Rattle.records.specs.declared.rows.Instance.{Instance}
use Rattle.row_machine.specs.declared.changes.RowChange.{RowChange}
use Rattle.row_machine.specs.machine.Task.{Task}
use Rattle.row_machine.specs.machine.State.{State}
use Rattle.row_machine.specs.machine.Rows.{is_instance, instance_named, with_instance}
use Rattle.row_machine.specs.machine.Homes.{is_on}
use Rattle.row_machine.specs.machine.Changes.{applied}
use Rattle.row_machine.specs.machine.Claims.{of_live, claimed_instance, replaced_instance, judged_instances}
use Rattle.row_machine.specs.machine.Holders.{busy_with, keeps_busy}
use Rattle.row_machine.specs.machine.Plans.{project_creation, project_change, project_rename, project_deletion, own_profile}
use Rattle.row_machine.specs.facts.Whole.{IsWhole}
use Rattle.machine_laws.proofs.Cases.{AtOnce, makes_project, changes_project, renames_project, deletes_project, makes_profile, changes_profile, renames_profile, deletes_profile, makes_network, changes_network, renames_network, deletes_network, makes_pool, changes_pool, deletes_pool, makes_volume, changes_volume, renames_volume, deletes_volume, changes_instance}
use Rattle.machine_laws.proofs.SharesSuccess.{put-apart}

-- a claimed instance is judged
pub claim-judged : (s : State) (o : Operation Task) (i : Instance) → Mem o s.operations.live → claimed_instance o.work ≡ Some i → Mem i (judged_instances s)
unfolding judged_instances
claim-judged s o i live is = Mem-right i s.instances (of_live claimed_instance s) (Mem-read (λ (x : Operation Task). claimed_instance x.work) o i s.operations.live live is)

-- a replaced instance is a row
pub replaced-row : (s : State) (task : Task) (i : Instance) → replaced_instance s task ≡ Some i → Mem i s.instances
replaced-row s task i is = at task.replaces is where
  at : (names : Option (List ℕ × List ℕ)) → option_and_then (λ (n : List ℕ × List ℕ). instance_named s.instances n.0 n.1) names ≡ Some i → Mem i s.instances
  at None h = absurd (cc)
  at (Some names) h = (find-some (is_instance names.0 names.1) s.instances i h).0

-- changes at once of projects leave instances
project-instances : (s : State) (old r : Project) → (applied s (project_change old r)).instances ≡ s.instances
project-instances s old r = at (is_on old.config (codes "features.profiles")) refl (is_on r.config (codes "features.profiles")) refl where
  at : (b : Bool) → is_on old.config (codes "features.profiles") ≡ b → (d : Bool) → is_on r.config (codes "features.profiles") ≡ d
      → (applied s (project_change old r)).instances ≡ s.instances
  at true was true now = rw (was, now) refl
  at true was false now = rw (was, now) refl
  at false was true now = rw (was, now) refl
  at false was false now = rw (was, now) refl

made-instances : (s : State) (r : Project) → (applied s (project_creation r)).instances ≡ s.instances
made-instances s r = at (is_on r.config (codes "features.profiles")) refl where
  at : (b : Bool) → is_on r.config (codes "features.profiles") ≡ b → (applied s (project_creation r)).instances ≡ s.instances
  at true is = rw is refl
  at false is = rw is refl

renamed-instances : (s : State) (old : Project) (to : List ℕ) → (applied s (project_rename s to old)).instances ≡ s.instances
renamed-instances s old to = at (own_profile s old) refl where
  at : (found : Option Profile) → own_profile s old ≡ found → (applied s (project_rename s to old)).instances ≡ s.instances
  at None is = rw is refl
  at (Some p) is = rw is refl

deleted-instances : (s : State) (old : Project) → (applied s (project_deletion s old)).instances ≡ s.instances
deleted-instances s old = at (own_profile s old) refl where
  at : (found : Option Profile) → own_profile s old ≡ found → (applied s (project_deletion s old)).instances ≡ s.instances
  at None is = rw is refl
  at (Some p) is = rw is refl

-- instances stay, or one is put that no operation keeps busy
pub data Puts_at_once (s : State) (cs : List RowChange) : Type 0 where
  no_instance : (applied s cs).instances ≡ s.instances → Puts_at_once s cs
  idle_instance : (i : Instance) → busy_with s i.project i.name ≡ None → (applied s cs).instances ≡ with_instance i s.instances → Puts_at_once s cs

pub puts-at_once : (s : State) (cs : List RowChange) → AtOnce s cs → Puts_at_once s cs
puts-at_once s cs (makes_project r good free) = no_instance (made-instances s r)
puts-at_once s cs (changes_project old r found name needs) = no_instance (project-instances s old r)
puts-at_once s cs (renames_project old to found other empty good free) = no_instance (renamed-instances s old to)
puts-at_once s cs (deletes_project old found other empty) = no_instance (deleted-instances s old)
puts-at_once s cs (makes_profile r home new) = no_instance refl
puts-at_once s cs (changes_profile old r home found project name held) = no_instance refl
puts-at_once s cs (renames_profile old to home found other unused held new) = no_instance refl
puts-at_once s cs (deletes_profile old home found other unused held) = no_instance refl
puts-at_once s cs (makes_network r home new) = no_instance refl
puts-at_once s cs (changes_network old r home found project name) = no_instance refl
puts-at_once s cs (renames_network old to home found unused new) = no_instance refl
puts-at_once s cs (deletes_network old home found unused) = no_instance refl
puts-at_once s cs (makes_pool home r new) = no_instance refl
puts-at_once s cs (changes_pool old r found name) = no_instance refl
puts-at_once s cs (deletes_pool home old found unused) = no_instance refl
puts-at_once s cs (makes_volume r home pool new early) = no_instance refl
puts-at_once s cs (changes_volume old r home found project pool name created) = no_instance refl
puts-at_once s cs (renames_volume old to home found unused new) = no_instance refl
puts-at_once s cs (deletes_volume old home found unused) = no_instance refl
puts-at_once s cs (changes_instance old i idle is_same) = idle_instance i
    (ap (λ p. busy_with s p i.name) is_same.project ∙ ap (λ n. busy_with s old.project n) is_same.name ∙ idle.idle) refl

-- the target of a live operation is found as it was
pub lookup-at_once : (s : State) (cs : List RowChange) (o : Operation Task) → IsWhole s → AtOnce s cs → Mem o s.operations.live
    → keeps_busy o.work.project o.work.target.name o.work ≡ true
    → instance_named (applied s cs).instances o.work.project o.work.target.name ≡ instance_named s.instances o.work.project o.work.target.name
unfolding busy_with
lookup-at_once s cs o h form live about = at (puts-at_once s cs form) where
  look : List Instance → Option Instance
  look rows = instance_named rows o.work.project o.work.target.name

  at : Puts_at_once s cs → look (applied s cs).instances ≡ look s.instances
  at (no_instance same) = ap look same
  at (idle_instance i idle put) = ap look put ∙ put-apart i s.instances o.work.project o.work.target.name (λ names.
      false≢true (sym ((find-none (λ (x : Operation Task). keeps_busy i.project i.name x.work) s.operations.live idle).at o live)
      ∙ ap (λ p. keeps_busy p i.name o.work) names.0 ∙ ap (λ n. keeps_busy o.work.project n o.work) names.1 ∙ about))
