-- Plans that change nothing at once: those of objects whose changes tell nothing at once.
use Rattle.std.proofs.Common.{◌≡◌, refl, sym, ℕ, Bool, true, false, List, Option, Some, None, length, ◌==◌, if◌then◌else◌, subst}
use Rattle.std.specs.Option.{option_map}
use Rattle.size_values.specs.declared.kinds.ObjectKind.{ObjectKind}
use Rattle.size_values.specs.declared.kinds.ObjectKind.TheVariants as kind
use Rattle.records.specs.declared.rows.Row.{Row}
use Rattle.records.specs.declared.rows.Row.TheVariants as row
use Rattle.records.specs.declared.commands.Target.{Target}
use Rattle.records.specs.declared.commands.Origin.{Origin}
use Rattle.records.specs.declared.commands.Origin.TheVariants as origin
use Rattle.records.specs.declared.commands.Body.{Body}
use Rattle.records.specs.declared.commands.Command.{Command}
use Rattle.records.specs.declared.commands.What.{What}
use Rattle.records.specs.declared.commands.What.TheVariants as what
use Rattle.row_machine.specs.machine.State.{State}
use Rattle.row_machine.specs.machine.Rows.{instance_named, snapshot_named, pool_named}
use Rattle.row_machine.specs.machine.Plans.{Plan, if_there, plan_of, copy_from, instance_creation, plan_create, row_of, plan_put, plan_patch, plan_move, plan_delete}
use Rattle.row_machine.specs.shown.Notices.{made_life, changed_life, moved_life, deleted_life}
use Rattle.plans_objects.specs.Planning.{changes_in}

-- ---- parts of plans

-- a plan for what is there changes nothing, where it never does
pub never-there : {X : Type 0} (plan : X → Plan) → ((x : X) → changes_in (plan x) ≡ None)
    → (o : Option X) → changes_in (if_there plan o) ≡ None
never-there plan never None = refl
never-there plan never (Some x) = never x

-- the same of a row, of the kinds for which it never does
never-row : {X : Type 0} (plan : Row → Plan) (at : X → Row) → ((x : X) → changes_in (plan (at x)) ≡ None)
    → (o : Option X) → changes_in (if_there plan (option_map at o)) ≡ None
never-row plan at never None = refl
never-row plan at never (Some x) = never x

-- the same of a choice
never-either : (b : Bool) (p q : Plan) → changes_in p ≡ None → changes_in q ≡ None → changes_in (if b then p else q) ≡ None
never-either true p q first second = first
never-either false p q first second = second

-- ---- by command

-- a copy of an instance is an operation
copies-silent : (s : State) (project : List ℕ) (of : Target) (body : Body) (moment : ℕ) (from snapshot : List ℕ)
    → changes_in (copy_from s project of body moment from snapshot) ≡ None
copies-silent s project of body moment from snapshot =
    never-there _
    (λ i. never-either (length snapshot == 0) _ _ refl (never-there _ (λ r. refl) (snapshot_named s.snapshots project from snapshot)))
    (instance_named s.instances project from)

-- the creation of an instance is an operation
pub instances-silent : (s : State) (project : List ℕ) (of : Target) (body : Body) (moment : ℕ) (from : Origin)
    → changes_in (instance_creation s project of body moment from) ≡ None
instances-silent s project of body moment origin.None = refl
instances-silent s project of body moment (origin.Image alias) = refl
instances-silent s project of body moment (origin.Copy from snapshot pool) = copies-silent s project of body moment from snapshot

-- what tells nothing of its creation is not created at once
pub creations-silent : (s : State) (project : List ℕ) (of : Target) (body : Body) (moment : ℕ)
    → made_life of.kind ≡ None → changes_in (plan_create s project of body moment) ≡ None
creations-silent s project of body moment = at of.kind where
  at : (k : ObjectKind) → made_life k ≡ None → changes_in (plan_create s project (record of { kind = k }) body moment) ≡ None
  at kind.Project silent = cc silent
  at kind.Profile silent = cc silent
  at kind.Network silent = cc silent
  at kind.Pool silent = cc silent
  at kind.Volume silent = cc silent
  at kind.Instance silent = instances-silent s project (record of { kind = kind.Instance }) body moment body.origin
  at kind.Snapshot silent = never-there _ (λ i. refl) (instance_named s.instances project of.instance)
  at kind.Operation silent = refl

-- what tells nothing of a PUT is not changed by it at once
pub puts-silent : (s : State) (project : List ℕ) (of : Target) (body : Body)
    → changed_life of.kind ≡ None → changes_in (if_there (plan_put s project of body) (row_of s project of)) ≡ None
puts-silent s project of body = at of.kind where
  at : (k : ObjectKind) → changed_life k ≡ None
      → changes_in (if_there (plan_put s project (record of { kind = k }) body) (row_of s project (record of { kind = k }))) ≡ None
  at kind.Project silent = cc silent
  at kind.Profile silent = cc silent
  at kind.Network silent = cc silent
  at kind.Pool silent = cc silent
  at kind.Volume silent = cc silent
  at kind.Instance silent = cc silent
  at kind.Snapshot silent = never-row _ row.Snapshot (λ r. refl) (snapshot_named s.snapshots project of.instance of.name)
  at kind.Operation silent = refl

-- the same of a PATCH
pub patches-silent : (s : State) (project : List ℕ) (of : Target) (body : Body)
    → changed_life of.kind ≡ None → changes_in (if_there (plan_patch body) (row_of s project of)) ≡ None
patches-silent s project of body = at of.kind where
  at : (k : ObjectKind) → changed_life k ≡ None
      → changes_in (if_there (plan_patch body) (row_of s project (record of { kind = k }))) ≡ None
  at kind.Project silent = cc silent
  at kind.Profile silent = cc silent
  at kind.Network silent = cc silent
  at kind.Pool silent = cc silent
  at kind.Volume silent = cc silent
  at kind.Instance silent = cc silent
  at kind.Snapshot silent = never-row _ row.Snapshot (λ r. refl) (snapshot_named s.snapshots project of.instance of.name)
  at kind.Operation silent = refl

-- what tells nothing of a rename is not renamed at once
pub moves-silent : (s : State) (project : List ℕ) (of : Target) (to : List ℕ)
    → moved_life of.kind ≡ None → changes_in (if_there (plan_move s project of to) (row_of s project of)) ≡ None
moves-silent s project of to = at of.kind where
  at : (k : ObjectKind) → moved_life k ≡ None
      → changes_in (if_there (plan_move s project (record of { kind = k }) to) (row_of s project (record of { kind = k }))) ≡ None
  at kind.Project silent = cc silent
  at kind.Profile silent = cc silent
  at kind.Network silent = cc silent
  at kind.Pool silent = never-row _ row.Pool (λ r. refl) (pool_named s.pools of.name)
  at kind.Volume silent = cc silent
  at kind.Instance silent = never-row _ row.Instance (λ i. refl) (instance_named s.instances project of.name)
  at kind.Snapshot silent = never-row _ row.Snapshot (λ r. refl) (snapshot_named s.snapshots project of.instance of.name)
  at kind.Operation silent = refl

-- what tells nothing of its deletion is not deleted at once
pub deletions-silent : (s : State) (project : List ℕ) (of : Target)
    → deleted_life of.kind ≡ None → changes_in (if_there (plan_delete s project of) (row_of s project of)) ≡ None
deletions-silent s project of = at of.kind where
  at : (k : ObjectKind) → deleted_life k ≡ None
      → changes_in (if_there (plan_delete s project (record of { kind = k })) (row_of s project (record of { kind = k }))) ≡ None
  at kind.Project silent = cc silent
  at kind.Profile silent = cc silent
  at kind.Network silent = cc silent
  at kind.Pool silent = cc silent
  at kind.Volume silent = cc silent
  at kind.Instance silent = never-row _ row.Instance (λ i. refl) (instance_named s.instances project of.name)
  at kind.Snapshot silent = never-row _ row.Snapshot (λ r. refl) (snapshot_named s.snapshots project of.instance of.name)
  at kind.Operation silent = refl

-- ---- as commands

-- the command of this request in this project
abbrev pub command_of : List ℕ → Option (List ℕ) → What → Command
command_of project expects w = record { project = project; what = w; expects = expects }

-- what is true of the command of these parts is true of the command that has them
pub of-its-command : {project : List ℕ} {w : What} (P : Command → Type 0) (c : Command) → project ≡ c.project → c.what ≡ w
    → P (command_of project c.expects w) → P c
of-its-command {project} {w} P c there is h =
    subst (λ p. P (command_of p c.expects c.what)) there (subst (λ x. P (command_of project c.expects x)) (sym is) h)

-- a creation that tells nothing changes nothing at once
pub creation-silent : (s : State) (project : List ℕ) (expects : Option (List ℕ)) (of : Target) (body : Body) (moment : ℕ)
    → None ≡ made_life of.kind → changes_in (plan_of s (command_of project expects (what.Create of body)) moment) ≡ None
unfolding plan_of
creation-silent s project expects of body moment silent = creations-silent s project of body moment (sym silent)

-- a PUT that tells nothing changes nothing at once
pub put-silent : (s : State) (project : List ℕ) (expects : Option (List ℕ)) (of : Target) (body : Body) (moment : ℕ)
    → None ≡ changed_life of.kind → changes_in (plan_of s (command_of project expects (what.Put of body)) moment) ≡ None
unfolding plan_of
put-silent s project expects of body moment silent = puts-silent s project of body (sym silent)

-- a PATCH that tells nothing changes nothing at once
pub patch-silent : (s : State) (project : List ℕ) (expects : Option (List ℕ)) (of : Target) (body : Body) (moment : ℕ)
    → None ≡ changed_life of.kind → changes_in (plan_of s (command_of project expects (what.Patch of body)) moment) ≡ None
unfolding plan_of
patch-silent s project expects of body moment silent = patches-silent s project of body (sym silent)

-- a rename that tells nothing changes nothing at once
pub move-silent : (s : State) (project : List ℕ) (expects : Option (List ℕ)) (of : Target) (to : List ℕ) (moment : ℕ)
    → None ≡ moved_life of.kind → changes_in (plan_of s (command_of project expects (what.Move of to)) moment) ≡ None
unfolding plan_of
move-silent s project expects of to moment silent = moves-silent s project of to (sym silent)

-- a deletion that tells nothing changes nothing at once
pub deletion-silent : (s : State) (project : List ℕ) (expects : Option (List ℕ)) (of : Target) (moment : ℕ)
    → None ≡ deleted_life of.kind → changes_in (plan_of s (command_of project expects (what.Delete of)) moment) ≡ None
unfolding plan_of
deletion-silent s project expects of moment silent = deletions-silent s project of (sym silent)

-- a read, a cancel and a wait change nothing, and changes of an instance's state and restores are operations
pub other-silent : (s : State) (c : Command) (moment : ℕ)
    → ((of : Target) (body : Body) → c.what ≡ what.Create of body → ⊥) → ((of : Target) (body : Body) → c.what ≡ what.Put of body → ⊥)
    → ((of : Target) (body : Body) → c.what ≡ what.Patch of body → ⊥) → ((of : Target) (to : List ℕ) → c.what ≡ what.Move of to → ⊥)
    → ((of : Target) → c.what ≡ what.Delete of → ⊥) → changes_in (plan_of s c moment) ≡ None
unfolding plan_of
other-silent s c moment create put patch move delete = by c.what create put patch move delete where
  by : (w : What) → ((of : Target) (body : Body) → w ≡ what.Create of body → ⊥) → ((of : Target) (body : Body) → w ≡ what.Put of body → ⊥)
      → ((of : Target) (body : Body) → w ≡ what.Patch of body → ⊥) → ((of : Target) (to : List ℕ) → w ≡ what.Move of to → ⊥)
      → ((of : Target) → w ≡ what.Delete of → ⊥) → changes_in (plan_of s (command_of c.project c.expects w) moment) ≡ None
  by (what.Create of body) create put patch move delete = absurd (create of body refl)
  by (what.Put of body) create put patch move delete = absurd (put of body refl)
  by (what.Patch of body) create put patch move delete = absurd (patch of body refl)
  by (what.Move of to) create put patch move delete = absurd (move of to refl)
  by (what.Delete of) create put patch move delete = absurd (delete of refl)
  by (what.Act of action) create put patch move delete = never-there _ (λ i. refl) (instance_named s.instances c.project of.name)
  by (what.Restore of snapshot) create put patch move delete =
      never-there _ (λ i. never-there _ (λ r. refl) (snapshot_named s.snapshots c.project of.name snapshot)) (instance_named s.instances c.project of.name)
  by what.Root create put patch move delete = refl
  by what.Server create put patch move delete = refl
  by (what.List of recursion) create put patch move delete = refl
  by (what.Get of) create put patch move delete = refl
  by (what.State of) create put patch move delete = refl
  by (what.GetOp op) create put patch move delete = refl
  by (what.Cancel op) create put patch move delete = refl
  by (what.Wait op timeout) create put patch move delete = refl
