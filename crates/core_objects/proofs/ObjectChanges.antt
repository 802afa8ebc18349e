-- Each command on objects either reads or changes rows at once.
use Rattle.std.proofs.Common.{◌≡◌, ℕ, Bool, true, false, ◌&&◌, List, Option, Some, None, option_map, refl}
use Rattle.std.specs.Prelude.{is_some}
use Rattle.size_values.specs.declared.kinds.ObjectKind.{ObjectKind}
use Rattle.size_values.specs.declared.kinds.ObjectKind.TheVariants as kind
use Rattle.records.specs.Forms.{is_request, is_formed, is_renamable}
use Rattle.records.specs.declared.rows.Project.{Project}
use Rattle.records.specs.declared.rows.Profile.{Profile}
use Rattle.records.specs.declared.rows.Network.{Network}
use Rattle.records.specs.declared.rows.Pool.{Pool}
use Rattle.records.specs.declared.rows.Volume.{Volume}
use Rattle.records.specs.declared.rows.Row.{Row}
use Rattle.records.specs.declared.rows.Row.TheVariants as row
use Rattle.records.specs.declared.commands.Body.{Body}
use Rattle.records.specs.declared.commands.Command.{Command}
use Rattle.records.specs.declared.commands.Origin.{Origin}
use Rattle.records.specs.declared.commands.Origin.TheVariants as origin
use Rattle.records.specs.declared.commands.Target.{Target}
use Rattle.records.specs.declared.commands.What.{What}
use Rattle.records.specs.declared.commands.What.TheVariants as what
use Rattle.row_machine.specs.machine.State.{State}
use Rattle.row_machine.specs.machine.Rows.{project_named, profile_named, network_named, pool_named, volume_named}
use Rattle.row_machine.specs.machine.Homes.{home_of}
use Rattle.row_machine.specs.machine.NameRules.{is_there}
use Rattle.row_machine.specs.machine.Plans.{Plan, if_there, row_of, plan_of, plan_put, plan_patch, plan_move, plan_delete, volume_creation}
use Rattle.row_machine.specs.machine.Rules.{names_broken}
use Rattle.machine_laws.proofs.Commands.{command_of, target}
use Rattle.machine_laws.proofs.Speaking.{IsAbout, about-put, about-patch, about-move, about-delete, it-is_there}
use Rattle.machine_laws.proofs.Told.{names-right}
use Rattle.plans_objects.specs.Planning.{changes_in}
use Rattle.core_objects.specs.Answers.{is_read}
use Rattle.core_objects.specs.Commands.{is_object_kind, is_made_at_once, is_object_command}

-- what is there is changed
changes-there : {X : Type 0} (as_row : X → Row) (plan : Row → Plan) (o : Option X) → ((x : X) → changes_in (plan (as_row x)) ≡ None → ⊥)
    → is_some o ≡ true → changes_in (if_there plan (option_map as_row o)) ≡ None → ⊥
changes-there as_row plan None changes there e = cc
changes-there as_row plan (Some x) changes there e = changes x e

-- a plan that changes each row of a kind
abbrev ChangesEach : ObjectKind → (Row → Plan) → Type 0
ChangesEach kind.Project plan = (r : Project) → changes_in (plan (row.Project r)) ≡ None → ⊥
ChangesEach kind.Profile plan = (r : Profile) → changes_in (plan (row.Profile r)) ≡ None → ⊥
ChangesEach kind.Network plan = (r : Network) → changes_in (plan (row.Network r)) ≡ None → ⊥
ChangesEach kind.Pool plan = (r : Pool) → changes_in (plan (row.Pool r)) ≡ None → ⊥
ChangesEach kind.Volume plan = (r : Volume) → changes_in (plan (row.Volume r)) ≡ None → ⊥
ChangesEach other plan = Unit {0}

-- the object of a path that is there is changed
module _ (s : State) (project pool instance name : List ℕ) where
  row-changes : (k : ObjectKind) (plan : Row → Plan) → is_object_kind k ≡ true → ChangesEach k plan → is_there s project (target k pool instance name) ≡ true
      → changes_in (if_there plan (row_of s project (target k pool instance name))) ≡ None → ⊥
  row-changes kind.Project plan built each there e = changes-there row.Project plan (project_named s.projects name) each there e
  row-changes kind.Profile plan built each there e =
      changes-there row.Profile plan (profile_named s.profiles (home_of s.projects project kind.Profile) name) each there e
  row-changes kind.Network plan built each there e =
      changes-there row.Network plan (network_named s.networks (home_of s.projects project kind.Network) name) each there e
  row-changes kind.Pool plan built each there e = changes-there row.Pool plan (pool_named s.pools name) each there e
  row-changes kind.Volume plan built each there e =
      changes-there row.Volume plan (volume_named s.volumes (home_of s.projects project kind.Volume) pool name) each there e
  row-changes other plan built each there e = cc

-- the object of a command that passes the rules on names is there
pub its-object : (s : State) (project : List ℕ) (expects : Option (List ℕ)) (w : What) (of : Target) → IsAbout w of → names_broken s (command_of project expects w) ≡ None → is_there s project of ≡ true
its-object s project expects w of about free = (it-is_there about (names-right s (command_of project expects w) free)).1

module _ (s : State) (project : List ℕ) (of : Target) where
  puts-each : (k : ObjectKind) (body : Body) → ChangesEach k (plan_put s project of body)
  puts-each kind.Project body = λ r e. cc
  puts-each kind.Profile body = λ r e. cc
  puts-each kind.Network body = λ r e. cc
  puts-each kind.Pool body = λ r e. cc
  puts-each kind.Volume body = λ r e. cc
  puts-each other body = tt

  patches-each : (k : ObjectKind) (body : Body) → ChangesEach k (plan_patch body)
  patches-each kind.Project body = λ r e. cc
  patches-each kind.Profile body = λ r e. cc
  patches-each kind.Network body = λ r e. cc
  patches-each kind.Pool body = λ r e. cc
  patches-each kind.Volume body = λ r e. cc
  patches-each other body = tt

  -- a pool is not renamed
  moves-each : (k : ObjectKind) (to : List ℕ) → is_renamable k ≡ true → ChangesEach k (plan_move s project of to)
  moves-each kind.Project to h = λ r e. cc
  moves-each kind.Profile to h = λ r e. cc
  moves-each kind.Network to h = λ r e. cc
  moves-each kind.Pool to h = cc
  moves-each kind.Volume to h = λ r e. cc
  moves-each other to h = tt

  deletes-each : (k : ObjectKind) → ChangesEach k (plan_delete s project of)
  deletes-each kind.Project = λ r e. cc
  deletes-each kind.Profile = λ r e. cc
  deletes-each kind.Network = λ r e. cc
  deletes-each kind.Pool = λ r e. cc
  deletes-each kind.Volume = λ r e. cc
  deletes-each other = tt

-- a volume that is no copy is made at once
volume-made : (s : State) (home : List ℕ) (of : Target) (body : Body) (moment : ℕ) (from : Origin) → is_made_at_once from ≡ true
    → changes_in (volume_creation s home of body moment from) ≡ None → ⊥
volume-made s home of body moment origin.None built e = cc
volume-made s home of body moment (origin.Image alias) built e = cc
volume-made s home of body moment (origin.Copy from snapshot pool) built e = cc

creates : (s : State) (project : List ℕ) (expects : Option (List ℕ)) (k : ObjectKind) (pool instance name : List ℕ) (body : Body) (moment : ℕ)
    → is_object_command (what.Create (target k pool instance name) body) ≡ true
    → changes_in (plan_of s (command_of project expects (what.Create (target k pool instance name) body)) moment) ≡ None → ⊥
unfolding plan_of
creates s project expects kind.Project pool instance name body moment built e = cc
creates s project expects kind.Profile pool instance name body moment built e = cc
creates s project expects kind.Network pool instance name body moment built e = cc
creates s project expects kind.Pool pool instance name body moment built e = cc
creates s project expects kind.Volume pool instance name body moment built e =
    volume-made s (home_of s.projects project kind.Volume) (target kind.Volume pool instance name) body moment body.origin built e
creates s project expects other pool instance name body moment built e = cc

-- of two tests that pass, the first
first-passes : (a b : Bool) → (a && b) ≡ true → a ≡ true
first-passes true b e = refl
first-passes false b e = e

-- a command on objects that does not read and passes the rules on names changes rows at once
by-what : (s : State) (project : List ℕ) (expects : Option (List ℕ)) (w : What) (moment : ℕ) → is_request w ≡ true → is_object_command w ≡ true → is_read w ≡ false
    → names_broken s (command_of project expects w) ≡ None → changes_in (plan_of s (command_of project expects w) moment) ≡ None → ⊥
unfolding plan_of
by-what s project expects (what.Create of body) moment formed built reads free e = creates s project expects of.kind of.pool of.instance of.name body moment built e
by-what s project expects (what.Put of body) moment formed built reads free e =
    row-changes s project of.pool of.instance of.name of.kind (plan_put s project of body) built (puts-each s project of of.kind body)
    (its-object s project expects (what.Put of body) of (about-put of body) free) e
by-what s project expects (what.Patch of body) moment formed built reads free e =
    row-changes s project of.pool of.instance of.name of.kind (plan_patch body) built (patches-each s project of of.kind body)
    (its-object s project expects (what.Patch of body) of (about-patch of body) free) e
by-what s project expects (what.Move of to) moment formed built reads free e =
    row-changes s project of.pool of.instance of.name of.kind (plan_move s project of to) built
    (moves-each s project of of.kind to (first-passes (is_renamable of.kind) _ formed))
    (its-object s project expects (what.Move of to) of (about-move of to) free) e
by-what s project expects (what.Delete of) moment formed built reads free e =
    row-changes s project of.pool of.instance of.name of.kind (plan_delete s project of) built (deletes-each s project of of.kind)
    (its-object s project expects (what.Delete of) of (about-delete of) free) e
by-what s project expects other moment formed built reads free e = cc

pub object-changes : (s : State) (c : Command) (moment : ℕ) → is_formed c ≡ true → is_object_command c.what ≡ true → is_read c.what ≡ false → names_broken s c ≡ None
    → changes_in (plan_of s c moment) ≡ None → ⊥
object-changes s c moment formed built reads free e = by-what s c.project c.expects c.what moment formed built reads free e
