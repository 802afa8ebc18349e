-- The forms that changes at once have, with what the rules on names and on what stands in the way establish.
use Rattle.std.proofs.Common.{◌≡◌, ℕ, List, Option, Some, None}
use Rattle.records.specs.declared.commands.Command.{Command}
use Rattle.records.specs.declared.commands.What.{What}
use Rattle.records.specs.declared.commands.What.TheVariants as what
use Rattle.row_machine.specs.declared.changes.RowChange.{RowChange}
use Rattle.records.specs.declared.rows.Instance.{Instance}
use Rattle.records.specs.declared.rows.Snapshot.{Snapshot}
use Rattle.row_machine.specs.machine.Task.{Task}
use Rattle.row_machine.specs.machine.State.{State}
use Rattle.row_machine.specs.machine.Rows.{instance_named, snapshot_named}
use Rattle.row_machine.specs.machine.Plans.{changes, starts, plan_of, if_there}
use Rattle.machine_laws.proofs.Cases.{IsAccepted, AtOnce}
use Rattle.machine_laws.proofs.Commands.{command_of, never_nothing, never_starts}
use Rattle.machine_laws.proofs.Creations.{creates}
use Rattle.machine_laws.proofs.Rewrites.{puts, patches}
use Rattle.machine_laws.proofs.Partings.{moves, removes}

never_acts : {cs : List RowChange} {X : Type 0} (i : Option Instance) (task : Instance → Task) → if_there (λ i. starts (task i)) i ≡ changes cs → X
never_acts None task e = never_nothing e
never_acts (Some i) task e = never_starts e

never_restores : {cs : List RowChange} {X : Type 0} (i : Option Instance) (found : Instance → Option Snapshot) (task : Instance → Snapshot → Task)
    → if_there (λ i. if_there (λ r. starts (task i r)) (found i)) i ≡ changes cs → X
never_restores None found task e = never_nothing e
never_restores {cs} {X} (Some i) found task e = by (found i) e where
  by : (r : Option Snapshot) → if_there (λ r. starts (task i r)) r ≡ changes cs → X
  by None e = never_nothing e
  by (Some r) e = never_starts e

by : (s : State) (project : List ℕ) (expects : Option (List ℕ)) (w : What) (moment : ℕ) (cs : List RowChange) → IsAccepted s (command_of project expects w) moment (changes cs) → AtOnce s cs
unfolding plan_of
by s project expects (what.Create of body) moment cs h = creates s project of.kind of.pool of.instance of.name body moment cs h
by s project expects (what.Put of body) moment cs h = puts s project of.kind of.pool of.instance of.name body moment cs h
by s project expects (what.Patch of body) moment cs h = patches s project of.kind of.pool of.instance of.name body moment cs h
by s project expects (what.Move of to) moment cs h = moves s project of.kind of.pool of.instance of.name to moment cs h
by s project expects (what.Delete of) moment cs h = removes s project of.kind of.pool of.instance of.name moment cs h
by s project expects (what.Act of action) moment cs h = never_acts (instance_named s.instances project of.name) _ h.plan
by s project expects (what.Restore of snapshot) moment cs h =
    never_restores (instance_named s.instances project of.name) (λ i. snapshot_named s.snapshots project of.name snapshot) _ h.plan
by s project expects what.Root moment cs h = never_nothing h.plan
by s project expects what.Server moment cs h = never_nothing h.plan
by s project expects (what.List of recursion) moment cs h = never_nothing h.plan
by s project expects (what.Get of) moment cs h = never_nothing h.plan
by s project expects (what.State of) moment cs h = never_nothing h.plan
by s project expects (what.GetOp op) moment cs h = never_nothing h.plan
by s project expects (what.Cancel op) moment cs h = never_nothing h.plan
by s project expects (what.Wait op timeout) moment cs h = never_nothing h.plan

pub at_once : {s : State} {c : Command} {moment : ℕ} {cs : List RowChange} → IsAccepted s c moment (changes cs) → AtOnce s cs
at_once {s} {c} {moment} {cs} h = by s c.project c.expects c.what moment cs h
