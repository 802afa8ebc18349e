-- The calls of deeds, what actions lead to from each status, and the names of snapshots.
use Prim.Native.String.{String}
use Rattle.std.specs.Prelude.{ℕ, Bool, true, false, List, [], ◌∷◌, Option, Some, None, fold, codes}
use Rattle.std.specs.Result.{result_ok}
use Rattle.instance_states.specs.Numbers.{Numbering, unseen, seen, next_name}
use Rattle.instance_states.specs.Plans.{calls_of, undo_of}
use Rattle.instance_states.specs.States.{after_of, is_allowed}
use Rattle.instance_states.specs.declared.plan.CallName.{CallName}
use Rattle.instance_states.specs.declared.plan.CallName.TheVariants as name
use Rattle.size_values.specs.declared.kinds.Action.{Action}
use Rattle.size_values.specs.declared.kinds.Action.TheVariants as action
use Rattle.size_values.specs.declared.kinds.Deed.{Deed}
use Rattle.size_values.specs.declared.kinds.Deed.TheVariants as deed
use Rattle.size_values.specs.declared.kinds.Power.{Power}
use Rattle.size_values.specs.declared.kinds.Power.TheVariants as power
use Rattle.tests_rows.specs.Tables.{Agree}

-- a deed, its calls, and the call that takes them back
abbrev pub plans : List (Deed × List CallName × Option CallName)
plans =
    (deed.Create, name.Clear ∷ name.MakeRoot ∷ [], Some name.Clear)
    ∷ (deed.Copy, name.Clear ∷ name.CopyRoot ∷ [], Some name.Clear)
    ∷ (deed.Update, name.Apply ∷ [], None)
    ∷ (deed.Restore, name.Restore ∷ [], None)
    ∷ (deed.Rename, name.Rename ∷ [], None)
    ∷ (deed.Delete, name.Clear ∷ [], None)
    ∷ (deed.Snap, name.Snap ∷ [], Some name.Unsnap)
    ∷ (deed.Unsnap, name.Unsnap ∷ [], None)
    ∷ (deed.CopyVolume, name.Clear ∷ name.CopyRoot ∷ [], Some name.Clear)
    ∷ ((deed.Act action.Start false), name.Start ∷ [], None)
    ∷ ((deed.Act action.Stop false), name.Stop ∷ [], None)
    ∷ ((deed.Act action.Stop true), name.Stop ∷ name.Clear ∷ [], None)
    ∷ ((deed.Act action.Restart true), name.Stop ∷ name.Start ∷ [], None)
    ∷ ((deed.Act action.Freeze true), name.Freeze ∷ [], None)
    ∷ ((deed.Act action.Unfreeze false), name.Thaw ∷ [], None)
    ∷ []

-- a status, an action, and the status that it leads to, or none where it is not allowed
abbrev pub actions : List (Power × Action × Option Power)
actions =
    (power.Stopped, action.Start, Some power.Running)
    ∷ (power.Stopped, action.Stop, None)
    ∷ (power.Stopped, action.Restart, None)
    ∷ (power.Stopped, action.Freeze, None)
    ∷ (power.Stopped, action.Unfreeze, None)
    ∷ (power.Running, action.Start, None)
    ∷ (power.Running, action.Stop, Some power.Stopped)
    ∷ (power.Running, action.Restart, Some power.Running)
    ∷ (power.Running, action.Freeze, Some power.Frozen)
    ∷ (power.Running, action.Unfreeze, None)
    ∷ (power.Frozen, action.Start, None)
    ∷ (power.Frozen, action.Stop, Some power.Stopped)
    ∷ (power.Frozen, action.Restart, None)
    ∷ (power.Frozen, action.Freeze, None)
    ∷ (power.Frozen, action.Unfreeze, Some power.Running)
    ∷ (power.Error, action.Start, None)
    ∷ (power.Error, action.Stop, Some power.Stopped)
    ∷ (power.Error, action.Restart, None)
    ∷ (power.Error, action.Freeze, None)
    ∷ (power.Error, action.Unfreeze, None)
    ∷ []

-- a status and a deed, and whether it is allowed
abbrev pub deeds : List (Power × Deed × Bool)
deeds =
    (power.Stopped, deed.Restore, true)
    ∷ (power.Running, deed.Restore, false)
    ∷ (power.Stopped, deed.Rename, true)
    ∷ (power.Frozen, deed.Rename, false)
    ∷ (power.Error, deed.Rename, false)
    ∷ (power.Stopped, deed.Delete, true)
    ∷ (power.Error, deed.Delete, true)
    ∷ (power.Running, deed.Delete, false)
    ∷ (power.Running, deed.Snap, true)
    ∷ (power.Error, deed.Snap, false)
    ∷ (power.Error, deed.Update, true)
    ∷ (power.Error, deed.Unsnap, true)
    ∷ []

-- a pattern, the names of snapshots, of the pattern or others, and the name that follows
abbrev pub names : List (String × List String × String)
names =
    ("snap%d", [], "snap0")
    ∷ ("snap%d", "snap0" ∷ [], "snap1")
    ∷ ("snap%d", "snap0" ∷ "snap1" ∷ [], "snap2")
    ∷ ("snap%d", "snap1" ∷ [], "snap2")
    ∷ ("snap%d", "snap7" ∷ "snap3" ∷ [], "snap8")
    ∷ ("snap%d", "snap01" ∷ "snap" ∷ "snap-1" ∷ "snap1x" ∷ "xsnap1" ∷ "nap1" ∷ "snap1 " ∷ [], "snap0")
    ∷ ("snap%d", "snap00" ∷ [], "snap0")
    ∷ ("snap%d", "snap999999999" ∷ [], "snap1000000000")
    ∷ ("snap%d", "snap1000000000" ∷ [], "snap0")
    ∷ ("snap%d", "snap0123456789" ∷ "snap41" ∷ [], "snap42")
    ∷ ("a%d.b", "a4.b" ∷ "a.b" ∷ "a5b" ∷ "a12.b" ∷ "a3.b.b" ∷ [], "a13.b")
    ∷ []

-- the numbers that are seen in names
abbrev pub numbers : List ℕ → List String → Numbering
numbers pattern given = fold (λ before name. seen (codes name) before) (unseen pattern) given

-- every case
pub record StatesHold : Type 0 where
  pub calls : Agree (λ row. calls_of row.0) (λ row. row.1) plans
  pub undone_by : Agree (λ row. undo_of row.0) (λ row. row.2) plans
  pub lead_to : Agree (λ row. result_ok (after_of row.0 row.1)) (λ row. row.2) actions
  pub allowed : Agree (λ row. is_allowed row.1 row.0) (λ row. row.2) deeds
  pub follow : Agree (λ row. next_name (numbers (codes row.0) row.1)) (λ row. codes row.2) names
