-- What the calls of the modelled host do to its roots, step by step.
use Prim.Native.String.{String}
use Rattle.std.specs.Prelude.{◌≡◌, ℕ, false, List, [], ◌∷◌, length, find, map, Option, Some, None, codes, fold}
use Rattle.std.specs.Prelude.{option_map, unwrap_or}
use Rattle.std.specs.Str.{bytes_eq}
use Rattle.host_model.specs.Effects.{effect_of}
use Rattle.host_model.specs.declared.call.HostCall.{HostCall}
use Rattle.host_model.specs.declared.call.HostCall.TheVariants as call
use Rattle.host_model.specs.declared.place.Place.{Place}
use Rattle.host_model.specs.declared.root.HostRoot.{HostRoot}
use Rattle.host_model.specs.declared.root.Spec.{Spec}
use Rattle.size_values.specs.declared.kinds.Power.{Power}
use Rattle.size_values.specs.declared.kinds.Power.TheVariants.{Stopped, Running}
use Rattle.size_values.specs.declared.kinds.Power.TheVariants.{Frozen}
use Rattle.config_lists.specs.Settings.{setting}
use Rattle.tests_rows.specs.Tables.{entry}

-- the place of an instance
abbrev pub place : String → Place
place name = record { volume = false; project = codes "default"; pool = []; name = codes name }

-- a specification of so many processors
abbrev pub processors : String → Spec
processors cpu = record { config = entry "limits.cpu" cpu ∷ []; devices = [] }

-- a copy goes into the instance `b`, and is of a snapshot or of the root
abbrev pub copy : String → String → HostCall
copy from snapshot = call.CopyRoot (place from) (codes snapshot) (place "b")

-- a root by its name: its state, content, processors and number of snapshots
abbrev pub Seen : Type 0
Seen = Power × List ℕ × List ℕ × ℕ

abbrev pub seen : List ℕ → List HostRoot → Option Seen
seen name roots =
    option_map
    (λ root. (
      root.power,
      root.content,
      unwrap_or (setting root.applied.config (codes "limits.cpu")) [],
      length root.snapshots,
    ))
    (find (λ root. bytes_eq root.place.name name) roots)

abbrev pub root : Power → String → String → ℕ → Seen
root power content cpu snapshots = (power, codes content, codes cpu, snapshots)

-- a call, and the name and the state of a root after it
abbrev pub steps : List (HostCall × String × Seen)
steps =
    (call.Thaw (place "e"), "e", root Running "" "" 0)
    ∷ (call.MakeRoot (place "a") (codes "img"), "a", root Stopped "img" "" 0)
    ∷ (call.Start (place "a") (processors "2"), "a", root Running "img" "2" 0)
    ∷ (call.Freeze (place "a"), "a", root Frozen "img" "2" 0)
    ∷ (call.Stop (place "a"), "a", root Stopped "img" "2" 0)
    ∷ (call.Apply (place "a") (processors "4"), "a", root Stopped "img" "4" 0)
    ∷ (call.Snap (place "a") (codes "s0"), "a", root Stopped "img" "4" 1)
    ∷ (call.Snap (place "a") (codes "s0"), "a", root Stopped "img" "4" 1)
    ∷ (call.Snap (place "a") (codes "s1"), "a", root Stopped "img" "4" 2)
    ∷ (copy "a" "s0", "b", root Stopped "img" "" 0)
    ∷ (copy "a" "no", "b", root Stopped "" "" 0)
    ∷ (copy "a" "", "b", root Stopped "img" "" 0)
    ∷ (call.Restore (place "a") (codes "s1"), "a", root Stopped "img" "4" 2)
    ∷ (call.Unsnap (place "a") (codes "s1"), "a", root Stopped "img" "4" 1)
    ∷ (call.Rename (place "a") (place "c"), "c", root Stopped "img" "4" 1)
    ∷ (call.Clear (place "b"), "c", root Stopped "img" "4" 1)
    ∷ []

-- what is seen after each step, beginning with these roots
abbrev pub seen_after_each : List HostRoot → List (HostCall × String × Seen) → List (Option Seen)
seen_after_each roots [] = []
seen_after_each roots (step ∷ more) =
    seen (codes step.1) (effect_of step.0 roots) ∷ seen_after_each (effect_of step.0 roots) more

-- the roots after all steps
abbrev pub roots_at_end : List HostRoot
roots_at_end = fold (λ roots step. effect_of step.0 roots) [] steps

-- every case; at the end the renamed and the cleared root are gone
pub record HostHolds : Type 0 where
  pub effects : seen_after_each [] steps ≡ map (λ step. Some step.2) steps
  pub renamed : seen (codes "a") roots_at_end ≡ None
  pub cleared : seen (codes "b") roots_at_end ≡ None
