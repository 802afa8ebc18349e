-- The place of the root disk is among the devices.
use Rattle.std.proofs.Common.{◌≡◌, ℕ, ◌+◌, ◌<◌, Bool, true, false, cond, List, [], ◌∷◌, length, suc, subst, sym, arith}
use Rattle.config_lists.specs.Devices.{NamedDevices, is_root_disk, root_places, one_of, root_of}
use Rattle.config_lists.specs.declared.root.Root.{Root}
use Rattle.config_lists.specs.declared.root.Root.TheVariants as root

-- a single place is below n
abbrev IsBelow : ℕ → Root → Type 0
IsBelow n root.None = Unit {0}
IsBelow n (root.One place) = place < n
IsBelow n root.Several = Unit {0}

-- the places of the root disks after `place`
places-below : (place : ℕ) (ds : NamedDevices) → IsBelow (place + length ds) (one_of (root_places place ds))
places-below place [] = tt
places-below place (d ∷ ds) =
    let step : place + 1 + length ds ≡ place + suc (length ds) = omega arith in
    by (is_root_disk d.1) (root_places (place + 1) ds) (subst (λ n. IsBelow n (one_of (root_places (place + 1) ds))) step (places-below (place + 1) ds))
  where
    by : (b : Bool) (places : List ℕ) → IsBelow (place + suc (length ds)) (one_of places) → IsBelow (place + suc (length ds)) (one_of (cond b (place ∷ places) places))
    by true [] h = omega arith
    by true (q ∷ qs) h = tt
    by false places h = h

pub root-within : (ds : NamedDevices) (place : ℕ) → root.One place ≡ root_of ds → place < length ds
unfolding root_of
root-within ds place is =
    let below : place < 0 + length ds = subst (IsBelow (0 + length ds)) (sym is) (places-below 0 ds) in
    omega (arith, below)
