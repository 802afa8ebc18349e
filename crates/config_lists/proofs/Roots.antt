-- The root disks of devices that are seen one after the other.
use Rattle.std.proofs.Common.{◌≡◌, ℕ, ◌+◌, Bool, true, false, cond, List, [], ◌∷◌, ◌++◌, length, take, slice_get, zero, suc, ◌<◌, Some, refl, ap, ◌∙◌, arith}
use Rattle.std.proofs.lemmas.List.{append-nil, take_more, length-take-le}
use Rattle.std.proofs.lemmas.Option.{none-some, same_Some, slice_get_within, get_or_from_slice_get}
use Rattle.std.specs.Map.{values_of}
use Rattle.config_lists.specs.Settings.{Settings}
use Rattle.config_lists.specs.Devices.{NamedDevices, is_root_disk, root_places, one_of, root_of, and_one}
use Rattle.config_lists.specs.declared.root.Root.TheVariants as root

-- one more place
one_of-push : (places : List ℕ) (place : ℕ) → one_of (places ++ place ∷ []) ≡ and_one (one_of places) place
one_of-push [] place = refl
one_of-push (p ∷ []) place = refl
one_of-push (p ∷ q ∷ ps) place = refl

-- one more device
abbrev place_if : Bool → ℕ → List ℕ
place_if b place = cond b (place ∷ []) []

root_places-push : (k : ℕ) (ds : NamedDevices) (name : List ℕ) (d : Settings) → root_places k (ds ++ (name, d) ∷ []) ≡ root_places k ds ++ place_if (is_root_disk d) (k + length ds)
root_places-push k [] name d = by (is_root_disk d)
  where
    by : (b : Bool) → cond b (k ∷ []) [] ≡ place_if b (k + 0)
    by true = ap (λ n. n ∷ []) (omega arith)
    by false = refl
root_places-push k (e ∷ ds) name d =
    by (is_root_disk e.1) (root_places-push (k + 1) ds name d ∙ ap (λ n. root_places (k + 1) ds ++ place_if (is_root_disk d) n) (omega arith))
  where
    by : (b : Bool) → root_places (k + 1) (ds ++ (name, d) ∷ []) ≡ root_places (k + 1) ds ++ place_if (is_root_disk d) (k + length (e ∷ ds))
        → cond b (k ∷ root_places (k + 1) (ds ++ (name, d) ∷ [])) (root_places (k + 1) (ds ++ (name, d) ∷ [])) ≡ cond b (k ∷ root_places (k + 1) ds) (root_places (k + 1) ds) ++ place_if (is_root_disk d) (k + length (e ∷ ds))
    by true rest = ap (λ ps. k ∷ ps) rest
    by false rest = rest

root_of-push_root : (ds : NamedDevices) (name : List ℕ) (d : Settings) → is_root_disk d ≡ true → root_of (ds ++ (name, d) ∷ []) ≡ and_one (root_of ds) (length ds)
unfolding root_of
root_of-push_root ds name d is =
    ap one_of (root_places-push 0 ds name d ∙ ap (λ b. root_places 0 ds ++ place_if b (0 + length ds)) is)
    ∙ one_of-push (root_places 0 ds) (0 + length ds) ∙ ap (and_one (one_of (root_places 0 ds))) (omega arith)

root_of-push_other : (ds : NamedDevices) (name : List ℕ) (d : Settings) → is_root_disk d ≡ false → root_of (ds ++ (name, d) ∷ []) ≡ root_of ds
unfolding root_of
root_of-push_other ds name d is =
    ap one_of (root_places-push 0 ds name d ∙ ap (λ b. root_places 0 ds ++ place_if b (0 + length ds)) is ∙ append-nil (root_places 0 ds))

pub root_of-nil : root_of [] ≡ root.None
unfolding root_of
root_of-nil = refl

-- the device at a place, with its name
named : (ds : NamedDevices) (i : ℕ) (d : Settings) → slice_get (values_of ds) i ≡ Some d → (name : List ℕ) × (slice_get ds i ≡ Some (name, d))
named [] i d is = absurd (none-some d is)
named (e ∷ ds) zero d is = (e.0, ap (λ x. Some (e.0, x)) (same_Some e.1 d is))
named (e ∷ ds) (suc i) d is = named ds i d is

taken : (ds : NamedDevices) (i : ℕ) (d : Settings) → slice_get (values_of ds) i ≡ Some d → (name : List ℕ) × (take (i + 1) ds ≡ take i ds ++ (name, d) ∷ []) × (length (take i ds) ≡ i)
taken ds i d is =
    let here = named ds i d is in
    let within : i < length ds = slice_get_within ds i (here.0, d) here.1 in
    (here.0, take_more ds i (here.0, d) within ∙ ap (λ e. take i ds ++ e ∷ []) (get_or_from_slice_get ds i (here.0, d) (here.0, d) here.1), length-take-le i ds (omega arith))

pub root_of-next_root : (ds : NamedDevices) (i : ℕ) (d : Settings) → slice_get (values_of ds) i ≡ Some d → is_root_disk d ≡ true → root_of (take (i + 1) ds) ≡ and_one (root_of (take i ds)) i
root_of-next_root ds i d at is =
    let more = taken ds i d at in
    ap root_of more.1 ∙ root_of-push_root (take i ds) more.0 d is ∙ ap (and_one (root_of (take i ds))) more.2

pub root_of-next_other : (ds : NamedDevices) (i : ℕ) (d : Settings) → slice_get (values_of ds) i ≡ Some d → is_root_disk d ≡ false → root_of (take (i + 1) ds) ≡ root_of (take i ds)
root_of-next_other ds i d at is =
    let more = taken ds i d at in
    ap root_of more.1 ∙ root_of-push_other (take i ds) more.0 d is
