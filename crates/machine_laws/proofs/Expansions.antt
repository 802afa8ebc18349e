-- What an instance has stays where its home and the profiles that it names stay.
use Rattle.std.proofs.Common.{◌≡◌, ℕ, Option, Some, None, List, [], ◌∷◌, ◌++◌, refl, ◌∙◌, ap, inl, inr}
use Rattle.std.specs.Prelude.{map, if◌then◌else◌}
use Rattle.plain_lists.specs.Members.{Mem}
use Rattle.size_values.specs.declared.kinds.ObjectKind.TheVariants as kind
use Rattle.expansion.specs.declared.expanded.Expanded.{Expanded}
use Rattle.expansion.specs.Layers.{expanded}
use Rattle.records.specs.declared.rows.Project.{Project}
use Rattle.records.specs.declared.rows.Profile.{Profile}
use Rattle.records.specs.declared.rows.Instance.{Instance}
use Rattle.row_machine.specs.machine.State.{State}
use Rattle.row_machine.specs.machine.Rows.{profile_named}
use Rattle.row_machine.specs.machine.Homes.{home_of}
use Rattle.row_machine.specs.machine.Expansions.{layer_of, own_layer, layers_by, expanded_of}
use Rattle.row_machine.specs.machine.Claims.{amounts_of_instance, part_of_instance}
use Rattle.row_machine.specs.machine.SettingRules.{root_missing, is_one}
use Rattle.plain_lists.specs.Firsts.{first}
use Rattle.row_machine.specs.machine.LimitRules.{instance_without_amount, object_without_amount, object_without_size}
use Rattle.project_limits.specs.Instance.{instance_amounts}
use Rattle.project_limits.specs.Limits.{limits_of}
use Rattle.project_limits.specs.Countable.{first_without_amount}
use Rattle.project_limits.specs.Pools.{root_part, pool_without_size}
use Rattle.config_lists.specs.Devices.{root_of}
use Rattle.row_machine.specs.machine.Refusals.{on_name}
use Rattle.records.specs.declared.refusals.Rule.TheVariants as rule
use Rattle.row_machine.specs.machine.PolicyRules.{forbids_instance, forbids, subject_of}

-- ---- one instance

-- the home of an instance's profiles
abbrev pub home_in : State → Instance → List ℕ
home_in s i = home_of s.projects i.project kind.Profile

-- an instance's home is the same in both states, and so is each profile that it names there
pub record IsAlike (s t : State) (i : Instance) : Type 0 where
  pub home : home_in t i ≡ home_in s i
  pub profiles : (name : List ℕ) → Mem name i.profiles → profile_named t.profiles (home_in s i) name ≡ profile_named s.profiles (home_in s i) name

-- what two look-ups find alike is alike
pub layers-alike : (f g : List ℕ → Option Profile) (names : List (List ℕ)) → ((name : List ℕ) → Mem name names → f name ≡ g name)
    → map (λ name. layer_of (f name)) names ≡ map (λ name. layer_of (g name)) names
layers-alike f g [] same = refl
layers-alike f g (name ∷ names) same = ap (λ x. layer_of x ∷ map (λ n. layer_of (f n)) names) (same name (inl refl))
    ∙ ap (λ xs. layer_of (g name) ∷ xs) (layers-alike f g names (λ n m. same n (inr m)))

pub expanded-alike : {s t : State} {i : Instance} → IsAlike s t i → expanded_of t.projects t.profiles i ≡ expanded_of s.projects s.profiles i
unfolding expanded_of
expanded-alike {s} {t} {i} h =
    ap (λ home. expanded (layers_by (profile_named t.profiles home) i)) h.home
    ∙ ap (λ layers. expanded (layers ++ own_layer i ∷ []))
    (layers-alike (profile_named t.profiles (home_in s i)) (profile_named s.profiles (home_in s i)) i.profiles h.profiles)

pub amounts-alike : {s t : State} {i : Instance} → IsAlike s t i → amounts_of_instance t i ≡ amounts_of_instance s i
unfolding amounts_of_instance
amounts-alike {i} h = ap (λ (e : Expanded). instance_amounts i.kind e.config e.devices) (expanded-alike h)

pub part-alike : {s t : State} {i : Instance} → IsAlike s t i → part_of_instance t i ≡ part_of_instance s i
unfolding part_of_instance
part-alike h = ap (λ (e : Expanded). root_part e.devices) (expanded-alike h)

-- an instance counts for the same in both states
pub record CountsAlike (s t : State) (i : Instance) : Type 0 where
  pub amounts : amounts_of_instance t i ≡ amounts_of_instance s i
  pub part : part_of_instance t i ≡ part_of_instance s i

pub counts-alike : {s t : State} {i : Instance} → IsAlike s t i → CountsAlike s t i
counts-alike h = record { amounts = amounts-alike h; part = part-alike h }

pub root-alike : {s t : State} {i : Instance} → IsAlike s t i → root_missing t i ≡ root_missing s i
unfolding root_missing
root-alike {i} h = ap (λ (e : Expanded). if is_one (root_of e.devices) then None else Some (on_name rule.V4 i.name)) (expanded-alike h)

pub without_amount-alike : {s t : State} {i : Instance} (p : Project) → IsAlike s t i → instance_without_amount t p i ≡ instance_without_amount s p i
unfolding instance_without_amount
without_amount-alike {i} p h =
    ap (λ (e : Expanded). first (object_without_amount p i.name (first_without_amount (limits_of p.config) i.kind e.config e.devices)
    ∷ object_without_size p i.name (pool_without_size p.config e.devices) ∷ [])) (expanded-alike h)

pub forbids-alike : {s t : State} {i : Instance} (p : Project) (number : ℕ) → IsAlike s t i → forbids_instance t p number i ≡ forbids_instance s p number i
unfolding forbids_instance
forbids-alike {i} p number h = ap (λ (e : Expanded). forbids p number (subject_of i.kind) i.name e.config e.devices) (expanded-alike h)
