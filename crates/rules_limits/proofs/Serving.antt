-- The limits of projects, asked of all that counts before and after a change.
use Rattle.std.proofs.Common.{◌≡◌, ℕ, suc, Bool, true, false, cond, None, List, [], ◌∷◌, map, filter, length, refl, sym, ap, ◌∙◌, inl, inr}
use Rattle.std.specs.Option.{option_or}
use Rattle.std.specs.Str.{bytes_eq}
use Rattle.plain_lists.specs.Firsts.{first_of}
use Rattle.project_limits.specs.declared.admission.LimitKey.TheVariants.{Networks}
use Rattle.project_limits.specs.Limits.{limits_of}
use Rattle.records.specs.declared.rows.Network.{Network}
use Rattle.records.specs.declared.rows.Project.{Project}
use Rattle.row_machine.specs.machine.State.{State}
use Rattle.row_machine.specs.machine.Usage.{loads, networks_of}
use Rattle.row_machine.specs.machine.LimitRules.{limit_exceeded, part_exceeds, networks_exceed, limits_broken}
use Rattle.row_readings.specs.PoolLimits.{all_limits}
use Rattle.rules_limits.specs.Counting.{Counts, counts_in}
use Rattle.rules_limits.specs.Pools.{pools_over}
use Rattle.rules_limits.proofs.PoolTables.{projects-pools}
use Rattle.rules_limits.specs.AllProjects.{parts_over, networks_over, all_over, is_any_limited, Serves}

-- the networks of a project, counted by their projects alone
same-count : (name : List ℕ) (ns : List Network) → length (filter (λ text. bytes_eq text name) (map (λ n. n.project) ns)) ≡ length (filter (λ n. bytes_eq n.project name) ns)
same-count name [] = refl
same-count name (n ∷ ns) = at (bytes_eq n.project name) (same-count name ns) where
  at : (b : Bool) → length (filter (λ text. bytes_eq text name) (map (λ (m : Network). m.project) ns)) ≡ length (filter (λ (m : Network). bytes_eq m.project name) ns)
      → length (cond b (n.project ∷ filter (λ text. bytes_eq text name) (map (λ (m : Network). m.project) ns)) (filter (λ text. bytes_eq text name) (map (λ (m : Network). m.project) ns)))
      ≡ length (cond b (n ∷ filter (λ (m : Network). bytes_eq m.project name) ns) (filter (λ (m : Network). bytes_eq m.project name) ns))
  at true e = ap suc e
  at false e = e

limits-are : (s after : State)
    → option_or (parts_over (loads s) (loads after) after.projects)
    (option_or (first_of (networks_over (map (λ n. n.project) s.networks) after.networks) after.projects)
    (option_or (pools_over (loads s) (loads after) (all_limits after.projects)) None))
    ≡ limits_broken s after
unfolding limits_broken part_exceeds networks_exceed networks_of
limits-are s after = λ i.
    option_or (parts_over (loads s) (loads after) after.projects)
    (option_or (first_of (λ (p : Project). limit_exceeded p Networks (limits_of p.config).networks (same-count p.name s.networks i) (length (filter (λ n. bytes_eq n.project p.name) after.networks))) after.projects)
    (option_or (projects-pools s after after.projects i) None))

-- by what counted before the change
pub limits-split : (s after : State) (before : Counts) → before ≡ counts_in s
    → all_over before after ≡ limits_broken s after
limits-split s after before is =
    ap (λ (u : Counts). option_or (parts_over u.loads (loads after) after.projects) (option_or (first_of (networks_over u.networks after.networks) after.projects)
    (option_or (pools_over u.loads (loads after) (all_limits after.projects)) None))) is
    ∙ limits-are s after

-- the same where a project has a limit, by what serves
pub serves-split : (s after : State) (before : Counts) → is_any_limited after.projects ≡ true → Serves before s after
    → all_over before after ≡ limits_broken s after
serves-split s after before limited (inl is) = limits-split s after before is
serves-split s after before limited (inr free) = let wrong : true ≡ false = sym limited ∙ free in cc
