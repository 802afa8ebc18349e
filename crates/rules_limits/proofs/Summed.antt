-- What each project uses, summed load by load in a table with a line for each project.
use Rattle.std.proofs.Common.{◌≡◌, ℕ, ◌+◌, ◌<◌, ◌^◌, Bool, true, false, cond, Some, None, List, [], ◌∷◌, length, map, take, get_or, set, position, refl, sym, ap, ap₂, subst, ◌∙◌, arith}
use Rattle.std.specs.List.{sum_by}
use Rattle.std.specs.Str.{bytes_eq}
use Rattle.std.proofs.lemmas.List.{get_or-map}
use Rattle.std.proofs.lemmas.List.Quantifiers.{position-Some}
use Rattle.std.proofs.lemmas.List.Sums.{sum_by_more, sum_by-take-le}
use Rattle.config_lists.proofs.Keys.{same, bytes_eq-itself}
use Rattle.size_values.specs.Amounts.{nothing, part, plus_of}
use Rattle.size_values.specs.declared.amounts.Amounts.{Amounts}
use Rattle.size_values.specs.declared.amounts.Part.{Part}
use Rattle.size_values.specs.declared.amounts.Part.TheVariants as part_of
use Rattle.size_values.proofs.AmountParts.{part-plus}
use Rattle.records.specs.declared.rows.Project.{Project}
use Rattle.row_machine.specs.facts.Whole.{Rise}
use Rattle.row_machine.specs.machine.Rows.{project_names, is_project}
use Rattle.row_machine.specs.machine.Usage.{Load, amount_for}
use Rattle.row_readings.specs.Loads.{AreSmall}
use Rattle.row_readings.proofs.Lines.{line-changed, lines-same}
use Rattle.row_readings.proofs.Totals.{sum-small}
use Rattle.rules_limits.specs.Sums.{sums_for, sums_of}

-- ---- the sums of one project

pub part-sums : (k : Part) (loads : List Load) (project : List ℕ) → part k (sums_for loads project) ≡ sum_by (amount_for project k) loads
unfolding sums_for
part-sums part_of.Instances loads project = refl
part-sums part_of.Containers loads project = refl
part-sums part_of.Machines loads project = refl
part-sums part_of.Cpu loads project = refl
part-sums part_of.Memory loads project = refl
part-sums part_of.Processes loads project = refl
part-sums part_of.Disk loads project = refl

-- amounts of which each part is the same
amounts-same : (a b : Amounts) → ((k : Part) → part k a ≡ part k b) → a ≡ b
amounts-same a b e = λ i. record {
  instances = e part_of.Instances i;
  containers = e part_of.Containers i;
  machines = e part_of.Machines i;
  cpu = e part_of.Cpu i;
  memory = e part_of.Memory i;
  processes = e part_of.Processes i;
  disk = e part_of.Disk i;
}

-- of no load
sums-none : (project : List ℕ) → sums_for [] project ≡ nothing
unfolding sums_for
sums-none project = refl

-- they stay in range where one more load is added
sums-low : (k : Part) (loads : List Load) (i : ℕ) (project : List ℕ) → AreSmall loads → length loads < 2 ^ 63 → part k (sums_for (take i loads) project) < 2 ^ 126
sums-low k loads i project small few =
    omega (arith, part-sums k (take i loads) project, sum_by-take-le (amount_for project k) loads i, sum-small project k loads small, few)

-- one more load adds to the sums of its own project alone
module _ (loads : List Load) (i : ℕ) (load : Load) (within : i < length loads) (is : load ≡ get_or loads i load) where
  more : (k : Part) (project : List ℕ) (b : Bool) → bytes_eq load.project project ≡ b
      → part k (sums_for (take (i + 1) loads) project) ≡ part k (sums_for (take i loads) project) + cond b (part k load.amounts) 0
  more k project b own =
      part-sums k (take (i + 1) loads) project
      ∙ sum_by_more (amount_for project k) loads i load within
      ∙ ap₂ (λ m n. m + n) (sym (part-sums k (take i loads) project))
      (ap (amount_for project k) (sym is) ∙ ap (λ t. cond t (part k load.amounts) 0) own)

  sums-own : (project : List ℕ) → bytes_eq load.project project ≡ true
      → sums_for (take (i + 1) loads) project ≡ plus_of (sums_for (take i loads) project) load.amounts
  sums-own project own = amounts-same _ _
      (λ k. more k project true own ∙ sym (part-plus k (sums_for (take i loads) project) load.amounts))

  sums-other : (project : List ℕ) → bytes_eq load.project project ≡ false
      → sums_for (take (i + 1) loads) project ≡ sums_for (take i loads) project
  sums-other project other = amounts-same _ _ (λ k. omega (arith, more k project false other))

-- ---- the sums of all projects

-- of no load
pub table-none : (projects : List Project) → map (λ p. nothing) projects ≡ sums_of [] projects
table-none projects = λ i. map (λ (p : Project). sym (sums-none p.name) i) projects

-- each line stays in range where one more load is added
pub table-low : (k : Part) (loads : List Load) (i : ℕ) (projects : List Project) (place : ℕ) (y : Amounts) → AreSmall loads → length loads < 2 ^ 63
    → place < length projects → part k (get_or (sums_of (take i loads) projects) place y) < 2 ^ 126
table-low k loads i [] place y small few within = absurd (omega (arith, within))
table-low k loads i (p ∷ ps) place y small few within =
    let name = (get_or (p ∷ ps) place p).name in
    subst (λ a. part k a < 2 ^ 126) (sym (get_or-map (λ (q : Project). sums_for (take i loads) q.name) (p ∷ ps) place p y within))
    (sums-low k loads i name small few)

module _ (loads : List Load) (i : ℕ) (load : Load) (within : i < length loads) (is : load ≡ get_or loads i load) where
  other : (p : Project) → is_project load.project p ≡ false → sums_for (take i loads) p.name ≡ sums_for (take (i + 1) loads) p.name
  other p apart = sym (sums-other loads i load within is p.name (at (bytes_eq load.project p.name) refl)) where
    at : (b : Bool) → bytes_eq load.project p.name ≡ b → b ≡ false
    at false e = refl
    at true e = sym (bytes_eq-itself p.name) ∙ ap (bytes_eq p.name) (sym (same load.project p.name e)) ∙ apart

  placed : (projects : List Project) (place : ℕ) (d : Project) → Rise project_names projects → position (is_project load.project) projects ≡ Some place
      → set (sums_of (take i loads) projects) place (plus_of (sums_for (take i loads) (get_or projects place d).name) load.amounts)
      ≡ sums_of (take (i + 1) loads) projects
  placed projects place d up at =
      let p = get_or projects place d in
      let found = position-Some (is_project load.project) projects place d at in
      let own : bytes_eq load.project p.name ≡ true = ap (λ name. bytes_eq load.project name) (same p.name load.project found.1) ∙ bytes_eq-itself load.project in
      ap (set (sums_of (take i loads) projects) place) (sym (sums-own loads i load within is p.name own))
      ∙ line-changed project_names (load.project ∷ []) (λ (q : Project). sums_for (take i loads) q.name) (λ (q : Project). sums_for (take (i + 1) loads) q.name) other projects place d up at

  -- one more load is of the project at a place
  pub table-placed : (projects : List Project) (place : ℕ) (y : Amounts) → Rise project_names projects → position (is_project load.project) projects ≡ Some place
      → set (sums_of (take i loads) projects) place (plus_of (get_or (sums_of (take i loads) projects) place y) load.amounts)
      ≡ sums_of (take (i + 1) loads) projects
  table-placed [] place y up at = cc
  table-placed (p ∷ ps) place y up at =
      let found = position-Some (is_project load.project) (p ∷ ps) place p at in
      ap (λ a. set (sums_of (take i loads) (p ∷ ps)) place (plus_of a load.amounts))
      (get_or-map (λ (q : Project). sums_for (take i loads) q.name) (p ∷ ps) place p y found.0)
      ∙ placed (p ∷ ps) place p up at

  -- or of none of them
  pub table-passed : (projects : List Project) → position (is_project load.project) projects ≡ None → sums_of (take i loads) projects ≡ sums_of (take (i + 1) loads) projects
  table-passed projects nowhere =
      lines-same project_names (load.project ∷ []) (λ (q : Project). sums_for (take i loads) q.name) (λ (q : Project). sums_for (take (i + 1) loads) q.name) other projects nowhere
