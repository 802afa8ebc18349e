-- The limits by tables of sums are the limits by all that counts.
use Rattle.std.proofs.Common.{◌≡◌, ℕ, zero, suc, ◌<◌, List, [], ◌∷◌, length, get_or, refl, sym, ap, ap₂, ◌∙◌, arith}
use Rattle.std.specs.Option.{option_or}
use Rattle.std.specs.List.{zip}
use Rattle.std.proofs.lemmas.Slice.Zip.{length-zip, get_or-zip}
use Rattle.plain_lists.specs.Firsts.{first_of}
use Rattle.size_values.specs.Amounts.{nothing}
use Rattle.size_values.specs.declared.amounts.Amounts.{Amounts}
use Rattle.size_values.specs.declared.amounts.Part.{Part}
use Rattle.project_limits.specs.Admission.{key_of, limit_on, parts}
use Rattle.project_limits.specs.Limits.{limits_of}
use Rattle.records.specs.declared.rows.Project.{Project}
use Rattle.row_machine.specs.machine.LimitRules.{limit_exceeded}
use Rattle.row_machine.specs.machine.Usage.{Load}
use Rattle.rules_limits.specs.AllProjects.{part_over, parts_over}
use Rattle.rules_limits.specs.Sums.{sums_for, sums_of, lines, line_over, lines_over}
use Rattle.rules_limits.proofs.Summed.{part-sums}

-- ---- the line at a place

-- a place that is there needs no default
pub any-default : {X : Type 0} (xs : List X) (i : ℕ) (d e : X) → i < length xs → get_or xs i d ≡ get_or xs i e
any-default [] i d e within = absurd (omega (arith, within))
any-default (x ∷ xs) zero d e within = refl
any-default (x ∷ xs) (suc i) d e within = any-default xs i d e (omega (arith, within))

module _ (projects : List Project) (before after : List Amounts) (few : length before ≡ length projects) (many : length after ≡ length projects) where
  pairs : length (zip before after) ≡ length projects
  pairs = omega (arith, length-zip before after, few, many)

  pub lines-length : length (lines projects before after) ≡ length projects
  lines-length = omega (arith, length-zip projects (zip before after), pairs)

  pub line-is : (i : ℕ) (p : Project) → i < length projects → p ≡ get_or projects i p
      → (p, (get_or before i nothing, get_or after i nothing)) ≡ get_or (lines projects before after) i (p, (get_or before i nothing, get_or after i nothing))
  line-is i p within is =
      let b = get_or before i nothing in
      let a = get_or after i nothing in
      let in-before : i < length before = omega (arith, within, few) in
      let in-after : i < length after = omega (arith, within, many) in
      (λ j. (is j, (any-default before i nothing b in-before j, any-default after i nothing a in-after j)))
      ∙ ap (λ pair. (get_or projects i p, pair)) (sym (get_or-zip before after i (b, a) in-before in-after))
      ∙ sym (get_or-zip projects (zip before after) i (p, (b, a)) within (omega (arith, within, pairs)))

-- ---- by the sums of all projects

part-is : (old new : List Load) (k : Part) (p : Project) → line_over k (p, (sums_for old p.name, sums_for new p.name)) ≡ part_over old new k p
part-is old new k p =
    ap₂ (limit_exceeded p (key_of k) (limit_on k (limits_of p.config))) (part-sums k old p.name) (part-sums k new p.name)

projects-are : (old new : List Load) (k : Part) (projects : List Project)
    → first_of (line_over k) (lines projects (sums_of old projects) (sums_of new projects)) ≡ first_of (part_over old new k) projects
projects-are old new k [] = refl
projects-are old new k (p ∷ ps) = ap₂ option_or (part-is old new k p) (projects-are old new k ps)

pub lines-are : (old new : List Load) (projects : List Project) → lines_over (lines projects (sums_of old projects) (sums_of new projects)) ≡ parts_over old new projects
lines-are old new projects = λ i. first_of (λ k. projects-are old new k projects i) parts
