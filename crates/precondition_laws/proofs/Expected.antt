-- The rules that a command with a precondition breaks.
use Rattle.std.proofs.Common.{◌≡◌, ◌≢◌, ℕ, Bool, true, false, List, [], ◌∷◌, Option, Some, None, refl, sym, ap, ◌∙◌}
use Rattle.std.specs.Option.{option_and_then, option_map_or}
use Rattle.std.specs.Str.{bytes_eq}
use Rattle.plain_lists.specs.Firsts.{first}
use Rattle.config_lists.proofs.Keys.{same, bytes_eq-itself}
use Rattle.records.specs.declared.commands.Command.{Command}
use Rattle.records.specs.declared.commands.Target.{Target}
use Rattle.records.specs.declared.refusals.Refusal.{Refusal}
use Rattle.records.specs.declared.refusals.Rule.TheVariants as rule
use Rattle.records.specs.declared.rows.Row.{Row}
use Rattle.row_codec.specs.Tags.{tag_of}
use Rattle.row_machine.specs.machine.Expectations.{changed_unless, has_tag, not_as_expected, object_at, version_passed}
use Rattle.row_machine.specs.machine.NameRules.{project_missing, what_is_missing, name_broken}
use Rattle.row_machine.specs.machine.Asked.{new_name_of}
use Rattle.row_machine.specs.machine.Plans.{Plan, nothing, changes, starts, plan_of}
use Rattle.row_machine.specs.machine.PolicyRules.{snapshot_blocked}
use Rattle.row_machine.specs.machine.Refusals.{on_object_of}
use Rattle.row_machine.specs.machine.Rules.{broken, names_broken, plan_broken, standing_broken}
use Rattle.row_machine.specs.machine.StandingRules.{instance_busy, wrong_state, object_protected, object_used}
use Rattle.row_machine.specs.machine.StandingRules.{project_occupied, profile_held}
use Rattle.row_machine.specs.machine.State.{State}
use Rattle.precondition_laws.specs.Preconditions.{Expects, unconditional}

-- ---- without the precondition

project-same : (s : State) (c : Command) → project_missing s (unconditional c) ≡ project_missing s c
unfolding project_missing
project-same s c = refl

standing-same : (s : State) (c : Command) → standing_broken s (unconditional c) ≡ standing_broken s c
unfolding standing_broken instance_busy wrong_state object_protected object_used project_occupied profile_held
standing-same s c = refl

plan-same : (s : State) (c : Command) (moment : ℕ) → plan_of s (unconditional c) moment ≡ plan_of s c moment
unfolding plan_of
plan-same s c moment = refl

judged-same : (s : State) (c : Command) (p : Plan) (moment : ℕ) → plan_broken s (unconditional c) p moment ≡ plan_broken s c p moment
unfolding snapshot_blocked
judged-same s c nothing moment = refl
judged-same s c (changes cs) moment = refl
judged-same s c (starts task) moment = refl

expects-none : (s : State) (c : Command) → not_as_expected s (unconditional c) ≡ None
unfolding not_as_expected
expects-none s c = refl

-- ---- what is expected of the row

-- E1 by whether the row has the tag
by-tag : (s : State) (c : Command) (of : Target) (r : Row) (tag : List ℕ) → Expects s c of r tag
    → not_as_expected s c ≡ changed_unless (has_tag tag r) of c.project
unfolding not_as_expected
by-tag s c of r tag h =
    ap (λ t. option_and_then (λ (x : List ℕ). option_and_then (version_passed s c.project x) (object_at c.what)) t) h.tag
    ∙ ap (λ o. option_and_then (version_passed s c.project tag) o) h.object
    ∙ ap (λ (o : Option Row). option_and_then (λ x. changed_unless (has_tag tag x) of c.project) o) h.row

has-it : (tag : List ℕ) (r : Row) → tag_of r ≡ Some tag → has_tag tag r ≡ true
has-it tag r is = ap (λ t. option_map_or (bytes_eq tag) t false) is ∙ bytes_eq-itself tag

lacks-it : (tag : List ℕ) (own : Option (List ℕ)) → own ≢ Some tag → option_map_or (bytes_eq tag) own false ≡ false
lacks-it tag None apart = refl
lacks-it tag (Some own) apart = by (bytes_eq tag own) refl where
  by : (b : Bool) → bytes_eq tag own ≡ b → b ≡ false
  by true e = absurd (apart (ap Some (sym (same tag own e))))
  by false e = refl

-- ---- the laws

pub same-tag : (s : State) (c : Command) (of : Target) (r : Row) (tag : List ℕ) (moment : ℕ) → Expects s c of r tag → tag_of r ≡ Some tag
    → broken s c moment ≡ broken s (unconditional c) moment
unfolding broken names_broken
same-tag s c of r tag moment h is =
    ap (λ e. first (first (project_missing s c ∷ what_is_missing s c.project c.what ∷ e ∷ name ∷ []) ∷ standing_broken s c ∷ plan_broken s c (plan_of s c moment) moment ∷ []))
    (by-tag s c of r tag h ∙ ap (λ b. changed_unless b of c.project) (has-it tag r is) ∙ sym (expects-none s c))
    ∙ ap (λ p. first (first (p ∷ what_is_missing s c.project c.what ∷ not_as_expected s u ∷ name ∷ []) ∷ standing_broken s c ∷ plan_broken s c (plan_of s c moment) moment ∷ []))
    (sym (project-same s c))
    ∙ ap (λ p. first (first (project_missing s u ∷ what_is_missing s c.project c.what ∷ not_as_expected s u ∷ name ∷ []) ∷ p ∷ plan_broken s c (plan_of s c moment) moment ∷ []))
    (sym (standing-same s c))
    ∙ ap (λ p. first (first (project_missing s u ∷ what_is_missing s c.project c.what ∷ not_as_expected s u ∷ name ∷ []) ∷ standing_broken s u ∷ plan_broken s c p moment ∷ []))
    (sym (plan-same s c moment))
    ∙ ap (λ p. first (first (project_missing s u ∷ what_is_missing s c.project c.what ∷ not_as_expected s u ∷ name ∷ []) ∷ standing_broken s u ∷ p ∷ []))
    (sym (judged-same s c (plan_of s u moment) moment)) where
      u : Command
      u = unconditional c

      name : Option Refusal
      name = option_and_then (name_broken s c.project) (new_name_of s c.project c.what)

pub other-tag : (s : State) (c : Command) (of : Target) (r : Row) (tag : List ℕ) (moment : ℕ) → Expects s c of r tag → tag_of r ≢ Some tag
    → project_missing s c ≡ None → what_is_missing s c.project c.what ≡ None → broken s c moment ≡ Some (on_object_of rule.E1 of.kind of.name c.project)
unfolding broken names_broken
other-tag s c of r tag moment h apart project objects =
    ap (λ p. first (first (p ∷ what_is_missing s c.project c.what ∷ not_as_expected s c ∷ name ∷ []) ∷ standing_broken s c ∷ plan_broken s c (plan_of s c moment) moment ∷ [])) project
    ∙ ap (λ p. first (first (p ∷ not_as_expected s c ∷ name ∷ []) ∷ standing_broken s c ∷ plan_broken s c (plan_of s c moment) moment ∷ [])) objects
    ∙ ap (λ p. first (first (p ∷ name ∷ []) ∷ standing_broken s c ∷ plan_broken s c (plan_of s c moment) moment ∷ []))
    (by-tag s c of r tag h ∙ ap (λ b. changed_unless b of c.project) (lacks-it tag (tag_of r) apart)) where
      name : Option Refusal
      name = option_and_then (name_broken s c.project) (new_name_of s c.project c.what)
