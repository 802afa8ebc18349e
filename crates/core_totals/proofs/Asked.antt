-- The rules on policy that a project asks of one profile: of seven numbers and of all projects.
use Rattle.std.proofs.Common.{◌≡◌, ℕ, ◌==◌, Bool, true, false, cond, Option, Some, None, List, [], ◌∷◌, refl, sym, ◌∙◌, ap, subst, option_and_then, inl, inr}
use Rattle.std.specs.List.{find}
use Rattle.std.specs.Option.{option_or}
use Rattle.std.specs.Str.{bytes_eq}
use Rattle.std.proofs.lemmas.Bool.{eq-eqb}
use Rattle.plain_lists.specs.Firsts.{first_of}
use Rattle.plain_lists.specs.Members.{Mem, Distinct}
use Rattle.plain_lists.proofs.Elements.{Each-map}
use Rattle.plain_lists.proofs.FirstLemmas.{none-first_of}
use Rattle.config_lists.proofs.Keys.{same, bytes_eq-itself}
use Rattle.records.specs.declared.refusals.Refusal.{Refusal}
use Rattle.records.specs.declared.rows.Project.{Project}
use Rattle.records.specs.declared.rows.Profile.{Profile}
use Rattle.restrictions.specs.declared.forbidden.Forbidden.{Forbidden}
use Rattle.restrictions.specs.declared.rows.Subject.TheVariants as subject
use Rattle.restrictions.specs.Forbids.{first_forbidden}
use Rattle.restrictions.specs.Policies.{policy_of}
use Rattle.row_machine.specs.machine.PolicyRules.{forbids, forbids_profile, policy_rule, forbidden_key}
use Rattle.row_machine.specs.machine.Refusals.{on_key_of}
use Rattle.row_machine.specs.machine.Rows.{is_project, project_named, project_names}
use Rattle.machine_laws.proofs.LimitsForbidden.{rule_numbers, is_rule, forbids-none, rule-or_not}
use Rattle.row_readings.proofs.Ranges.{apart}
use Rattle.rules_policy.specs.Alone.{first_forbids}
use Rattle.core_totals.proofs.Own.{or-none}

-- ---- of seven numbers

-- a rule that asks for one of them is that of this number
by-number : {R : Type 0} (told : ℕ → R) (n : ℕ) → Mem n rule_numbers
    → first_of (λ m. cond (n == m) (Some (told m)) None) rule_numbers ≡ cond (n == n) (Some (told n)) None
by-number told n m = at m where
  Asked : ℕ → Type 0
  Asked k = first_of (λ m. cond (k == m) (Some (told m)) None) rule_numbers ≡ cond (k == k) (Some (told k)) None

  at : Mem n rule_numbers → Asked n
  at (inl e) = subst Asked (sym e) refl
  at (inr (inl e)) = subst Asked (sym e) refl
  at (inr (inr (inl e))) = subst Asked (sym e) refl
  at (inr (inr (inr (inl e)))) = subst Asked (sym e) refl
  at (inr (inr (inr (inr (inl e))))) = subst Asked (sym e) refl
  at (inr (inr (inr (inr (inr (inl e)))))) = subst Asked (sym e) refl
  at (inr (inr (inr (inr (inr (inr (inl e))))))) = subst Asked (sym e) refl
  at (inr (inr (inr (inr (inr (inr (inr none))))))) = absurd none

module _ (p : Project) (r : Profile) where
  -- the refusal of a thing that is forbidden, by the rule of a number
  abbrev told : Forbidden → ℕ → Refusal
  told f n = on_key_of (policy_rule n) (forbidden_key r.config r.devices f) r.name p.name

  -- what is forbidden is forbidden by one of the seven
  is-number : (f : Forbidden) → first_forbidden (policy_of p.config) subject.Profile r.config r.devices ≡ Some f → Mem f.rule rule_numbers
  is-number f is = elim (rule-or_not f.rule) [ inl m ↦ m | inr other ↦ absurd (never other) ] where
    never : is_rule f.rule ≡ false → ⊥
    never other =
        let none : forbids p f.rule subject.Profile r.name r.config r.devices ≡ None = forbids-none p f.rule subject.Profile r.name r.config r.devices other in
        let some : forbids p f.rule subject.Profile r.name r.config r.devices ≡ Some (told f f.rule) =
        ap (option_and_then (λ (g : Forbidden). cond (g.rule == f.rule) (Some (told g f.rule)) None)) is
        ∙ ap (λ b. cond b (Some (told f f.rule)) None) (eq-eqb f.rule f.rule refl) in
        cc

  pub first-rule : first_of (λ n. forbids_profile p n r) rule_numbers ≡ first_forbids p r
  unfolding forbids_profile
  first-rule = at (first_forbidden (policy_of p.config) subject.Profile r.config r.devices) refl where
    at : (found : Option Forbidden) → first_forbidden (policy_of p.config) subject.Profile r.config r.devices ≡ found
        → first_of (λ n. option_and_then (λ (f : Forbidden). cond (f.rule == n) (Some (told f n)) None) found) rule_numbers
        ≡ option_and_then (λ (f : Forbidden). option_and_then (λ (g : Forbidden). cond (g.rule == f.rule) (Some (told g f.rule)) None) found) found
    at None is = refl
    at (Some f) is = by-number (told f) f.rule (is-number f is)

-- ---- of all projects

-- the project of a name is asked alone
pub found-alone : {R : Type 0} (rule : Project → Option R) (name : List ℕ) (ps : List Project) → Distinct project_names ps
    → first_of (λ p. cond (bytes_eq name p.name) (rule p) None) ps ≡ option_and_then rule (project_named ps name)
found-alone rule name [] d = refl
found-alone {R} rule name (p ∷ ps) d = at (bytes_eq name p.name) refl (found-alone rule name ps d.1) where
  asked : Project → Option R
  asked q = cond (bytes_eq name q.name) (rule q) None

  other : (q : Project) → name ≡ p.name → (project_names q ≡ project_names p → ⊥) → (b : Bool) → bytes_eq name q.name ≡ b → cond b (rule q) None ≡ None
  other q own differs true is = absurd (differs (ap (λ n. n ∷ []) (sym (same name q.name is) ∙ own)))
  other q own differs false is = refl

  at : (b : Bool) → bytes_eq name p.name ≡ b → first_of asked ps ≡ option_and_then rule (project_named ps name)
      → option_or (cond b (rule p) None) (first_of asked ps) ≡ option_and_then rule (cond (bytes_eq p.name name) (Some p) (find (is_project name) ps))
  at true is more =
      let own : name ≡ p.name = same name p.name is in
      ap (option_or (rule p)) (none-first_of asked ps (Each-map (λ q differs. other q own differs (bytes_eq name q.name) refl) d.0))
      ∙ or-none (rule p)
      ∙ sym (ap (λ b. option_and_then rule (cond b (Some p) (find (is_project name) ps))) (ap (bytes_eq p.name) own ∙ bytes_eq-itself p.name))
  at false is more = more ∙ sym (ap (λ b. option_and_then rule (cond b (Some p) (find (is_project name) ps))) (apart name p.name is))
