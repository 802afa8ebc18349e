-- Rules that hold below a number: of one subject, and over several objects.
use Rattle.std.proofs.Common.{◌≡◌, ℕ, ◌+◌, ◌<◌, ◌==◌, Bool, true, false, cond, List, take, get_or, length, min, Option, Some, None, option_and_then, refl, sym, ap, ◌∙◌, arith}
use Rattle.std.proofs.lemmas.Bool.Decides.{nat_tests}
use Rattle.plain_lists.specs.Firsts.{first_of}
use Rattle.config_lists.specs.Settings.{Settings}
use Rattle.config_lists.specs.Devices.{NamedDevices}
use Rattle.restrictions.specs.declared.forbidden.Forbidden.{Forbidden}
use Rattle.restrictions.specs.declared.rows.Subject.{Subject}
use Rattle.restrictions.specs.Policies.{policy_of}
use Rattle.restrictions.specs.Forbids.{first_forbidden}
use Rattle.records.specs.declared.refusals.Refusal.{Refusal}
use Rattle.operations.specs.declared.operation.Operation.{Operation}
use Rattle.records.specs.declared.rows.Project.{Project}
use Rattle.records.specs.declared.rows.Profile.{Profile}
use Rattle.records.specs.declared.rows.Instance.{Instance}
use Rattle.row_machine.specs.machine.Task.{Task}
use Rattle.row_machine.specs.machine.Refusals.{on_key_of}
use Rattle.row_machine.specs.machine.State.{State}
use Rattle.row_machine.specs.machine.PolicyRules.{forbids, forbidden_key, policy_rule, project_forbids}
use Rattle.rules_refusals.proofs.Saying.{free-next, none-or}
use Rattle.rules_policy.specs.Lowest.{HoldBelow}
use Rattle.rules_policy.specs.Within.{own_profile, own_instance, own_claim}
use Rattle.rules_policy.proofs.Judged.{forbids-split}

-- one more object, whose rules hold below another number
pub below-next : {X : Type 0} (rule : ℕ → X → Option Refusal) (xs : List X) (i : ℕ) (x : X) {a b m : ℕ} → i < length xs → x ≡ get_or xs i x
    → HoldBelow a (λ n. first_of (rule n) (take i xs)) → HoldBelow b (λ n. rule n x) → m ≡ min a b → HoldBelow m (λ n. first_of (rule n) (take (i + 1) xs))
below-next rule xs i x {a} {b} within is before here least n less =
    free-next (rule n) xs i x within is (before n (omega arith)) (here n (omega arith))

-- a rule that is asked under a condition holds where it holds
pub none-if : {R : Type 0} (b : Bool) {o : Option R} → o ≡ None → cond b o None ≡ None
none-if true e = e
none-if false e = refl

differ : (a n : ℕ) → n < a → (a == n) ≡ false
differ a n less = grind (arith, nat_tests)

module _ (p : Project) (judged : Subject) (config : Settings) (devices : NamedDevices) where
  -- the first rule that is broken is no lower one
  pub below-found : (f : Forbidden) → Some f ≡ first_forbidden (policy_of p.config) judged config devices
      → (name : List ℕ) → HoldBelow f.rule (λ n. forbids p n judged name config devices)
  below-found f is name n less =
      ap (option_and_then (λ (g : Forbidden). cond (g.rule == n) (Some (on_key_of (policy_rule n) (forbidden_key config devices g) name p.name)) None)) (sym is)
      ∙ ap (λ b. cond b (Some (on_key_of (policy_rule n) (forbidden_key config devices f) name p.name)) None) (differ f.rule n less)

  pub below-none : (m : ℕ) → None ≡ first_forbidden (policy_of p.config) judged config devices
      → (name : List ℕ) → HoldBelow m (λ n. forbids p n judged name config devices)
  below-none m is name n less =
      ap (option_and_then (λ (g : Forbidden). cond (g.rule == n) (Some (on_key_of (policy_rule n) (forbidden_key config devices g) name p.name)) None)) (sym is)

-- the profiles of a project, its instances, and those that live operations would put
pub below-all : (s : State) {p q : Project} {profiles : List Profile} {instances : List Instance} {live : List (Operation Task)} {a b c m k : ℕ}
    → q ≡ p → profiles ≡ s.profiles → instances ≡ s.instances → live ≡ s.operations.live → m ≡ min a b → k ≡ min m c
    → HoldBelow a (λ n. first_of (own_profile q n) profiles)
    → HoldBelow b (λ n. first_of (own_instance s q n) instances)
    → HoldBelow c (λ n. first_of (λ o. own_claim s q n o.work) live)
    → HoldBelow k (λ n. project_forbids s n p)
below-all s {q} same profiles instances live least least_of_all of_profiles of_instances of_claims n less =
    ap (project_forbids s n) (sym same)
    ∙ sym (forbids-split s n q)
    ∙ none-or (ap (first_of (own_profile q n)) (sym profiles) ∙ of_profiles n (omega arith))
    (none-or (ap (first_of (own_instance s q n)) (sym instances) ∙ of_instances n (omega arith))
    (none-or (ap (first_of (λ o. own_claim s q n o.work)) (sym live) ∙ of_claims n (omega arith)) refl))
