-- The rule of a refusal, apart from what the refusal tells.
use Rattle.std.proofs.Common.{◌≡◌, ℕ, ◌==◌, Bool, true, false, cond, List, [], ◌∷◌, ◌++◌, Option, Some, None, option_map, option_and_then, refl, ap, sym, ◌∙◌}
use Rattle.std.specs.Option.{option_or}
use Rattle.plain_lists.specs.Firsts.{first, first_of}
use Rattle.config_lists.specs.Devices.{NamedDevices}
use Rattle.config_lists.specs.Settings.{Settings}
use Rattle.option_tables.specs.Checks.{devices_fault}
use Rattle.option_tables.specs.declared.faults.SettingFault.{SettingFault}
use Rattle.option_tables.specs.declared.faults.SettingFault.TheVariants as fault
use Rattle.project_limits.specs.declared.sums.SumKey.{SumKey}
use Rattle.restrictions.specs.Forbids.{first_forbidden, lowest, broken_settings, missing_setting, broken_devices}
use Rattle.restrictions.specs.Policies.{Restrictions, policy_of}
use Rattle.restrictions.specs.declared.forbidden.Forbidden.{Forbidden}
use Rattle.restrictions.specs.declared.rows.Subject.{Subject}
use Rattle.records.specs.declared.refusals.Refusal.{Refusal}
use Rattle.records.specs.declared.refusals.Rule.{Rule}
use Rattle.records.specs.declared.rows.Project.{Project}
use Rattle.row_machine.specs.machine.LimitRules.{object_without_amount, object_without_size}
use Rattle.row_machine.specs.machine.PolicyRules.{forbids, policy_rule, forbidden_key}
use Rattle.row_machine.specs.machine.Refusals.{on_key_of}
use Rattle.row_machine.specs.machine.SettingRules.{tables_break, setting_refusal}
use Rattle.row_machine.specs.opening.Opening.{rule_of}
use Rattle.rules_opening.specs.Rules.{fault_rule, forbidden_rule, without_amount_by}

-- the first of two rules, or of a list of them

pub rule-or : (a b : Option Refusal) → option_or (rule_of a) (rule_of b) ≡ rule_of (option_or a b)
rule-or None b = refl
rule-or (Some r) b = refl

pub rule-first : {X : Type 0} (rule : X → Option Refusal) (xs : List X) → first_of (λ x. rule_of (rule x)) xs ≡ rule_of (first_of rule xs)
rule-first rule [] = refl
rule-first rule (x ∷ xs) = ap (option_or (rule_of (rule x))) (rule-first rule xs) ∙ rule-or (rule x) (first_of rule xs)

-- the first of two rules is broken, or it is not and the second decides
pub rule-here : (a b : Option Refusal) (r : Rule) → Some r ≡ rule_of a → Some r ≡ rule_of (first (a ∷ b ∷ []))
rule-here (Some x) b r e = e
rule-here None b r e = cc

pub rule-later : (a b : Option Refusal) (x : Option Rule) → None ≡ rule_of a → x ≡ rule_of b → x ≡ rule_of (first (a ∷ b ∷ []))
rule-later (Some y) b x n e = cc
rule-later None None x n e = e
rule-later None (Some y) x n e = e

-- the tables

fault-by : (config : Settings) (devices : NamedDevices) (found : Option SettingFault) → option_map fault_rule found ≡ rule_of (option_map (setting_refusal config devices) found)
fault-by config devices None = refl
fault-by config devices (Some (fault.Unknown place)) = refl
fault-by config devices (Some (fault.Bad place why)) = refl
fault-by config devices (Some (fault.Device place why)) = refl

pub settings_told : (config : Settings) (found : Option SettingFault) → option_map fault_rule found ≡ rule_of (tables_break config found [])
unfolding devices_fault
settings_told config None = refl
settings_told config (Some f) = fault-by config [] (Some f)

pub devices_told : (devices : NamedDevices) → option_map fault_rule (devices_fault devices) ≡ rule_of (tables_break [] None devices)
devices_told devices = fault-by [] devices (devices_fault devices)

-- policy

pub forbids_told : (p : Project) (number : ℕ) (judged : Subject) (name : List ℕ) (config : Settings) (devices : NamedDevices)
    → forbidden_rule p number judged config devices ≡ rule_of (forbids p number judged name config devices)
forbids_told p number judged name config devices = at (first_forbidden (policy_of p.config) judged config devices) where
  told : (f : Forbidden) (b : Bool)
      → cond b (Some (policy_rule number)) None ≡ rule_of (cond b (Some (on_key_of (policy_rule number) (forbidden_key config devices f) name p.name)) None)
  told f true = refl
  told f false = refl

  at : (found : Option Forbidden)
      → option_and_then (λ f. cond (f.rule == number) (Some (policy_rule number)) None) found
      ≡ rule_of (option_and_then (λ f. cond (f.rule == number) (Some (on_key_of (policy_rule number) (forbidden_key config devices f) name p.name)) None) found)
  at None = refl
  at (Some f) = told f (f.rule == number)

-- a policy that is not in force forbids nothing
nothing-forbidden : (policy : Restrictions) (judged : Subject) (config : Settings) (devices : NamedDevices)
    → policy.restricted ≡ false → first_forbidden policy judged config devices ≡ None
unfolding first_forbidden
nothing-forbidden policy judged config devices e =
    ap (λ b. cond b (lowest (broken_settings policy judged config ++ missing_setting policy judged config ∷ broken_devices policy devices)) None) e

pub unrestricted_told : (p : Project) (number : ℕ) (judged : Subject) (config : Settings) (devices : NamedDevices)
    → (policy_of p.config).restricted ≡ false → None ≡ forbidden_rule p number judged config devices
unrestricted_told p number judged config devices free =
    sym (ap (option_and_then (λ (f : Forbidden). cond (f.rule == number) (Some (policy_rule number)) None)) (nothing-forbidden (policy_of p.config) judged config devices free))

-- sums

pub without_amount_told : (p : Project) (name : List ℕ) (key : Option SumKey) (pool : Option (List ℕ))
    → without_amount_by key pool ≡ rule_of (first (object_without_amount p name key ∷ object_without_size p name pool ∷ []))
without_amount_told p name None None = refl
without_amount_told p name None (Some pool) = refl
without_amount_told p name (Some k) pool = refl

-- a refusal where a test says so, told as something else
pub told-where : {R O : Type 0} (o : O) (b : Bool) (r : R) → b ≡ true → option_map (λ why. o) (cond b (Some r) None) ≡ Some o
told-where o b r e = ap (λ c. option_map (λ why. o) (cond c (Some r) None)) e

pub told-nowhere : {R O : Type 0} (o : O) (b : Bool) (r : R) → b ≡ false → option_map (λ why. o) (cond b (Some r) None) ≡ None
told-nowhere o b r e = ap (λ c. option_map (λ why. o) (cond c (Some r) None)) e
