-- What a policy forbids is forbidden by one of seven rules.
use Rattle.std.proofs.Common.{◌≡◌, ℕ, ◌==◌, ◌+◌, length, Bool, true, false, cond, Option, Some, None, List, [], ◌∷◌, ◌++◌, ◌⊎◌, refl, sym, ◌∙◌, ap, subst, inl, inr}
use Rattle.std.specs.Prelude.{IfSome, map, nat_le}
use Rattle.std.specs.List.{list_any, list_all, find, enumerate_from}
use Rattle.std.specs.Map.{values_of}
use Rattle.std.specs.Option.{option_map, option_or, option_and_then}
use Rattle.std.proofs.lemmas.Bool.{false≢true, eqb-true}
use Rattle.plain_lists.specs.Members.{Mem, Each}
use Rattle.plain_lists.proofs.Elements.{Each-none, Each-cons, Each-head, Each-tail, Each-append}
use Rattle.plain_lists.proofs.Searches.{find-some, any-some}
use Rattle.config_lists.specs.Settings.{Settings}
use Rattle.config_lists.specs.Devices.{NamedDevices}
use Rattle.restrictions.specs.declared.forbidden.Forbidden.{Forbidden}
use Rattle.restrictions.specs.declared.rows.Subject.{Subject}
use Rattle.restrictions.specs.Policies.{Restrictions, policy_of}
use Rattle.restrictions.specs.Forbids.{SettingLine, DeviceLine, setting_lines, device_lines, missing_rule_in, device_rule_in, network_rule, device_rule, setting_rule, lowest, earlier, broken_settings, missing_setting, broken_devices, first_forbidden}
use Rattle.restrictions.specs.Forbids.{forbidden_at as place_at}
use Rattle.records.specs.declared.rows.Project.{Project}
use Rattle.row_machine.specs.machine.PolicyRules.{forbids, policy_rule, forbidden_key}
use Rattle.row_machine.specs.machine.Refusals.{on_key_of}
use Rattle.row_codec.proofs.Fields.{both_true}

-- the numbers of the rules
abbrev pub rule_numbers : List ℕ
rule_numbers = 1 ∷ 2 ∷ 3 ∷ 4 ∷ 5 ∷ 6 ∷ 7 ∷ []

abbrev pub is_rule : ℕ → Bool
is_rule n = list_any (λ m. m == n) rule_numbers

-- a number that may be there is that of a rule
abbrev OfRule : Option ℕ → Type 0
OfRule o = IfSome o (λ n. is_rule n ≡ true)

abbrev ByRule : Option Forbidden → Type 0
ByRule o = IfSome o (λ f. is_rule f.rule ≡ true)

-- ---- the lines

-- what is found among lines of rules
found-rule : {X : Type 0} (number : X → ℕ) (test : X → Bool) (xs : List X) → Each (λ x. is_rule (number x) ≡ true) xs → OfRule (option_map number (find test xs))
found-rule {X} number test xs each = at (find test xs) refl where
  at : (o : Option X) → find test xs ≡ o → OfRule (option_map number o)
  at None is = tt
  at (Some x) is = each.at x (find-some test xs x is).0

rules-each : {X : Type 0} (number : X → ℕ) (xs : List X) → list_all (λ x. is_rule (number x)) xs ≡ true → Each (λ x. is_rule (number x) ≡ true) xs
rules-each number [] h = Each-none
rules-each {X} number (x ∷ xs) h =
    let parts = both_true (is_rule (number x)) (list_all (λ y. is_rule (number y)) xs) h in
    Each-cons (λ (y : X). is_rule (number y) ≡ true) parts.0 (rules-each number xs parts.1)

settings-rules : Each (λ (line : SettingLine). is_rule line.0 ≡ true) setting_lines
unfolding setting_lines
settings-rules = rules-each (λ (line : SettingLine). line.0) setting_lines refl

devices-rules : Each (λ (line : DeviceLine). is_rule line.0 ≡ true) device_lines
unfolding device_lines
devices-rules = rules-each (λ (line : DeviceLine). line.0) device_lines refl

-- ---- what is broken

setting-is : (policy : Restrictions) (subject : Subject) (key value : List ℕ) → OfRule (setting_rule policy subject key value)
unfolding setting_rule
setting-is policy subject key value = found-rule (λ (line : SettingLine). line.0) _ setting_lines settings-rules

missing-is : (policy : Restrictions) (subject : Subject) (config : Settings) → OfRule (missing_rule_in setting_lines policy subject config)
missing-is policy subject config = found-rule (λ (line : SettingLine). line.0) _ setting_lines settings-rules

device-is : (policy : Restrictions) (device : Settings) → OfRule (device_rule policy device)
unfolding device_rule
device-is policy device = either (device_rule_in device_lines policy device) (network_rule policy device) (found-rule (λ (line : DeviceLine). line.0) _ device_lines devices-rules) network where
  either : (a b : Option ℕ) → OfRule a → OfRule b → OfRule (option_or a b)
  either None b ha hb = hb
  either (Some n) b ha hb = ha

  seven : (b : Bool) → OfRule (cond b (Some 7) None)
  seven true = refl
  seven false = tt

  network : OfRule (network_rule policy device)
  network = seven _

placed : (place : ℕ) (rule : Option ℕ) → OfRule rule → ByRule (place_at place rule)
placed place None h = tt
placed place (Some n) h = h

earlier-is : (a b : Option Forbidden) → ByRule a → ByRule b → ByRule (earlier a b)
earlier-is None b ha hb = hb
earlier-is (Some f) None ha hb = ha
earlier-is (Some f) (Some g) ha hb = at (nat_le f.rule g.rule) where
  at : (b : Bool) → ByRule (cond b (Some f) (Some g))
  at true = ha
  at false = hb

lowest-is : (fs : List (Option Forbidden)) → Each ByRule fs → ByRule (lowest fs)
lowest-is [] h = tt
lowest-is (f ∷ fs) h = earlier-is f (lowest fs) (Each-head h) (lowest-is fs (Each-tail h))

settings-are : (policy : Restrictions) (subject : Subject) (i : ℕ) (config : Settings)
    → Each ByRule (map (λ (s : ℕ × (List ℕ × List ℕ)). place_at s.0 (setting_rule policy subject s.1.0 s.1.1)) (enumerate_from i config))
settings-are policy subject i [] = Each-none
settings-are policy subject i (s ∷ ss) = Each-cons ByRule (placed i _ (setting-is policy subject s.0 s.1)) (settings-are policy subject (i + 1) ss)

devices-are : (policy : Restrictions) (i : ℕ) (devices : List Settings)
    → Each ByRule (map (λ (d : ℕ × Settings). place_at d.0 (device_rule policy d.1)) (enumerate_from i devices))
devices-are policy i [] = Each-none
devices-are policy i (d ∷ ds) = Each-cons ByRule (placed i _ (device-is policy d)) (devices-are policy (i + 1) ds)

forbidden-is : (policy : Restrictions) (subject : Subject) (config : Settings) (devices : NamedDevices) → ByRule (first_forbidden policy subject config devices)
unfolding first_forbidden broken_settings missing_setting broken_devices
forbidden-is policy subject config devices = at policy.restricted where
  all : ByRule (lowest (broken_settings policy subject config ++ missing_setting policy subject config ∷ broken_devices policy devices))
  all = lowest-is _ (Each-append (settings-are policy subject 0 config)
      (Each-cons ByRule (placed (length config) _ (missing-is policy subject config)) (devices-are policy 0 (values_of devices))))

  at : (b : Bool) → ByRule (cond b (lowest (broken_settings policy subject config ++ missing_setting policy subject config ∷ broken_devices policy devices)) None)
  at true = all
  at false = tt

-- ---- what the seven rules do not forbid is not forbidden

pub forbids-none : (p : Project) (number : ℕ) (subject : Subject) (name : List ℕ) (config : Settings) (devices : NamedDevices)
    → is_rule number ≡ false → forbids p number subject name config devices ≡ None
forbids-none p number subject name config devices other =
    at (first_forbidden (policy_of p.config) subject config devices) (forbidden-is (policy_of p.config) subject config devices) where
      by : (f : Forbidden) (b : Bool) → f.rule == number ≡ b → is_rule f.rule ≡ true
          → cond b (Some (on_key_of (policy_rule number) (forbidden_key config devices f) name p.name)) None ≡ None
      by f true is rule = absurd (false≢true (sym other ∙ ap is_rule (sym (eqb-true f.rule number is)) ∙ rule))
      by f false is rule = refl

      at : (found : Option Forbidden) → ByRule found
          → option_and_then (λ (f : Forbidden). cond (f.rule == number) (Some (on_key_of (policy_rule number) (forbidden_key config devices f) name p.name)) None) found ≡ None
      at None h = refl
      at (Some f) h = by f (f.rule == number) refl h

-- a number is that of a rule, or of none
pub rule-or_not : (number : ℕ) → Mem number rule_numbers ⊎ (is_rule number ≡ false)
rule-or_not number = at (is_rule number) refl where
  at : (b : Bool) → is_rule number ≡ b → Mem number rule_numbers ⊎ (is_rule number ≡ false)
  at false is = inr is
  at true is = let found = any-some (λ m. m == number) rule_numbers is in inl (subst (λ n. Mem n rule_numbers) (eqb-true found.0 number found.1.1) found.1.0)
