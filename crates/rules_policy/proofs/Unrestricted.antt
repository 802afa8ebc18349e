-- A project that is not restricted forbids nothing.
use Rattle.std.proofs.Common.{◌≡◌, ℕ, ◌==◌, Bool, true, false, cond, Option, Some, None, List, ◌∷◌, ◌++◌, refl, ap, option_and_then}
use Rattle.std.specs.Str.{bytes_eq}
use Rattle.plain_lists.proofs.FirstLemmas.{none-first_of}
use Rattle.config_lists.specs.Settings.{Settings}
use Rattle.config_lists.specs.Devices.{NamedDevices}
use Rattle.restrictions.specs.declared.forbidden.Forbidden.{Forbidden}
use Rattle.restrictions.specs.declared.rows.Subject.{Subject}
use Rattle.restrictions.specs.Policies.{Restrictions, policy_of}
use Rattle.restrictions.specs.Forbids.{first_forbidden, lowest, broken_settings, missing_setting, broken_devices}
use Rattle.records.specs.declared.rows.Project.{Project}
use Rattle.records.specs.declared.rows.Profile.{Profile}
use Rattle.records.specs.declared.rows.Instance.{Instance}
use Rattle.row_machine.specs.machine.State.{State}
use Rattle.row_machine.specs.machine.Task.{Task}
use Rattle.row_machine.specs.machine.Claims.{claimed_instance}
use Rattle.row_machine.specs.machine.Expansions.{expanded_of}
use Rattle.row_machine.specs.machine.Refusals.{on_key_of}
use Rattle.row_machine.specs.machine.PolicyRules.{project_forbids, forbids, forbids_profile, forbids_instance, subject_of, policy_rule, forbidden_key}
use Rattle.rules_refusals.proofs.Saying.{none-or}
use Rattle.rules_policy.specs.Within.{own_instance, own_claim}
use Rattle.rules_policy.proofs.Below.{none-if}

pub nothing-forbidden : (policy : Restrictions) (judged : Subject) (config : Settings) (devices : NamedDevices)
    → policy.restricted ≡ false → first_forbidden policy judged config devices ≡ None
unfolding first_forbidden
nothing-forbidden policy judged config devices e =
    ap (λ b. cond b (lowest (broken_settings policy judged config ++ missing_setting policy judged config ∷ broken_devices policy devices)) None) e

module _ (p : Project) (number : ℕ) (free : (policy_of p.config).restricted ≡ false) where
  forbids-none : (judged : Subject) (name : List ℕ) (config : Settings) (devices : NamedDevices) → forbids p number judged name config devices ≡ None
  forbids-none judged name config devices =
      ap (option_and_then (λ (f : Forbidden). cond (f.rule == number) (Some (on_key_of (policy_rule number) (forbidden_key config devices f) name p.name)) None))
      (nothing-forbidden (policy_of p.config) judged config devices free)

  profile-none : (r : Profile) → forbids_profile p number r ≡ None
  unfolding forbids_profile
  profile-none r = forbids-none _ r.name r.config r.devices

  instance-none : (s : State) (i : Instance) → forbids_instance s p number i ≡ None
  unfolding forbids_instance
  instance-none s i = forbids-none (subject_of i.kind) i.name (expanded_of s.projects s.profiles i).config (expanded_of s.projects s.profiles i).devices

  pub unrestricted-free : (s : State) → project_forbids s number p ≡ None
  unrestricted-free s =
      none-or (none-first_of _ _ (record { at = λ r m. profile-none r }))
      (none-or (none-first_of _ _ (record { at = λ i m. instance-none s i })) refl)

  own-none : (s : State) (i : Instance) → own_instance s p number i ≡ None
  own-none s i = none-if (bytes_eq i.project p.name) (instance-none s i)

  -- nor does it forbid what an operation would put there
  pub unrestricted-claim : (s : State) (task : Task) → own_claim s p number task ≡ None
  unrestricted-claim s task = at (claimed_instance task) where
    at : (o : Option Instance) → option_and_then (own_instance s p number) o ≡ None
    at None = refl
    at (Some i) = own-none s i
