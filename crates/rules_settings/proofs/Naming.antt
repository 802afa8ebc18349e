-- The instances that are or would be there and name a profile, asked one list after the other.
use Rattle.std.proofs.Common.{◌≡◌, sym, ap, ◌∙◌}
use Rattle.std.specs.Option.{option_or}
use Rattle.plain_lists.specs.Firsts.{first_of}
use Rattle.records.specs.declared.rows.Profile.{Profile}
use Rattle.row_machine.specs.machine.State.{State}
use Rattle.row_machine.specs.machine.Claims.{claimed_instance, judged_instances}
use Rattle.row_machine.specs.machine.Holders.{names_profile}
use Rattle.row_machine.specs.machine.SettingRules.{instance_settings, naming}
use Rattle.rules_settings.specs.Named.{where_named, where_claimed, all_named}
use Rattle.rules_refusals.proofs.Chains.{or-none}
use Rattle.rules_refusals.proofs.Saying.{first_of-judged}

pub naming-split : (s : State) (r : Profile) → all_named s r ≡ first_of (instance_settings s) (naming s r)
unfolding judged_instances
naming-split s r =
    ap (option_or (first_of (where_named s r) s.instances)) (or-none (first_of (λ o. where_claimed s r o.work) s.operations.live))
    ∙ sym (first_of-judged (instance_settings s) (names_profile s r.project r.name) (λ o. claimed_instance o.work) s.instances s.operations.live)
