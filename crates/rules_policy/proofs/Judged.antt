-- Profiles of a project, its instances, and those that live operations would put, asked one list after the other.
use Rattle.std.proofs.Common.{◌≡◌, ℕ, None, filter, sym, ap, ◌∙◌}
use Rattle.std.specs.Option.{option_or}
use Rattle.std.specs.Str.{bytes_eq}
use Rattle.plain_lists.specs.Firsts.{first_of}
use Rattle.records.specs.declared.rows.Project.{Project}
use Rattle.row_machine.specs.machine.State.{State}
use Rattle.row_machine.specs.machine.Claims.{claimed_instance, judged_instances}
use Rattle.row_machine.specs.machine.PolicyRules.{forbids_profile, forbids_instance, project_forbids}
use Rattle.rules_policy.specs.Within.{own_profile, own_instance, own_claim, own_objects}
use Rattle.rules_refusals.proofs.Loops.{first_of-filter}
use Rattle.rules_refusals.proofs.Saying.{first_of-judged, or-flat}

pub forbids-split : (s : State) (number : ℕ) (p : Project) → own_objects s p number ≡ project_forbids s number p
unfolding judged_instances
forbids-split s number p = sym (
    ap (λ o. option_or o (option_or (first_of (forbids_instance s p number) (filter (λ i. bytes_eq i.project p.name) (judged_instances s))) None))
    (first_of-filter (forbids_profile p number) (λ r. bytes_eq r.project p.name) s.profiles)
    ∙ ap (λ o. option_or (first_of (own_profile p number) s.profiles) (option_or o None))
    (first_of-judged (forbids_instance s p number) (λ i. bytes_eq i.project p.name) (λ o. claimed_instance o.work) s.instances s.operations.live)
    ∙ ap (option_or (first_of (own_profile p number) s.profiles))
    (or-flat (first_of (own_instance s p number) s.instances) (first_of (λ o. own_claim s p number o.work) s.operations.live))
    )
