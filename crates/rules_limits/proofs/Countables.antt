-- What of a project is asked whether it is countable: its instances, its volumes, and what live operations would put.
use Rattle.std.proofs.Common.{◌≡◌, None, filter, sym, ap, ◌∙◌}
use Rattle.std.specs.Option.{option_or}
use Rattle.std.specs.Str.{bytes_eq}
use Rattle.plain_lists.specs.Firsts.{first_of}
use Rattle.records.specs.declared.rows.Project.{Project}
use Rattle.row_machine.specs.machine.State.{State}
use Rattle.row_machine.specs.machine.LimitRules.{instance_without_amount, volume_lacks_amount, claim_without_amount, project_without_amount}
use Rattle.rules_limits.specs.Within.{own_instance, own_objects}
use Rattle.rules_refusals.proofs.Loops.{first_of-filter}

pub without_amount-split : (s : State) (p : Project) → own_objects s p ≡ project_without_amount s p
without_amount-split s p =
    let claims = first_of (λ o. claim_without_amount s p o.work) s.operations.live in
    sym (
    ap (λ o. option_or o (option_or (first_of (volume_lacks_amount p) (filter (λ v. bytes_eq v.project p.name) s.volumes)) (option_or claims None)))
    (first_of-filter (instance_without_amount s p) (λ i. bytes_eq i.project p.name) s.instances)
    ∙ ap (λ o. option_or (first_of (own_instance s p) s.instances) (option_or o (option_or claims None)))
    (first_of-filter (volume_lacks_amount p) (λ v. bytes_eq v.project p.name) s.volumes)
    )
