use Rattle.std.proofs.Common.{◌≡◌, filter, length, ap, ◌∙◌}
use Rattle.std.specs.Str.{bytes_eq}
use Rattle.row_machine.specs.machine.State.{State}
use Rattle.row_machine.specs.machine.Usage.{networks_of}
use Rattle.core_judging.proofs.one_project.in_use.Goals as goal

pub pool_uses-requires : goal.pool_uses-requires
pool_uses-requires c = c.requires

pub returns : goal.returns
unfolding networks_of
returns c =
    let count = ap length c.rows_of-networks.ensures
    ∙ ap (λ (s : State). length (filter (λ n. bytes_eq n.project c.args.project.now) s.networks)) c.view.view_is in
    λ i. record { amounts = c.in_ok-amounts.ensures.usage i; networks = count i; pools = c.in_ok-pools.ensures i }
