use Rattle.std.proofs.Common.{◌≡◌, [], sym, subst}
use Rattle.event_hub.specs.Recent.{no_notices}
use Rattle.core_instances.specs.core_rows.specs.Opening.{OpensTo}
use Rattle.core_turns.proofs.Turning.{opening-invariant}
use Rattle.core_turns.proofs.daemon.Daemon.begin.Goals as goal

pub invariant_of-result : goal.invariant_of-result
invariant_of-result g c =
    let estate = c.in_ok-estate.estate in
    let opens : OpensTo estate.state (g.R.Keeper.store c.args.keeper.now) (g.R.Keeper.store c.load_rows.new.keeper) × (estate.untold ≡ []) = c.in_ok-estate.ensures in
    let none : c.in-Ok.hub ≡ no_notices = c.in-Ok.ensures in
    let own = opening-invariant estate.state c.in-Ok.hub (g.R.Keeper.store c.args.keeper.now) (g.R.Keeper.store c.load_rows.new.keeper) opens.0 c.facts_hold.ensures none in
    record { quiet = opens.1; silent = own.0; whole = own.2; short = own.1 }

pub returns : goal.returns
returns g c =
    let estate = c.in_ok-estate.estate in
    let opens : OpensTo estate.state (g.R.Keeper.store c.args.keeper.now) (g.R.Keeper.store c.load_rows.new.keeper) × (estate.untold ≡ []) = c.in_ok-estate.ensures in
    let none : c.in-Ok.hub ≡ no_notices = c.in-Ok.ensures in
    let own = opening-invariant estate.state c.in-Ok.hub (g.R.Keeper.store c.args.keeper.now) (g.R.Keeper.store c.load_rows.new.keeper) opens.0 c.facts_hold.ensures none in
    subst (λ s. OpensTo s (g.R.Keeper.store c.args.keeper.now) (g.R.Keeper.store c.load_rows.new.keeper)) (sym own.3) opens.0
