use Rattle.std.proofs.Common.{ℕ, List, map, take, ap, ◌∙◌}
use Rattle.std.specs.Option.{option_copied}
use Rattle.expansion.specs.declared.expanded.Expanded.{Expanded}
use Rattle.expansion.specs.Layers.{laid, expanded}
use Rattle.row_machine.specs.machine.Rows.{profile_named}
use Rattle.row_machine.specs.machine.Expansions.{layer_of}
use Rattle.row_readings.proofs.Layered.{expanded-next}
use Rattle.row_readings.proofs.state_ref.StateRef.profiles_laid.Goals as goal

pub loop-name-init : goal.loop-name-init
unfolding expanded
loop-name-init c = c.new-expanded.ensures

pub loop-name-preserved : goal.loop-name-preserved
loop-name-preserved c =
    let layer : List ℕ → Expanded = λ name. layer_of (profile_named c.args.self.now.profiles c.args.home.now name) in
    let index = c.loop-name.name-index in
    c.in_ok-lay_profile.ensures
    ∙ ap (λ e. laid e (layer_of (option_copied c.profile_named.result))) c.loop-name.invariant
    ∙ ap (λ o. laid (expanded (map layer (take index c.args.names.now))) (layer_of o))
    (c.profile_named.ensures ∙ ap (profile_named c.args.self.now.profiles c.args.home.now) (c.view.ensures.value ∙ c.name-item.is))
    ∙ expanded-next layer c.args.names.now index c.name-item.result c.loop-name-test.true
