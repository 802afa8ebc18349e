use Rattle.std.proofs.Common.{map, refl, sym, ap, ◌∙◌}
use Rattle.size_values.specs.declared.kinds.ObjectKind.TheVariants as kind
use Rattle.expansion.specs.Layers.{laid}
use Rattle.row_machine.specs.machine.Rows.{profile_named}
use Rattle.row_machine.specs.machine.Homes.{home_of}
use Rattle.row_machine.specs.machine.Expansions.{layer_of, own_layer, expanded_of}
use Rattle.row_readings.proofs.Layered.{expanded-push, profiles_of-same}
use Rattle.row_readings.proofs.state_ref.StateRef.expansion.Goals as goal

pub returns : goal.returns
unfolding expanded_of
returns c =
    let s = c.args.self.now in
    let row = c.args.row.now in
    let home = home_of s.projects row.project kind.Profile in
    c.in_ok-lay.ensures.ok
    ∙ ap (λ e. laid e (own_layer row))
    (c.in_ok-expanded.ensures
    ∙ profiles_of-same _ _ _ home _ row.profiles
    refl
    (c.profile_home-home.ensures
    ∙ ap (λ name. home_of s.projects name kind.Profile) c.view.ensures.value)
    c.view-2.ensures)
    ∙ sym (expanded-push (map (λ name. layer_of (profile_named s.profiles home name)) row.profiles) (own_layer row))
