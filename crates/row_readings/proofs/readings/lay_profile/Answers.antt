use Rattle.std.proofs.Common.{sym, ap, ◌∙◌}
use Rattle.std.specs.Option.{option_copied}
use Rattle.expansion.specs.Layers.{laid}
use Rattle.row_machine.specs.machine.Expansions.{layer_of}
use Rattle.row_readings.proofs.Layered.{laid-nothing}
use Rattle.row_readings.proofs.readings.lay_profile.Goals as goal

pub returns-in-None : goal.returns-in-None
returns-in-None c =
    sym (laid-nothing c.args.expanded.now) ∙ ap (λ o. laid c.args.expanded.now (layer_of (option_copied o))) (sym c.in-None.is)
