use Rattle.std.proofs.Common.{ap, ◌∙◌}
use Rattle.config_lists.specs.Entries.{replaced}
use Rattle.config_lists.proofs.Walks.{replaced-nil}
use Rattle.config_lists.proofs.devices.Devices.copy.Goals as goal

pub returns : goal.returns
returns c =
    c.in_ok-put_each.ensures.after ∙ ap (λ es. replaced es c.args.self.now) c.empty_like-copy.ensures ∙ replaced-nil c.args.self.now c.put_each.ensures.rising
