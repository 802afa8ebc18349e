use Rattle.rules_refusals.proofs.Saying.{says-as}
use Rattle.rules_settings.proofs.Naming.{naming-split}
use Rattle.rules_settings.proofs.instances.naming_settings.Goals as goal

pub returns : goal.returns
returns c = says-as c.named_broken.result (naming-split c.args.view.now c.args.profile.now) c.named_broken.ensures
