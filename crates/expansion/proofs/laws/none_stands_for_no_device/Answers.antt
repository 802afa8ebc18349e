use Rattle.std.proofs.Common.{codes, ◌&&◌, is_some, is_none, sym, ap, ◌∙◌}
use Rattle.config_lists.specs.Settings.{setting, has_setting}
use Rattle.config_lists.specs.Devices.{is_root_disk}
use Rattle.config_lists.proofs.Keys.{same}
use Rattle.expansion.proofs.Types.{has_setting-other}
use Rattle.expansion.proofs.laws.none_stands_for_no_device.Goals as goal

pub returns-clause-root : goal.returns-clause-root
unfolding is_root_disk
returns-clause-root c device is =
    ap (λ b. b && has_setting device (codes "path") (codes "/") && is_some (setting device (codes "pool")) && is_none (setting device (codes "source")))
    (has_setting-other device (codes "type") (codes "none") (codes "disk") is)

pub returns-clause-other : goal.returns-clause-other
returns-clause-other c device name is other = sym (same (codes "none") name (sym (has_setting-other device (codes "type") (codes "none") name is) ∙ other))
