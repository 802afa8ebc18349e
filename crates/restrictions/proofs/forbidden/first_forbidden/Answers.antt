use Rattle.std.proofs.Common.{◌++◌, ◌∷◌, cond, None, sym, ap, ap₂, ◌∙◌}
use Rattle.restrictions.specs.Policies.{seen}
use Rattle.restrictions.specs.Forbids.{first_forbidden, broken_settings, missing_setting, broken_devices, earlier, lowest}
use Rattle.restrictions.proofs.Lowest.{earlier_assoc, lowest-append}
use Rattle.restrictions.proofs.forbidden.first_forbidden.Goals as goal

-- the settings, then the missing one, then the devices
pub returns : goal.returns
unfolding first_forbidden
returns c =
    let settings = broken_settings (seen c.args.policy.now) c.args.subject c.args.config.now in
    let missing = missing_setting (seen c.args.policy.now) c.args.subject c.args.config.now in
    let devices = broken_devices (seen c.args.policy.now) c.args.devices.now in
    c.earlier.ensures
    ∙ ap₂ earlier (c.earlier-setting.ensures ∙ ap₂ earlier c.lowest_setting.ensures c.missing_setting.ensures) c.lowest_device.ensures
    ∙ earlier_assoc (lowest settings) missing (lowest devices)
    ∙ sym (lowest-append settings (missing ∷ devices))
    ∙ ap (λ b. cond b (lowest (settings ++ missing ∷ devices)) None) (sym c.if-not-policy.false)
