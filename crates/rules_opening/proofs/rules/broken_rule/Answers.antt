use Rattle.std.proofs.Common.{sym, ap, ◌∙◌}
use Rattle.rules_opening.specs.declared.rules.RowRule.{RowRule}
use Rattle.rules_opening.specs.Rules.{row_rule}
use Rattle.rules_opening.proofs.rules.broken_rule.Goals as goal

pub returns-in-ProfilesMalformed : goal.returns-in-ProfilesMalformed
returns-in-ProfilesMalformed c =
    c.profiles_malformed.ensures c.args.view.now ∙ ap (λ (rule : RowRule). row_rule rule c.args.view.now c.args.row.now) (sym c.in-ProfilesMalformed.is)

pub returns-in-SettingsInvalid : goal.returns-in-SettingsInvalid
returns-in-SettingsInvalid c =
    c.settings_invalid.ensures c.args.view.now ∙ ap (λ (rule : RowRule). row_rule rule c.args.view.now c.args.row.now) (sym c.in-SettingsInvalid.is)

pub returns-in-DevicesInvalid : goal.returns-in-DevicesInvalid
returns-in-DevicesInvalid c =
    c.devices_invalid.ensures c.args.view.now ∙ ap (λ (rule : RowRule). row_rule rule c.args.view.now c.args.row.now) (sym c.in-DevicesInvalid.is)
