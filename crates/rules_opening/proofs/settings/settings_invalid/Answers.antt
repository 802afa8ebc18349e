use Rattle.std.proofs.Common.{option_map, sym, ap, ◌∙◌}
use Rattle.option_tables.specs.Checks.{project_fault, instance_fault, network_fault, pool_fault, volume_fault}
use Rattle.option_tables.specs.declared.tables.Scope.{Scope}
use Rattle.option_tables.specs.declared.tables.Scope.TheVariants as scope
use Rattle.row_machine.specs.machine.SettingRules.{scope_of}
use Rattle.row_machine.specs.opening.Opening.{settings_invalid}
use Rattle.rules_opening.specs.Rules.{fault_rule}
use Rattle.rules_opening.proofs.Refused.{settings_told}
use Rattle.rules_opening.proofs.settings.settings_invalid.Goals as goal

pub returns-in-Project : goal.returns-in-Project
returns-in-Project c = λ s.
    c.refused_by.ensures
    ∙ ap (option_map fault_rule) c.check_project.ensures
    ∙ settings_told c.in-Project.row.config (project_fault c.in-Project.row.config)
    ∙ ap (settings_invalid s) (sym c.in-Project.is)

pub returns-in-Profile : goal.returns-in-Profile
returns-in-Profile c = λ s.
    c.refused_by-in-Profile.ensures
    ∙ ap (option_map fault_rule) (rw c.deref.ensures at c.check_instance.ensures)
    ∙ settings_told c.in-Profile.row.config (instance_fault c.in-Profile.row.config scope.Any)
    ∙ ap (settings_invalid s) (sym c.in-Profile.is)

pub returns-in-Network : goal.returns-in-Network
returns-in-Network c = λ s.
    c.refused_by-in-Network.ensures
    ∙ ap (option_map fault_rule) c.check_network.ensures
    ∙ settings_told c.in-Network.row.config (network_fault c.in-Network.row.config)
    ∙ ap (settings_invalid s) (sym c.in-Network.is)

pub returns-in-Pool : goal.returns-in-Pool
returns-in-Pool c = λ s.
    c.refused_by-in-Pool.ensures
    ∙ ap (option_map fault_rule) c.check_pool.ensures
    ∙ settings_told c.in-Pool.row.config (pool_fault c.in-Pool.row.config)
    ∙ ap (settings_invalid s) (sym c.in-Pool.is)

pub returns-in-Volume : goal.returns-in-Volume
returns-in-Volume c = λ s.
    c.refused_by-in-Volume.ensures
    ∙ ap (option_map fault_rule) (rw c.deref-in-Volume.ensures at c.check_volume.ensures)
    ∙ settings_told c.in-Volume.row.config (volume_fault c.in-Volume.row.config)
    ∙ ap (settings_invalid s) (sym c.in-Volume.is)

pub returns-in-Instance : goal.returns-in-Instance
returns-in-Instance c = λ s.
    c.refused_by-in-Instance.ensures
    ∙ ap (option_map fault_rule) (rw c.deref-in-Instance.ensures at c.check_instance-in-Instance.ensures)
    ∙ ap (λ (at : Scope). option_map fault_rule (instance_fault c.in-Instance.row.config at)) (rw c.deref-in-Instance-2.ensures at c.scope_of.ensures)
    ∙ settings_told c.in-Instance.row.config (instance_fault c.in-Instance.row.config (scope_of c.in-Instance.row.kind))
    ∙ ap (settings_invalid s) (sym c.in-Instance.is)
