use Rattle.std.proofs.Common.{Bool, not, ◌&&◌, ap, ◌∙◌}
use Rattle.std.specs.List.{list_any}
use Rattle.std.specs.Str.{bytes_eq}
use Rattle.records.specs.declared.rows.Profile.{Profile}
use Rattle.row_machine.specs.machine.Rows.{default_name}
use Rattle.row_machine.specs.machine.State.{State}
use Rattle.rules_conflicts.proofs.OwnRows.{any-own}
use Rattle.rules_conflicts.proofs.occupied.project_has_own_profile.Goals as goal

pub returns : goal.returns
returns c =
    c.has_own_profile.ensures ∙ ap (list_any test) c.rows_of.ensures
    ∙ any-own test own c.view.inside.profiles.now (λ r other. ap (λ b. b && not (bytes_eq r.name default_name)) other)
    ∙ ap (λ (s : State). list_any test s.profiles) c.view.view_is
  where
    own : Profile → Bool
    own r = bytes_eq r.project c.args.project.now

    test : Profile → Bool
    test r = own r && not (bytes_eq r.name default_name)
