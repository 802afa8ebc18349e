use Rattle.std.proofs.Common.{◌+◌, ◌≤◌, ◌∷◌, length, drop, sym, ap, subst, ◌∙◌, arith}
use Rattle.std.specs.Option.{option_copied}
use Rattle.std.proofs.lemmas.List.{drop_all, drop_more}
use Rattle.row_machine.specs.facts.Whole.{Rise}
use Rattle.row_machine.specs.machine.Rows.{project_names}
use Rattle.row_machine.specs.machine.State.{State}
use Rattle.core_judging.proofs.After.{after_all, after-applied}
use Rattle.core_judging.proofs.one_project.project_after.Goals as goal

pub loop-change-init : goal.loop-change-init
loop-change-init c = ap (after_all c.args.changes.now c.args.name.now) c.project_named-project.ensures

pub loop-change-preserved : goal.loop-change-preserved
loop-change-preserved c =
    let cs = c.args.changes.now in
    let i = c.loop-change.change-index in
    let item = c.change-item.result in
    let old = option_copied c.loop-change.project in
    ap (after_all (drop (i + 1) cs) c.args.name.now) c.after_change-project.ensures
    ∙ sym (ap (λ rest. after_all rest c.args.name.now old)
    (drop_more cs i item c.loop-change-test.true ∙ ap (λ one. one ∷ drop (i + 1) cs) (sym c.change-item.is)))
    ∙ c.loop-change.invariant

pub returns : goal.returns
returns c =
    let cs = c.args.changes.now in
    let name = c.args.name.now in
    let i = c.loop-change.change-index in
    let past : length cs ≤ i = omega (arith, c.loop-change-test.false) in
    sym (ap (λ rest. after_all rest name (option_copied c.loop-change.project)) (drop_all i cs past))
    ∙ c.loop-change.invariant
    ∙ after-applied cs c.args.view.now name (subst (λ (s : State). Rise project_names s.projects) c.view.view_is c.view.invariant.projects)
