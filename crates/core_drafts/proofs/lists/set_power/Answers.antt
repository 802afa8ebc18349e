use Rattle.std.proofs.Common.{Ok, Err, set, ◌∷◌, [], ◌∙◌, ap, sym, subst}
use Rattle.plain_lists.proofs.EditLemmas.{changed-none}
use Rattle.plain_lists.proofs.Places.{any-position, changed-at}
use Rattle.row_machine.specs.machine.Rows.{is_power_of, power_names}
use Rattle.row_machine.specs.machine.State.{InstancePower}
use Rattle.row_readings.specs.Rising.{FindsPlace}
use Rattle.core_drafts.proofs.lists.set_power.Goals as goal

pub returns-in-Ok : goal.returns-in-Ok
returns-in-Ok c =
    let items = c.args.powers.now.items in
    let test = is_power_of c.args.project.now c.args.name.now in
    let given = λ (p : InstancePower). record p { power = c.args.power } in
    let found : FindsPlace power_names (c.args.project.now ∷ c.args.name.now ∷ []) items (Ok c.in-Ok.place) =
    subst (λ rows. FindsPlace power_names (c.args.project.now ∷ c.args.name.now ∷ []) rows (Ok c.in-Ok.place)) c.deref.ensures.value
    (rw (c.view.ensures.value, c.view-2.ensures.value) at c.in-Ok.ensures.place) in
    ap (λ (p : InstancePower). set items c.in-Ok.place (given p)) (c.behind-powers.view_is ∙ c.index_mut.ensures.value)
    ∙ changed-at test given items c.in-Ok.place c.index_mut.result.now (sym found)

pub returns-in-Err : goal.returns-in-Err
returns-in-Err c =
    let items = c.args.powers.now.items in
    let test = is_power_of c.args.project.now c.args.name.now in
    let found : FindsPlace power_names (c.args.project.now ∷ c.args.name.now ∷ []) items (Err c.in-Err.field-0) =
    subst (λ rows. FindsPlace power_names (c.args.project.now ∷ c.args.name.now ∷ []) rows (Err c.in-Err.field-0)) c.deref.ensures.value
    (rw (c.view.ensures.value, c.view-2.ensures.value) at c.in-Err.ensures.place) in
    sym (changed-none test (λ (p : InstancePower). record p { power = c.args.power }) items (any-position test items (sym found.0)))
