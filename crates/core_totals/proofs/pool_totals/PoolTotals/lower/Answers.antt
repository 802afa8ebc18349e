use Rattle.std.proofs.Common.{◌-◌, set, sym, ◌∙◌, ap}
use Rattle.std.specs.List.{position}
use Rattle.plain_lists.proofs.EditLemmas.{changed-none}
use Rattle.plain_lists.proofs.Places.{any-position, changed-at}
use Rattle.core_totals.specs.declared.pool_totals.PoolTotal.{PoolTotal}
use Rattle.core_totals.specs.Totals.{is_on, pools_lowered}
use Rattle.core_totals.proofs.pool_totals.PoolTotals.lower.Goals as goal

pub returns-in_default : goal.returns-in_default
returns-in_default c =
    let items = c.self.inside.totals.items in
    let part = c.args.part.now in
    let test = is_on c.args.project.now part.pool in
    sym c.self.view_is
    ∙ sym (changed-none test (λ (t : PoolTotal). record t { used = t.used - part.disk }) items
    (any-position test items (c.in_default.ensures.place ∙ ap (λ pool. position (is_on c.args.project.now pool) c.deref.result.now) c.view.ensures.value
    ∙ ap (position test) c.deref.ensures.value)))
    ∙ ap (pools_lowered c.args.project.now part) c.self.view_is

pub returns : goal.returns
returns c =
    let items = c.self.inside.totals.items in
    let part = c.args.part.now in
    let test = is_on c.args.project.now part.pool in
    let index = c.in-Some.place in
    let now = c.index_mut-total.result.now in
    let change = λ (t : PoolTotal). record t { used = t.used - part.disk } in
    let place = c.in-Some.ensures.place ∙ ap (λ pool. position (is_on c.args.project.now pool) c.deref.result.now) c.view.ensures.value
    ∙ ap (position test) c.deref.ensures.value in
    ap (λ n. set items index (record now { used = n })) c.saturating_sub-total.ensures
    ∙ ap (λ t. set items index (change t)) c.index_mut-total.ensures.value
    ∙ changed-at test change items index now place
    ∙ ap (pools_lowered c.args.project.now part) c.self.view_is
