use Rattle.std.proofs.Common.{◌+◌, ◌<◌, ◌^◌, Some, set, subst, sym, ◌∙◌, ap, arith}
use Rattle.std.specs.Prelude.{IfSome, option_map}
use Rattle.std.specs.List.{position}
use Rattle.plain_lists.proofs.EditLemmas.{changed-none}
use Rattle.plain_lists.proofs.Places.{any-position, find-at, changed-at}
use Rattle.core_totals.specs.declared.pool_totals.PoolTotal.{PoolTotal}
use Rattle.core_totals.specs.Totals.{is_on, known_on, pools_grown}
use Rattle.core_totals.proofs.pool_totals.PoolTotals.grow.Goals as goal

pub returns-in_default : goal.returns-in_default
returns-in_default c =
    let items = c.self.inside.totals.items in
    let part = c.args.part.now in
    let test = is_on c.args.project.now part.pool in
    sym c.self.view_is
    ∙ sym (changed-none test (λ (t : PoolTotal). record t { used = t.used + part.disk }) items
    (any-position test items (c.in_default.ensures.place ∙ ap (λ pool. position (is_on c.args.project.now pool) c.deref.result.now) c.view.ensures.value
    ∙ ap (position test) c.deref.ensures.value)))
    ∙ ap (pools_grown c.args.project.now part) c.self.view_is

pub overflow_add-total : goal.overflow_add-total
overflow_add-total c =
    let items = c.self.inside.totals.items in
    let part = c.args.part.now in
    let test = is_on c.args.project.now part.pool in
    let index = c.in-Some.place in
    let place = c.in-Some.ensures.place ∙ ap (λ pool. position (is_on c.args.project.now pool) c.deref.result.now) c.view.ensures.value
    ∙ ap (position test) c.deref.ensures.value in
    let found = find-at test items index c.index_mut-total.result.now place ∙ ap Some (sym c.index_mut-total.ensures.value) in
    let small = subst (λ ts. IfSome (known_on ts c.args.project.now part.pool) (λ used. used + part.disk < 2 ^ 128)) (sym c.self.view_is) c.requires in
    let fits = subst (λ x. IfSome (option_map (λ (t : PoolTotal). t.used) x) (λ used. used + part.disk < 2 ^ 128)) found small in
    omega (arith, fits)

pub returns : goal.returns
returns c =
    let items = c.self.inside.totals.items in
    let part = c.args.part.now in
    let test = is_on c.args.project.now part.pool in
    let index = c.in-Some.place in
    let now = c.index_mut-total.result.now in
    let change = λ (t : PoolTotal). record t { used = t.used + part.disk } in
    let place = c.in-Some.ensures.place ∙ ap (λ pool. position (is_on c.args.project.now pool) c.deref.result.now) c.view.ensures.value
    ∙ ap (position test) c.deref.ensures.value in
    ap (λ t. set items index (change t)) c.index_mut-total.ensures.value
    ∙ changed-at test change items index now place
    ∙ ap (pools_grown c.args.project.now part) c.self.view_is
