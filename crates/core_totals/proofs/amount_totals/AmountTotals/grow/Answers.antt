use Rattle.std.proofs.Common.{◌+◌, ◌<◌, ◌^◌, Some, set, subst, sym, ◌∙◌, ap}
use Rattle.std.specs.Prelude.{IfSome, option_map}
use Rattle.std.specs.List.{position}
use Rattle.plain_lists.proofs.EditLemmas.{changed-none}
use Rattle.plain_lists.proofs.Places.{any-position, find-at, changed-at}
use Rattle.size_values.specs.Amounts.{part, plus_of}
use Rattle.size_values.specs.declared.amounts.Part.{Part}
use Rattle.core_totals.specs.declared.amount_totals.Total.{Total}
use Rattle.core_totals.specs.Totals.{is_of, known, amounts_grown}
use Rattle.core_totals.proofs.amount_totals.AmountTotals.grow.Goals as goal

pub returns-in_default : goal.returns-in_default
returns-in_default c =
    let items = c.self.inside.totals.items in
    let test = is_of c.args.project.now in
    sym c.self.view_is
    ∙ sym (changed-none test (λ (t : Total). record t { amounts = plus_of t.amounts c.args.asked.now }) items
    (any-position test items (c.in_default.ensures.place ∙ ap (position test) c.deref.ensures.value)))
    ∙ ap (amounts_grown c.args.project.now c.args.asked.now) c.self.view_is

pub plus-total-requires : goal.plus-total-requires
plus-total-requires c =
    let items = c.self.inside.totals.items in
    let test = is_of c.args.project.now in
    let index = c.in-Some.place in
    let place = c.in-Some.ensures.place ∙ ap (position test) c.deref.ensures.value in
    let found = find-at test items index c.index_mut-total.result.now place ∙ ap Some (sym c.index_mut-total.ensures.value) in
    let small = subst (λ ts. IfSome (known ts c.args.project.now) (λ a. (k : Part) → part k a + part k c.args.asked.now < 2 ^ 128)) (sym c.self.view_is) c.requires in
    subst (λ x. IfSome (option_map (λ (t : Total). t.amounts) x) (λ a. (k : Part) → part k a + part k c.args.asked.now < 2 ^ 128)) found small

pub returns : goal.returns
returns c =
    let items = c.self.inside.totals.items in
    let test = is_of c.args.project.now in
    let index = c.in-Some.place in
    let now = c.index_mut-total.result.now in
    let change = λ (t : Total). record t { amounts = plus_of t.amounts c.args.asked.now } in
    let place = c.in-Some.ensures.place ∙ ap (position test) c.deref.ensures.value in
    ap (λ a. set items index (record now { amounts = a })) c.plus-total.ensures
    ∙ ap (λ t. set items index (change t)) c.index_mut-total.ensures.value
    ∙ changed-at test change items index now place
    ∙ ap (amounts_grown c.args.project.now c.args.asked.now) c.self.view_is
