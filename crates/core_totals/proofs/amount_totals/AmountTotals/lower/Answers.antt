use Rattle.std.proofs.Common.{set, sym, ◌∙◌, ap}
use Rattle.std.specs.List.{position}
use Rattle.plain_lists.proofs.EditLemmas.{changed-none}
use Rattle.plain_lists.proofs.Places.{any-position, changed-at}
use Rattle.size_values.specs.Amounts.{excess_of}
use Rattle.core_totals.specs.declared.amount_totals.Total.{Total}
use Rattle.core_totals.specs.Totals.{is_of, amounts_lowered}
use Rattle.core_totals.proofs.amount_totals.AmountTotals.lower.Goals as goal

pub returns-in_default : goal.returns-in_default
returns-in_default c =
    let items = c.self.inside.totals.items in
    let test = is_of c.args.project.now in
    sym c.self.view_is
    ∙ sym (changed-none test (λ (t : Total). record t { amounts = excess_of t.amounts c.args.asked.now }) items
    (any-position test items (c.in_default.ensures.place ∙ ap (position test) c.deref.ensures.value)))
    ∙ ap (amounts_lowered c.args.project.now c.args.asked.now) c.self.view_is

pub returns : goal.returns
returns c =
    let items = c.self.inside.totals.items in
    let test = is_of c.args.project.now in
    let index = c.in-Some.place in
    let now = c.index_mut-total.result.now in
    let change = λ (t : Total). record t { amounts = excess_of t.amounts c.args.asked.now } in
    let place = c.in-Some.ensures.place ∙ ap (position test) c.deref.ensures.value in
    ap (λ a. set items index (record now { amounts = a })) c.excess-total.ensures
    ∙ ap (λ t. set items index (change t)) c.index_mut-total.ensures.value
    ∙ changed-at test change items index now place
    ∙ ap (amounts_lowered c.args.project.now c.args.asked.now) c.self.view_is
