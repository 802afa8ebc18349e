use Rattle.std.proofs.Common.{◌++◌, sym, ap, subst, ◌∙◌}
use Rattle.config_lists.specs.Entries.{value_of, IsAt}
use Rattle.config_lists.proofs.Places.{value_of-read, value_of-gap}
use Rattle.config_lists.proofs.sorted.Sorted.get_joined.Goals as goal

pub returns-in-Ok : goal.returns-in-Ok
returns-in-Ok g c =
    let key = c.args.front.now ++ c.args.rest.now in
    let at = subst (λ es. IsAt es key c.in-Ok.place) (sym c.self.view_is) c.in-Ok.ensures.found in
    value_of-read key c.self.inside.entries.items c.in-Ok.place c.index.result.now c.self.invariant at c.index.ensures
    ∙ ap (λ es. value_of es key) c.self.view_is

pub returns-in-Err : goal.returns-in-Err
returns-in-Err g c = sym (value_of-gap (c.args.front.now ++ c.args.rest.now) _ _ c.in-Err.ensures.absent)
