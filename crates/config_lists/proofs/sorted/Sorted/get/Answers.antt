use Rattle.std.proofs.Common.{sym, ap, subst, ◌∙◌}
use Rattle.config_lists.specs.Entries.{value_of, IsAt}
use Rattle.config_lists.proofs.Places.{value_of-read, value_of-gap}
use Rattle.config_lists.proofs.sorted.Sorted.get.Goals as goal

pub returns-in-Ok : goal.returns-in-Ok
returns-in-Ok g c =
    let at = subst (λ es. IsAt es c.args.key.now c.in-Ok.place) (sym c.self.view_is) c.in-Ok.ensures.found in
    value_of-read c.args.key.now c.self.inside.entries.items c.in-Ok.place c.index.result.now c.self.invariant at c.index.ensures
    ∙ ap (λ es. value_of es c.args.key.now) c.self.view_is

pub returns-in-Err : goal.returns-in-Err
returns-in-Err g c = sym (value_of-gap c.args.key.now _ _ c.in-Err.ensures.absent)
