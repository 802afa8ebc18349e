use Rattle.std.proofs.Common.{sym, ap, subst, ◌∙◌}
use Rattle.config_lists.specs.Entries.{put, KeysRise, IsAt}
use Rattle.config_lists.proofs.Places.{set-read}
use Rattle.config_lists.proofs.Puts.{KeysRise-put}
use Rattle.config_lists.proofs.sorted.Sorted.put.Goals as goal

pub invariant_of-self : goal.invariant_of-self
invariant_of-self g c =
    let at = subst (λ es. IsAt es c.args.key.now c.in-Ok.place) (sym c.self.view_is) c.in-Ok.ensures.found in
    let is = set-read c.args.key.now c.self.inside.entries.items c.in-Ok.place c.index_mut.result.now c.args.value c.self.invariant at c.index_mut.ensures.value in
    subst KeysRise (sym is) (KeysRise-put c.args.key.now c.args.value c.self.inside.entries.items c.self.invariant)

pub returns-in-Ok-clause-ok : goal.returns-in-Ok-clause-ok
returns-in-Ok-clause-ok g c =
    let at = subst (λ es. IsAt es c.args.key.now c.in-Ok.place) (sym c.self.view_is) c.in-Ok.ensures.found in
    set-read c.args.key.now c.self.inside.entries.items c.in-Ok.place c.index_mut.result.now c.args.value c.self.invariant at c.index_mut.ensures.value
    ∙ ap (λ es. put es c.args.key.now c.args.value) c.self.view_is
