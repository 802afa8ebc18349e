use Rattle.std.proofs.Common.{[], ◌∷◌, ◌++◌, take, ap, sym, subst, ◌∙◌, arith}
use Rattle.std.proofs.lemmas.List.{take_more, take_all}
use Rattle.plain_lists.specs.Members.{Each}
use Rattle.plain_lists.proofs.Elements.{Each-none, Each-push}
use Rattle.machine_laws.specs.Openings.{HasBytes}
use Rattle.core_rows.proofs.kept_rows.have_bytes.Goals as goal

pub loop-entry-init : goal.loop-entry-init
loop-entry-init c = Each-none

pub loop-entry-preserved : goal.loop-entry-preserved
loop-entry-preserved c =
    subst (λ es. Each HasBytes es)
    (sym
    (take_more c.args.entries.now c.loop-entry.entry-index c.entry-item.result c.loop-entry-test.true
    ∙ ap (λ e. take c.loop-entry.entry-index c.args.entries.now ++ e ∷ []) (sym c.entry-item.is)))
    (Each-push HasBytes c.loop-entry.invariant (rw c.view.ensures at c.are_bytes.ensures))

pub returns : goal.returns
returns c = subst (λ es. Each HasBytes es) (take_all c.loop-entry.entry-index c.args.entries.now (omega arith)) c.loop-entry.invariant
