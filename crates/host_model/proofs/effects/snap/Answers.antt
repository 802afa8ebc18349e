use Rattle.std.proofs.Common.{◌≡◌, ◌∙◌, ap, subst}
use Rattle.std.specs.Prelude.{OnOk}
use Rattle.host_model.specs.declared.root.HostRoot.{HostRoot}
use Rattle.host_model.specs.Roots.{root_at, with_root}
use Rattle.host_model.specs.Effects.{snapped}
use Rattle.host_model.proofs.effects.snap.Goals as goal

pub returns-clause-ok : goal.returns-clause-ok
returns-clause-ok c =
    let there = c.in_ok-root.ensures ∙ ap (root_at c.args.at.now) c.deref.ensures.value in
    let made = c.with_snapshots.ensures ∙ ap (λ part. record c.in_ok-root.root { snapshots = part }) c.in_ok-snapshots.ensures ∙ ap (snapped c.args.name.now) there in
    subst (λ (root : HostRoot). OnOk c.put_root.result (c.put_root.new.roots.items ≡ with_root root c.args.roots.now.items)) made c.put_root.ensures.ok
