use Rattle.std.proofs.Common.{◌≡◌, ◌∙◌, ap, subst}
use Rattle.std.specs.Prelude.{OnOk}
use Rattle.size_values.specs.declared.kinds.Power.TheVariants.{Running}
use Rattle.host_model.specs.declared.root.Spec.{Spec}
use Rattle.host_model.specs.declared.root.HostRoot.{HostRoot}
use Rattle.host_model.specs.Roots.{root_at, with_root}
use Rattle.host_model.specs.Effects.{with_power, with_spec}
use Rattle.host_model.proofs.effects.start.Goals as goal

pub returns-clause-ok : goal.returns-clause-ok
returns-clause-ok c =
    let there = c.in_ok-root_at.ensures ∙ ap (root_at c.args.at.now) c.deref.ensures.value in
    let made = c.with_applied-root.ensures ∙ ap (λ (spec : Spec). with_spec spec c.in_ok-root_at.field-0) c.in_ok-applied.ensures ∙ ap (with_spec c.args.spec.now) there in
    subst (λ (root : HostRoot). OnOk c.put_root.result (c.put_root.new.roots.items ≡ with_root (with_power Running root) c.args.roots.now.items)) made c.put_root.ensures.ok
