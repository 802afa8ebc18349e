use Rattle.std.proofs.Common.{None, Some, refl, ◌∙◌, arith}
use Rattle.std.specs.Map.{values_of}
use Rattle.std.proofs.lemmas.List.{length-map}
use Rattle.row_machine.specs.machine.SettingRules.{device_misses, devices_miss}
use Rattle.row_machine.specs.opening.Opening.{rule_of}
use Rattle.rules_refusals.proofs.Loops.{place-here, place-next, place-end}
use Rattle.rules_opening.proofs.Refused.{rule-first}
use Rattle.rules_opening.proofs.references.devices_miss.Goals as goal

pub returns-in-Some : goal.returns-in-Some
unfolding devices_miss
returns-in-Some c =
    place-here (λ d. rule_of (device_misses c.args.view.now c.args.project.now d)) (values_of c.args.devices.now) c.loop-place.place c.device_at.result.now
    c.device_at.ensures c.loop-place.invariant (Some c.in-Some.rule) c.in-Some.rule c.in-Some.ensures refl
    ∙ rule-first (device_misses c.args.view.now c.args.project.now) (values_of c.args.devices.now)

pub loop-place-preserved : goal.loop-place-preserved
loop-place-preserved c =
    place-next (λ d. rule_of (device_misses c.args.view.now c.args.project.now d)) (values_of c.args.devices.now) c.loop-place.place c.device_at.result.now
    c.device_at.ensures c.loop-place.invariant None c.in_default.ensures refl

pub returns : goal.returns
unfolding devices_miss
returns c =
    place-end (λ d. rule_of (device_misses c.args.view.now c.args.project.now d)) (values_of c.args.devices.now) c.loop-place.place
    (rw length-map (omega arith)) c.loop-place.invariant
    ∙ rule-first (device_misses c.args.view.now c.args.project.now) (values_of c.args.devices.now)
