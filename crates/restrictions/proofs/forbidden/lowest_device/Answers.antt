use Rattle.std.proofs.Common.{ℕ, ◌+◌, map, drop, ap, ◌∙◌, arith}
use Rattle.std.specs.List.{enumerate_from}
use Rattle.std.specs.Map.{values_of}
use Rattle.std.proofs.lemmas.List.{length-map}
use Rattle.config_lists.specs.Settings.{Settings}
use Rattle.restrictions.specs.Policies.{seen}
use Rattle.restrictions.specs.Forbids.{forbidden_at, earlier, lowest, device_rule, broken_devices}
use Rattle.restrictions.proofs.Lowest.{lowest-next, lowest-all}
use Rattle.restrictions.proofs.forbidden.lowest_device.Goals as goal

pub loop-place-preserved : goal.loop-place-preserved
loop-place-preserved c =
    let item = λ (d : ℕ × Settings). forbidden_at d.0 (device_rule (seen c.args.policy.now) d.1) in
    ap (λ low. earlier low (lowest (map item (enumerate_from (c.loop-place.place + 1) (drop (c.loop-place.place + 1) (values_of c.args.devices.now))))))
    (c.earlier-lowest.ensures ∙ ap (earlier c.loop-place.lowest) (c.forbidden_at.ensures ∙ ap (forbidden_at c.loop-place.place) c.device_rule-rule.ensures))
    ∙ lowest-next item (values_of c.args.devices.now) c.loop-place.place c.loop-place.lowest c.device_at.result.now c.device_at.ensures c.loop-place.invariant

pub returns : goal.returns
unfolding broken_devices
returns c =
    lowest-all (λ (d : ℕ × Settings). forbidden_at d.0 (device_rule (seen c.args.policy.now) d.1)) (values_of c.args.devices.now) c.loop-place.place c.loop-place.lowest (rw length-map (omega arith)) c.loop-place.invariant
