use Rattle.std.proofs.Common.{ℕ, ◌+◌, List, map, drop, ap, ◌∙◌, arith}
use Rattle.std.specs.List.{enumerate_from}
use Rattle.config_lists.proofs.Walks.{slice_get-read}
use Rattle.restrictions.specs.Policies.{seen}
use Rattle.restrictions.specs.Forbids.{forbidden_at, earlier, lowest, setting_rule, broken_settings}
use Rattle.restrictions.proofs.Lowest.{lowest-next, lowest-all}
use Rattle.restrictions.proofs.forbidden.lowest_setting.Goals as goal

pub loop-place-preserved : goal.loop-place-preserved
loop-place-preserved c =
    let item = λ (s : ℕ × (List ℕ × List ℕ)). forbidden_at s.0 (setting_rule (seen c.args.policy.now) c.args.subject s.1.0 s.1.1) in
    ap (λ low. earlier low (lowest (map item (enumerate_from (c.loop-place.place + 1) (drop (c.loop-place.place + 1) c.args.config.now)))))
    (c.earlier-lowest.ensures ∙ ap (earlier c.loop-place.lowest) (c.forbidden_at.ensures ∙ ap (forbidden_at c.loop-place.place) c.setting_rule-rule.ensures))
    ∙ lowest-next item c.args.config.now c.loop-place.place c.loop-place.lowest (c.key_at.result.now, c.value_at.result.now)
    (slice_get-read c.args.config.now c.loop-place.place c.key_at.result.now c.value_at.result.now c.key_at.ensures c.value_at.ensures) c.loop-place.invariant

pub returns : goal.returns
unfolding broken_settings
returns c =
    lowest-all (λ (s : ℕ × (List ℕ × List ℕ)). forbidden_at s.0 (setting_rule (seen c.args.policy.now) c.args.subject s.1.0 s.1.1)) c.args.config.now c.loop-place.place c.loop-place.lowest (omega arith) c.loop-place.invariant
