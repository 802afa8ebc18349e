use Rattle.std.proofs.Common.{◌∙◌, sym}
use Rattle.std.specs.Map.{keys_of}
use Rattle.std.proofs.lemmas.Map.Keys.{any_passes_from_place}
use Rattle.project_limits.specs.Limits.{is_limit_key}
use Rattle.project_limits.proofs.Unlimited.{fails-more}
use Rattle.project_limits.proofs.limits.has_limits.Goals as goal

pub returns-then-is_limit_key : goal.returns-then-is_limit_key
returns-then-is_limit_key c =
    sym (any_passes_from_place is_limit_key (keys_of c.args.project.now) c.loop-place.place c.key_at.result.now c.key_at.ensures (sym c.is_limit_key.ensures ∙ c.if-is_limit_key.true))

pub loop-place-preserved : goal.loop-place-preserved
loop-place-preserved c =
    c.loop-place.invariant
    ∙ fails-more is_limit_key (keys_of c.args.project.now) c.loop-place.place c.key_at.result.now c.key_at.ensures (sym c.is_limit_key.ensures ∙ c.if-is_limit_key.false)
