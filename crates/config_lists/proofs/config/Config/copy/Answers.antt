use Rattle.std.proofs.Common.{ap, ◌∙◌}
use Rattle.config_lists.specs.Entries.{put}
use Rattle.config_lists.specs.Settings.{IsFull}
use Rattle.config_lists.proofs.Walks.{put-next, All-read}
use Rattle.config_lists.proofs.config.Config.copy.Goals as goal

pub set-requires-clause-key : goal.set-requires-clause-key
set-requires-clause-key c = (All-read IsFull c.args.self.now c.loop-place.place _ _ c.len-place-end.ensures.config.full c.key_at.ensures c.value_at.ensures).0

pub set-requires-clause-value : goal.set-requires-clause-value
set-requires-clause-value c = (All-read IsFull c.args.self.now c.loop-place.place _ _ c.len-place-end.ensures.config.full c.key_at.ensures c.value_at.ensures).1

pub loop-place-preserved : goal.loop-place-preserved
loop-place-preserved c =
    c.in_ok-set.ensures.ok ∙ ap (λ es. put es c.key_at.result.now c.value_at.result.now) c.loop-place.invariant
    ∙ put-next c.args.self.now c.loop-place.place _ _ c.len-place-end.ensures.config.rising c.key_at.ensures c.value_at.ensures
