use Rattle.std.proofs.Common.{◌+◌, drop, ap, sym, ◌∙◌, arith}
use Rattle.config_lists.specs.Entries.{put, replaced}
use Rattle.config_lists.specs.Settings.{IsFull}
use Rattle.config_lists.proofs.Walks.{All-read, replaced-next, replaced-all}
use Rattle.expansion.proofs.expanded.overlay.Goals as goal

pub set-requires-clause-key : goal.set-requires-clause-key
set-requires-clause-key c = (All-read IsFull c.args.by.now c.loop-place.place _ _ c.len-place-end.ensures.config.full c.key_at.ensures c.value_at.ensures).0

pub set-requires-clause-value : goal.set-requires-clause-value
set-requires-clause-value c = (All-read IsFull c.args.by.now c.loop-place.place _ _ c.len-place-end.ensures.config.full c.key_at.ensures c.value_at.ensures).1

pub loop-place-preserved : goal.loop-place-preserved
loop-place-preserved c =
    ap (λ es. replaced es (drop (c.loop-place.place + 1) c.args.by.now)) c.in_ok-set.ensures.ok
    ∙ sym (replaced-next c.loop-place.config c.args.by.now c.loop-place.place _ _ c.key_at.ensures c.value_at.ensures) ∙ c.loop-place.invariant

pub returns : goal.returns
returns c = sym (replaced-all c.loop-place.config c.args.by.now c.loop-place.place (omega arith)) ∙ c.loop-place.invariant
