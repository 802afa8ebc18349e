use Rattle.std.proofs.Common.{◌+◌, drop, ap, sym, ◌∙◌, ◌≢◌, ℕ, List, [], arith}
use Rattle.config_lists.specs.Changes.{patched}
use Rattle.config_lists.proofs.Patches.{patched-next, patched-all}
use Rattle.config_lists.proofs.Walks.{All-read}
use Rattle.config_lists.proofs.config.Config.patched.Goals as goal

pub apply_change-requires : goal.apply_change-requires
apply_change-requires c = All-read (λ (e : List ℕ × List ℕ). e.0 ≢ []) c.args.changes.now c.loop-place.place _ _ c.len-place-end.ensures.changes.named c.key_at.ensures c.value_at.ensures

pub loop-place-preserved : goal.loop-place-preserved
loop-place-preserved c =
    ap (λ config. patched config (drop (c.loop-place.place + 1) c.args.changes.now)) c.in_ok-apply_change.ensures
    ∙ sym (patched-next c.loop-place.config c.args.changes.now c.loop-place.place _ _ c.key_at.ensures c.value_at.ensures) ∙ c.loop-place.invariant

pub returns : goal.returns
returns c = sym (patched-all c.loop-place.config c.args.changes.now c.loop-place.place (omega arith)) ∙ c.loop-place.invariant
