use Rattle.std.proofs.Common.{ap, sym, ◌∙◌, ◌≢◌, ℕ, List, [], not, filter, arith}
use Rattle.std.proofs.lemmas.List.{take_all}
use Rattle.config_lists.specs.Entries.{put}
use Rattle.config_lists.specs.Changes.{has_value, settled}
use Rattle.config_lists.proofs.Walks.{put-next_kept, next_dropped, All-read}
use Rattle.config_lists.proofs.changes.Changes.settled.Goals as goal
use Rattle.config_lists.proofs.changes.Changes.settled.Goals.{then-not-is_empty+in_ok-set, else-not-is_empty}

pub set-requires-clause-key : goal.set-requires-clause-key
set-requires-clause-key c = All-read (λ (e : List ℕ × List ℕ). e.0 ≢ []) c.args.self.now c.loop-place.place _ _ c.len-place-end.ensures.changes.named c.key_at-key.ensures c.value_at-value.ensures

pub loop-place-preserved : goal.loop-place-preserved
loop-place-preserved c = elim c.if-not-is_empty.branch [
  | then-not-is_empty+in_ok-set w ↦
      w.config-is ∙ w.in_ok-set.ensures.ok ∙ ap (λ es. put es c.key_at-key.result.now c.value_at-value.result.now) c.loop-place.invariant
      ∙ put-next_kept has_value c.args.self.now c.loop-place.place _ _ c.len-place-end.ensures.changes.rising c.key_at-key.ensures c.value_at-value.ensures (ap not (sym c.is_empty.ensures ∙ w.if-not-is_empty.true))
  | else-not-is_empty w ↦
      w.config-is ∙ c.loop-place.invariant ∙ next_dropped has_value c.args.self.now c.loop-place.place _ _ c.key_at-key.ensures c.value_at-value.ensures (ap not (sym c.is_empty.ensures ∙ w.if-not-is_empty.false))
]

pub returns : goal.returns
unfolding settled
returns c = c.loop-place.invariant ∙ ap (filter has_value) (take_all c.loop-place.place c.args.self.now (omega arith))
