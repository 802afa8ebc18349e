use Rattle.std.proofs.Common.{◌++◌, ◌∷◌, [], refl, ◌∙◌, ap, arith}
use Rattle.std.specs.Option.{option_map_or}
use Rattle.plain_lists.specs.Edits.{dropped}
use Rattle.std.specs.Prelude.{◌==◌}
use Rattle.operations.proofs.KeptLemmas.{ended_by}
use Rattle.operations.proofs.SlotsLemmas.{AreSlots-ended, numbers-forgotten}
use Rattle.operations.proofs.slots.Slots.end.Goals as goal

pub invariant_of-self : goal.invariant_of-self
invariant_of-self g c =
    let s = c.self.inside in
    let h = c.self.invariant in
    AreSlots-ended c.args.number c.args.status c.args.fault c.args.moment c.take_out-operation.result s _ h
    c.take_out-operation.ensures.taken c.requires.ended c.requires.moment
    c.take_out-operation.ensures.rest
    (c.push_reserved.ensures.items ∙ ap (λ es. es ++ ended_by c.args.status c.args.fault c.args.moment c.take_out-operation.result ∷ []) c.drop_oldest-oldest.ensures.rest)
    (c.forget.ensures.rest
    ∙ ap (λ gone. option_map_or (λ number. dropped (λ n. n == number) s.numbers.items) gone s.numbers.items) c.drop_oldest-oldest.ensures.number
    ∙ numbers-forgotten s.live.items s.ended.items s.numbers.items h.kept.numbered.distinct h.kept.few_ended h.listed)
    refl
    c.take_out-operation.ensures.capacity
    (omega (arith, c.drop_oldest-oldest.ensures.capacity, c.push_reserved.ensures.capacity))
    c.forget.ensures.capacity
