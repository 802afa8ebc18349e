use Rattle.std.proofs.Common.{◌≡◌, ◌<◌, ◌+◌, ◌++◌, ◌∷◌, [], length, refl, sym, ◌∙◌, ap, arith, length-append}
use Rattle.operations.proofs.KeptLemmas.{AreKept-entered}
use Rattle.operations.proofs.SlotsLemmas.{length-numbers_of, numbers-entered, AreSlots-are}
use Rattle.operations.specs.OperationTable.{entered}
use Rattle.operations.specs.Inside.{kept_in}
use Rattle.operations.proofs.slots.Slots.enter.Goals as goal

pub push_reserved-requires-2 : goal.push_reserved-requires-2
push_reserved-requires-2 g c =
    let s = c.self.inside in
    let h = c.self.invariant in
    let listed : length s.numbers.items ≡ length s.live.items + length s.ended.items =
    ap length h.listed ∙ length-numbers_of (s.live.items ++ s.ended.items) ∙ length-append s.live.items s.ended.items in
    let few = h.kept.few_live in
    omega (arith, c.len.ensures, h.kept.few_ended, h.numbers_room)

pub invariant_of-self : goal.invariant_of-self
invariant_of-self g c =
    let s = c.self.inside in
    let h = c.self.invariant in
    let few : length s.live.items < 1024 = omega (arith, c.len.ensures, h.kept.few_live) in
    let left : s.next < 1099511627776 = omega (arith, h.kept.next_limit) in
    AreSlots-are _ (entered c.args.may_cancel c.args.work c.args.moment (kept_in s))
    c.push_reserved.ensures.items
    refl
    refl
    (AreKept-entered c.args.may_cancel c.args.work c.args.moment few left c.requires h.kept)
    (c.push_reserved-2.ensures.items ∙ ap (λ ns. ns ++ s.next ∷ []) h.listed
    ∙ sym (numbers-entered _ s.live.items s.ended.items h.kept.numbered.below_next))
    (omega (arith, h.live_room, c.push_reserved.ensures.capacity))
    h.ended_room
    (omega (arith, h.numbers_room, c.push_reserved-2.ensures.capacity))
