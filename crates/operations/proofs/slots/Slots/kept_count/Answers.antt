use Rattle.std.proofs.Common.{◌≡◌, ◌++◌, length, ◌∙◌, ap, arith}
use Rattle.operations.proofs.SlotsLemmas.{length-numbers_of}
use Rattle.operations.proofs.slots.Slots.kept_count.Goals as goal

pub returns-clause-count : goal.returns-clause-count
returns-clause-count g c =
    let s = c.self.inside in
    let listed : length s.numbers.items ≡ length (s.live.items ++ s.ended.items) =
    ap length c.self.invariant.listed ∙ length-numbers_of (s.live.items ++ s.ended.items) in
    let count : c.len.result ≡ length (s.live.items ++ s.ended.items) = omega (arith, c.len.ensures) in
    count ∙ ap (λ k. length (k.live ++ k.ended)) c.self.view_is
