use Rattle.std.proofs.Common.{◌≡◌, ◌<◌, ◌++◌, length, get_or, sym, ◌∙◌, ap, subst, arith}
use Rattle.operations.specs.OperationTable.{OperationTable, kept_at}
use Rattle.operations.specs.Inside.{numbers_of}
use Rattle.operations.proofs.SlotsLemmas.{length-numbers_of, found-at, there-at}
use Rattle.operations.proofs.slots.Slots.at.Goals as goal

pub index-requires : goal.index-requires
index-requires g c =
    let s = c.self.inside in
    let listed : length s.numbers.items ≡ length (s.live.items ++ s.ended.items) =
    ap length c.self.invariant.listed ∙ length-numbers_of (s.live.items ++ s.ended.items) in
    let within : c.args.place < length (s.live.items ++ s.ended.items) =
    subst (λ (k : OperationTable g.row.W.Denot). c.args.place < length (k.live ++ k.ended)) (sym c.self.view_is) c.requires in
    omega arith

pub unreachable-requires : goal.unreachable-requires
unreachable-requires g c =
    let s = c.self.inside in
    let k = c.args.self.now in
    let listed = c.self.invariant.listed ∙ ap (λ (m : OperationTable g.row.W.Denot). numbers_of (m.live ++ m.ended)) c.self.view_is in
    let number = c.index.ensures ∙ ap (λ ns. get_or ns c.args.place c.index.result.now) listed in
    there-at (k.live ++ k.ended) c.args.place c.requires
    (c.in-None.ensures.found ∙ ap (kept_at k) number
    ∙ found-at (k.live ++ k.ended) c.args.place c.index.result.now c.get.ensures.facts.numbered.distinct c.requires)

pub returns : goal.returns
returns g c =
    let s = c.self.inside in
    let k = c.args.self.now in
    let listed = c.self.invariant.listed ∙ ap (λ (m : OperationTable g.row.W.Denot). numbers_of (m.live ++ m.ended)) c.self.view_is in
    let number = c.index.ensures ∙ ap (λ ns. get_or ns c.args.place c.index.result.now) listed in
    sym (c.in-Some.ensures.found ∙ ap (kept_at k) number
    ∙ found-at (k.live ++ k.ended) c.args.place c.index.result.now c.get.ensures.facts.numbered.distinct c.requires)
