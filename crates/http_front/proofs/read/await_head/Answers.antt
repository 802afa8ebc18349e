use Rattle.std.proofs.Common.{◌≡◌, ◌<◌, ◌≤◌, ◌⊎◌, inl, inr, ℕ, List, None, length, ap, subst, arith}
use Rattle.std.proofs.lemmas.Result.{err_from_is_err_and}
use Rattle.http_heads.proofs.MessageLemmas.{IsUnfinished-of_none}
use Rattle.http_heads.specs.Limits.{max_head}
use Rattle.http_heads.specs.Heads.{head_len}
use Rattle.http_front.specs.Held.{IsHeadAwaited}
use Rattle.http_front.specs.Reading.{IsUnfinished}
use Rattle.http_front.proofs.ReadLemmas.{TakesIn-further, IsReadStop-stops, HasSearched-taken}
use Rattle.http_front.proofs.read.await_head.Goals as goal

pub returns-in_err-read_more-clause-takes : goal.returns-in_err-read_more-clause-takes
returns-in_err-read_more-clause-takes g c = TakesIn-further c.loop-len.invariant.takes c.read_more.ensures.takes

pub returns-in_err-read_more-clause-err : goal.returns-in_err-read_more-clause-err
returns-in_err-read_more-clause-err g c =
    let p = err_from_is_err_and c.from_residual.result c.from_residual.ensures.1 in
    let e = c.in_err-read_more.ensures.err in
    let none = rw c.view.ensures.bytes at c.in-Err.ensures.none in
    let short : length c.loop-len.buffer < max_head = omega (arith, ap length c.view-in-loop-len.ensures.bytes) in
    let unfinished : IsUnfinished c.loop-len.buffer = IsUnfinished-of_none c.loop-len.buffer none short in
    rw (p.1, p.2, e.1) (IsReadStop-stops _ _ _ c.in_err-read_more.field-0.0 e.0 unfinished)

waits_since : {T : Type 0} {s s' s'' : T} {b b' b'' : List ℕ} → ((s' ≡ s) × (b' ≡ b)) ⊎ IsHeadAwaited b → head_len b' ≡ None → length b' < max_head → ((s'' ≡ s) × (b'' ≡ b)) ⊎ IsHeadAwaited b
waits_since (inr awaited) none few = inr awaited
waits_since (inl same) none few = inr (subst IsHeadAwaited same.1 (none, few))

pub loop-len-preserved : goal.loop-len-preserved
loop-len-preserved g c =
    let short : length c.loop-len.buffer ≤ max_head = omega (arith, ap length c.view-in-loop-len.ensures.bytes) in
    let reached = rw c.view.ensures.bytes at c.in-Err.ensures.reached in
    let none = rw c.view.ensures.bytes at c.in-Err.ensures.none in
    let few : length c.loop-len.buffer < max_head = omega (arith, ap length c.view-in-loop-len.ensures.bytes) in
    let waits : ((c.read_more.new.source ≡ c.args.source.now) × (c.read_more.new.buffer ≡ c.args.buffer.now)) ⊎ IsHeadAwaited c.args.buffer.now = waits_since c.loop-len.invariant.ahead none few in
    record {
      takes = TakesIn-further c.loop-len.invariant.takes c.read_more.ensures.takes;
      later = omega (arith, c.read_more.ensures.later);
      ahead = waits;
      searched = HasSearched-taken c.read_more.ensures.takes short reached;
    }
