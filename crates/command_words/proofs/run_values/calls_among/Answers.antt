use Rattle.std.proofs.Common.{◌∙◌, ◌++◌, [], ◌∷◌, List, ℕ, Bor, ap, sym, lit<}
use Rattle.std.proofs.lemmas.Iterator.Consumers.{YieldsList-at, YieldsList-end}
use Rattle.std.proofs.lemmas.Iterator.Splits.{YieldsList-from_str_split}
use Rattle.std.specs.List.{filter_map}
use Rattle.command_words.specs.Values.{call_number_said}
use Rattle.command_words.proofs.RunReading.{said_more, said_same}
use Rattle.command_words.proofs.run_values.calls_among.Goals as goal

pub loop-part-preserved-in-Continue-1 : goal.loop-part-preserved-in-Continue-1
loop-part-preserved-in-Continue-1 c =
    c.in_ok-push.ensures.items
    ∙ ap (λ (calls : List ℕ). calls ++ c.in-Some-call_number_said.call ∷ []) c.loop-part.invariant
    ∙ said_more (λ (part : Bor (List ℕ)). part.now) c.loop-part.yielded c.in-Some.part
    c.in-Some-call_number_said.call c.in-Some-call_number_said.ensures

pub loop-part-preserved : goal.loop-part-preserved
loop-part-preserved c =
    c.loop-part.invariant
    ∙ said_same (λ (part : Bor (List ℕ)). part.now) c.loop-part.yielded c.in-Some.part (sym c.in_default.is ∙ c.call_number_said.ensures)

pub returns : goal.returns
returns c =
    let parts = YieldsList-at c.into_iter-part-iterator.ensures.into_iter_gives
    (YieldsList-from_str_split 44 c.args.text.now (lit< tt) c.split-part-items.ensures.text
    c.split-part-items.ensures.has_more c.split-part-items.ensures.pattern) in
    let all = YieldsList-end parts c.loop-part.yielded _ c.loop-part.yielded_by _ _ c.in-None.is c.next.ensures.steps in
    c.from_vec.ensures ∙ c.loop-part.invariant ∙ ap (filter_map call_number_said) all.0
