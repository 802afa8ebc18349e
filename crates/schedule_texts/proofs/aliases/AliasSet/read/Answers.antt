use Rattle.std.proofs.Common.{◌∙◌, sym, ap, lit<, map, Bor, List, ℕ, length}
use Rattle.std.proofs.lemmas.Simd.{map-map}
use Rattle.std.proofs.lemmas.Iterator.Consumers.{YieldsList-at, YieldsList-end, YieldsList-turn}
use Rattle.std.proofs.lemmas.Iterator.Splits.{YieldsList-from_str_split}
use Rattle.schedule_texts.specs.Aliases.{without_space, with_alias}
use Rattle.schedule_texts.proofs.Named.{grown, with_refused, aliases_none, aliases_are}
use Rattle.schedule_texts.proofs.aliases.AliasSet.read.Goals as goal

pub loop-name-preserved : goal.loop-name-preserved
loop-name-preserved c =
    let more = grown (λ (name : Bor (List ℕ)). without_space name.now) c.loop-name.yielded c.in-Some.name c.loop-name.aliases _
    c.loop-name.invariant.all c.loop-name.invariant.named
    (c.in_ok-aliases.ensures ∙ ap (λ name. with_alias name c.loop-name.aliases) c.without_space.ensures) in
    record { all = more.all; named = more.named }

pub returns-in_err-aliases : goal.returns-in_err-aliases
returns-in_err-aliases c =
    let parts = YieldsList-at c.into_iter-name-iterator.ensures.into_iter_gives
    (YieldsList-from_str_split 44 c.args.text.now (lit< tt) c.split-name-items.ensures.text
    c.split-name-items.ensures.has_more c.split-name-items.ensures.pattern) in
    let turn = YieldsList-turn parts c.loop-name.yielded _ c.loop-name.yielded_by _ _ c.in-Some.name c.in-Some.is c.next.ensures.steps in
    c.from_residual.ensures
    ∙ aliases_none c.args.text.now (length c.loop-name.yielded) c.in-Some.name.now turn.0 turn.1
    (with_refused (without_space c.in-Some.name.now) c.loop-name.aliases
    (c.in_err-aliases.ensures ∙ ap (λ name. with_alias name c.loop-name.aliases) c.without_space.ensures))

pub returns : goal.returns
returns c =
    let parts = YieldsList-at c.into_iter-name-iterator.ensures.into_iter_gives
    (YieldsList-from_str_split 44 c.args.text.now (lit< tt) c.split-name-items.ensures.text
    c.split-name-items.ensures.has_more c.split-name-items.ensures.pattern) in
    let all = YieldsList-end parts c.loop-name.yielded _ c.loop-name.yielded_by _ _ c.in-None.is c.next.ensures.steps in
    aliases_are c.args.text.now c.loop-name.aliases (map (λ (name : Bor (List ℕ)). without_space name.now) c.loop-name.yielded)
    (sym (map-map without_space (λ (name : Bor (List ℕ)). name.now) c.loop-name.yielded) ∙ ap (λ (texts : List (List ℕ)). map without_space texts) all.0)
    (sym (c.starts_with.ensures.byte (lit< tt) (lit< tt) (λ w o k. k)) ∙ c.if-starts_with.false) c.loop-name.invariant.all c.loop-name.invariant.named
