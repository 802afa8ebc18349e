use Rattle.std.proofs.Common.{◌≡◌, ℕ, List, ◌∷◌, ◌++◌, false, IfOk, sym, ap, ◌∙◌, subst}
use Rattle.serde_json.specs.Data.{string, Members}
use Rattle.serde_json.specs.Written.{members_text}
use Rattle.rest_json.specs.Settings.{settings_data}
use Rattle.rest_json.proofs.Rising.{member_written, members_written, settings_rise}
use Rattle.rest_json.proofs.text.JsonText.settings.Goals as goal

pub loop-place-preserved : goal.loop-place-preserved
loop-place-preserved c =
    member_written string c.args.config.now c.loop-place.place _ _ c.loop-place.later c.loop-place.text _ c.key_at.ensures c.value_at.ensures c.in_ok-text-2.ensures
    ∙ c.loop-place.invariant

pub returns : goal.returns
unfolding settings_data
returns c =
    let all = rw c.len-place-end.ensures.len at c.loop-place-test.false in
    let closed = members_written string c.args.config.now c.loop-place.place c.loop-place.later c.args.self c.loop-place.text all c.loop-place.invariant in
    let rises = settings_rise c.args.config.now c.len-place-end.ensures.config.rising in
    subst (λ (b : List ℕ). IfOk c.plain-2.result (λ t. t ≡ b))
    (closed ∙ ap (λ (ms : Members). c.args.self ++ 123 ∷ members_text false ms) (sym rises))
    c.plain-2.ensures
