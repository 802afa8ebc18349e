use Rattle.std.proofs.Common.{false, ◌++◌, ap, sym, ◌∙◌}
use Rattle.std.proofs.lemmas.Str.Pattern.{starts_text}
use Rattle.config_lists.proofs.Joined.{order-behind, order-front}
use Rattle.config_lists.proofs.Keys.{order}
use Rattle.config_lists.proofs.sorted.compare_joined.Goals as goal

pub returns-in-Some : goal.returns-in-Some
returns-in-Some c =
    let front = c.args.front.now in
    let rest = c.args.rest.now in
    let begins = c.in-Some.ensures.cases in
    c.cmp.ensures ∙ sym (order-behind front c.in-Some.behind.now rest)
    ∙ ap (λ text. order text (front ++ rest)) (ap (λ behind. front ++ behind) begins.2 ∙ sym begins.1.1)

pub returns-in-None : goal.returns-in-None
returns-in-None c =
    let front = c.args.front.now in
    let text = c.args.text.now in
    c.cmp-in-None.ensures ∙ sym (order-front text front c.args.rest.now (sym (starts_text false front text c.in-None.ensures.cases)))
