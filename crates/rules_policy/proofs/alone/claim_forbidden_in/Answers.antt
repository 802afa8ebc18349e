use Rattle.std.proofs.Common.{ℕ, List, [], ◌∷◌, sym, ◌∙◌}
use Rattle.std.proofs.lemmas.Grind.{get_or_default_zero}
use Rattle.plain_lists.specs.Firsts.{first_of}
use Rattle.rules_refusals.proofs.Saying.{refuses-here, free-next}
use Rattle.rules_policy.specs.Within.{own_claim}
use Rattle.rules_policy.proofs.alone.claim_forbidden_in.Goals as goal

-- the numbers of the rules
abbrev numbers : List ℕ
numbers = 1 ∷ 2 ∷ 3 ∷ 4 ∷ 5 ∷ 6 ∷ 7 ∷ []

pub returns-in-Err : goal.returns-in-Err
returns-in-Err c =
    let i = c.loop-number.number-index in
    refuses-here (λ number. first_of (λ p. own_claim c.args.view.now p number c.args.work.now) c.args.projects.now) numbers i _ c.in-Err.why
    c.loop-number-test.true (get_or_default_zero numbers i _ c.loop-number-test.true ∙ sym (get_or_default_zero numbers i _ c.loop-number-test.true))
    c.loop-number.invariant c.in-Err.ensures

pub loop-number-preserved : goal.loop-number-preserved
loop-number-preserved c =
    let i = c.loop-number.number-index in
    free-next (λ number. first_of (λ p. own_claim c.args.view.now p number c.args.work.now) c.args.projects.now) numbers i _
    c.loop-number-test.true (get_or_default_zero numbers i _ c.loop-number-test.true ∙ sym (get_or_default_zero numbers i _ c.loop-number-test.true))
    c.loop-number.invariant c.in_default.ensures
