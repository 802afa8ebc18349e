use Rattle.std.proofs.Common.{◌≤◌, length, get_or, sym, ap, ◌∙◌, arith}
use Rattle.std.proofs.lemmas.List.{take_all}
use Rattle.plain_lists.specs.Firsts.{first_of}
use Rattle.size_values.specs.Amounts.{nothing}
use Rattle.rules_refusals.proofs.Saying.{refuses-here, free-next}
use Rattle.rules_limits.specs.Sums.{lines, line_over}
use Rattle.rules_limits.proofs.Tables.{lines-length, line-is}
use Rattle.rules_limits.proofs.all_projects.part_exceeds.Goals as goal

pub returns-in-Err : goal.returns-in-Err
returns-in-Err c =
    let projects = c.args.projects.now in
    let before = c.args.before.now in
    let after = c.args.after.now in
    let i = c.loop-place.place in
    let p = c.index-projects-place.result in
    refuses-here (line_over c.args.part) (lines projects before after) i (p, (get_or before i nothing, get_or after i nothing)) c.in-Err.why
    (omega (arith, c.loop-place-test.true, lines-length projects before after c.requires.before c.requires.after))
    (line-is projects before after c.requires.before c.requires.after i p c.loop-place-test.true c.index-projects-place.is)
    c.loop-place.invariant c.in-Err.ensures

pub loop-place-preserved : goal.loop-place-preserved
loop-place-preserved c =
    let projects = c.args.projects.now in
    let before = c.args.before.now in
    let after = c.args.after.now in
    let i = c.loop-place.place in
    let p = c.index-projects-place.result in
    free-next (line_over c.args.part) (lines projects before after) i (p, (get_or before i nothing, get_or after i nothing))
    (omega (arith, c.loop-place-test.true, lines-length projects before after c.requires.before c.requires.after))
    (line-is projects before after c.requires.before c.requires.after i p c.loop-place-test.true c.index-projects-place.is)
    c.loop-place.invariant c.in_default.ensures

pub returns : goal.returns
returns c =
    let all = lines c.args.projects.now c.args.before.now c.args.after.now in
    let passed : length all ≤ c.loop-place.place = omega (arith, c.loop-place-test.false, lines-length c.args.projects.now c.args.before.now c.args.after.now c.requires.before c.requires.after) in
    sym (ap (first_of (line_over c.args.part)) (take_all c.loop-place.place all passed)) ∙ c.loop-place.invariant
