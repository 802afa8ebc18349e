use Rattle.std.proofs.Common.{◌&&◌, drop, length, sym, ap, ◌∙◌}
use Rattle.size_values.specs.declared.kinds.ObjectKind.TheVariants.{Pool}
use Rattle.estate_rules.specs.Names.{good_name_of}
use Rattle.option_tables.proofs.Begun.{begun, unbegun}
use Rattle.option_tables.proofs.tables.takes_pool.Goals as goal

pub returns-in-Some : goal.returns-in-Some
returns-in-Some c =
    let front = c.args.front.now in
    let key = c.args.key.now in
    let told = begun front key c.in-Some.name.now c.in-Some.ensures.cases in
    c.good_name.ensures ∙ ap (good_name_of Pool) (sym told.1)
    ∙ ap (λ b. b && good_name_of Pool (drop (length front) key)) (sym told.0)

pub returns-in-None : goal.returns-in-None
returns-in-None c =
    let front = c.args.front.now in
    let key = c.args.key.now in
    ap (λ b. b && good_name_of Pool (drop (length front) key)) (sym (unbegun front key c.in-None.ensures.cases))
