use Rattle.std.proofs.Common.{cond, Some, None, sym, ap, ◌∙◌, lit<}
use Rattle.std.proofs.lemmas.Str.Pattern.{strip_suffix_char}
use Rattle.option_tables.specs.Tables.{front_of, has_sign, takes_plainly, takes_pool}
use Rattle.option_tables.proofs.Begun.{signed, front-signed, unsigned}
use Rattle.option_tables.proofs.tables.takes_key.Goals as goal

pub returns-in-Some : goal.returns-in-Some
returns-in-Some c =
    let line = c.args.line.now in
    let key = c.args.key.now in
    let front = c.in-Some.front.now in
    let is = strip_suffix_char 35 line (Some c.in-Some.front) c.in-Some.ensures.cases (lit< tt) in
    c.takes_pool.ensures
    ∙ ap (λ f. takes_pool f key) (sym (ap front_of is ∙ front-signed front))
    ∙ ap (λ b. cond b (takes_pool (front_of line) key) (takes_plainly line key)) (sym (ap has_sign is ∙ signed front))

pub returns-in-None : goal.returns-in-None
returns-in-None c =
    let line = c.args.line.now in
    let key = c.args.key.now in
    let none = strip_suffix_char 35 line None c.in-None.ensures.cases (lit< tt) in
    c.takes_plainly.ensures ∙ ap (λ b. cond b (takes_pool (front_of line) key) (takes_plainly line key)) (sym (unsigned line none))
