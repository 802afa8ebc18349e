use Rattle.std.proofs.Common.{◌∙◌, ◌∷◌, ap, arith}
use Rattle.std.proofs.lemmas.Str.Pattern.{find_char}
use Rattle.rest_routes.proofs.Hosts.{all_before, before_is, from_is, none_behind}
use Rattle.rest_routes.proofs.absolute.split_host.Goals as goal

pub returns-in-Some-clause-host : goal.returns-in-Some-clause-host
returns-in-Some-clause-host c =
    let found = rw c.in-Some.is at (find_char 47 c.args.text.now c.find.result c.find.ensures.cases (omega arith)) in
    c.split_at.ensures.front ∙ before_is c.args.text.now c.in-Some.at found.0 found.1 found.2

pub returns-in-Some-clause-path : goal.returns-in-Some-clause-path
returns-in-Some-clause-path c =
    let found = rw c.in-Some.is at (find_char 47 c.args.text.now c.find.result c.find.ensures.cases (omega arith)) in
    c.split_at.ensures.back ∙ from_is c.args.text.now c.in-Some.at found.0 found.1 found.2

pub returns-in-None-clause-host : goal.returns-in-None-clause-host
returns-in-None-clause-host c =
    let none = rw c.in-None.is at (find_char 47 c.args.text.now c.find.result c.find.ensures.cases (omega arith)) in
    all_before c.args.text.now none

pub returns-in-None-clause-path : goal.returns-in-None-clause-path
returns-in-None-clause-path c =
    let none = rw c.in-None.is at (find_char 47 c.args.text.now c.find.result c.find.ensures.cases (omega arith)) in
    ap (λ rest. 47 ∷ rest) (none_behind c.args.text.now none)
