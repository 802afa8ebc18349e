use Rattle.std.proofs.Common.{Some, arith}
use Rattle.std.proofs.lemmas.Str.Pattern.{split_parts}
use Rattle.core_drafts.proofs.Slashes.{no_slash_in, three-names-of}
use Rattle.core_drafts.proofs.keys.three_names_in.Goals as goal

pub returns-in-Some-two_names_in : goal.returns-in-Some-two_names_in
returns-in-Some-two_names_in c =
    let parts = split_parts 47 c.args.key.now (Some (c.in-Some.first, c.in-Some.rest)) c.in-Some.ensures.cases (omega arith) in
    let names = c.in-Some-two_names_in in
    three-names-of c.args.key.now c.in-Some.first.now c.in-Some.rest.now names.second.now names.third.now parts.0 (no_slash_in c.in-Some.first.now parts.1) names.ensures
