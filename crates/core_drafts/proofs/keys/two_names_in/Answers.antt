use Rattle.std.proofs.Common.{Some, None, arith}
use Rattle.std.proofs.lemmas.Str.Pattern.{split_parts}
use Rattle.core_drafts.proofs.Slashes.{no_slash_in, two-names-of}
use Rattle.core_drafts.proofs.keys.two_names_in.Goals as goal

pub returns-in-None-split_once : goal.returns-in-None-split_once
returns-in-None-split_once c =
    let parts = split_parts 47 c.args.key.now (Some (c.in-Some.first, c.in-Some.second)) c.in-Some.ensures.cases (omega arith) in
    let lacks = split_parts 47 c.in-Some.second.now None c.in-None-split_once.ensures.cases (omega arith) in
    two-names-of c.args.key.now c.in-Some.first.now c.in-Some.second.now parts.0 (no_slash_in c.in-Some.first.now parts.1) (no_slash_in c.in-Some.second.now lacks)
