use Rattle.std.proofs.Common.{◌∙◌, refl, ap, lit<, Bor, List, ℕ}
use Rattle.std.proofs.lemmas.Str.Pattern.{strip_prefix_char}
use Rattle.schedule_texts.proofs.Texts.{front_space_gone}
use Rattle.schedule_texts.proofs.aliases.without_space.Goals as goal

pub returns : goal.returns
returns c =
    let cut = strip_prefix_char 32 c.args.name.now c.strip_prefix.result c.strip_prefix.ensures.cases (lit< tt) in
    ap (λ (b : Bor (List ℕ)). b.now) c.unwrap_or.ensures
    ∙ front_space_gone c.args.name.now c.args.name c.strip_prefix.result refl cut
