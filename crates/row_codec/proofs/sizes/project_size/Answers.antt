use Rattle.std.proofs.Common.{◌+◌, ℕ, List, length, ap, sym, ◌∙◌, arith}
use Rattle.row_codec.specs.Spelling.{text_bytes, settings_bytes}
use Rattle.row_codec.specs.Sizes.{capped}
use Rattle.row_codec.proofs.Lengths.{project-length}
use Rattle.row_codec.proofs.Sums.{capped-fits}
use Rattle.row_codec.proofs.sizes.project_size.Goals as goal

pub returns : goal.returns
returns c =
    let r = c.args.row.now in
    let description = length (text_bytes r.description) in
    let config = length (settings_bytes r.config) in
    let size = λ (t : List ℕ). capped (length (text_bytes t)) in
    let parts = c.add_capped-parts.ensures description config (c.text_size.ensures ∙ ap size c.view.ensures.value) c.settings_size.ensures in
    c.add_capped.ensures 1 (description + config) (capped-fits 1 (omega arith)) parts
    ∙ ap capped (sym (project-length r))
