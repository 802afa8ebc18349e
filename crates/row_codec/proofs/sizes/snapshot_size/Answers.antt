use Rattle.std.proofs.Common.{◌+◌, ℕ, List, length, ap, sym, ◌∙◌, arith}
use Rattle.row_codec.specs.Spelling.{texts_bytes, settings_bytes, devices_bytes}
use Rattle.row_codec.specs.Sizes.{capped}
use Rattle.row_codec.proofs.Sums.{capped-fits}
use Rattle.row_codec.proofs.Lengths.{snapshot-length}
use Rattle.row_codec.proofs.sizes.snapshot_size.Goals as goal

pub returns : goal.returns
returns c =
    let r = c.args.row.now in
    let profiles = length (texts_bytes r.profiles) in
    let config = length (settings_bytes r.config) in
    let devices = length (devices_bytes r.devices) in
    let pair = c.add_capped.ensures config devices c.settings_size.ensures c.devices_size.ensures in
    let lists = c.add_capped-lists.ensures profiles (config + devices) (c.texts_size.ensures ∙ ap (λ (t : List (List ℕ)). capped (length (texts_bytes t))) c.view.ensures) pair in
    c.add_capped-2.ensures 17 (profiles + (config + devices)) (capped-fits 17 (omega arith)) lists
    ∙ ap capped (sym (snapshot-length r))
