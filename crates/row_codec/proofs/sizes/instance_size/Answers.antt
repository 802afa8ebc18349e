use Rattle.std.proofs.Common.{◌+◌, ℕ, List, length, ap, sym, ◌∙◌, arith}
use Rattle.row_codec.specs.Spelling.{text_bytes, texts_bytes, settings_bytes, devices_bytes}
use Rattle.row_codec.specs.Sizes.{capped}
use Rattle.row_codec.proofs.Sums.{capped-fits}
use Rattle.row_codec.proofs.Lengths.{instance-length}
use Rattle.row_codec.proofs.sizes.instance_size.Goals as goal

pub returns : goal.returns
returns c =
    let r = c.args.row.now in
    let description = length (text_bytes r.description) in
    let origin = length (text_bytes r.origin) in
    let profiles = length (texts_bytes r.profiles) in
    let config = length (settings_bytes r.config) in
    let devices = length (devices_bytes r.devices) in
    let size = λ (t : List ℕ). capped (length (text_bytes t)) in
    let texts = c.add_capped-texts.ensures description origin (c.text_size.ensures ∙ ap size c.view.ensures.value) (c.text_size-2.ensures ∙ ap size c.view-2.ensures.value) in
    let pair = c.add_capped.ensures config devices c.settings_size.ensures c.devices_size.ensures in
    let lists = c.add_capped-lists.ensures profiles (config + devices) (c.texts_size.ensures ∙ ap (λ (t : List (List ℕ)). capped (length (texts_bytes t))) c.view-3.ensures) pair in
    let both = c.add_capped-2.ensures (description + origin) (profiles + (config + devices)) texts lists in
    c.add_capped-3.ensures 11 ((description + origin) + (profiles + (config + devices))) (capped-fits 11 (omega arith)) both
    ∙ ap capped (sym (instance-length r))
