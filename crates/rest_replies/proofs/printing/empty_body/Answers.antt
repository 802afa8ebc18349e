use Rattle.std.proofs.Common.{[], ◌∷◌, ◌++◌, ap, codes, ◌∙◌}
use Rattle.std.specs.Fmt.{digits}
use Rattle.json.specs.Print.{escape_byte}
use Rattle.serde_json.specs.Written.{compact_text}
use Rattle.rest_json.proofs.Gathered.{more, all_followed}
use Rattle.rest_replies.specs.Replies.{success_data, nothing_data}
use Rattle.rest_replies.proofs.printing.empty_body.Goals as goal

pub returns : goal.returns
unfolding success_data escape_byte digits
returns c =
    let told = compact_text (nothing_data c.args.dialect) in
    let t1 = more (codes "{\"metadata\":") c.in_ok-plain.ensures c.in_ok-new.ensures in
    let t2 = more told (c.in_ok-plain-2.ensures ∙ ap (λ told. c.in_ok-plain.field-0 ++ told) c.nothing_text.ensures) t1 in
    let t3 = more (codes ",\"status\":\"Success\",\"status_code\":200,\"type\":\"sync\"}") c.in_ok-text.ensures t2 in
    c.into_bytes.ensures ∙ t3 ∙ all_followed [] (codes "{\"metadata\":") (told ∷ (codes ",\"status\":\"Success\",\"status_code\":200,\"type\":\"sync\"}") ∷ [])
