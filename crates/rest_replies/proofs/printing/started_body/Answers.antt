use Rattle.std.proofs.Common.{[], ◌∷◌, codes, ◌∙◌}
use Rattle.std.specs.Fmt.{digits}
use Rattle.json.specs.Print.{escape_byte}
use Rattle.serde_json.specs.Written.{compact_text}
use Rattle.rest_json.proofs.Gathered.{more, all_followed}
use Rattle.json.specs.Print.{quoted}
use Rattle.rest_json.specs.Ids.{operation_url}
use Rattle.rest_json.specs.Operations.{operation_data}
use Rattle.rest_replies.specs.Replies.{started_data}
use Rattle.rest_replies.proofs.printing.started_body.Goals as goal

pub returns : goal.returns
unfolding started_data escape_byte digits
returns c =
    let told = compact_text (operation_data c.args.boot c.args.operation.now) in
    let url = quoted (operation_url c.args.boot c.args.operation.now.number) in
    let t1 = more (codes "{\"metadata\":") c.in_ok-front.ensures c.in_ok-new.ensures in
    let t2 = more told c.in_ok-write_operation.ensures t1 in
    let t3 = more (codes ",\"operation\":") c.in_ok-plain.ensures t2 in
    let t4 = more url c.in_ok-url.ensures t3 in
    let t5 = more (codes ",\"status\":\"Operation created\",\"status_code\":100,\"type\":\"async\"}") c.in_ok-text.ensures t4 in
    c.into_bytes.ensures ∙ t5 ∙ all_followed [] (codes "{\"metadata\":") (told ∷ codes ",\"operation\":" ∷ url ∷ codes ",\"status\":\"Operation created\",\"status_code\":100,\"type\":\"async\"}" ∷ [])
