use Rattle.std.proofs.Common.{[], ◌∷◌, map, codes, ◌∙◌}
use Rattle.std.specs.Option.{option_copied}
use Rattle.std.specs.Fmt.{digits}
use Rattle.json.specs.Print.{escape_byte}
use Rattle.serde_json.specs.Written.{compact_text}
use Rattle.rest_json.proofs.Gathered.{more, all_followed}
use Rattle.rest_json.specs.Objects.{list_of}
use Rattle.rest_json.specs.Views.{view_data}
use Rattle.rest_replies.specs.Chosen.{chosen}
use Rattle.rest_replies.specs.Replies.{success_data}
use Rattle.rest_replies.proofs.printing.many_body.Goals as goal

pub returns : goal.returns
unfolding success_data escape_byte digits
returns c =
    let told = compact_text (list_of (map (view_data c.args.terms)
    (chosen c.args.terms (option_copied c.args.choice) c.args.views.now))) in
    let t1 = more (codes "{\"metadata\":") c.in_ok-front.ensures c.in_ok-new.ensures in
    let t2 = more told c.in_ok-write_views.ensures t1 in
    let t3 = more (codes ",\"status\":\"Success\",\"status_code\":200,\"type\":\"sync\"}") c.in_ok-text.ensures t2 in
    c.into_bytes.ensures ∙ t3 ∙ all_followed [] (codes "{\"metadata\":") (told ∷ (codes ",\"status\":\"Success\",\"status_code\":200,\"type\":\"sync\"}") ∷ [])
