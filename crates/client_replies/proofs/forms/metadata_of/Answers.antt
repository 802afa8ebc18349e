use Rattle.std.proofs.Common.{sym, ap, ◌∙◌, codes}
use Rattle.serde_json.specs.View.{view}
use Rattle.serde_json.specs.Written.{has_float}
use Rattle.client_replies.proofs.Members.{get_whole}
use Rattle.client_replies.proofs.forms.metadata_of.Goals as goal

pub new-requires : goal.new-requires
new-requires c =
    ap has_float c.in_ok-clone-in-Some.ensures.cases
    ∙ get_whole (codes "metadata") (view c.args.body.now) (view c.in-Some.member.now) c.requires (sym c.in-Some.ensures)
