use Rattle.std.proofs.Common.{ap, ◌∙◌}
use Rattle.serde_json.specs.Written.{has_float, compact_text}
use Rattle.rest_replies.specs.Notices.{notice_text}
use Rattle.rest_replies.proofs.Plain.{notice_plain}
use Rattle.rest_replies.proofs.notices.print_notice.Goals as goal

pub returns : goal.returns
unfolding notice_text
returns c =
    c.from_string.ensures
    ∙ c.in_ok-text.ensures.text (ap has_float c.in_ok-value.ensures ∙ notice_plain c.args.terms.boot c.args.notice.now)
    ∙ ap compact_text c.in_ok-value.ensures
