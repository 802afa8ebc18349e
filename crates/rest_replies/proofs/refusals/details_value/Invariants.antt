use Rattle.std.proofs.Common.{◌≡◌, drop, codes}
use Rattle.serde_json.specs.Data.{no_members, string, put}
use Rattle.rest_json.specs.Objects.{members_in}
use Rattle.rest_replies.specs.Refusals.{put_parts, rule_name, said_in}
use Rattle.rest_replies.proofs.refusals.details_value.Given as goal

abbrev pub invariant-loop-phrase : goal.invariant-loop-phrase
invariant-loop-phrase l =
    put_parts l.refusal.details (said_in (drop l.phrase-index l.phrase-items)) (members_in l.object)
    ≡ put_parts l.refusal.details (said_in l.phrase-items) (put (codes "rule") (string (rule_name l.refusal.rule)) no_members)
