use Rattle.std.proofs.Common.{◌≡◌, drop}
use Rattle.serde_json.specs.Data.{no_members}
use Rattle.rest_json.specs.Objects.{members_in}
use Rattle.rest_replies.specs.Replies.{put_urls}
use Rattle.rest_replies.proofs.printing.by_status.Given as goal

abbrev pub invariant-loop-group : goal.invariant-loop-group
invariant-loop-group l = put_urls l.boot (drop l.group-index l.group-items) (members_in l.object) ≡ put_urls l.boot l.group-items no_members
