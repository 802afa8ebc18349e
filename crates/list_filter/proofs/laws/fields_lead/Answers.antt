use Rattle.list_filter.proofs.Leading.{members, settings, lists}
use Rattle.list_filter.proofs.laws.fields_lead.Goals as goal

pub returns : goal.returns
returns c = record { members = members; settings = settings; lists = lists }
