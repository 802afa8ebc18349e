use Rattle.std.proofs.Common.{◌≡◌, ap, sym, ◌∙◌, option_and_then, IfOk, subst}
use Rattle.serde_json.specs.View.{view}
use Rattle.list_filter.specs.Values.{text_of}
use Rattle.list_filter.proofs.Found.{got, plain_member}
use Rattle.list_filter.proofs.operation_members.text_in.Goals as goal

pub value_text-requires : goal.value_text-requires
value_text-requires c = plain_member c.args.name.now (view c.args.object.now) (view c.in-Some.value.now) c.requires (sym c.in-Some.ensures)

pub returns-in-Some : goal.returns-in-Some
returns-in-Some c =
    subst (λ t. IfOk c.value_text.result (λ told. told ≡ t)) (ap (option_and_then text_of) (c.in-Some.ensures ∙ got c.args.name.now (view c.args.object.now))) c.value_text.ensures

pub returns-in-None : goal.returns-in-None
returns-in-None c = ap (option_and_then text_of) (c.in-None.ensures ∙ got c.args.name.now (view c.args.object.now))
