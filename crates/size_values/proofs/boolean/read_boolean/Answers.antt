use Rattle.std.proofs.Common.{sym, ap, ◌∙◌}
use Rattle.std.specs.Option.{ok_or}
use Rattle.size_values.specs.declared.fault.ValueFault.TheVariants.{OutOfRange}
use Rattle.size_values.proofs.Booleans.{boolean-empty, boolean-named}
use Rattle.size_values.proofs.boolean.read_boolean.Goals as goal

pub returns-then-is_empty : goal.returns-then-is_empty
returns-then-is_empty c = boolean-empty c.args.text.now (sym c.is_empty.ensures ∙ c.if-is_empty.true)

pub returns : goal.returns
returns c =
    c.ok_or.ensures.value ∙ ap (λ t. ok_or t OutOfRange) c.boolean_named.ensures
    ∙ boolean-named c.args.text.now (sym c.is_empty.ensures ∙ c.if-is_empty.false)
