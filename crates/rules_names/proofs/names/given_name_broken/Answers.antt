use Rattle.std.proofs.Common.{option_and_then, sym, ap, ◌∙◌, subst}
use Rattle.size_values.specs.Causes.{Says}
use Rattle.records.specs.declared.commands.What.TheVariants as what_of
use Rattle.row_machine.specs.machine.Asked.{new_name_of}
use Rattle.row_machine.specs.machine.NameRules.{name_broken}
use Rattle.rules_names.proofs.names.given_name_broken.Goals as goal

pub returns-in-Create : goal.returns-in-Create
returns-in-Create c =
    let s = c.args.view.now in
    let project = c.args.project.now in
    subst (λ asked. Says c.new_name_broken.result (option_and_then (name_broken s project) (new_name_of s project asked)))
    (ap (λ of. what_of.Create of c.in-Create.body) c.target_ref.ensures ∙ sym c.in-Create.is)
    (c.new_name_broken.ensures c.in-Create.body)
