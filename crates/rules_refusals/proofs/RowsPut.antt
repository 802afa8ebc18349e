-- A rule over the rows that changes put, asked of one change after another.
use Rattle.std.proofs.Common.{◌≡◌, List, [], ◌∷◌, Option, refl, ap, ◌∙◌}
use Rattle.std.specs.Option.{option_or}
use Rattle.plain_lists.specs.Firsts.{first_of}
use Rattle.records.specs.declared.rows.Row.{Row}
use Rattle.row_machine.specs.declared.changes.RowChange.{RowChange}
use Rattle.row_machine.specs.declared.changes.RowChange.TheVariants as change
use Rattle.row_machine.specs.machine.Changes.{rows_put}
use Rattle.rules_refusals.proofs.Chains.{or-none}

pub rows-put : {R : Type 0} (rule : Row → Option R) (cs : List RowChange)
    → first_of (λ c. first_of rule (rows_put (c ∷ []))) cs ≡ first_of rule (rows_put cs)
rows-put rule [] = refl
rows-put rule (change.Put r ∷ cs) = ap (λ o. option_or o (first_of (λ c. first_of rule (rows_put (c ∷ []))) cs)) (or-none (rule r)) ∙ ap (option_or (rule r)) (rows-put rule cs)
rows-put rule (change.Remove of key ∷ cs) = rows-put rule cs
