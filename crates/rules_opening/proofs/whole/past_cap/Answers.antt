use Rattle.std.proofs.Common.{ℕ, ◌==◌, Some, filter, option_map, slice_get, sym, ap, ◌∙◌}
use Rattle.records.specs.declared.refusals.Rule.TheVariants.{C1}
use Rattle.row_codec.specs.Spelling.{kind_of}
use Rattle.row_machine.specs.machine.Kinds.{cap_of}
use Rattle.row_machine.specs.opening.Opening.{broken_at}
use Rattle.rules_opening.proofs.whole.past_cap.Goals as goal

pub returns-in_ok-broken_at-in-Some : goal.returns-in_ok-broken_at-in-Some
returns-in_ok-broken_at-in-Some c =
    ap (λ (number : ℕ). option_map (λ r. broken_at r C1) (slice_get (filter (λ r. kind_of r == number) c.args.rows.now) (cap_of c.args.kind))) (sym c.kind_number.ensures)
    ∙ ap (λ (cap : ℕ). option_map (λ r. broken_at r C1) (slice_get (filter (λ r. kind_of r == c.kind_number.result) c.args.rows.now) cap)) (sym c.cap_of.ensures)
    ∙ ap (option_map (λ r. broken_at r C1)) (sym c.in-Some.ensures)
    ∙ ap Some (sym c.in_ok-broken_at-in-Some.ensures)
