use Rattle.std.proofs.Common.{arith, refl, ◌∙◌, ap, sym, subst}
use Rattle.row_machine.specs.machine.State.{empty_state}
use Rattle.row_machine.specs.machine.Changes.{applied}
use Rattle.row_machine.specs.facts.Whole.{IsWhole}
use Rattle.row_machine.proofs.Beginning.{new-whole}
use Rattle.row_machine.specs.machine.State.{State}
use Rattle.core_drafts.specs.Background.{Backing}
use Rattle.machine_laws.proofs.NamesApplied.{applied-operations}
use Rattle.core_judging.specs.core_reports.specs.Waiting.{IsSilent}
use Rattle.core_rows.specs.Opening.{first_state}
use Rattle.core_rows.proofs.opening.first_estate.Goals as goal

-- the first rows tell nothing
first-silent : IsSilent first_state
first-silent = record { notices = refl; next = refl }

pub of-requires-clause-whole : goal.of-requires-clause-whole
of-requires-clause-whole c =
    subst IsWhole
    (sym
    (c.keep_changes.ensures.state
    ∙ c.apply.ensures.state
    ∙ ap (λ s. applied s c.args.changes) (c.in_ok-reserve_for.ensures.state ∙ c.in_ok-draft.ensures.state)
    ∙ ap (applied empty_state) c.requires))
    new-whole

pub of-requires-clause-silent : goal.of-requires-clause-silent
of-requires-clause-silent c =
    subst IsSilent
    (sym
    (c.keep_changes.ensures.state
    ∙ c.apply.ensures.state
    ∙ ap (λ s. applied s c.args.changes) (c.in_ok-reserve_for.ensures.state ∙ c.in_ok-draft.ensures.state)
    ∙ ap (applied empty_state) c.requires))
    first-silent

pub of-requires-clause-above : goal.of-requires-clause-above
of-requires-clause-above c =
    omega (
      arith,
      ap (λ (b : Backing). b.greatest) (c.keep_changes.ensures.backing ∙ c.apply.ensures.backing ∙ c.in_ok-reserve_for.ensures.backing),
      c.in_ok-draft.ensures.greatest,
      ap (λ (s : State). s.operations.next) (c.keep_changes.ensures.state ∙ c.apply.ensures.state)
          ∙ ap (λ k. k.next) (applied-operations c.args.changes c.reserve_for.new.self.state)
          ∙ ap (λ (s : State). s.operations.next) (c.in_ok-reserve_for.ensures.state ∙ c.in_ok-draft.ensures.state),
    )
