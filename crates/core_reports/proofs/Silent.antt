-- Changes of rows tell nothing.
use Rattle.std.proofs.Common.{List, ◌∙◌, ap}
use Rattle.row_machine.specs.declared.changes.RowChange.{RowChange}
use Rattle.row_machine.specs.machine.State.{State}
use Rattle.row_machine.specs.machine.Changes.{applied}
use Rattle.machine_laws.proofs.SizesSteps.{applied-notices}
use Rattle.core_reports.specs.Waiting.{IsSilent}

pub applied-silent : (cs : List RowChange) (s : State) → IsSilent s → IsSilent (applied s cs)
applied-silent cs s h = record {
  notices = ap (λ told. told.0) (applied-notices cs s)
      ∙ h.notices;
  next = ap (λ told. told.1) (applied-notices cs s) ∙ h.next;
}
