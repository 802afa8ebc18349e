-- A claim whose share is then held is an entry.
use Rattle.std.proofs.Common.{◌≡◌, ℕ, ◌+◌, ◌-◌, [], ◌∷◌, ◌++◌, ap, arith}
use Rattle.reservations.specs.Holdings.{granted_more}
use Rattle.core_drafts.specs.Background.{holding}
use Rattle.row_machine.specs.machine.Claims.{part_of_share, share_of}
use Rattle.row_machine.specs.machine.State.{State}
use Rattle.row_machine.specs.machine.Task.{Task}
use Rattle.row_machine.specs.machine.Operations.{claiming, entered, project_of_task}

pub claim-held : (s : State) (task : Task) (moment : ℕ) → holding (project_of_task task) (share_of s task) (part_of_share s task) (claiming s task moment) ≡ entered s task moment
unfolding entered
claim-held s task moment =
    let last : s.operations.next + 1 - 1 ≡ s.operations.next = omega arith in
    ap (λ n. record (claiming s task moment) {
      held = s.held ++ record { op = n; project = project_of_task task; share = share_of s task; part = part_of_share s task } ∷ [];
      books = granted_more (share_of s task) (part_of_share s task) s.books;
    }) last
