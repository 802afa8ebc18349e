use Rattle.std.proofs.Common.{◌≤◌, ◌∙◌, ap, sym, subst}
use Rattle.core_drafts.specs.Background.{Backing}
use Rattle.core_drafts.specs.Drafted.{Listed}
use Rattle.core_drafts.specs.Inside.{listed}
use Rattle.core_drafts.proofs.Backgrounds.{other-operations, on-ok}
use Rattle.core_drafts.proofs.lists.Lists.reserve_operation.Goals as goal

pub returns-clause-room : goal.returns-clause-room
returns-clause-room c =
    on-ok c.reserve-2.result (1 ≤ (listed c.self.inside).room) (subst (λ (x : Listed). 1 ≤ x.room) (sym c.self.view_is) c.in_ok-reserve.ensures.room)

pub returns-clause-state : goal.returns-clause-state
returns-clause-state c =
    other-operations c.self.inside c.reserve-2.new.self _ c.reserve-2.ensures.operations c.reserve-2.ensures.held c.reserve-2.ensures.books
    ∙ ap (λ (x : Listed). x.state) c.self.view_is
    ∙ c.in_ok-reserve.ensures.state

pub returns-clause-greatest : goal.returns-clause-greatest
returns-clause-greatest c =
    c.reserve-2.ensures.greatest
    ∙ ap (λ (x : Listed). x.backing.greatest) c.self.view_is
    ∙ ap (λ (b : Backing). b.greatest) c.in_ok-reserve.ensures.backing
