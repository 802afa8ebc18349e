use Rattle.std.proofs.Common.{[], filter, ◌≡◌, ◌∙◌, ap, sym, arith}
use Rattle.row_machine.specs.declared.events.Fetched.TheVariants.{Notices, Lagged}
use Rattle.event_hub.specs.Recent.{Recent, is_wanted}
use Rattle.event_hub.proofs.Machines.{asks-nothing, lags, listens}
use Rattle.event_hub.proofs.hub.Hub.since.Goals as goal

pub returns-then-cursor-eq0 : goal.returns-then-cursor-eq0
returns-then-cursor-eq0 c =
    ap (λ ns. Notices ns c.self.inside.next) c.new.ensures
    ∙ ap (λ (r : Recent). Notices [] r.next) c.self.view_is
    ∙ sym (asks-nothing c.args.self.now c.args.cursor c.args.filter.now c.if-cursor-eq0.true)

pub returns-then-cursor-oldest : goal.returns-then-cursor-oldest
returns-then-cursor-oldest c =
    ap (Lagged c.args.cursor) c.oldest-oldest.ensures
    ∙ sym (lags c.args.self.now c.args.cursor c.args.filter.now c.if-cursor-eq0.false (omega (arith, c.if-cursor-oldest.true, c.oldest-oldest.ensures)))

pub returns : goal.returns
returns c =
    let taken : c.in_ok-notices.notices ≡ filter (is_wanted c.args.cursor c.args.filter.now) c.args.self.now.notices = c.in_ok-notices.ensures in
    ap (λ ns. Notices ns c.self.inside.next) taken
    ∙ ap (λ (r : Recent). Notices (filter (is_wanted c.args.cursor c.args.filter.now) c.args.self.now.notices) r.next) c.self.view_is
    ∙ sym (listens c.args.self.now c.args.cursor c.args.filter.now c.if-cursor-eq0.false (omega (arith, c.if-cursor-oldest.false, c.oldest-oldest.ensures)))
