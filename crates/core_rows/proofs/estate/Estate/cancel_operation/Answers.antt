use Rattle.std.proofs.Common.{None, length, map, ap, sym, subst, ◌≡◌, ◌∙◌, arith}
use Rattle.size_values.specs.Causes.{Refuses}
use Rattle.records.specs.declared.replies.Reply.TheVariants as reply
use Rattle.row_machine.specs.machine.Rules.{names_broken, standing_broken}
use Rattle.row_machine.specs.machine.TableRules.{cancel_broken}
use Rattle.core_rows.specs.EstateView.{EstateView}
use Rattle.core_rows.specs.Planned.{Follows}
use Rattle.core_judging.specs.core_reports.specs.Waiting.{told_by}
use Rattle.core_judging.specs.core_reports.proofs.Failing.{live-holds}
use Rattle.core_judging.specs.core_totals.specs.Totals.{AreTotals}
use Rattle.core_rows.specs.Counted.{counted_out}
use Rattle.core_rows.proofs.KnownTotals.{stopped-totals}
use Rattle.core_rows.proofs.Silent.{none-wait}
use Rattle.core_rows.proofs.Stops.{can-stop, stops-live, stopped-is, cancel-refused, cancel-follows}
use Rattle.core_rows.proofs.estate.Estate.cancel_operation.Goals as goal

pub returns-in-Err : goal.returns-in-Err
returns-in-Err c = λ store.
    let s = c.args.self.now.state in
    let command = c.args.command.now in
    let is = ap (λ (k : EstateView). k.state) c.self.view_is in
    cancel-refused s command c.args.number c.args.moment c.requires.asked c.requires.names c.requires.standing
    c.args.self.now.untold c.in-Err.why c.refused_reply.result store
    (subst (λ t. Refuses c.in-Err.why (cancel_broken t command.what)) (c.view.ensures ∙ is) c.in-Err.ensures)
    c.requires.quiet c.refused_reply.ensures

pub stop-requires-clause-live : goal.stop-requires-clause-live
stop-requires-clause-live c =
    let s = c.self.inside.draft.state in
    let command = c.args.command.now in
    let is = ap (λ (k : EstateView). k.state) c.self.view_is in
    let names = subst (λ t. names_broken t command ≡ None) (sym is) c.requires.names in
    let standing = subst (λ t. standing_broken t command ≡ None) (sym is) c.requires.standing in
    let free = ap (λ t. cancel_broken t command.what) (sym c.view.ensures) ∙ c.in_default.ensures in
    stops-live s c.args.number
    (can-stop s command c.args.number c.args.moment c.requires.asked names standing c.self.invariant.whole free)

pub stop-requires-clause-held : goal.stop-requires-clause-held
stop-requires-clause-held c =
    let s = c.self.inside.draft.state in
    let command = c.args.command.now in
    let is = ap (λ (k : EstateView). k.state) c.self.view_is in
    let names = subst (λ t. names_broken t command ≡ None) (sym is) c.requires.names in
    let standing = subst (λ t. standing_broken t command ≡ None) (sym is) c.requires.standing in
    let free = ap (λ t. cancel_broken t command.what) (sym c.view.ensures) ∙ c.in_default.ensures in
    live-holds s c.args.number c.self.invariant.whole
    (stops-live s c.args.number
    (can-stop s command c.args.number c.args.moment c.requires.asked names standing c.self.invariant.whole free))

pub stop-requires-clause-room : goal.stop-requires-clause-room
stop-requires-clause-room c =
    let none = none-wait _ c.self.inside.untold.items
    (ap (λ (k : EstateView). k.untold) c.self.view_is ∙ c.requires.quiet) in
    omega (arith, c.self.invariant.room, ap length none)

pub invariant_of-self : goal.invariant_of-self
invariant_of-self c =
    let s = c.self.inside.draft.state in
    let command = c.args.command.now in
    let is = ap (λ (k : EstateView). k.state) c.self.view_is in
    let names = subst (λ t. names_broken t command ≡ None) (sym is) c.requires.names in
    let standing = subst (λ t. standing_broken t command ≡ None) (sym is) c.requires.standing in
    let free = ap (λ t. cancel_broken t command.what) (sym c.view.ensures) ∙ c.in_default.ensures in
    let none = none-wait _ c.self.inside.untold.items
    (ap (λ (k : EstateView). k.untold) c.self.view_is ∙ c.requires.quiet) in
    let stopped = stopped-is s c.args.number c.args.moment c.stop.new.draft.state c.self.inside.untold.items
    c.stop.new.untold.items c.self.invariant.whole c.self.invariant.silent c.requires.early none c.stop.ensures.untold
    (can-stop s command c.args.number c.args.moment c.requires.asked names standing c.self.invariant.whole free)
    c.stop.ensures.state in
    record {
      whole = stopped.whole;
      silent = stopped.silent;
      settled = c.stop.ensures.log;
      room = omega (arith, c.self.invariant.room, c.stop.ensures.capacity);
      above = omega (arith, c.self.invariant.above, c.stop.ensures.greatest, stopped.next);
      totals = subst (AreTotals c.stop.new.draft.state)
          (ap (λ t. counted_out t c.args.number c.self.inside.totals) (sym c.view-2.ensures) ∙ sym c.count_out.ensures)
          (stopped-totals s c.stop.new.draft.state c.args.number c.args.moment c.self.inside.totals c.self.invariant.whole c.stop.ensures.state
          c.self.invariant.totals);
    }

pub returns : goal.returns
returns c = λ store.
    let s = c.self.inside.draft.state in
    let command = c.args.command.now in
    let is = ap (λ (k : EstateView). k.state) c.self.view_is in
    let names = subst (λ t. names_broken t command ≡ None) (sym is) c.requires.names in
    let standing = subst (λ t. standing_broken t command ≡ None) (sym is) c.requires.standing in
    let free = ap (λ t. cancel_broken t command.what) (sym c.view.ensures) ∙ c.in_default.ensures in
    let none = none-wait _ c.self.inside.untold.items
    (ap (λ (k : EstateView). k.untold) c.self.view_is ∙ c.requires.quiet) in
    let stopped = stopped-is s c.args.number c.args.moment c.stop.new.draft.state c.self.inside.untold.items
    c.stop.new.untold.items c.self.invariant.whole c.self.invariant.silent c.requires.early none c.stop.ensures.untold
    (can-stop s command c.args.number c.args.moment c.requires.asked names standing c.self.invariant.whole free)
    c.stop.ensures.state in
    subst
    (λ t. Follows t command c.args.moment c.stop.new.draft.state
    (map (told_by c.stop.new.draft.state.operations) c.stop.new.untold.items) reply.Empty store store) is
    (cancel-follows s command c.args.number c.args.moment c.requires.asked names standing c.stop.new.draft.state _ store
    free stopped)
