use Rattle.std.proofs.Common.{◌+◌, ◌<◌, IfSome, ◌∙◌, ap, sym, subst, refl}
use Rattle.std.specs.Option.{option_map_or}
use Rattle.operations.specs.declared.operation.Operation.{Operation}
use Rattle.operations.specs.OperationTable.{live_at}
use Rattle.row_machine.specs.machine.Task.{Task}
use Rattle.row_machine.specs.machine.State.{State}
use Rattle.core_reports.specs.Turns.{turn_of}
use Rattle.core_reports.proofs.Comings.{stray-turned, next-turned, undo-turned, cancelled-turned, fails-turned}
use Rattle.core_reports.proofs.Failing.{live-holds}
use Rattle.core_reports.proofs.Turning.{few-done, next-of, undo-of, cancels-of, next-counted, is-live, fails-live}
use Rattle.core_reports.proofs.reported.take_report.Goals as goal

pub turn_of-requires : goal.turn_of-requires
turn_of-requires g c =
    subst (λ (t : State). IfSome (live_at t.operations c.args.number) (λ (o : Operation Task). o.work.done + 1 < 256))
    (sym c.view.ensures)
    (few-done c.args.draft.now.state c.args.number c.requires.whole)

pub hand_out_next-requires-clause-count : goal.hand_out_next-requires-clause-count
hand_out_next-requires-clause-count g c = next-counted c.args.draft.now.state c.args.number c.requires.whole

pub end_cancelled-requires-clause-held : goal.end_cancelled-requires-clause-held
end_cancelled-requires-clause-held g c =
    let s = c.args.draft.now.state in
    let turns = ap (λ (t : State). turn_of (live_at t.operations c.args.number) c.args.report) (sym c.view.ensures)
    ∙ sym c.turn_of.ensures ∙ c.in-Cancels.is in
    live-holds s c.args.number c.requires.whole (is-live (cancels-of s c.args.number c.args.report turns).cancelling)

pub end_failed-requires-clause-held : goal.end_failed-requires-clause-held
end_failed-requires-clause-held g c =
    let s = c.args.draft.now.state in
    let turns = ap (λ (t : State). turn_of (live_at t.operations c.args.number) c.args.report) (sym c.view.ensures)
    ∙ sym c.turn_of.ensures ∙ c.in-Fails.is in
    live-holds s c.args.number c.requires.whole (fails-live s c.args.number c.args.report c.in-Fails.why turns)

pub returns-in-Stray-clause-turned : goal.returns-in-Stray-clause-turned
returns-in-Stray-clause-turned g c =
    let s = c.args.draft.now.state in
    let turns = ap (λ (t : State). turn_of (live_at t.operations c.args.number) c.args.report) (sym c.view.ensures)
    ∙ sym c.turn_of.ensures ∙ c.in-Stray.is in
    stray-turned s c.args.number c.args.moment c.requires.whole c.requires.silent s c.args.untold.now.items
    c.args.report (g.R.Keeper.store c.args.keeper.now) turns
    refl c.requires.quiet

pub returns-in-Next-clause-turned : goal.returns-in-Next-clause-turned
returns-in-Next-clause-turned g c =
    let s = c.args.draft.now.state in
    let turns = ap (λ (t : State). turn_of (live_at t.operations c.args.number) c.args.report) (sym c.view.ensures)
    ∙ sym c.turn_of.ensures ∙ c.in-Next.is in
    next-turned s c.args.number c.args.moment c.requires.whole c.requires.silent c.hand_out_next.new.self.state
    c.args.untold.now.items c.args.report
    c.hand_out_next.result (g.R.Keeper.store c.args.keeper.now)
    (next-of s c.args.number c.args.report turns) c.hand_out_next.ensures.state c.requires.quiet

pub returns-in-Undo-clause-turned : goal.returns-in-Undo-clause-turned
returns-in-Undo-clause-turned g c =
    let s = c.args.draft.now.state in
    let turns = ap (λ (t : State). turn_of (live_at t.operations c.args.number) c.args.report) (sym c.view.ensures)
    ∙ sym c.turn_of.ensures ∙ c.in-Undo.is in
    undo-turned s c.args.number c.args.moment c.requires.whole c.requires.silent c.hand_out_undo.new.self.state
    c.args.untold.now.items c.args.report
    c.hand_out_undo.result (g.R.Keeper.store c.args.keeper.now)
    (undo-of s c.args.number c.args.report turns) c.hand_out_undo.ensures.state c.requires.quiet

pub returns-in-Cancels-clause-turned : goal.returns-in-Cancels-clause-turned
returns-in-Cancels-clause-turned g c =
    let s = c.args.draft.now.state in
    let turns = ap (λ (t : State). turn_of (live_at t.operations c.args.number) c.args.report) (sym c.view.ensures)
    ∙ sym c.turn_of.ensures ∙ c.in-Cancels.is in
    cancelled-turned s c.args.number c.args.moment c.requires.whole c.requires.silent c.end_cancelled.new.draft.state
    c.end_cancelled.new.untold.items c.requires.early
    c.args.report c.args.untold.now.items (g.R.Keeper.store c.args.keeper.now)
    (cancels-of s c.args.number c.args.report turns) c.end_cancelled.ensures.state
    c.requires.quiet c.end_cancelled.ensures.untold

pub returns-in-Fails-clause-turned : goal.returns-in-Fails-clause-turned
returns-in-Fails-clause-turned g c =
    let s = c.args.draft.now.state in
    let turns = ap (λ (t : State). turn_of (live_at t.operations c.args.number) c.args.report) (sym c.view.ensures)
    ∙ sym c.turn_of.ensures ∙ c.in-Fails.is in
    fails-turned s c.args.number c.args.moment c.requires.whole c.requires.silent c.end_failed.new.draft.state
    c.end_failed.new.untold.items c.requires.early
    c.args.report c.in-Fails.why c.calls_done-done.result c.args.untold.now.items
    (g.R.Keeper.store c.args.keeper.now) turns
    (c.calls_done-done.ensures
    ∙ ap (λ (t : State). option_map_or (λ (o : Operation Task). o.work.done)
    (live_at t.operations c.args.number) 0) c.view-in-Fails.ensures) c.end_failed.ensures.state
    c.requires.quiet c.end_failed.ensures.untold
