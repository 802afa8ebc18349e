use Rattle.std.proofs.Common.{IsSome, find, length, ap, sym, subst, ◌∙◌, arith}
use Rattle.std.specs.Option.{option_map_or}
use Rattle.host_model.specs.declared.report.Report.TheVariants as report
use Rattle.operations.specs.declared.operation.Operation.{Operation}
use Rattle.operations.specs.OperationTable.{live_at}
use Rattle.row_machine.specs.machine.Task.{Task}
use Rattle.row_machine.specs.machine.State.{State}
use Rattle.row_machine.specs.machine.Operations.{is_held_by}
use Rattle.core_reports.proofs.Completions.{unready-turned, uncarried-turned, succeeded-turned, roomy}
use Rattle.core_reports.proofs.Failing.{live-holds}
use Rattle.core_reports.proofs.Turning.{last-of, is-live, done-counted}
use Rattle.core_reports.proofs.reported.end_last.Goals as goal

pub overflow_add-done : goal.overflow_add-done
overflow_add-done g c =
    omega (
      arith,
      done-counted c.args.draft.now.state c.args.number c.requires.whole,
      c.calls_done-done.ensures
          ∙ ap (λ (t : State). option_map_or (λ (o : Operation Task). o.work.done)
          (live_at t.operations c.args.number) 0) c.view.ensures,
    )

pub end_failed-requires-clause-held : goal.end_failed-requires-clause-held
end_failed-requires-clause-held g c =
    let s = c.args.draft.now.state in
    live-holds s c.args.number c.requires.whole (is-live (last-of s c.args.number report.Done c.requires.last).running)

pub returns-in_default-clause-turned : goal.returns-in_default-clause-turned
returns-in_default-clause-turned g c =
    let s = c.args.draft.now.state in
    unready-turned s c.args.number c.args.moment c.requires.whole c.requires.silent c.requires.early
    (last-of s c.args.number report.Done c.requires.last)
    c.end_failed.new.draft.state c.end_failed.new.untold.items c.args.untold.now.items c.requires.quiet c.view.result
    c.calls_done-done.result
    (g.R.Keeper.store c.args.keeper.now) c.view.ensures c.calls_done-done.ensures c.end_failed.ensures.state
    c.end_failed.ensures.untold

pub end_failed-requires-in-Err-clause-held : goal.end_failed-requires-in-Err-clause-held
end_failed-requires-in-Err-clause-held g c =
    let s = c.args.draft.now.state in
    subst (λ held. IsSome (find (is_held_by c.args.number) held)) (sym c.carry_out-carried.ensures.held)
    (live-holds s c.args.number c.requires.whole
    (is-live (last-of s c.args.number report.Done c.requires.last).running))

pub returns-in-Err-clause-turned : goal.returns-in-Err-clause-turned
returns-in-Err-clause-turned g c =
    let s = c.args.draft.now.state in
    uncarried-turned s c.args.number c.args.moment c.requires.whole c.requires.silent c.requires.early
    (last-of s c.args.number report.Done c.requires.last)
    c.end_failed-in-Err.new.draft.state c.end_failed-in-Err.new.untold.items c.args.untold.now.items c.requires.quiet
    c.in-Err.why c.view.result c.view-2.result c.carry_out-carried.new.draft.state c.in-Ok.ending
    c.calls_done-done.result
    (g.R.Keeper.store c.args.keeper.now) (g.R.Keeper.store c.carry_out-carried.new.keeper) c.view.ensures
    c.calls_done-done.ensures c.view-2.ensures c.in-Ok.ensures
    c.in-Err.ensures.stored c.carry_out-carried.ensures.operations c.carry_out-carried.ensures.state
    c.end_failed-in-Err.ensures.state c.end_failed-in-Err.ensures.untold

pub succeed-requires-clause-held : goal.succeed-requires-clause-held
succeed-requires-clause-held g c =
    let s = c.args.draft.now.state in
    subst (λ held. IsSome (find (is_held_by c.args.number) held)) (sym c.carry_out-carried.ensures.held)
    (live-holds s c.args.number c.requires.whole
    (is-live (last-of s c.args.number report.Done c.requires.last).running))

pub succeed-requires-clause-room : goal.succeed-requires-clause-room
succeed-requires-clause-room g c =
    let s = c.args.draft.now.state in
    let few = roomy s c.args.number c.args.moment c.requires.whole c.requires.silent c.requires.early
    (last-of s c.args.number report.Done c.requires.last)
    s c.args.untold.now.items c.args.untold.now.items c.requires.quiet c.view-2.result c.in-Ok.ending c.view-2.ensures
    c.in-Ok.ensures in
    omega (arith, few, c.requires.room, ap length c.requires.quiet)

pub returns-clause-turned : goal.returns-clause-turned
returns-clause-turned g c =
    let s = c.args.draft.now.state in
    succeeded-turned s c.args.number c.args.moment c.requires.whole c.requires.silent c.requires.early
    (last-of s c.args.number report.Done c.requires.last)
    c.succeed.new.draft.state c.succeed.new.untold.items c.args.untold.now.items c.requires.quiet
    c.in_default-carried.field-0 c.view-2.result c.carry_out-carried.new.draft.state c.in-Ok.ending
    (g.R.Keeper.store c.args.keeper.now)
    (g.R.Keeper.store c.carry_out-carried.new.keeper) c.view-2.ensures c.in-Ok.ensures
    c.in_default-carried.ensures.stored c.carry_out-carried.ensures.state c.succeed.ensures.state
    c.succeed.ensures.untold
