use Rattle.std.proofs.Common.{[], ◌∷◌, map, length, refl, ap, sym, subst, ◌∙◌, arith}
use Rattle.size_values.specs.Amounts.{part}
use Rattle.size_values.specs.Causes.{Refuses}
use Rattle.size_values.specs.declared.memory.Or.TheVariants as or
use Rattle.records.specs.declared.replies.Reply.TheVariants as reply
use Rattle.row_machine.specs.machine.State.{State}
use Rattle.row_machine.specs.machine.Operations.{claiming}
use Rattle.row_machine.specs.facts.Whole.{IsWhole}
use Rattle.core_drafts.specs.Steps.{before_changes}
use Rattle.row_readings.specs.declared.amounts.Footprint.{Footprint}
use Rattle.rules_limits.specs.Limited.{limits_named}
use Rattle.row_readings.proofs.Small.{low-share_of, low-part_of_share}
use Rattle.machine_laws.proofs.WholeKept.{whole-entered}
use Rattle.core_rows.specs.Asked.{IsAsked}
use Rattle.core_judging.specs.core_reports.specs.Waiting.{IsSilent}
use Rattle.core_rows.specs.EstateView.{EstateView}
use Rattle.core_rows.specs.Planned.{IsToStart}
use Rattle.core_judging.specs.core_reports.specs.Waiting.{told_by}
use Rattle.core_judging.specs.core_totals.specs.Totals.{AreTotals}
use Rattle.core_rows.proofs.KnownTotals.{begin-totals, roomy-amounts, roomy-pools}
use Rattle.core_rows.proofs.Silent.{still-quiet, only-one, none-wait}
use Rattle.core_rows.proofs.Started.{judged-claim, start-refused, start-accepted, start-made, entered-from, number-left, entered-silent}
use Rattle.core_rows.proofs.estate.Estate.start.Goals as goal

pub returns-in_default : goal.returns-in_default
returns-in_default c = λ store.
    let is = ap (λ (k : EstateView). k.state) c.self.view_is in
    subst (λ t. IsAsked t c.args.command.now c.args.moment c.prepare_start.new.draft.state (map (told_by c.prepare_start.new.draft.state.operations) c.self.inside.untold.items) reply.NoMemory store store) is
    (start-refused c.self.inside.draft.state c.args.command.now c.args.moment c.prepare_start.new.draft.state (map (told_by c.prepare_start.new.draft.state.operations) c.self.inside.untold.items) or.NoMemory reply.NoMemory store tt
    c.prepare_start.ensures.state (still-quiet _ _ c.self.inside.untold.items (ap (λ (k : EstateView). k.untold) c.self.view_is ∙ c.requires.quiet)) refl)

pub returns-in-Err : goal.returns-in-Err
returns-in-Err c = λ store.
    let old = c.self.inside.draft.state in
    let command = c.args.command.now in
    let moment = c.args.moment in
    let task = c.args.work in
    let is = ap (λ (k : EstateView). k.state) c.self.view_is in
    let planned = subst (λ t. IsToStart t command moment task) (sym is) c.requires.planned in
    let claimed = c.claim-number.ensures.state ∙ ap (λ t. claiming t task moment) c.prepare_start.ensures.state in
    let same = judged-claim old command moment task c.view.result c.in-Ok.beginning.fault c.claim-number.result
    c.in-Ok.beginning.project c.in-Ok.beginning.used c.in-Ok.beginning.share c.self.invariant.whole planned
    (c.view.ensures ∙ claimed) c.in-Ok.ensures.fault
    (c.claim-number.ensures.number ∙ ap (λ (t : State). t.operations.next) c.prepare_start.ensures.state)
    c.in-Ok.ensures.project c.in-Ok.ensures.share c.in-Ok.ensures.used in
    subst (λ t. IsAsked t command moment c.roll_back.new.draft.state (map (told_by c.roll_back.new.draft.state.operations) c.self.inside.untold.items) c.roll_back.result store store) is
    (start-refused old command moment c.roll_back.new.draft.state (map (told_by c.roll_back.new.draft.state.operations) c.self.inside.untold.items) c.in-Err.why c.roll_back.result store
    (subst (Refuses c.in-Err.why) same c.in-Err.ensures)
    (c.roll_back.ensures.state
    ∙ c.claim-number.ensures.former
    ∙ ap (λ us. before_changes us c.prepare_start.new.draft.state) c.prepare_start.ensures.log
    ∙ c.prepare_start.ensures.state)
    (still-quiet _ _ c.self.inside.untold.items (ap (λ (k : EstateView). k.untold) c.self.view_is ∙ c.requires.quiet)) c.roll_back.ensures.reply)

pub judge_claim-judged-requires-clause-limits : goal.judge_claim-judged-requires-clause-limits
judge_claim-judged-requires-clause-limits c =
    let old = c.self.inside.draft.state in
    let claimed = c.claim-number.ensures.state ∙ ap (λ t. claiming t c.args.work c.args.moment) c.prepare_start.ensures.state in
    c.in-Ok.ensures.limits
    ∙ ap (limits_named old.projects) (sym c.in-Ok.ensures.project)
    ∙ ap (λ (t : State). limits_named t.projects c.in-Ok.beginning.project) (sym (c.view.ensures ∙ claimed))

pub judge_claim-judged-requires-clause-share : goal.judge_claim-judged-requires-clause-share
judge_claim-judged-requires-clause-share c = λ k.
    omega (arith, low-share_of c.self.inside.draft.state c.args.work k, ap (λ (f : Footprint). part k f.amounts) c.in-Ok.ensures.share)

pub judge_claim-judged-requires-clause-part : goal.judge_claim-judged-requires-clause-part
judge_claim-judged-requires-clause-part c =
    omega (arith, low-part_of_share c.self.inside.draft.state c.args.work, ap (λ (f : Footprint). f.on.disk) c.in-Ok.ensures.share)

pub commit_start-requires-clause-limit : goal.commit_start-requires-clause-limit
commit_start-requires-clause-limit c =
    let old = c.self.inside.draft.state in
    let command = c.args.command.now in
    let moment = c.args.moment in
    let task = c.args.work in
    let is = ap (λ (k : EstateView). k.state) c.self.view_is in
    let planned = subst (λ t. IsToStart t command moment task) (sym is) c.requires.planned in
    let claimed = c.claim-number.ensures.state ∙ ap (λ t. claiming t task moment) c.prepare_start.ensures.state in
    let same = judged-claim old command moment task c.view.result c.in-Ok.beginning.fault c.claim-number.result
    c.in-Ok.beginning.project c.in-Ok.beginning.used c.in-Ok.beginning.share c.self.invariant.whole planned
    (c.view.ensures ∙ claimed) c.in-Ok.ensures.fault
    (c.claim-number.ensures.number ∙ ap (λ (t : State). t.operations.next) c.prepare_start.ensures.state)
    c.in-Ok.ensures.project c.in-Ok.ensures.share c.in-Ok.ensures.used in
    let accepted = start-accepted old command moment task c.self.invariant.whole planned
    (sym same ∙ c.in_default-judged.ensures) in
    omega (arith, number-left old task moment (whole-entered accepted), ap (λ (t : State). t.operations.next) claimed)

pub commit_start-requires-clause-room : goal.commit_start-requires-clause-room
commit_start-requires-clause-room c =
    omega (arith, c.self.invariant.room, ap length (none-wait _ c.self.inside.untold.items (ap (λ (k : EstateView). k.untold) c.self.view_is ∙ c.requires.quiet)))

pub commit_start-requires-clause-small : goal.commit_start-requires-clause-small
commit_start-requires-clause-small c = λ k.
    omega (arith, low-share_of c.self.inside.draft.state c.args.work k, ap (λ (f : Footprint). part k f.amounts) c.in-Ok.ensures.share)

pub commit_start-requires-clause-small_part : goal.commit_start-requires-clause-small_part
commit_start-requires-clause-small_part c =
    omega (arith, low-part_of_share c.self.inside.draft.state c.args.work, ap (λ (f : Footprint). f.on.disk) c.in-Ok.ensures.share)

pub grow-requires-clause-amounts : goal.grow-requires-clause-amounts
grow-requires-clause-amounts c =
    roomy-amounts c.self.inside.draft.state c.prepare_start.new.totals.amounts c.view-2.result.now c.in-Ok.beginning.share.amounts
    c.self.invariant.whole c.prepare_start.ensures.totals.amounts
    (λ k. omega (arith, low-share_of c.self.inside.draft.state c.args.work k, ap (λ (f : Footprint). part k f.amounts) c.in-Ok.ensures.share))

pub grow-requires-clause-pools : goal.grow-requires-clause-pools
grow-requires-clause-pools c =
    roomy-pools c.self.inside.draft.state c.prepare_start.new.totals.pools c.view-2.result.now c.in-Ok.beginning.share.on.pool
    c.in-Ok.beginning.share.on.disk c.self.invariant.whole c.prepare_start.ensures.totals.pools
    (omega (arith, low-part_of_share c.self.inside.draft.state c.args.work, ap (λ (f : Footprint). f.on.disk) c.in-Ok.ensures.share))

pub invariant_of-self-2 : goal.invariant_of-self-2
invariant_of-self-2 c =
    let old = c.self.inside.draft.state in
    let command = c.args.command.now in
    let moment = c.args.moment in
    let task = c.args.work in
    let is = ap (λ (k : EstateView). k.state) c.self.view_is in
    let planned = subst (λ t. IsToStart t command moment task) (sym is) c.requires.planned in
    let claimed = c.claim-number.ensures.state ∙ ap (λ t. claiming t task moment) c.prepare_start.ensures.state in
    let same = judged-claim old command moment task c.view.result c.in-Ok.beginning.fault c.claim-number.result
    c.in-Ok.beginning.project c.in-Ok.beginning.used c.in-Ok.beginning.share c.self.invariant.whole planned
    (c.view.ensures ∙ claimed) c.in-Ok.ensures.fault
    (c.claim-number.ensures.number ∙ ap (λ (t : State). t.operations.next) c.prepare_start.ensures.state)
    c.in-Ok.ensures.project c.in-Ok.ensures.share c.in-Ok.ensures.used in
    let accepted = start-accepted old command moment task c.self.invariant.whole planned
    (sym same ∙ c.in_default-judged.ensures) in
    let made = entered-from old task moment c.commit_start.new.draft.state c.claim-number.new.self.state c.in-Ok.beginning.project c.in-Ok.beginning.share
    claimed c.in-Ok.ensures.project c.in-Ok.ensures.share c.commit_start.ensures.state in
    record {
      whole = subst IsWhole (sym made) (whole-entered accepted);
      silent = subst IsSilent (sym made) (entered-silent old task moment c.self.invariant.silent);
      settled = c.commit_start.ensures.log;
      room = omega (arith, c.self.invariant.room, c.commit_start.ensures.capacity);
      above =
          omega (
            arith,
            c.commit_start.ensures.greatest,
            ap (λ (t : State). t.operations.next) c.commit_start.ensures.state,
            ap (λ (t : State). t.operations.next) claimed,
          );
      totals = subst (AreTotals c.commit_start.new.draft.state) (sym c.grow.ensures)
          (begin-totals old c.commit_start.new.draft.state task moment c.prepare_start.new.totals c.view-2.result.now c.in-Ok.beginning.share
          made (c.view-2.ensures.value ∙ c.in-Ok.ensures.project) c.in-Ok.ensures.share c.prepare_start.ensures.totals);
    }

pub returns : goal.returns
returns c = λ store.
    let old = c.self.inside.draft.state in
    let command = c.args.command.now in
    let moment = c.args.moment in
    let task = c.args.work in
    let is = ap (λ (k : EstateView). k.state) c.self.view_is in
    let planned = subst (λ t. IsToStart t command moment task) (sym is) c.requires.planned in
    let claimed = c.claim-number.ensures.state ∙ ap (λ t. claiming t task moment) c.prepare_start.ensures.state in
    let same = judged-claim old command moment task c.view.result c.in-Ok.beginning.fault c.claim-number.result
    c.in-Ok.beginning.project c.in-Ok.beginning.used c.in-Ok.beginning.share c.self.invariant.whole planned
    (c.view.ensures ∙ claimed) c.in-Ok.ensures.fault
    (c.claim-number.ensures.number ∙ ap (λ (t : State). t.operations.next) c.prepare_start.ensures.state)
    c.in-Ok.ensures.project c.in-Ok.ensures.share c.in-Ok.ensures.used in
    let accepted = start-accepted old command moment task c.self.invariant.whole planned
    (sym same ∙ c.in_default-judged.ensures) in
    let made = entered-from old task moment c.commit_start.new.draft.state c.claim-number.new.self.state c.in-Ok.beginning.project c.in-Ok.beginning.share
    claimed c.in-Ok.ensures.project c.in-Ok.ensures.share c.commit_start.ensures.state in
    let none = ap (λ (k : EstateView). k.untold) c.self.view_is ∙ c.requires.quiet in
    subst (λ t. IsAsked t command moment c.commit_start.new.draft.state (map (told_by c.commit_start.new.draft.state.operations) c.commit_start.new.untold.items) c.commit_start.result store store) is
    (start-made old command moment task c.commit_start.new.draft.state (map (told_by c.commit_start.new.draft.state.operations) c.commit_start.new.untold.items) c.commit_start.result store accepted made
    (only-one _ _ c.self.inside.untold.items _ _ none c.commit_start.ensures.untold ∙ ap (λ n. n ∷ []) c.in-Ok.ensures.notice)
    (c.commit_start.ensures.reply ∙ ap reply.Started c.in-Ok.ensures.shown))
