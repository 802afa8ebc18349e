use Rattle.std.proofs.Common.{◌≡◌, [], drop}
use Rattle.filter_texts.specs.Meaning.{run}
use Rattle.rest_json.specs.Views.{view_data}
use Rattle.list_filter.specs.Taking.{holds}
use Rattle.list_filter.proofs.taking.takes.Given as goal

-- the steps that are left make of the truths so far what all steps make of none
abbrev pub invariant-loop-step : goal.invariant-loop-step
invariant-loop-step l =
    run (holds l.terms.dialect (view_data l.terms l.shown)) (drop l.step-index l.step-items) l.truths
    ≡ run (holds l.terms.dialect (view_data l.terms l.shown)) l.step-items []
