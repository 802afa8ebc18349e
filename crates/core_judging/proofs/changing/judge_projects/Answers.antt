use Rattle.std.proofs.Common.{subst, sym}
use Rattle.size_values.specs.Causes.{Says}
use Rattle.core_judging.specs.Before.{FitsLimits, Judges, Knows}
use Rattle.core_judging.proofs.NewProfiles.{judged-new}
use Rattle.core_judging.proofs.Within.{judged-within}
use Rattle.core_judging.proofs.changing.judge_projects.Goals as goal

pub returns-in-NewProfile : goal.returns-in-NewProfile
returns-in-NewProfile c = λ s whole made by.
    subst (Says c.profile_put_forbidden.result)
    (judged-new s c.args.after.now c.args.changes.now whole made (subst (λ b. Judges b s c.args.changes.now) c.in-NewProfile.is by))
    c.profile_put_forbidden.ensures

pub project_broken-requires-clause-limits : goal.project_broken-requires-clause-limits
project_broken-requires-clause-limits c = (subst (λ b. FitsLimits b c.args.after.now) c.in-OneProject.is c.requires).limits

pub project_broken-requires-clause-pools : goal.project_broken-requires-clause-pools
project_broken-requires-clause-pools c = (subst (λ b. FitsLimits b c.args.after.now) c.in-OneProject.is c.requires).pools

pub project_broken-requires-clause-lines : goal.project_broken-requires-clause-lines
project_broken-requires-clause-lines c = (subst (λ b. FitsLimits b c.args.after.now) c.in-OneProject.is c.requires).lines

pub returns-in-OneProject : goal.returns-in-OneProject
returns-in-OneProject c = λ s whole made by.
    let of = c.in-OneProject.project in
    let fits = subst (λ b. FitsLimits b c.args.after.now) c.in-OneProject.is c.requires in
    let judges = subst (λ b. Judges b s c.args.changes.now) c.in-OneProject.is by in
    subst (Says c.project_broken.result)
    (judged-within s c.args.after.now c.args.changes.now of.name of.pools of.used whole made fits.pools judges.0
    (subst (Knows of.name of.pools of.used s) (sym made) judges.1))
    c.project_broken.ensures
