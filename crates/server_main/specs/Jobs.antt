-- Which job serves a link, and by what.
use Rattle.std.specs.Prelude.{◌≡◌, Bool, true, false}
use Rattle.rest_json.specs.declared.terms.Terms.{Terms}
use Rattle.record_keeper.specs.declared.keeper.Keeper.{Ghosts}
use Rattle.server_main.specs.declared.jobs.ServerJob.{ServerJob}
use Rattle.server_main.specs.declared.jobs.ServerJob.TheVariants as job

-- a job at a keeper of type R, whatever that keeper's trait tells of it
abbrev pub is_link : {S K R H C L T O : Type 0} {keeper : Ghosts R} → ServerJob S K R H C L T O keeper → Bool
is_link (job.Link rt alloc gate source sink clock terms log) = true
is_link (job.Worker rt gate host clock log) = false

-- a job that serves this link, on these terms and with this log
abbrev pub ServesBy : {S K R H C L T O : Type 0} {keeper : Ghosts R} → S → K → Terms → O → ServerJob S K R H C L T O keeper → Type 0
ServesBy from to said told (job.Link rt alloc gate source sink clock terms log) =
    (source ≡ from) × (sink ≡ to) × (terms ≡ said) × (log ≡ told)
ServesBy from to said told (job.Worker rt gate host clock log) = ⊥
