-- How the writing of a reply ended, and what the sink took of it.
use Rattle.std.specs.Prelude.{◌≡◌, Result, Ok, Err}
use Rattle.http_heads.specs.declared.request.HeadFault.{HeadFault}
use Rattle.http_heads.specs.declared.request.Request.{Request}
use Rattle.rest_answers.specs.Links.{BreaksOff, Outlet, Takes}
use Rattle.rest_answers.specs.Texts.{IsUnprinted, malformed_text, text_for}
use Rattle.rest_answers.specs.declared.answers.PrintedReply.{PrintedReply}
use Rattle.rest_answers.specs.declared.writing.Written.{Written}
use Rattle.rest_answers.specs.declared.writing.Written.TheVariants as ended

-- how a write ended
abbrev pub written_by : {T E : Type 0} → Result T E → Written
written_by (Ok value) = ended.Whole
written_by (Err error) = ended.WriteFault

-- An answer was written whole, or some first bytes of it and the write failed; or nothing was, since memory for it was
-- refused.
abbrev pub WritesAnswer : Written → PrintedReply → Request → Outlet → Outlet → Type 0
WritesAnswer ended.Whole answer request sink sink' =
    ¬ IsUnprinted answer × Takes sink sink' (text_for answer request)
WritesAnswer ended.WriteFault answer request sink sink' =
    ¬ IsUnprinted answer × BreaksOff sink sink' (text_for answer request)
WritesAnswer ended.NoMemory answer request sink sink' = IsUnprinted answer × (sink' ≡ sink)

-- A malformed place was answered by its rule, or of that reply some first bytes were written, or memory was refused
-- before it.
abbrev pub RefusesPlace : HeadFault → Written → Outlet → Outlet → Type 0
RefusesPlace fault ended.Whole sink sink' = Takes sink sink' (malformed_text fault)
RefusesPlace fault ended.WriteFault sink sink' = BreaksOff sink sink' (malformed_text fault)
RefusesPlace fault ended.NoMemory sink sink' = sink' ≡ sink
