-- How the sending of a text ended, and what the sink took of it.
use Rattle.std.specs.Prelude.{◌≡◌, ℕ, List}
use Rattle.size_values.specs.Causes.{Rose}
use Rattle.size_values.specs.declared.memory.NoMemory.{NoMemory}
use Rattle.gates.specs.rest_answers.specs.Links.{BreaksOff, Outlet, Takes}
use Rattle.gates.specs.rest_answers.specs.declared.writing.Written.{Written}
use Rattle.gates.specs.rest_answers.specs.declared.writing.Written.TheVariants as ended
use Rattle.serve_loop.specs.Sessions.{TakesFront}

-- A text was written whole, or some first bytes of it and the write failed; or nothing was, since memory for it was
-- refused.
abbrev pub Sends : Written → List ℕ → Outlet → Outlet → Type 0
Sends ended.Whole text sink sink' = Takes sink sink' text
Sends ended.WriteFault text sink sink' = BreaksOff sink sink' text
Sends ended.NoMemory text sink sink' = sink' ≡ sink

-- Several texts were written, or those before one that could not be.
abbrev pub SendsFront : Written → List ℕ → Outlet → Outlet → Type 0
SendsFront ended.Whole text sink sink' = Takes sink sink' text
SendsFront ended.WriteFault text sink sink' = TakesFront sink sink' text × Rose sink.failures sink'.failures
SendsFront ended.NoMemory text sink sink' = TakesFront sink sink' text
