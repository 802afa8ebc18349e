-- What a session did that stopped without a fault: after the replies it wrote what its end asks for, and nothing else.
use Rattle.std.proofs.Common.{◌≡◌, ◌⊎◌, ℕ, List, [], refl, sym, subst, inl, inr}
use Rattle.std.specs.Io.KnownBytes.{Appends}
use Rattle.rest_json.specs.declared.terms.Terms.{Terms}
use Rattle.command_words.specs.declared.run_words.Pace.{Pace}
use Rattle.serial_run.specs.declared.session.SessionEnd.{SessionEnd}
use Rattle.serial_run.specs.declared.session.SessionEnd.TheVariants as end
use Rattle.serial_run.specs.Sessions.{Session, Stops, StopsAfterFinal, AllGoOn, OnlyFinalEnds}
use Rattle.serial_run.specs.Worlds.{SessionWorld}
use Rattle.rest_answers.proofs.Linking.{appends_nothing}
use Rattle.serial_run.proofs.Whole.{IsSettled, text_at}

-- what a settled stop wrote after the replies; the server is as before
pub record StopsQuietly (ends : SessionEnd) (w w' : SessionWorld) : Type 0 where
  pub written : Appends w.sink.held w'.sink.held (text_at ends)
  pub serial_world : w'.serial_world ≡ w.serial_world

-- where nothing is written
nothing_written : (w w' : SessionWorld) → w'.sink ≡ w.sink → Appends w.sink.held w'.sink.held []
nothing_written w w' same = subst (λ sink. Appends w.sink.held sink.held []) (sym same) (appends_nothing w.sink.held)

-- where a session does nothing more
same_quietly : (ends : SessionEnd) (w w' : SessionWorld) → w' ≡ w → text_at ends ≡ [] → StopsQuietly ends w w'
same_quietly ends w w' same none = subst (λ v. StopsQuietly ends w v) (sym same) (record {
  written = subst (Appends w.sink.held w.sink.held) (sym none) (appends_nothing w.sink.held);
  serial_world = refl;
})

-- where it stops after requests that go on
stops_quietly : (terms : Terms) (ends : SessionEnd) (w w' : SessionWorld) → Stops terms ends w w' → IsSettled ends
    → StopsQuietly ends w w'
stops_quietly terms end.Ended w w' stops settled = record { written = nothing_written w w' stops.2; serial_world = stops.1 }
stops_quietly terms end.Cut w w' stops settled = record { written = nothing_written w w' stops.3; serial_world = stops.2 }
stops_quietly terms (end.Malformed fault) w w' stops settled = record { written = stops.2.written; serial_world = stops.1 }
stops_quietly terms end.Spent w w' stops settled = same_quietly end.Spent w w' stops refl
stops_quietly terms end.ReadFault w w' stops settled = absurd settled
stops_quietly terms end.WriteFault w w' stops settled = absurd settled
stops_quietly terms end.NoMemory w w' stops settled = absurd settled

-- where it stops after a final request
after_final : (ends : SessionEnd) (w w' : SessionWorld) → StopsAfterFinal ends → w' ≡ w → StopsQuietly ends w w'
after_final end.Ended w w' is same = same_quietly end.Ended w w' same refl
after_final end.Spent w w' is same = same_quietly end.Spent w w' same refl
after_final end.Cut w w' is same = absurd is
after_final (end.Malformed fault) w w' is same = absurd is
after_final end.ReadFault w w' is same = absurd is
after_final end.WriteFault w w' is same = absurd is
after_final end.NoMemory w w' is same = absurd is

-- where it stops in either way
pub session_quietly : (terms : Terms) (pace : Pace) (w w' : SessionWorld) (ends : SessionEnd) (s : Session terms pace w w' ends)
    → IsSettled ends → StopsQuietly ends s.reached w'
session_quietly terms pace w w' ends s settled = by s.stops where
  by : (AllGoOn s.exchanges × Stops terms ends s.reached w')
      ⊎ (OnlyFinalEnds s.exchanges × StopsAfterFinal ends × (w' ≡ s.reached)) → StopsQuietly ends s.reached w'
  by (inl (going, stops)) = stops_quietly terms ends s.reached w' stops settled
  by (inr (only, is, same)) = after_final ends s.reached w' is same
