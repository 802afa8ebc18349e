-- Requests that are served one after the other are served together.
use Rattle.std.proofs.Common.{◌≡◌, ◌≢◌, ◌==◌, ◌<◌, ◌≤◌, ◌+◌, ◌++◌, ◌⊎◌, ℕ, List, [], ◌∷◌, length, Bool, true, false}
use Rattle.std.proofs.Common.{Option, Some, None, IfSome, refl, ap, sym, ◌∙◌, subst, arith, inl, inr, eqb-true}
use Rattle.std.proofs.lemmas.Bool.Decides.{nat_tests}
use Rattle.std.proofs.lemmas.List.{length-append}
use Rattle.std.specs.Io.KnownBytes.{Appends}
use Rattle.http_heads.specs.Messages.{Begins}
use Rattle.http_front.specs.Clocks.{Readings, Reads, standing_still}
use Rattle.http_front.specs.Held.{most_held}
use Rattle.http_front.specs.Reading.{ReadsNext}
use Rattle.http_front.specs.declared.read.Got.TheVariants as got
use Rattle.rest_json.specs.declared.terms.Terms.{Terms}
use Rattle.command_words.specs.declared.run_words.Pace.{Pace}
use Rattle.rest_answers.proofs.Linking.{appends_nothing, appends_twice}
use Rattle.rest_answers.specs.Texts.{printed}
use Rattle.serial_run.specs.Exchanges.{Exchange, LeadTo, moments_of, printed_replies, keeper_failures_of}
use Rattle.serial_run.specs.Exchanges.{host_failures_of}
use Rattle.serial_run.proofs.Along.{IsAlong, along_leads, along_more, along_none, along_reply, reads_twice}
use Rattle.serial_run.specs.declared.session.SessionEnd.{SessionEnd}
use Rattle.serial_run.specs.declared.session.SessionEnd.TheVariants as end
use Rattle.serial_run.specs.Most.{most_requests}
use Rattle.serial_run.specs.Sessions.{Session, Serves, ServesAll, Stops, CountsAt, StopsAfterFinal, AllGoOn}
use Rattle.serial_run.specs.Sessions.{OnlyFinalEnds, end_after_final}
use Rattle.serial_run.specs.Inputs.{requests_of}
use Rattle.serial_run.specs.Worlds.{SessionWorld, input}

-- ---- clocks

-- one that stands still tells the same after it was read
still_reads : (moment : ℕ) (xs : List ℕ) (told : Readings) → Reads (standing_still moment) xs told
    → told ≡ standing_still moment
still_reads moment [] told same = same
still_reads moment (x ∷ xs) told reads = still_reads moment xs told reads.1

-- ---- all requests together

-- What serving requests comes to in all: the bytes to come began with them, the sink took their replies in order, and
-- they led from the server before to the server after. No count of failures fell.
pub record Together (terms : Terms) (pace : Pace) (w : SessionWorld) (exchanges : List Exchange) (w' : SessionWorld) : Type 0 where
  pub read : IfSome (input w) (λ bytes. (rest : List ℕ) × Begins bytes (requests_of exchanges) rest
      × (input w' ≡ Some rest))
  pub written : Appends w.sink.held w'.sink.held (printed_replies terms exchanges)
  pub leads : LeadTo terms pace w.serial_world exchanges w'.serial_world
  pub along : IsAlong w.serial_world (moments_of exchanges) (keeper_failures_of exchanges) (host_failures_of exchanges) w'.serial_world
  pub reads : w.source.failures ≤ w'.source.failures
  pub writes : w.sink.failures ≤ w'.sink.failures

-- the bytes to come are as before
same_input : (known : Option (List ℕ)) (w : SessionWorld) → input w ≡ known
    → IfSome known (λ bytes. (rest : List ℕ) × Begins bytes [] rest × (input w ≡ Some rest))
same_input None w is = tt
same_input (Some bytes) w is = (bytes, refl, is)

-- no requests
none_together : (terms : Terms) (pace : Pace) (w : SessionWorld) → Together terms pace w [] w
none_together terms pace w = record {
  read = same_input (input w) w refl;
  written = appends_nothing w.sink.held;
  leads = refl;
  along = along_none w.serial_world;
  reads = omega arith;
  writes = omega arith;
}

-- the bytes to come began with a request, and then with more of them
reads_first : (next w' : SessionWorld) (e : Exchange) (more : List Exchange) (known : Option (List ℕ))
    → IfSome known (λ bytes. ReadsNext bytes (input next) next.held (got.Request e.request))
    → IfSome (input next) (λ bytes. (rest : List ℕ) × Begins bytes (requests_of more) rest × (input w' ≡ Some rest))
    → IfSome known (λ bytes. (rest : List ℕ) × Begins bytes (requests_of (e ∷ more)) rest × (input w' ≡ Some rest))
reads_first next w' e more None first then = tt
reads_first next w' e more (Some bytes) first then =
    let rests : (rest : List ℕ) × Begins first.0 (requests_of more) rest × (input w' ≡ Some rest) =
    subst (λ known. IfSome known (λ bytes. (rest : List ℕ) × Begins bytes (requests_of more) rest
    × (input w' ≡ Some rest))) first.2 then in
    (rests.0, (first.0, first.1, rests.1), rests.2)

-- one request, and then more of them
first_together : (terms : Terms) (pace : Pace) (w next w' : SessionWorld) (e : Exchange) (more : List Exchange)
    → Serves terms pace w next e → Together terms pace next more w'
    → Together terms pace w (e ∷ more) w'
first_together terms pace w next w' e more serves then = record {
  read = reads_first next w' e more (input w) serves.asked.next then.read;
  written = appends_twice w.sink.held next.sink.held w'.sink.held (printed e.reply terms e.request)
      (printed_replies terms more) serves.replied.written then.written;
  leads = (next.serial_world, serves.leads, then.leads);
  along = along_more e more (along_leads serves.leads) then.along;
  reads = omega (arith, serves.asked.later, then.reads);
  writes = omega (arith, serves.replied.later, then.writes);
}

-- all of them
pub together : (terms : Terms) (pace : Pace) (w w' : SessionWorld) (exchanges : List Exchange)
    → ServesAll terms pace w exchanges w' → Together terms pace w exchanges w'
together terms pace w w' [] same = subst (Together terms pace w []) same (none_together terms pace w)
together terms pace w w' (e ∷ more) serves =
    first_together terms pace w serves.0 w' e more serves.1 (together terms pace serves.0 w' more serves.2)

-- where the server is as before, the clock was not read
unread_reads : (w w' : SessionWorld) → w'.serial_world ≡ w.serial_world → (moments : List ℕ) × Reads w.serial_world.clock moments w'.serial_world.clock
unread_reads w w' same = ([], ap (λ v. v.clock) same)

-- the clock of a session gave the moments of its requests, and perhaps some more
stop_reads : (terms : Terms) (ends : SessionEnd) (w w' : SessionWorld) → Stops terms ends w w'
    → (moments : List ℕ) × Reads w.serial_world.clock moments w'.serial_world.clock
stop_reads terms end.Ended w w' stops = unread_reads w w' stops.1
stop_reads terms end.Cut w w' stops = unread_reads w w' stops.2
stop_reads terms (end.Malformed fault) w w' stops = unread_reads w w' stops.1
stop_reads terms end.ReadFault w w' stops = unread_reads w w' stops.1
stop_reads terms end.WriteFault w w' (inl stops) = (_, (along_reply terms w.serial_world w'.serial_world stops.0 stops.1.comes).clock)
stop_reads terms end.WriteFault w w' (inr stops) = unread_reads w w' stops.2
stop_reads terms end.Spent w w' same = unread_reads w w' (ap (λ v. v.serial_world) same)
stop_reads terms end.NoMemory w w' (inl stops) = unread_reads w w' stops.1
stop_reads terms end.NoMemory w w' (inr (inl stops)) = unread_reads w w' stops.2
stop_reads terms end.NoMemory w w' (inr (inr stops)) = (_, (along_reply terms w.serial_world w'.serial_world stops.0 stops.1.comes).clock)

-- a clock that stands still tells the same after a session
pub session_still : (terms : Terms) (pace : Pace) (moment : ℕ) (w w' : SessionWorld) (ends : SessionEnd)
    → w.serial_world.clock ≡ standing_still moment → Session terms pace w w' ends
    → w'.serial_world.clock ≡ standing_still moment
session_still terms pace moment w w' ends still s = by s.stops where
  all : Together terms pace w s.exchanges s.reached
  all = together terms pace w s.reached s.exchanges s.serves

  then : (told : Readings) (more : List ℕ) → Reads s.reached.serial_world.clock more told → told ≡ standing_still moment
  then told more reads = still_reads moment (moments_of s.exchanges ++ more) told
      (subst (λ known. Reads known (moments_of s.exchanges ++ more) told) still
      (reads_twice w.serial_world.clock s.reached.serial_world.clock told (moments_of s.exchanges) more all.along.clock reads))

  by : (AllGoOn s.exchanges × Stops terms ends s.reached w')
      ⊎ (OnlyFinalEnds s.exchanges × StopsAfterFinal ends × (w' ≡ s.reached)) → w'.serial_world.clock ≡ standing_still moment
  by (inl (going, stops)) = let reads : (moments : List ℕ)
      × Reads s.reached.serial_world.clock moments w'.serial_world.clock = stop_reads terms ends s.reached w' stops in
      then w'.serial_world.clock reads.0 reads.1
  by (inr (only, is, same)) = then w'.serial_world.clock [] (ap (λ v. v.serial_world.clock) same)

-- the buffer never holds more than it may
few_along : (terms : Terms) (pace : Pace) (w w' : SessionWorld) (exchanges : List Exchange) → length w.held ≤ most_held
    → ServesAll terms pace w exchanges w' → length w'.held ≤ most_held
few_along terms pace w w' [] few same = subst (λ v. length v.held ≤ most_held) same few
few_along terms pace w w' (e ∷ more) few serves = few_along terms pace serves.0 w' more serves.1.asked.few serves.2

few_at : (terms : Terms) (ends : SessionEnd) (w w' : SessionWorld) → Stops terms ends w w' → length w.held ≤ most_held
    → length w'.held ≤ most_held
few_at terms end.Ended w w' stops few = stops.0.few
few_at terms end.Cut w w' stops few = stops.1.few
few_at terms (end.Malformed fault) w w' stops few = stops.0.few
few_at terms end.ReadFault w w' stops few = stops.0.few
few_at terms end.WriteFault w w' (inl stops) few = stops.1.asked.few
few_at terms end.WriteFault w w' (inr stops) few = stops.1.few
few_at terms end.Spent w w' same few = subst (λ v. length v.held ≤ most_held) (sym same) few
few_at terms end.NoMemory w w' (inl stops) few = stops.0.few
few_at terms end.NoMemory w w' (inr (inl stops)) few = stops.1.few
few_at terms end.NoMemory w w' (inr (inr stops)) few = stops.1.asked.few

pub session_few : (terms : Terms) (pace : Pace) (w w' : SessionWorld) (ends : SessionEnd) → length w.held ≤ most_held
    → Session terms pace w w' ends → length w'.held ≤ most_held
session_few terms pace w w' ends few s = by s.stops where
  by : (AllGoOn s.exchanges × Stops terms ends s.reached w')
      ⊎ (OnlyFinalEnds s.exchanges × StopsAfterFinal ends × (w' ≡ s.reached)) → length w'.held ≤ most_held
  by (inl (going, stops)) = few_at terms ends s.reached w' stops (few_along terms pace w s.reached s.exchanges few s.serves)
  by (inr (only, is, same)) =
      subst (λ v. length v.held ≤ most_held) (sym same) (few_along terms pace w s.reached s.exchanges few s.serves)

-- ---- one more request

-- requests are served, and then one more
serves_one_more : (terms : Terms) (pace : Pace) (a b c : SessionWorld) (xs : List Exchange) (e : Exchange)
    → ServesAll terms pace a xs b → Serves terms pace b c e
    → ServesAll terms pace a (xs ++ e ∷ []) c
serves_one_more terms pace a b c [] e same serves = (c, subst (λ v. Serves terms pace v c e) (sym same) serves, refl)
serves_one_more terms pace a b c (x ∷ xs) e all serves =
    (all.0, all.1, serves_one_more terms pace all.0 b c xs e all.2 serves)

-- requests that go on, and then more of them, all go on
go_on_append : (xs ys : List Exchange) → AllGoOn xs → AllGoOn ys → AllGoOn (xs ++ ys)
go_on_append [] ys first then = then
go_on_append (x ∷ xs) ys first then = (first.0, go_on_append xs ys first.1 then)

-- a final request after requests that go on is the only one that ends its connection
only_final_append : (xs : List Exchange) (y : Exchange) → AllGoOn xs → y.request.last ≡ true
    → OnlyFinalEnds (xs ++ y ∷ [])
only_final_append [] y first last = last
only_final_append (x ∷ []) y first last = (first.0, last)
only_final_append (x ∷ z ∷ xs) y first last = (first.0, only_final_append (z ∷ xs) y first.1 last)

-- so far this many requests were served, and none of them was the last on its connection
pub record ServesSoFar (terms : Terms) (pace : Pace) (w w' : SessionWorld) (count : ℕ) : Type 0 where
  pub exchanges : List Exchange
  pub serves : ServesAll terms pace w exchanges w'
  pub going : AllGoOn exchanges
  pub counted : length exchanges ≡ count

-- none were served from any world to itself
pub none_so_far : (terms : Terms) (pace : Pace) (w : SessionWorld) → ServesSoFar terms pace w w 0
none_so_far terms pace w = record { exchanges = []; serves = refl; going = tt; counted = refl }

-- one more request was served, and goes on
pub one_more : (terms : Terms) (pace : Pace) (a b c : SessionWorld) (count : ℕ) → ServesSoFar terms pace a b count
    → (e : Exchange) × Serves terms pace b c e × (e.request.last ≡ false)
    → ServesSoFar terms pace a c (count + 1)
one_more terms pace a b c count far next = record {
  exchanges = far.exchanges ++ next.0 ∷ [];
  serves = serves_one_more terms pace a b c far.exchanges next.0 far.serves next.1;
  going = go_on_append far.exchanges (next.0 ∷ []) far.going (next.2, tt);
  counted = length-append far.exchanges (next.0 ∷ []) ∙ ap (λ n. n + 1) far.counted;
}

-- ---- stops

-- a session stops after requests that go on
pub session_stops : (terms : Terms) (pace : Pace) (a b c : SessionWorld) (count : ℕ) (ends : SessionEnd)
    → ServesSoFar terms pace a b count → count < most_requests
    → Stops terms ends b c × (ends ≢ end.Spent) → Session terms pace a c ends
session_stops terms pace a b c count ends far few stops = record {
  exchanges = far.exchanges;
  reached = b;
  serves = far.serves;
  counted = by ends stops.1;
  stops = inl (far.going, stops.0);
} where
  enough : length far.exchanges < most_requests
  enough = subst (λ n. n < most_requests) (sym far.counted) few

  by : (ends : SessionEnd) → (ends ≢ end.Spent) → CountsAt ends (length far.exchanges)
  by end.Ended isnt = enough
  by end.Cut isnt = enough
  by (end.Malformed fault) isnt = enough
  by end.ReadFault isnt = enough
  by end.WriteFault isnt = enough
  by end.NoMemory isnt = enough
  by end.Spent isnt = absurd (isnt refl)

-- a session stops after a final request
pub session_final : (terms : Terms) (pace : Pace) (a b c : SessionWorld) (count : ℕ) (ends : SessionEnd)
    → ServesSoFar terms pace a b count → count < most_requests
    → (e : Exchange) × Serves terms pace b c e × (e.request.last ≡ true) → ends ≡ end_after_final count
    → Session terms pace a c ends
session_final terms pace a b c count ends far few next is =
    subst (λ e. Session terms pace a c e) (sym is) (by (count + 1 == most_requests) refl) where
      all : List Exchange
      all = far.exchanges ++ next.0 ∷ []

      all_served : ServesAll terms pace a all c
      all_served = serves_one_more terms pace a b c far.exchanges next.0 far.serves next.1

      length_all : length all ≡ count + 1
      length_all = length-append far.exchanges (next.0 ∷ []) ∙ ap (λ n. n + 1) far.counted

      only : OnlyFinalEnds all
      only = only_final_append far.exchanges next.0 far.going next.2

      by : (full : Bool) → (count + 1 == most_requests) ≡ full → Session terms pace a c (end_after_final count)
      by true is = rw is (record {
        exchanges = all;
        reached = c;
        serves = all_served;
        counted = length_all
            ∙ eqb-true _ _ is;
        stops = inr (only, tt, refl);
      })
      by false is = rw is (record {
        exchanges = all;
        reached = c;
        serves = all_served;
        counted = subst (λ n. n < most_requests) (sym length_all) (below is);
        stops = inr (only, tt, refl);
      }) where
        below : (count + 1 == most_requests) ≡ false → count + 1 < most_requests
        below no_full = grind (arith, nat_tests)

-- a session stops where it has answered all that it may
pub session_spent : (terms : Terms) (pace : Pace) (a b : SessionWorld) → ServesSoFar terms pace a b most_requests
    → Session terms pace a b end.Spent
session_spent terms pace a b far = record {
  exchanges = far.exchanges;
  reached = b;
  serves = far.serves;
  counted = far.counted;
  stops = inl (far.going, refl);
}
