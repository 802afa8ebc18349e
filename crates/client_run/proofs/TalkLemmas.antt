-- How requests and replies add up to a whole command.
use Rattle.std.proofs.Common.{◌≡◌, ℕ, ◌+◌, ◌<◌, min, Bool, List, [], ◌∷◌, ◌++◌, length, take, drop, Option, Some, None, Ok, Err, refl, sym, ap, ◌∙◌, subst, arith, append-nil, append_assoc, length-drop}
use Rattle.std.proofs.lemmas.List.{drop-drop, take-append-le, take_min}
use Rattle.std.proofs.lemmas.List.Folds.{concat-append}
use Rattle.std.proofs.Math.Seq.{take-length, take-append-add}
use Rattle.std.specs.List.{concat}
use Rattle.std.specs.Io.KnownBytes.{Appends, Consumes}
use Rattle.http_front.specs.Held.{TakesIn}
use Rattle.http_front.proofs.StreamLemmas.{consumes_twice, appends_twice}
use Rattle.client_replies.specs.Forms.{Told}
use Rattle.client_replies.specs.Replies.{Begins}
use Rattle.client_replies.proofs.ListLemmas.{Begins-append, Begins-more}
use Rattle.client_words.specs.declared.words.ClientWords.{ClientWords}
use Rattle.client_steps.specs.Legs.{first_request, legs_of}
use Rattle.client_steps.specs.Runs.{requests_from, requests_of, sent_behind, ending_from, ending_of, ended_behind}
use Rattle.client_words.specs.declared.words.Asks.{Asks}
use Rattle.client_words.specs.declared.words.Asks.TheVariants as asks
use Rattle.client_steps.specs.Steps.{next_of, StaysWithin}
use Rattle.client_steps.specs.declared.legs.Leg.{Leg}
use Rattle.client_steps.specs.declared.steps.Next.{Next}
use Rattle.client_steps.specs.declared.steps.Next.TheVariants.{End, Send}
use Rattle.client_run.specs.Receiving.{TakesReply, StopsAt}
use Rattle.client_run.specs.Talks.{Reads, SendsSome, Answered, Halts, Going, Talked}
use Rattle.client_run.specs.declared.receive.Stop.{Stop}
use Rattle.client_run.specs.declared.receive.Stop.TheVariants as stop
use Rattle.client_run.specs.declared.talk.Ending.{Ending}

-- ---- what is read

pub reads_none : (left : Option (List ℕ)) → Reads [] [] left left []
reads_none left = record { more = []; from = at left; begins = refl }
  where
    at : (l : Option (List ℕ)) → Consumes l l []
    at None = tt
    at (Some bytes) = refl

Reads-of_takes : {old new : List ℕ} {l m : Option (List ℕ)} → TakesIn old new l m → Reads old new l m []
Reads-of_takes h = record { more = h.more; from = h.from; begins = h.grown }

pub Reads-of_reply : {old new : List ℕ} {l m : Option (List ℕ)} {t : Told} → TakesReply old new l m t → Reads old new l m (t ∷ [])
Reads-of_reply h = record { more = h.more; from = h.from; begins = (h.len, h.is, h.rest) }

Reads-further : {a b c : List ℕ} {l m n : Option (List ℕ)} {ts us : List Told} → Reads a b l m ts → Reads b c m n us → Reads a c l n (ts ++ us)
Reads-further {a} {b} {c} {l} {m} {n} {ts} {us} h k = record {
  more = h.more ++ k.more;
  from = consumes_twice l m n h.more k.more h.from k.from;
  begins = subst (λ bytes. Begins bytes (ts ++ us) c) (append_assoc a h.more k.more)
      (Begins-append (a ++ h.more ++ k.more) (b ++ k.more) c ts us (Begins-more (a ++ h.more) b k.more ts h.begins) k.begins);
}

-- ---- what is sent

whole_sent : {k k' : Option (List ℕ)} {bytes : List ℕ} → Appends k k' bytes → SendsSome k k' bytes
whole_sent {k} {k'} {bytes} h = record { count = length bytes; written = subst (Appends k k') (sym (take-length bytes)) h }

pub none_written : (k : Option (List ℕ)) → Appends k k []
none_written None = tt
none_written (Some bytes) = sym (append-nil bytes)

pub none_sent : (k : Option (List ℕ)) (bytes : List ℕ) → SendsSome k k bytes
none_sent k bytes = record { count = 0; written = none_written k }

sent_after : {k k' k'' : Option (List ℕ)} (a : List ℕ) {b : List ℕ} → Appends k k' a → SendsSome k' k'' b → SendsSome k k'' (a ++ b)
sent_after {k} {k'} {k''} a {b} first some = record {
  count = length a + some.count;
  written = subst (Appends k k'') (sym (take-append-add a b some.count)) (appends_twice k k' k'' a (take some.count b) first some.written);
}

sent_of_more : {k k' : Option (List ℕ)} {a : List ℕ} (b : List ℕ) → SendsSome k k' a → SendsSome k k' (a ++ b)
sent_of_more {k} {k'} {a} b some = record {
  count = min some.count (length a);
  written = subst (Appends k k')
      (sym (take_min some.count a) ∙ sym (take-append-le (min some.count (length a)) a b (omega arith))) some.written;
}

-- ---- where a turn stops

pub halts_at_reply : {old new : List ℕ} {l m : Option (List ℕ)} (k k' : Option (List ℕ)) (request : List ℕ) (ended : Bool) (s : Stop)
    → TakesIn old new l m → StopsAt new ended m s → Appends k k' request → Halts request old new l m ended k k' s
halts_at_reply k k' request ended stop.Malformed takes stops written = (Reads-of_takes takes, written, stops)
halts_at_reply k k' request ended stop.LinkFailed takes stops written = (Reads-of_takes takes, whole_sent written)
halts_at_reply k k' request ended stop.NoMemory takes stops written = ([], Reads-of_takes takes, whole_sent written)

pub halts_at_step : {old new : List ℕ} {l m : Option (List ℕ)} (k k' : Option (List ℕ)) (request : List ℕ) {t : Told} (ended : Bool) (s : Stop)
    → TakesReply old new l m t → Appends k k' request → s ≡ stop.NoMemory → Halts request old new l m ended k k' s
halts_at_step {old} {new} {l} {m} k k' request {t} ended s takes written is =
    subst (Halts request old new l m ended k k') (sym is) (t ∷ [], Reads-of_reply takes, whole_sent written)

-- ---- what follows on a reply

sent_on : (words : ClientWords) (legs : List Leg) (t : Told) (request r : List ℕ) (later : List Told) → next_of words legs t ≡ Send r
    → requests_from words legs request (t ∷ later) ≡ request ∷ requests_from words (drop 1 legs) r later
sent_on words [] t request r later e = cc
sent_on words (leg ∷ more) t request r later e =
    ap (λ next. request ∷ sent_behind next (λ following. requests_from words more following later)) e

ended_on : (words : ClientWords) (legs : List Leg) (t : Told) (r : List ℕ) (later : List Told) → next_of words legs t ≡ Send r
    → ending_from words legs (t ∷ later) ≡ ending_from words (drop 1 legs) later
ended_on words [] t r later e = cc
ended_on words (leg ∷ more) t r later e = ap (λ next. ended_behind next (ending_from words more later)) e

sent_at : (words : ClientWords) (legs : List Leg) (t : Told) (request text : List ℕ) (status : ℕ) → next_of words legs t ≡ End text status
    → requests_from words legs request (t ∷ []) ≡ request ∷ []
sent_at words [] t request text status e = refl
sent_at words (leg ∷ more) t request text status e =
    ap (λ next. request ∷ sent_behind next (λ following. requests_from words more following [])) e

ended_at : (words : ClientWords) (legs : List Leg) (t : Told) (text : List ℕ) (status : ℕ) → 0 < length legs → next_of words legs t ≡ End text status
    → ending_from words legs (t ∷ []) ≡ Some (text, status)
ended_at words [] t text status some e = absurd (omega (arith, some))
ended_at words (leg ∷ more) t text status some e = ap (λ next. ended_behind next (ending_from words more [])) e

first_of_them : (words : ClientWords) (legs : List Leg) (request : List ℕ) (later : List Told)
    → (rest : List (List ℕ)) × (requests_from words legs request later ≡ request ∷ rest)
first_of_them words legs request [] = ([], refl)
first_of_them words [] request (t ∷ later) = ([], refl)
first_of_them words (leg ∷ more) request (t ∷ later) =
    (sent_behind (next_of words (leg ∷ more) t) (λ following. requests_from words more following later), refl)

concat_one : (request : List ℕ) → concat (request ∷ []) ≡ request
concat_one request = append-nil request

-- ---- a command that goes on

pub going_first : (words : ClientWords) (left sent : Option (List ℕ)) → Going words left left sent sent [] 0 (first_request words (legs_of words.asks))
going_first words left sent = record {
  replies = [];
  reads = reads_none left;
  requests = [];
  written = none_written sent;
  onward = λ later. refl;
  ending = λ later. refl;
}

written_more : (sent k k' : Option (List ℕ)) (request : List ℕ) (requests : List (List ℕ)) → Appends sent k (concat requests) → Appends k k' request
    → Appends sent k' (concat (requests ++ request ∷ []))
written_more sent k k' request requests first then =
    subst (Appends sent k') (ap (λ l. concat requests ++ l) (sym (concat_one request)) ∙ sym (concat-append requests (request ∷ [])))
    (appends_twice sent k k' (concat requests) request first then)

pub going_on : {words : ClientWords} {left m m' sent k k' : Option (List ℕ)} {held held' request : List ℕ} {answered : ℕ} (r : List ℕ)
    → Going words left m sent k held answered request
    → (a : Answered (drop answered (legs_of words.asks)) words request held held' m m' k k' (Send r))
    → Going words left m' sent k' held' (answered + 1) r
going_on {words} {left} {m} {m'} {sent} {k} {k'} {held} {held'} {request} {answered} r g a =
    let legs = drop answered (legs_of words.asks) in
    let next = drop-drop 1 answered (legs_of words.asks) in
    record {
      replies = g.replies ++ a.tells ∷ [];
      reads = Reads-further g.reads a.reads;
      requests = g.requests ++ request ∷ [];
      written = written_more sent k k' request g.requests g.written a.written;
      onward = λ later.
          ap (requests_of words) (append_assoc g.replies (a.tells ∷ []) later)
          ∙ g.onward (a.tells ∷ later)
          ∙ ap (λ l. g.requests ++ l)
          (sent_on words legs a.tells request r later (sym a.is) ∙ ap (λ l. request ∷ requests_from words l r later) next)
          ∙ sym (append_assoc g.requests (request ∷ []) (requests_from words (drop (answered + 1) (legs_of words.asks)) r later));
      ending = λ later.
          ap (ending_of words) (append_assoc g.replies (a.tells ∷ []) later)
          ∙ g.ending (a.tells ∷ later)
          ∙ ended_on words legs a.tells r later (sym a.is)
          ∙ ap (λ l. ending_from words l later) next;
    }

-- ---- a command that has ended

pub talked_nothing : (words : ClientWords) (left sent : Option (List ℕ)) (ended : Bool) → Talked words left left ended sent sent (Err stop.NoMemory)
talked_nothing words left sent ended = record {
  replies = [];
  rest = [];
  reads = reads_none left;
  sends = none_sent sent (concat (requests_of words []));
  ends = tt;
}

pub talked_end : {words : ClientWords} {left m m' sent k k' : Option (List ℕ)} {held held' request : List ℕ} {answered : ℕ} (ended : Bool) (e : Ending)
    → Going words left m sent k held answered request → answered < length (legs_of words.asks)
    → Answered (drop answered (legs_of words.asks)) words request held held' m m' k k' (End e.text e.status)
    → Talked words left m' ended sent k' (Ok e)
talked_end {words} {left} {m} {m'} {sent} {k} {k'} {held} {held'} {request} {answered} ended e g within a =
    let legs = drop answered (legs_of words.asks) in
    let all : requests_of words (g.replies ++ a.tells ∷ []) ≡ g.requests ++ request ∷ [] =
    g.onward (a.tells ∷ []) ∙ ap (λ l. g.requests ++ l) (sent_at words legs a.tells request e.text e.status (sym a.is)) in
    record {
      replies = g.replies ++ a.tells ∷ [];
      rest = held';
      reads = Reads-further g.reads a.reads;
      sends = subst (λ l. Appends sent k' (concat l)) (sym all) (written_more sent k k' request g.requests g.written a.written);
      ends = g.ending (a.tells ∷ []) ∙ ended_at words legs a.tells e.text e.status (omega (arith, within, length-drop answered (legs_of words.asks))) (sym a.is);
    }

-- what was sent is some of the first of what is sent on these replies
sends_some : {words : ClientWords} {left m sent k k' : Option (List ℕ)} {held request : List ℕ} {answered : ℕ} (replies : List Told)
    → (g : Going words left m sent k held answered request) → SendsSome k k' request
    → SendsSome sent k' (concat (requests_of words (g.replies ++ replies)))
sends_some {words} {left} {m} {sent} {k} {k'} {held} {request} {answered} replies g some =
    let first = first_of_them words (drop answered (legs_of words.asks)) request replies in
    let all : requests_of words (g.replies ++ replies) ≡ g.requests ++ request ∷ first.0 =
    g.onward replies ∙ ap (λ l. g.requests ++ l) first.1 in
    subst (SendsSome sent k') (sym (ap concat all ∙ concat-append g.requests (request ∷ first.0)))
    (sent_after (concat g.requests) g.written (sent_of_more (concat first.0) some))

sends_all : {words : ClientWords} {left m sent k : Option (List ℕ)} (k' : Option (List ℕ)) {held request : List ℕ} {answered : ℕ}
    → (g : Going words left m sent k held answered request) → Appends k k' request
    → Appends sent k' (concat (requests_of words (g.replies ++ [])))
sends_all {words} {left} {m} {sent} {k} k' {held} {request} g written =
    subst (λ l. Appends sent k' (concat l)) (sym (g.onward [])) (written_more sent k k' request g.requests g.written written)

pub talked_halt : {words : ClientWords} {left m m' sent k k' : Option (List ℕ)} {held : List ℕ} (held' : List ℕ) {request : List ℕ} {answered : ℕ} (ended : Bool) (s : Stop)
    → Going words left m sent k held answered request → Halts request held held' m m' ended k k' s
    → Talked words left m' ended sent k' (Err s)
talked_halt {k' = k'} held' ended stop.Malformed g h = record {
  replies = g.replies ++ [];
  rest = held';
  reads = Reads-further g.reads h.0;
  sends = sends_all k' g h.1;
  ends = (g.ending [], h.2);
}
talked_halt {k' = k'} held' ended stop.LinkFailed g h = record {
  replies = g.replies ++ [];
  rest = held';
  reads = Reads-further g.reads h.0;
  sends = sends_some [] g h.1;
  ends = g.ending [];
}
talked_halt {k' = k'} held' ended stop.NoMemory g h = record {
  replies = g.replies ++ h.0;
  rest = held';
  reads = Reads-further g.reads h.1;
  sends = sends_some h.0 g h.2;
  ends = tt;
}

-- ---- by what follows

pub going_sent : {words : ClientWords} {left m m' sent k k' : Option (List ℕ)} {held held' request : List ℕ} {answered : ℕ} (next : Next) (r : List ℕ)
    → next ≡ Send r → Going words left m sent k held answered request
    → Answered (drop answered (legs_of words.asks)) words request held held' m m' k k' next
    → Going words left m' sent k' held' (answered + 1) r
going_sent {words} {left} {m} {m'} {sent} {k} {k'} {held} {held'} {request} {answered} next r is g a =
    going_on r g (subst (Answered (drop answered (legs_of words.asks)) words request held held' m m' k k') is a)

pub within_sent : (count answered : ℕ) (next : Next) (r : List ℕ) → next ≡ Send r → StaysWithin count answered next → answered + 1 < count
within_sent count answered next r is h = subst (StaysWithin count answered) is h

pub talked_ended : {words : ClientWords} {left m m' sent k k' : Option (List ℕ)} {held held' request : List ℕ} {answered : ℕ} (ended : Bool) (next : Next) (e : Ending)
    → next ≡ End e.text e.status → Going words left m sent k held answered request → answered < length (legs_of words.asks)
    → Answered (drop answered (legs_of words.asks)) words request held held' m m' k k' next
    → Talked words left m' ended sent k' (Ok e)
talked_ended {words} {left} {m} {m'} {sent} {k} {k'} {held} {held'} {request} {answered} ended next e is g within a =
    talked_end ended e g within (subst (Answered (drop answered (legs_of words.asks)) words request held held' m m' k k') is a)

-- each command has a request
pub legs_some : (a : Asks) → 0 < length (legs_of a)
legs_some (asks.List filter) = omega arith
legs_some (asks.Launch name) = omega arith
legs_some (asks.Start name) = omega arith
legs_some (asks.Stop name) = omega arith
legs_some (asks.Delete name) = omega arith
legs_some (asks.Wait id) = omega arith
legs_some (asks.Cancel id) = omega arith
legs_some asks.Limits = omega arith
