-- What a buffer takes in, and what one call of `read_request` answers of it.
use Rattle.std.proofs.Common.{◌≡◌, ℕ, ◌+◌, ◌-◌, ◌<◌, ◌≤◌, Bool, List, ◌++◌, length, take, Option, Some, None, IfSome, refl, sym, ap, ◌∙◌, subst, ◌⊎◌, inl, inr, append_assoc, append-nil}
use Rattle.std.specs.Io.KnownBytes.{prepend_known, Consumes}
use Rattle.std.proofs.lemmas.List.{take_all, take-append-le}
use Rattle.http_heads.specs.Limits.{max_head}
use Rattle.http_heads.specs.declared.search.Search.{Search}
use Rattle.http_heads.specs.Search.{HasSearched}
use Rattle.http_heads.proofs.SearchLemmas.{HasSearched-append}
use Rattle.http_heads.proofs.LengthLemmas.{take-append}
use Rattle.http_front.specs.declared.read.Stop.{Stop}
use Rattle.http_front.specs.declared.read.Stop.TheVariants as stop
use Rattle.http_heads.proofs.MessageLemmas.{IsUnfinished-of_none, IsMessage-append, IsMalformed-append}
use Rattle.http_front.specs.declared.read.Got.TheVariants as got
use Rattle.http_front.specs.Reading.{IsUnfinished, KeepsHeld, ReadsNext}
use Rattle.http_front.proofs.StreamLemmas.{consumes_twice}
use Rattle.http_heads.specs.declared.head.Head.{Head}
use Rattle.http_heads.specs.declared.request.Request.{Request}
use Rattle.http_heads.specs.Heads.{head_len, after_blank, head_bytes}
use Rattle.http_heads.specs.Messages.{HasHead, IsMessage, IsBlank, IsCut, IsMalformed}
use Rattle.http_heads.specs.Readings.{Says}
use Rattle.http_heads.proofs.LengthLemmas.{head_len-append}
use Rattle.http_front.specs.Held.{TakesIn, IsHeadAwaited, IsReadStop, Stops, StopsBefore, Takes, got_of}

-- taking in, and then taking in more
pub TakesIn-further : {a b c : List ℕ} {l m n : Option (List ℕ)} → TakesIn a b l m → TakesIn b c m n → TakesIn a c l n
TakesIn-further {a} {l} {m} {n} h k = record {
  more = h.more ++ k.more;
  grown = k.grown ∙ ap (λ x. x ++ k.more) h.grown ∙ append_assoc a h.more k.more;
  from = consumes_twice l m n h.more k.more h.from k.from;
}

-- the search goes on where more bytes have come
pub HasSearched-front : {s : Search} (bytes more : List ℕ) → length bytes ≤ max_head → HasSearched s (take max_head bytes)
    → HasSearched s (take max_head (bytes ++ more))
HasSearched-front {s} bytes more short h =
    let all : HasSearched s bytes = subst (HasSearched s) (take_all max_head bytes short) h in
    subst (HasSearched s) (sym (take-append max_head bytes more short)) (HasSearched-append s bytes (take (max_head - length bytes) more) all)

-- a read that failed leaves what was held, in which no message is whole
pub IsReadStop-stops : (held : List ℕ) (has_ended : Bool) (left : Option (List ℕ)) (s : Stop) → IsReadStop s → IsUnfinished held → Stops held has_ended left s
IsReadStop-stops held has_ended left stop.End h unfinished = absurd h
IsReadStop-stops held has_ended left (stop.Cut n) h unfinished = absurd h
IsReadStop-stops held has_ended left (stop.Malformed fault) h unfinished = absurd h
IsReadStop-stops held has_ended left stop.ReadFault h unfinished = unfinished
IsReadStop-stops held has_ended left stop.NoMemory h unfinished = tt

-- the search goes on in what the buffer has taken in
pub HasSearched-taken : {s : Search} {old new : List ℕ} {l m : Option (List ℕ)} → TakesIn old new l m → length old ≤ max_head
    → HasSearched s (take max_head old) → HasSearched s (take max_head new)
HasSearched-taken {s} {old} h short searched =
    subst (λ b. HasSearched s (take max_head b)) (sym h.grown) (HasSearched-front old h.more short searched)

-- ---- a whole head, while its body comes

pub head_len-taken : {len : ℕ} {old new : List ℕ} {l m : Option (List ℕ)} → TakesIn old new l m → head_len old ≡ Some len → head_len new ≡ Some len
head_len-taken {len} {old} h ends = subst (λ b. head_len b ≡ Some len) (sym h.grown) (head_len-append old h.more len ends)

pub Says-taken : {old new : List ℕ} {l m : Option (List ℕ)} {head : Head} (len : ℕ) → TakesIn old new l m → len ≤ length old
    → Says (head_bytes len old) head → Says (head_bytes len new) head
Says-taken {old} {new} {head} len h within says =
    let front : take len new ≡ take len old = ap (take len) h.grown ∙ take-append-le len old h.more within in
    subst (λ f. Says (after_blank f) head) (sym front) says

-- a head with its fields, as the definitions have it
pub HasHead-says : {bytes : List ℕ} {head : Head} (len : ℕ) → head_len bytes ≡ Some len → (says : Says (head_bytes len bytes) head) → HasHead bytes len says.head
HasHead-says len ends says = record { ends = ends; is = says.is }

pub IsCut-says : {bytes : List ℕ} {head : Head} (len : ℕ) → head_len bytes ≡ Some len → Says (head_bytes len bytes) head → length bytes < len + head.body → IsCut bytes
IsCut-says {head} len ends says short =
    inr (record { len = len; head = says.head; body = head.body; has = HasHead-says len ends says; framed = says.framed; short = short })

-- a read that stopped in a body
pub StopsBefore-stops : (end : ℕ) (held : List ℕ) (has_ended : Bool) (left : Option (List ℕ)) (s : Stop)
    → StopsBefore end held has_ended left s → (length held < end → IsCut held) → Stops held has_ended left s
StopsBefore-stops end held has_ended left stop.End h is_cut = absurd h
StopsBefore-stops end held has_ended left (stop.Cut n) h is_cut = (is_cut h.0, h.1, h.2)
StopsBefore-stops end held has_ended left (stop.Malformed fault) h is_cut = absurd h
StopsBefore-stops end held has_ended left stop.ReadFault h is_cut = inr (is_cut h)
StopsBefore-stops end held has_ended left stop.NoMemory h is_cut = tt

-- ---- where the source was read, no message was whole

pub ahead-head : {T : Type 0} {s s' : T} {b b' : List ℕ} → ((s' ≡ s) × (b' ≡ b)) ⊎ IsHeadAwaited b → (s' ≡ s) ⊎ IsUnfinished b
ahead-head (inl same) = inl same.0
ahead-head {b} (inr awaited) = inr (IsUnfinished-of_none b awaited.0 awaited.1)

pub ahead-body : {T : Type 0} {s s' s'' : T} {b b' : List ℕ} {head : Head} (len : ℕ) → ((s' ≡ s) × (b' ≡ b)) ⊎ IsHeadAwaited b
    → head_len b' ≡ Some len → Says (head_bytes len b') head → (s'' ≡ s') ⊎ (length b' < len + head.body) → (s'' ≡ s) ⊎ IsUnfinished b
ahead-body {b} len (inr awaited) ends says body = inr (IsUnfinished-of_none b awaited.0 awaited.1)
ahead-body len (inl same) ends says (inl untouched) = inl (untouched ∙ same.0)
ahead-body len (inl same) ends says (inr short) = inr (subst IsUnfinished same.1 (inr (IsCut-says len ends says short)))

-- a request that is taken out of what was held and taken in
pub Takes-taken : {old middle new : List ℕ} {l m : Option (List ℕ)} {request : Request} → TakesIn old middle l m → IsMessage middle request new
    → Takes old new l m request
Takes-taken {new} {request} h is = record { more = h.more; is = subst (λ b. IsMessage b request new) h.grown is; from = h.from }

-- ---- the answer, told of the bytes to come

pub next-request : {old new : List ℕ} {l m : Option (List ℕ)} {request : Request} → Takes old new l m request
    → IfSome (prepend_known old l) (λ bytes. ReadsNext bytes (prepend_known new m) new (got.Request request))
next-request {old} {new} {l} {m} {request} h = by_left l m h.from
  where
    by_left : (known rest : Option (List ℕ)) → Consumes known rest h.more
        → IfSome (prepend_known old known) (λ bytes. ReadsNext bytes (prepend_known new rest) new (got.Request request))
    by_left None rest from = tt
    by_left (Some xs) None from = absurd from
    by_left (Some xs) (Some ys) from =
        rw from (new ++ ys, subst (λ b. IsMessage b request (new ++ ys)) (append_assoc old h.more ys) (IsMessage-append ys h.is), refl)

stop_next : (held ys bytes : List ℕ) (has_ended : Bool) (s : Stop) → bytes ≡ held ++ ys → Stops held has_ended (Some ys) s
    → ReadsNext bytes (Some (held ++ ys)) held (got_of s)
stop_next held ys bytes has_ended stop.End e h =
    let all : bytes ≡ held = e ∙ ap (λ r. held ++ r) h.1.none ∙ append-nil held in (subst IsBlank (sym all) h.0, ap Some (sym e), sym all)
stop_next held ys bytes has_ended (stop.Cut n) e h =
    let all : bytes ≡ held = e ∙ ap (λ r. held ++ r) h.2.none ∙ append-nil held in
    (subst IsCut (sym all) h.0, ap Some (sym e), sym all, h.1 ∙ ap length (sym all))
stop_next held ys bytes has_ended (stop.Malformed fault) e h =
    (subst (λ b. IsMalformed b fault) (sym e) (IsMalformed-append held fault ys h), ap Some (sym e))
stop_next held ys bytes has_ended stop.ReadFault e h = (h, ap Some (sym e))
stop_next held ys bytes has_ended stop.NoMemory e h = ap Some (sym e)

pub next-stop : {old new : List ℕ} {l m : Option (List ℕ)} (has_ended : Bool) (s : Stop) → TakesIn old new l m → Stops new has_ended m s
    → IfSome (prepend_known old l) (λ bytes. ReadsNext bytes (prepend_known new m) new (got_of s))
next-stop {old} {new} {l} {m} has_ended s h stops = by_left l m h.from stops
  where
    by_left : (known rest : Option (List ℕ)) → Consumes known rest h.more → Stops new has_ended rest s
        → IfSome (prepend_known old known) (λ bytes. ReadsNext bytes (prepend_known new rest) new (got_of s))
    by_left None rest from k = tt
    by_left (Some xs) None from k = absurd from
    by_left (Some xs) (Some ys) from k =
        let whole : old ++ (h.more ++ ys) ≡ new ++ ys = sym (append_assoc old h.more ys) ∙ ap (λ b. b ++ ys) (sym h.grown) in
        rw from (stop_next new ys (old ++ (h.more ++ ys)) has_ended s whole k)

-- ---- the answer, told of the bytes held

pub held-request : {old new : List ℕ} {l m : Option (List ℕ)} {request : Request} → Takes old new l m request → KeepsHeld old new (got.Request request)
held-request h = (h.more, h.is)

pub held-stop : {old new : List ℕ} {l m : Option (List ℕ)} (has_ended : Bool) (s : Stop) → TakesIn old new l m → Stops new has_ended m s → KeepsHeld old new (got_of s)
held-stop has_ended stop.End h stops = (h.more, h.grown, stops.0)
held-stop has_ended (stop.Cut n) h stops = (h.more, h.grown, stops.0, stops.1)
held-stop has_ended (stop.Malformed fault) h stops = (h.more, h.grown, stops)
held-stop has_ended stop.ReadFault h stops = (h.more, h.grown, stops)
held-stop has_ended stop.NoMemory h stops = (h.more, h.grown)
