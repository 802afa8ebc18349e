-- Bytes that are taken in before a request is read, and what they tell of leave.
use Rattle.std.proofs.Common.{◌≡◌, ℕ, ◌-◌, Bool, false, true, List, [], ◌++◌, length, take, drop, Option, Some, None, IfSome, is_some, sym, ap, ◌∙◌, subst, ◌⊎◌, inl, inr, append_assoc, append-nil, refl}
use Rattle.std.specs.Io.KnownBytes.{prepend_known, Consumes}
use Rattle.http_heads.specs.Fields.{leave_due}
use Rattle.http_heads.specs.Heads.{head_len, head_bytes, after_blank}
use Rattle.http_heads.specs.Messages.{IsMessage, TellsLeave}
use Rattle.http_heads.specs.Readings.{TellsExpects}
use Rattle.http_heads.proofs.MessageLemmas.{IsUnfinished-of_none}
use Rattle.http_heads.proofs.SearchLemmas.{rest_of_slice}
use Rattle.http_heads.proofs.LeaveLemmas.{TellsLeave-append, TellsLeave-blank, TellsLeave-head, TellsLeave-malformed, TellsLeave-message, TellsLeave-none, TellsLeave-unique}
use Rattle.http_front.specs.declared.read.Got.{Got}
use Rattle.http_front.specs.declared.read.Got.TheVariants as got
use Rattle.http_front.specs.declared.read.Stop.{Stop}
use Rattle.http_front.specs.declared.read.Stop.TheVariants as stop
use Rattle.http_front.specs.Held.{IsHeadAwaited, TakesIn, got_of}
use Rattle.http_front.specs.Known.{Known, plain_request}
use Rattle.http_front.specs.Leave.{LeaveFor, ToldLeave}
use Rattle.http_front.specs.Reading.{IsUnfinished, KeepsHeld}
use Rattle.http_front.proofs.KnownLemmas.{consumes-none}

-- nothing is taken in
pub TakesIn-none : (held : List ℕ) (left : Option (List ℕ)) → TakesIn held held left left
TakesIn-none held left = record { more = []; grown = sym (append-nil held); from = consumes-none left }

-- ---- a request is read after bytes were taken in

-- the bytes to come are the same
pub input-after : {old mid : List ℕ} {l m : Option (List ℕ)} (P : List ℕ → Type 0) → TakesIn old mid l m → IfSome (prepend_known mid m) P
    → IfSome (prepend_known old l) P
input-after {old} {mid} {l} {m} P h is = by_left l m h.from is
  where
    by_left : (known rest : Option (List ℕ)) → Consumes known rest h.more → IfSome (prepend_known mid rest) P → IfSome (prepend_known old known) P
    by_left None rest from k = tt
    by_left (Some xs) None from k = absurd from
    by_left (Some xs) (Some ys) from k =
        let whole : mid ++ ys ≡ old ++ (h.more ++ ys) = ap (λ b. b ++ ys) h.grown ∙ append_assoc old h.more ys in
        rw from (subst P whole k)

grown_twice : {old mid : List ℕ} {l m : Option (List ℕ)} (more : List ℕ) (h : TakesIn old mid l m) → mid ++ more ≡ old ++ (h.more ++ more)
grown_twice {old} more h = ap (λ b. b ++ more) h.grown ∙ append_assoc old h.more more

-- the answer told of the bytes held is the same
pub held-after : {old mid : List ℕ} {l m : Option (List ℕ)} (new : List ℕ) (answer : Got) → TakesIn old mid l m → KeepsHeld mid new answer
    → KeepsHeld old new answer
held-after new (got.Request message) h k = (h.more ++ k.0, subst (λ b. IsMessage b message new) (grown_twice k.0 h) k.1)
held-after new got.End h k = (h.more ++ k.0, k.1 ∙ grown_twice k.0 h, k.2)
held-after new (got.Cut n) h k = (h.more ++ k.0, k.1 ∙ grown_twice k.0 h, k.2, k.3)
held-after new (got.Malformed fault) h k = (h.more ++ k.0, k.1 ∙ grown_twice k.0 h, k.2)
held-after new got.ReadFault h k = (h.more ++ k.0, k.1 ∙ grown_twice k.0 h, k.2)
held-after new got.NoMemory h k = (h.more ++ k.0, k.1 ∙ grown_twice k.0 h)

-- where the source was read, no head was whole, and so no message
pub ahead-unfinished : {T : Type 0} {s s' : T} {b b' : List ℕ} → ((s' ≡ s) × (b' ≡ b)) ⊎ IsHeadAwaited b → ((s' ≡ s) × (b' ≡ b)) ⊎ IsUnfinished b
ahead-unfinished (inl same) = inl same
ahead-unfinished {b} (inr awaited) = inr (IsUnfinished-of_none b awaited.0 awaited.1)

pub ahead-after : {T : Type 0} {s s' s'' : T} {old mid : List ℕ} → ((s' ≡ s) × (mid ≡ old)) ⊎ IsUnfinished old → (s'' ≡ s') ⊎ IsUnfinished mid
    → (s'' ≡ s) ⊎ IsUnfinished old
ahead-after (inr waits) later = inr waits
ahead-after (inl same) (inl untouched) = inl (untouched ∙ same.0)
ahead-after (inl same) (inr waits) = inr (subst IsUnfinished same.1 waits)

-- ---- leave

not_due : (refuses : Bool) → leave_due refuses false false ≡ false
not_due refuses = refl

told_message : (refuses : Bool) {bytes rest : List ℕ} {known : Known} → IsMessage bytes (plain_request known) rest → ToldLeave refuses bytes false
told_message refuses {bytes} is = record {
  len = is.len;
  ends = is.has.ends;
  tells = subst (TellsLeave refuses bytes) (not_due refuses) (TellsLeave-message refuses is);
}

-- what the known head tells, where the bytes that are held begin with it
pub told-known : (refuses : Bool) (start : ℕ) (bytes items held : List ℕ) (found : Option ℕ) (known : Known) → bytes ≡ items → drop start items ≡ held
    → (let front = take (length bytes - start) (drop start bytes) in IfSome found (λ len. IsMessage front (plain_request known) (drop len front)))
    → is_some found ≡ true → ToldLeave refuses held false
told-known refuses start bytes items held None known same view is some = cc
told-known refuses start bytes items held (Some len) known same view is some =
    let whole : take (length bytes - start) (drop start bytes) ≡ held = rest_of_slice start bytes ∙ ap (drop start) same ∙ view in
    subst (λ b. ToldLeave refuses b false) whole (told_message refuses is)

-- what the first bytes that are held tell, which are a head
pub told-head : (refuses : Bool) (len start : ℕ) (bytes items held : List ℕ) (awaited : Bool) → bytes ≡ items → drop start items ≡ held
    → head_len held ≡ Some len → TellsExpects refuses (after_blank (take len (take (length bytes - start) (drop start bytes)))) awaited
    → ToldLeave refuses held awaited
told-head refuses len start bytes items held awaited same view ends tells =
    let whole : take (length bytes - start) (drop start bytes) ≡ held = rest_of_slice start bytes ∙ ap (drop start) same ∙ view in
    let is : TellsExpects refuses (head_bytes len held) awaited = subst (λ b. TellsExpects refuses (head_bytes len b) awaited) whole tells in
    record { len = len; ends = ends; tells = TellsLeave-head refuses held len awaited ends is }

taken_leave : (refuses : Bool) (mid new : List ℕ) (awaited : Bool) (more : List ℕ) → new ≡ mid ++ more → ToldLeave refuses mid awaited
    → TellsLeave refuses new awaited
taken_leave refuses mid new awaited more grown t =
    subst (λ b. TellsLeave refuses b awaited) (sym grown) (TellsLeave-append refuses mid more t.len awaited t.ends t.tells)

-- what was told before a request was read is what was due
pub leave-for : (refuses : Bool) (mid new : List ℕ) (awaited : Bool) (answer : Got) → ToldLeave refuses mid awaited → KeepsHeld mid new answer
    → LeaveFor refuses answer new awaited
leave-for refuses mid new awaited (got.Request message) t k =
    TellsLeave-unique refuses (mid ++ k.0) (leave_due refuses message.origin message.expects) awaited (TellsLeave-message refuses k.1)
    (taken_leave refuses mid (mid ++ k.0) awaited k.0 refl t)
leave-for refuses mid new awaited got.End t k =
    TellsLeave-unique refuses new awaited false (taken_leave refuses mid new awaited k.0 k.1 t) (TellsLeave-blank k.2)
leave-for refuses mid new awaited (got.Cut n) t k = taken_leave refuses mid new awaited k.0 k.1 t
leave-for refuses mid new awaited (got.Malformed fault) t k =
    TellsLeave-unique refuses new awaited false (taken_leave refuses mid new awaited k.0 k.1 t) (TellsLeave-malformed refuses new fault k.2)
leave-for refuses mid new awaited got.ReadFault t k = taken_leave refuses mid new awaited k.0 k.1 t
leave-for refuses mid new awaited got.NoMemory t k = taken_leave refuses mid new awaited k.0 k.1 t

-- no leave is due where no head is whole
pub leave-none : (refuses : Bool) (held : List ℕ) (s : Stop) → head_len held ≡ None → LeaveFor refuses (got_of s) held false
leave-none refuses held stop.End none = refl
leave-none refuses held (stop.Cut n) none = TellsLeave-none none
leave-none refuses held (stop.Malformed fault) none = refl
leave-none refuses held stop.ReadFault none = TellsLeave-none none
leave-none refuses held stop.NoMemory none = TellsLeave-none none
