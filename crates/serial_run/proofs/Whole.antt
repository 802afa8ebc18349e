-- A session over a text that is known whole.
use Rattle.std.proofs.Common.{◌≡◌, ◌<◌, ◌≤◌, ◌++◌, ◌==◌, ◌⊎◌, ℕ, List, [], ◌∷◌, length, take, true, false, ◌||◌}
use Rattle.std.proofs.Common.{if◌then◌else◌, Some, IfSome, refl, ap, sym, ◌∙◌, subst, arith, inl, inr}
use Rattle.std.proofs.lemmas.Bool.Decides.{nat_tests}
use Rattle.std.proofs.lemmas.List.{append-nil, take_all, length-map}
use Rattle.std.proofs.Math.Seq.{take-append_seam}
use Rattle.http_heads.specs.Messages.{Begins, Splits, Ending, ended, cut, malformed, EndsAs}
use Rattle.http_heads.specs.declared.request.Request.{Request}
use Rattle.http_front.specs.Reading.{ReadsNext}
use Rattle.http_front.specs.declared.read.Got.TheVariants as got
use Rattle.rest_json.specs.declared.terms.Terms.{Terms}
use Rattle.command_words.specs.declared.run_words.Pace.{Pace}
use Rattle.rest_answers.proofs.Splitting.{GoesOn, none_more, splits_after}
use Rattle.rest_answers.specs.Texts.{malformed_text}
use Rattle.serial_run.specs.Exchanges.{Exchange}
use Rattle.serial_run.specs.Most.{most_requests}
use Rattle.serial_run.specs.declared.session.SessionEnd.{SessionEnd}
use Rattle.serial_run.specs.declared.session.SessionEnd.TheVariants as end
use Rattle.serial_run.specs.Inputs.{status_of}
use Rattle.serial_run.specs.Sessions.{Session, Stops, CountsAt, StopsAfterFinal, AllGoOn, OnlyFinalEnds}
use Rattle.serial_run.proofs.Served.{together}
use Rattle.serial_run.specs.Inputs.{requests_of, answered, end_at, end_after, end_due}
use Rattle.rest_answers.specs.Lasts.{has_last, through_last}
use Rattle.serial_run.specs.Worlds.{SessionWorld, input}

-- requests that go on are all before the first last one
through_last_going : (exchanges : List Exchange) (more : List Request) → AllGoOn exchanges
    → through_last (requests_of exchanges ++ more) ≡ requests_of exchanges ++ through_last more
through_last_going [] more going = refl
through_last_going (e ∷ exchanges) more going = ap
    (λ last. e.request ∷ (if last then [] else through_last (requests_of exchanges ++ more))) going.0
    ∙ ap (λ ms. e.request ∷ ms) (through_last_going exchanges more going.1)

-- after a final request nothing more is read
through_last_final : (exchanges : List Exchange) (more : List Request) → OnlyFinalEnds exchanges
    → through_last (requests_of exchanges ++ more) ≡ requests_of exchanges
through_last_final [] more only = absurd only
through_last_final (e ∷ []) more only = ap (λ last. e.request ∷ (if last then [] else through_last more)) only
through_last_final (e ∷ other ∷ exchanges) more only = ap
    (λ last. e.request ∷ (if last then [] else through_last (requests_of (other ∷ exchanges) ++ more))) only.0
    ∙ ap (λ ms. e.request ∷ ms) (through_last_final (other ∷ exchanges) more only.1)

-- none of the requests that go on is the last on its connection
has_last_going : (exchanges : List Exchange) → AllGoOn exchanges → has_last (requests_of exchanges) ≡ false
has_last_going [] going = refl
has_last_going (e ∷ exchanges) going =
    ap (λ last. last || has_last (requests_of exchanges)) going.0 ∙ has_last_going exchanges going.1

-- where the final request is, one of them is
has_last_final : (exchanges : List Exchange) → OnlyFinalEnds exchanges → has_last (requests_of exchanges) ≡ true
has_last_final [] only = absurd only
has_last_final (e ∷ []) only = ap (λ last. last || false) only
has_last_final (e ∷ other ∷ exchanges) only =
    ap (λ last. last || has_last (requests_of (other ∷ exchanges))) only.0 ∙ has_last_final (other ∷ exchanges) only.1

-- fewer are not the most
pub not_full : (n : ℕ) → n < most_requests → (n == most_requests) ≡ false
not_full n few = grind (arith, nat_tests)

-- the most are the most
is_full : (n : ℕ) → n ≡ most_requests → (n == most_requests) ≡ true
is_full n full = grind (arith, nat_tests)

-- there are as many requests as exchanges
length_requests : (exchanges : List Exchange) → length (requests_of exchanges) ≡ length exchanges
length_requests exchanges = length-map exchanges (λ e. e.request)

-- requests after which the input ends are all answered
answered_going : (exchanges : List Exchange) (messages more : List Request) → messages ≡ requests_of exchanges ++ more
    → more ≡ [] → AllGoOn exchanges → length exchanges < most_requests → answered messages ≡ requests_of exchanges
answered_going exchanges messages more are none going few =
    ap answered (are ∙ ap (λ ms. requests_of exchanges ++ ms) none)
    ∙ ap (take most_requests) (through_last_going exchanges [] going ∙ append-nil (requests_of exchanges))
    ∙ take_all most_requests (requests_of exchanges) (omega (arith, few, length_requests exchanges))

-- as many requests as a session may answer are those that are answered
answered_full : (exchanges : List Exchange) (messages more : List Request) → messages ≡ requests_of exchanges ++ more
    → AllGoOn exchanges → length exchanges ≡ most_requests → answered messages ≡ requests_of exchanges
answered_full exchanges messages more are going full =
    ap answered are ∙ ap (take most_requests) (through_last_going exchanges more going)
    ∙ ap (λ n. take n (requests_of exchanges ++ through_last more)) (sym (length_requests exchanges ∙ full))
    ∙ take-append_seam (requests_of exchanges) (through_last more)

-- requests of which the final one is the last on its connection are those that are answered
answered_final : (exchanges : List Exchange) (messages more : List Request) → messages ≡ requests_of exchanges ++ more
    → OnlyFinalEnds exchanges → length exchanges ≤ most_requests → answered messages ≡ requests_of exchanges
answered_final exchanges messages more are only few =
    ap answered are ∙ ap (take most_requests) (through_last_final exchanges more only)
    ∙ take_all most_requests (requests_of exchanges) (omega (arith, few, length_requests exchanges))

-- the end that is due after answered requests
due_going : (exchanges : List Exchange) (ending : Ending) → AllGoOn exchanges → length exchanges < most_requests
    → end_after (requests_of exchanges) ending ≡ end_at ending
due_going exchanges ending going few = rw (
  not_full (length (requests_of exchanges)) (omega (arith, few, length_requests exchanges)),
  has_last_going exchanges going,
) refl

-- the same where they are as many as a session may answer
due_full : (exchanges : List Exchange) (ending : Ending) → length exchanges ≡ most_requests
    → end_after (requests_of exchanges) ending ≡ record { status = 10; text = [] }
due_full exchanges ending full = rw (is_full (length (requests_of exchanges)) (length_requests exchanges ∙ full)) refl

-- and where the final one is the last on its connection
due_final : (exchanges : List Exchange) (ending : Ending) → OnlyFinalEnds exchanges → length exchanges < most_requests
    → end_after (requests_of exchanges) ending ≡ record { status = 0; text = [] }
due_final exchanges ending only few = rw (
  not_full (length (requests_of exchanges)) (omega (arith, few, length_requests exchanges)),
  has_last_final exchanges only,
) refl

-- the text that is written after the replies where a session stops so
abbrev pub text_at : SessionEnd → List ℕ
text_at end.Ended = []
text_at end.Cut = []
text_at (end.Malformed fault) = malformed_text fault
text_at end.ReadFault = []
text_at end.WriteFault = []
text_at end.Spent = []
text_at end.NoMemory = []

-- a stop that is no fault and no out of memory
abbrev pub IsSettled : SessionEnd → Type 0
IsSettled end.Ended = Unit {0}
IsSettled end.Cut = Unit {0}
IsSettled (end.Malformed fault) = Unit {0}
IsSettled end.ReadFault = ⊥
IsSettled end.WriteFault = ⊥
IsSettled end.Spent = Unit {0}
IsSettled end.NoMemory = ⊥

-- what a session answered and how it stopped are what its input is due
pub record IsDue (messages : List Request) (ending : Ending) (ends : SessionEnd)
    (exchanges : List Exchange) : Type 0 where
  pub requests_are : requests_of exchanges ≡ answered messages
  pub end_is : end_due messages ending ≡ record { status = status_of ends; text = text_at ends }

-- the end is that of the requests that are answered
due_by : (messages : List Request) (ending : Ending) (ends : SessionEnd) (exchanges : List Exchange)
    → answered messages ≡ requests_of exchanges
    → end_after (requests_of exchanges) ending ≡ record { status = status_of ends; text = text_at ends }
    → IsDue messages ending ends exchanges
due_by messages ending ends exchanges are due = record {
  requests_are = sym are;
  end_is = ap (λ ms. end_after ms ending) are ∙ due;
}

-- where the rest after the requests ends as the session stopped
due_at_end : (rest : List ℕ) (exchanges : List Exchange) (messages : List Request) (ending other : Ending)
    (ends : SessionEnd) → GoesOn rest (requests_of exchanges) messages ending → EndsAs rest other
    → end_at other ≡ record { status = status_of ends; text = text_at ends }
    → AllGoOn exchanges → length exchanges < most_requests → IsDue messages ending ends exchanges
due_at_end rest exchanges messages ending other ends far stands is going few =
    let none : (far.more ≡ []) × (ending ≡ other) = none_more rest far.more ending other far.rest_splits stands in
    due_by messages ending ends exchanges
    (answered_going exchanges messages far.more far.messages_are none.0 going few)
    (due_going exchanges ending going few ∙ ap end_at none.1 ∙ is)

-- a session that settled did what its input is due
pub session_due : (terms : Terms) (pace : Pace) (w w' : SessionWorld) (ends : SessionEnd) (text : List ℕ) (messages : List Request)
    (ending : Ending) (s : Session terms pace w w' ends) → input w ≡ Some text → Splits text messages ending
    → IsSettled ends → IsDue messages ending ends s.exchanges
session_due terms pace w w' ends text messages ending s is splits settled = by ends s.counted s.stops settled where
  taken : (rest : List ℕ) × Begins text (requests_of s.exchanges) rest × (input s.reached ≡ Some rest)
  taken = subst (λ known. IfSome known
      (λ bytes. (rest : List ℕ) × Begins bytes (requests_of s.exchanges) rest × (input s.reached ≡ Some rest))) is
      (together terms pace w s.reached s.exchanges s.serves).read

  far : GoesOn taken.0 (requests_of s.exchanges) messages ending
  far = splits_after text taken.0 (requests_of s.exchanges) messages ending taken.1 splits

  at_rest : (P : List ℕ → Type 0) → IfSome (input s.reached) P → P taken.0
  at_rest P known = subst (λ input. IfSome input P) taken.2 known

  by : (ends : SessionEnd) → CountsAt ends (length s.exchanges)
      → (AllGoOn s.exchanges × Stops terms ends s.reached w')
      ⊎ (OnlyFinalEnds s.exchanges × StopsAfterFinal ends × (w' ≡ s.reached)) → IsSettled ends
      → IsDue messages ending ends s.exchanges
  by end.Ended few (inl (going, stops)) settled =
      let answered : ReadsNext taken.0 (input w') w'.held got.End = at_rest
      (λ bytes. ReadsNext bytes (input w') w'.held got.End) stops.0.next in
      due_at_end taken.0 s.exchanges messages ending ended end.Ended far answered.0 refl going few
  by end.Ended few (inr (only, tail, same)) settled = due_by messages ending end.Ended s.exchanges
      (answered_final s.exchanges messages far.more far.messages_are only (omega (arith, few)))
      (due_final s.exchanges ending only few)
  by end.Cut few (inl (going, stops)) settled =
      let answered : ReadsNext taken.0 (input w') w'.held (got.Cut stops.0) = at_rest
      (λ bytes. ReadsNext bytes (input w') w'.held (got.Cut stops.0)) stops.1.next in
      due_at_end taken.0 s.exchanges messages ending (cut (length taken.0)) end.Cut far
      (answered.0, refl) refl going few
  by (end.Malformed fault) few (inl (going, stops)) settled =
      let answered : ReadsNext taken.0 (input w') w'.held (got.Malformed fault) = at_rest
      (λ bytes. ReadsNext bytes (input w') w'.held (got.Malformed fault)) stops.0.next in
      due_at_end taken.0 s.exchanges messages ending (malformed fault)
      (end.Malformed fault) far answered.0 refl going few
  by end.Spent full (inl (going, stops)) settled = due_by messages ending end.Spent s.exchanges
      (answered_full s.exchanges messages far.more far.messages_are going full) (due_full s.exchanges ending full)
  by end.Spent full (inr (only, tail, same)) settled = due_by messages ending end.Spent s.exchanges
      (answered_final s.exchanges messages far.more far.messages_are only (omega (arith, full)))
      (due_full s.exchanges ending full)
  by end.Cut few (inr (only, tail, same)) settled = absurd tail
  by (end.Malformed fault) few (inr (only, tail, same)) settled = absurd tail
  by end.ReadFault few stops settled = absurd settled
  by end.WriteFault few stops settled = absurd settled
  by end.NoMemory few stops settled = absurd settled
