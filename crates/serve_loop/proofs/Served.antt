-- A link over a text that is known whole.
use Rattle.std.proofs.Common.{◌≡◌, ◌⊎◌, ◌++◌, ℕ, List, [], ◌∷◌, Bool, true, false, Option, Some, None}
use Rattle.std.proofs.Common.{IfSome, refl, ap, sym, ◌∙◌, subst, inl, inr}
use Rattle.std.proofs.lemmas.List.{append-nil}
use Rattle.std.specs.Io.KnownBytes.{Appends, prepend_known}
use Rattle.http_heads.specs.Messages.{Begins, Splits, Ending, TellsLeave, ended, cut, malformed, EndsAs}
use Rattle.http_heads.specs.declared.request.HeadFault.{HeadFault}
use Rattle.http_heads.specs.declared.request.HeadFault.TheVariants.{H5}
use Rattle.http_heads.specs.declared.request.Request.{Request}
use Rattle.http_front.specs.Reading.{ReadsNext}
use Rattle.http_front.specs.declared.read.Got.TheVariants as got
use Rattle.rest_json.specs.declared.terms.Terms.{Terms}
use Rattle.gates.specs.Gates.{Between}
use Rattle.gates.proofs.Histories.{between-append, between-none}
use Rattle.serve_loop.specs.declared.subscriptions.Subscription.{Subscription}
use Rattle.gates.specs.rest_answers.specs.Links.{Takes}
use Rattle.gates.specs.rest_answers.specs.Texts.{malformed_text, printed}
use Rattle.gates.specs.rest_answers.proofs.Linking.{appends_nothing, appends_twice}
use Rattle.gates.specs.rest_answers.proofs.Splitting.{GoesOn, none_more, splits_after}
use Rattle.serve_loop.specs.Serving.{Asks, ComesTo, Exchange, HasFault, KeepsGate, LinkWorld, Serves, ServesAll}
use Rattle.serve_loop.specs.Serving.{Serving, Stops, Turns, is_barred}
use Rattle.serve_loop.specs.Leave.{GivesLeave, leave_if, leave_of}
use Rattle.serve_loop.specs.Texts.{EndsAfter, EndsAt, EndsBy, HandlesAll, IsFault, LeaveAt, ServesText, ReplyWorld, begun_by}
use Rattle.serve_loop.specs.Texts.{end_at, history_of, printed_replies, reply_world, requests_of, text_at, unless_begun}
use Rattle.serve_loop.specs.Texts.{written_at}
use Rattle.serve_loop.specs.declared.link.LinkEnd.{LinkEnd}
use Rattle.serve_loop.specs.declared.link.LinkEnd.TheVariants as end
use Rattle.serve_loop.specs.declared.link.Turn.TheVariants as turn
use Rattle.serve_loop.proofs.Leaving.{gives_takes}

-- the bytes to come: those held, and then those that the source has left
abbrev pub input : LinkWorld → Option (List ℕ)
input w = prepend_known w.held w.source.left

-- what a link acts on
abbrev pub reply_world_of : LinkWorld → ReplyWorld
reply_world_of w = reply_world w.sink w.gate w.clock

-- ---- requests together

-- What requests that were served come to in all: the bytes to come began with them, the sink took their replies in
-- order, and they are all that was done at the gate and read of the clock.
record Together (terms : Terms) (w : LinkWorld) (xs : List Exchange) (w' : LinkWorld) : Type 0 where
  read : IfSome (input w) (λ bytes. (rest : List ℕ) × Begins bytes (requests_of xs) rest × (input w' ≡ Some rest))
  written : Appends w.sink.held w'.sink.held (printed_replies terms xs)
  gate : Between (history_of xs) w.gate w'.gate
  handles : HandlesAll terms w.clock xs w'.clock

-- the bytes to come are as before
same_input : (known : Option (List ℕ)) (w : LinkWorld) → input w ≡ known
    → IfSome known (λ bytes. (rest : List ℕ) × Begins bytes [] rest × (input w ≡ Some rest))
same_input None w is = tt
same_input (Some bytes) w is = (bytes, refl, is)

none_together : (terms : Terms) (w : LinkWorld) → Together terms w [] w
none_together terms w = record {
  read = same_input (input w) w refl;
  written = appends_nothing w.sink.held;
  gate = between-none w.gate;
  handles = refl;
}

-- the bytes to come began with a request, and then with more of them
reads_first : (next w' : LinkWorld) (e : Exchange) (more : List Exchange) (known : Option (List ℕ))
    → IfSome known (λ bytes. ReadsNext bytes (input next) next.held (got.Request e.request))
    → IfSome (input next) (λ bytes. (rest : List ℕ) × Begins bytes (requests_of more) rest × (input w' ≡ Some rest))
    → IfSome known (λ bytes. (rest : List ℕ) × Begins bytes (requests_of (e ∷ more)) rest × (input w' ≡ Some rest))
reads_first next w' e more None first follows = tt
reads_first next w' e more (Some bytes) first follows =
    let rests : (rest : List ℕ) × Begins first.0 (requests_of more) rest × (input w' ≡ Some rest) =
    subst (λ known. IfSome known (λ bytes. (rest : List ℕ) × Begins bytes (requests_of more) rest
    × (input w' ≡ Some rest))) first.2 follows in
    (rests.0, (first.0, first.1, rests.1), rests.2)

-- what was taken and came to its reply, of which this was written, and then more
next_together : (terms : Terms) (session : Option Subscription) (w next w' : LinkWorld) (e : Exchange) (more : List Exchange)
    → ComesTo terms session w next e → Appends w.sink.held next.sink.held (written_at terms e)
    → Together terms next more w' → Together terms w (e ∷ more) w'
next_together terms session w next w' e more comes written follows = record {
  read = reads_first next w' e more (input w) comes.asked.next follows.read;
  written = appends_twice w.sink.held next.sink.held w'.sink.held (written_at terms e) (printed_replies terms more)
      written follows.written;
  gate = between-append comes.gate follows.gate;
  handles = (next.clock, comes.handles, follows.handles);
}

-- one request that was answered, and then more of them
first_together : (terms : Terms) (w next w' : LinkWorld) (e : Exchange) (more : List Exchange) → Serves terms w next e
    → Together terms next more w' → Together terms w (e ∷ more) w'
first_together terms w next w' e more serves follows = next_together terms None w next w' e more serves.carries
    (subst (λ s. Appends w.sink.held next.sink.held (leave_of e.request ++ unless_begun s (printed e.reply terms e.request)))
    (sym serves.carries.begun) serves.replied.written) follows

-- all that went on, and then some more
all_together : (terms : Terms) (w v w' : LinkWorld) (xs ys : List Exchange) → ServesAll terms w xs v → Together terms v ys w'
    → Together terms w (xs ++ ys) w'
all_together terms w v w' [] ys same follows = subst (λ u. Together terms u ys w') (sym same) follows
all_together terms w v w' (e ∷ xs) ys serves follows =
    first_together terms w serves.0 w' e (xs ++ ys) serves.1 (all_together terms serves.0 v w' xs ys serves.3 follows)

-- ---- the last request

-- none of these is refused for its `Origin`, after none a session begins, and none is the last on its connection
abbrev AreGoing : Terms → List Exchange → Type 0
AreGoing terms [] = Unit {0}
AreGoing terms (e ∷ more) = (is_barred terms e.request ≡ false) × (begun_by e ≡ None) × (e.request.last ≡ false)
    × AreGoing terms more

served_going : (terms : Terms) (w w' : LinkWorld) (xs : List Exchange) → ServesAll terms w xs w' → AreGoing terms xs
served_going terms w w' [] same = tt
served_going terms w w' (e ∷ more) serves =
    (serves.1.carries.welcome, serves.1.carries.begun, serves.2, served_going terms serves.0 w' more serves.3)

-- a link ends after these as it does after those behind them
ends_going : (terms : Terms) (xs ys : List Exchange) (left : List Request) (ending : Ending) (ends : LinkEnd)
    → AreGoing terms xs → EndsAfter terms ys left ending ends → EndsAfter terms (xs ++ ys) left ending ends
ends_going terms [] ys left ending ends going after = after
ends_going terms (e ∷ xs) ys left ending ends going after = (
  going.0,
  subst (λ s. EndsBy s e.request.last (xs ++ ys) ends (EndsAfter terms (xs ++ ys) left ending ends)) (sym going.1)
      (subst (λ last. EndsBy None last (xs ++ ys) ends (EndsAfter terms (xs ++ ys) left ending ends)) (sym going.2)
      (ends_going terms xs ys left ending ends going.3 after)),
)

-- it ends after these alone as it does where it goes on
ends_plain : (terms : Terms) (xs : List Exchange) (left : List Request) (ending : Ending) (ends : LinkEnd)
    → AreGoing terms xs → EndsAt terms left ending ends → EndsAfter terms xs left ending ends
ends_plain terms xs left ending ends going at =
    subst (λ ys. EndsAfter terms ys left ending ends) (append-nil xs) (ends_going terms xs [] left ending ends going at)

-- it ends after a request that is the last on its connection
ends_final : (terms : Terms) (e : Exchange) (left : List Request) (ending : Ending) → is_barred terms e.request ≡ false
    → begun_by e ≡ None → e.request.last ≡ true → EndsAfter terms (e ∷ []) left ending end.Ended
ends_final terms e left ending welcome plain last = (
  welcome,
  subst (λ s. EndsBy s e.request.last [] end.Ended (EndsAfter terms [] left ending end.Ended)) (sym plain)
      (subst (λ l. EndsBy None l [] end.Ended (EndsAfter terms [] left ending end.Ended)) (sym last) (refl, refl)),
)

-- it ends where a session begins
ends_events : (terms : Terms) (e : Exchange) (left : List Request) (ending : Ending) (wanted : Subscription)
    → is_barred terms e.request ≡ false → begun_by e ≡ Some wanted
    → EndsAfter terms (e ∷ []) left ending (end.Events wanted)
ends_events terms e left ending wanted welcome begun = (
  welcome,
  subst (λ s. EndsBy s e.request.last [] (end.Events wanted) (EndsAfter terms [] left ending (end.Events wanted)))
      (sym begun) (refl, refl),
)

-- ---- links

-- what is left of a text after requests
record Behind (text : List ℕ) (xs : List Exchange) (w : LinkWorld) (messages : List Request) (ending : Ending) : Type 0 where
  rest : List ℕ
  input_is : input w ≡ Some rest
  begins : Begins text (requests_of xs) rest
  goes_on : GoesOn rest (requests_of xs) messages ending

reached : (terms : Terms) (w v : LinkWorld) (xs : List Exchange) (text : List ℕ) (messages : List Request) (ending : Ending)
    → Together terms w xs v → input w ≡ Some text → Splits text messages ending → Behind text xs v messages ending
reached terms w v xs text messages ending all is splits =
    let taken : (rest : List ℕ) × Begins text (requests_of xs) rest × (input v ≡ Some rest) =
    subst (λ known. IfSome known (λ bytes. (rest : List ℕ) × Begins bytes (requests_of xs) rest
    × (input v ≡ Some rest))) is all.read in
    record {
      rest = taken.0;
      input_is = taken.2;
      begins = taken.1;
      goes_on = splits_after text taken.0 (requests_of xs) messages ending taken.1 splits;
    }

-- what is said of the bytes to come holds where they are known
at_known : (P : List ℕ → Type 0) (known : Option (List ℕ)) → IfSome known P → (rest : List ℕ) → known ≡ Some rest
    → P rest
at_known P known holds rest is = subst (λ k. IfSome k P) is holds

-- a link that ends with its input
text_at_end : (terms : Terms) (w v w' : LinkWorld) (xs : List Exchange) (text : List ℕ) (messages : List Request)
    (ending other : Ending) (awaited : Bool) → Together terms w xs v → AreGoing terms xs → input w ≡ Some text
    → Splits text messages ending → w'.gate ≡ v.gate → w'.clock ≡ v.clock
    → ((rest : List ℕ) → input v ≡ Some rest → EndsAs rest other × LeaveAt terms (end_at other) rest awaited)
    → Appends v.sink.held w'.sink.held (leave_if awaited ++ text_at (end_at other))
    → ServesText terms text messages ending (end_at other) (reply_world_of w) (reply_world_of w')
text_at_end terms w v w' xs text messages ending other awaited all going is splits gate clock stands written =
    let far : Behind text xs v messages ending = reached terms w v xs text messages ending all is splits in
    let none : (far.goes_on.more ≡ []) × (ending ≡ other) = none_more far.rest far.goes_on.more ending other
    far.goes_on.rest_splits (stands far.rest far.input_is).0 in
    record {
      exchanges = xs;
      left = far.goes_on.more;
      messages_are = far.goes_on.messages_are;
      ends_so = ends_plain terms xs far.goes_on.more ending (end_at other) going
          (subst (λ left. EndsAt terms left ending (end_at other)) (sym none.0) (ap end_at (sym none.1)));
      rest = far.rest;
      text_is = far.begins;
      gate = subst (λ g. Between (history_of xs) w.gate g) (sym gate) all.gate;
      handles = subst (λ told. HandlesAll terms w.clock xs told) (sym clock) all.handles;
      awaited = awaited;
      leave_is = (stands far.rest far.input_is).1;
      written = appends_twice w.sink.held v.sink.held w'.sink.held (printed_replies terms xs)
          (leave_if awaited ++ text_at (end_at other)) all.written written;
    }

-- a link that ends at a request that is refused for its `Origin`
text_at_barred : (terms : Terms) (w v w' : LinkWorld) (xs : List Exchange) (text : List ℕ) (messages : List Request)
    (ending : Ending) (request : Request) → Together terms w xs v → AreGoing terms xs → input w ≡ Some text
    → Splits text messages ending → Asks v w' (got.Request request) → is_barred terms request ≡ true
    → w'.gate ≡ v.gate → w'.clock ≡ v.clock → Appends v.sink.held w'.sink.held (malformed_text H5)
    → ServesText terms text messages ending (end.Malformed H5) (reply_world_of w) (reply_world_of w')
text_at_barred terms w v w' xs text messages ending request all going is splits asks barred gate clock written =
    let far : Behind text xs v messages ending = reached terms w v xs text messages ending all is splits in
    let said : ReadsNext far.rest (input w') w'.held (got.Request request) =
    at_known (λ bytes. ReadsNext bytes (input w') w'.held (got.Request request)) (input v) asks.next far.rest far.input_is in
    let next : GoesOn said.0 (request ∷ []) far.goes_on.more ending =
    splits_after far.rest said.0 (request ∷ []) far.goes_on.more ending (said.0, said.1, refl) far.goes_on.rest_splits in
    record {
      exchanges = xs;
      left = far.goes_on.more;
      messages_are = far.goes_on.messages_are;
      ends_so = ends_plain terms xs far.goes_on.more ending (end.Malformed H5) going
          (subst (λ left. EndsAt terms left ending (end.Malformed H5)) (sym next.messages_are) (barred, refl));
      rest = far.rest;
      text_is = far.begins;
      gate = subst (λ g. Between (history_of xs) w.gate g) (sym gate) all.gate;
      handles = subst (λ told. HandlesAll terms w.clock xs told) (sym clock) all.handles;
      awaited = false;
      leave_is = refl;
      written = appends_twice w.sink.held v.sink.held w'.sink.held (printed_replies terms xs)
          (malformed_text H5) all.written written;
    }

-- a link that ends after an exchange, and writes no more
text_at_last : (terms : Terms) (w v w' : LinkWorld) (xs : List Exchange) (e : Exchange) (text : List ℕ)
    (messages : List Request) (ending : Ending) (ends : LinkEnd) → ServesAll terms w xs v → Together terms v (e ∷ []) w'
    → ((left : List Request) → EndsAfter terms (e ∷ []) left ending ends) → ((rest : List ℕ) → LeaveAt terms ends rest false)
    → text_at ends ≡ [] → input w ≡ Some text → Splits text messages ending
    → ServesText terms text messages ending ends (reply_world_of w) (reply_world_of w')
text_at_last terms w v w' xs e text messages ending ends serves last so no_leave no_text is splits =
    let all : Together terms w (xs ++ e ∷ []) w' = all_together terms w v w' xs (e ∷ []) serves last in
    let far : Behind text (xs ++ e ∷ []) w' messages ending =
    reached terms w w' (xs ++ e ∷ []) text messages ending all is splits in
    record {
      exchanges = xs ++ e ∷ [];
      left = far.goes_on.more;
      messages_are = far.goes_on.messages_are;
      ends_so = ends_going terms xs (e ∷ []) far.goes_on.more ending ends (served_going terms w v xs serves)
          (so far.goes_on.more);
      rest = far.rest;
      text_is = far.begins;
      gate = all.gate;
      handles = all.handles;
      awaited = false;
      leave_is = no_leave far.rest;
      written = subst (λ t. Appends w.sink.held w'.sink.held (printed_replies terms (xs ++ e ∷ []) ++ t)) (sym no_text)
          (subst (Appends w.sink.held w'.sink.held) (sym (append-nil (printed_replies terms (xs ++ e ∷ [])))) all.written);
    }

-- a link that ends after a final request
text_at_final : (terms : Terms) (w v w' : LinkWorld) (xs : List Exchange) (text : List ℕ) (messages : List Request)
    (ending : Ending) → ServesAll terms w xs v → Turns terms turn.Final v w' → input w ≡ Some text
    → Splits text messages ending → ServesText terms text messages ending end.Ended (reply_world_of w) (reply_world_of w')
text_at_final terms w v w' xs text messages ending serves final is splits =
    text_at_last terms w v w' xs final.0 text messages ending end.Ended serves
    (first_together terms v w' w' final.0 [] final.1 (none_together terms w'))
    (λ left. ends_final terms final.0 left ending final.1.carries.welcome final.1.carries.begun final.2) (λ rest. refl) refl is splits

-- a link that took nothing more
same_sink : (v w' : LinkWorld) → w'.sink ≡ v.sink → Appends v.sink.held w'.sink.held []
same_sink v w' same = subst (λ s. Appends v.sink.held s.held []) (sym same) (appends_nothing v.sink.held)

-- a link that gave leave where it was awaited, and nothing more
leave_alone : (v w' : LinkWorld) (awaited : Bool) → GivesLeave awaited v.sink w'.sink
    → Appends v.sink.held w'.sink.held (leave_if awaited ++ [])
leave_alone v w' awaited gives = subst (Appends v.sink.held w'.sink.held) (sym (append-nil (leave_if awaited)))
    (gives_takes awaited v.sink w'.sink gives).written

-- a link that ends where a session of events begins
text_at_events : (terms : Terms) (w v w' : LinkWorld) (xs : List Exchange) (text : List ℕ) (messages : List Request)
    (ending : Ending) (wanted : Subscription) → ServesAll terms w xs v → Stops terms (end.Events wanted) v w'
    → input w ≡ Some text → Splits text messages ending
    → ServesText terms text messages ending (end.Events wanted) (reply_world_of w) (reply_world_of w')
text_at_events terms w v w' xs text messages ending wanted serves stops is splits =
    text_at_last terms w v w' xs stops.0 text messages ending (end.Events wanted) serves
    (next_together terms (Some wanted) v w' w' stops.0 [] stops.1
    (subst (λ s. Appends v.sink.held w'.sink.held
    (leave_of stops.0.request ++ unless_begun s (printed stops.0.reply terms stops.0.request)))
    (sym stops.1.begun) (leave_alone v w' stops.0.request.expects stops.2)) (none_together terms w'))
    (λ left. ends_events terms stops.0 left ending wanted stops.1.welcome stops.1.begun) (λ rest. refl) refl is splits

-- a link did what its input asks, or ended by a fault
pub link_text : (terms : Terms) (w w' : LinkWorld) (ends : LinkEnd) (text : List ℕ) (messages : List Request) (ending : Ending)
    → Serving terms w w' ends → input w ≡ Some text → Splits text messages ending
    → IsFault ends ⊎ ServesText terms text messages ending ends (reply_world_of w) (reply_world_of w')
link_text terms w w' ends text messages ending s is splits = by ends s.stops where
  all : Together terms w (s.exchanges ++ []) s.reached
  all = all_together terms w s.reached s.reached s.exchanges [] s.serves (none_together terms s.reached)

  whole : Together terms w s.exchanges s.reached
  whole = subst (λ xs. Together terms w xs s.reached) (append-nil s.exchanges) all

  going : AreGoing terms s.exchanges
  going = served_going terms w s.reached s.exchanges s.serves

  at_fault : (fault : HeadFault) → HasFault terms fault s.reached w' → KeepsGate s.reached w'
      → Takes s.reached.sink w'.sink (malformed_text fault)
      → ServesText terms text messages ending (end.Malformed fault) (reply_world_of w) (reply_world_of w')
  at_fault fault (inl asks) keeps takes =
      text_at_end terms w s.reached w' s.exchanges text messages ending (malformed fault) false whole going is splits
      keeps.gate keeps.clock
      (λ rest known. (
        (at_known (λ bytes. ReadsNext bytes (input w') w'.held (got.Malformed fault)) (input s.reached)
            asks.next rest known).0,
        refl,
      ))
      takes.written
  at_fault fault (inr (request, asks, barred, h5)) keeps takes =
      subst (λ f. ServesText terms text messages ending (end.Malformed f) (reply_world_of w) (reply_world_of w')) (sym h5)
      (text_at_barred terms w s.reached w' s.exchanges text messages ending request whole going is splits asks barred
      keeps.gate keeps.clock
      (subst (λ f. Appends s.reached.sink.held w'.sink.held (malformed_text f)) h5 takes.written))

  by : (ends : LinkEnd) → ((ends ≡ end.Ended) × Turns terms turn.Final s.reached w') ⊎ Stops terms ends s.reached w'
      → IsFault ends ⊎ ServesText terms text messages ending ends (reply_world_of w) (reply_world_of w')
  by end.Ended (inl (same, final)) =
      inr (text_at_final terms w s.reached w' s.exchanges text messages ending s.serves final is splits)
  by end.Ended (inr stops) = inr (
      text_at_end terms w s.reached w' s.exchanges text messages ending ended false whole going is splits stops.1.gate
      stops.1.clock
      (λ rest known. (
        (at_known (λ bytes. ReadsNext bytes (input w') w'.held got.End) (input s.reached) stops.0.next rest
            known).0,
        refl,
      ))
      (same_sink s.reached w' stops.2)
      )
  by end.Cut (inl (same, final)) = cc
  by end.Cut (inr stops) = inr (
      text_at_end terms w s.reached w' s.exchanges text messages ending (cut stops.0) stops.3.awaited whole going is
      splits stops.2.gate stops.2.clock
      (λ rest known. let said : ReadsNext rest (input w') w'.held (got.Cut stops.0) =
      at_known (λ bytes. ReadsNext bytes (input w') w'.held (got.Cut stops.0)) (input s.reached) stops.1.next rest known in
      ((said.0, said.3), subst (λ bytes. TellsLeave terms.refuses_origin bytes stops.3.awaited) said.2 stops.3.tells))
      (leave_alone s.reached w' stops.3.awaited stops.3.gives)
      )
  by (end.Malformed fault) (inl (same, final)) = cc
  by (end.Malformed fault) (inr (has, keeps, takes)) = inr (at_fault fault has keeps takes)
  by (end.Events wanted) (inl (same, final)) = cc
  by (end.Events wanted) (inr stops) = inr (
      text_at_events terms w s.reached w' s.exchanges text messages ending wanted s.serves stops is splits
      )
  by end.ReadFault stops = inl tt
  by end.WriteFault stops = inl tt
  by end.NoMemory stops = inl tt

-- with nothing held, the bytes to come are those that the source has left
nothing_held : (known : Option (List ℕ)) → prepend_known [] known ≡ known
nothing_held None = refl
nothing_held (Some bytes) = refl

-- the same, where the source tells its bytes
pub link_texts : (terms : Terms) (w w' : LinkWorld) (ends : LinkEnd) → w.held ≡ [] → Serving terms w w' ends
    → IfSome w.source.left (λ text. (messages : List Request) (ending : Ending) → Splits text messages ending
    → IsFault ends ⊎ ServesText terms text messages ending ends (reply_world_of w) (reply_world_of w'))
link_texts terms w w' ends none s = by w.source.left refl where
  by : (known : Option (List ℕ)) → w.source.left ≡ known
      → IfSome known (λ text. (messages : List Request) (ending : Ending) → Splits text messages ending
      → IsFault ends ⊎ ServesText terms text messages ending ends (reply_world_of w) (reply_world_of w'))
  by None is = tt
  by (Some text) is = λ messages ending splits.
      link_text terms w w' ends text messages ending s
      (ap (λ held. prepend_known held w.source.left) none ∙ nothing_held w.source.left ∙ is) splits
