-- From a command's end to the run of the client.
use Rattle.std.proofs.Common.{◌≡◌, ℕ, ◌⊎◌, Bool, List, [], Option, Some, None, Ok, Err, refl, sym, ap, ◌∙◌, subst, is_some}
use Rattle.std.specs.Option.{option_map, option_map_or}
use Rattle.std.specs.List.{concat}
use Rattle.std.specs.Io.KnownBytes.{Appends, Keeps}
use Rattle.size_values.specs.Causes.{Rose}
use Rattle.client_replies.specs.Forms.{Told}
use Rattle.client_words.specs.declared.words.ClientWords.{ClientWords}
use Rattle.client_steps.specs.Runs.{Ending as End, requests_of, ending_of, lines_of, status_of}
use Rattle.client_run.specs.Receiving.{OnLinkFailed}
use Rattle.client_run.specs.Talks.{SendsSome, Talked}
use Rattle.client_run.specs.Sessions.{course_of, Prints, outside, Untouched, Ran, Goes}
use Rattle.client_run.specs.declared.receive.Stop.{Stop}
use Rattle.client_run.specs.declared.receive.Stop.TheVariants as stop
use Rattle.client_run.specs.declared.talk.Ending.{Ending}
use Rattle.client_run.specs.declared.course.Course.{Course}
use Rattle.client_run.specs.declared.course.Course.TheVariants as course
use Rattle.client_run.proofs.TalkLemmas.{reads_none, none_sent, none_written}

-- what an ending says of the lines and of the status
lines_at : (words : ClientWords) (replies : List Told) (end : End) → ending_of words replies ≡ Some end → lines_of words replies ≡ end.0
lines_at words replies end e = ap (λ (o : Option End). option_map_or (λ (x : End). x.0) o []) e

status_at : (words : ClientWords) (replies : List Told) (end : End) → ending_of words replies ≡ Some end → status_of words replies ≡ Some end.1
status_at words replies end e = ap (option_map (λ (x : End). x.1)) e

no_lines : (words : ClientWords) (replies : List Told) → ending_of words replies ≡ None → lines_of words replies ≡ []
no_lines words replies e = ap (λ (o : Option End). option_map_or (λ (x : End). x.0) o []) e

no_status : (words : ClientWords) (replies : List Told) → ending_of words replies ≡ None → status_of words replies ≡ None
no_status words replies e = ap (option_map (λ (x : End). x.1)) e

pub ran_ended : {words : ClientWords} {left m sent k shown p : Option (List ℕ)} {old new : Bool} {rf rf' wf wf' pf pf' : ℕ} {e : Ending} (taken : Course)
    → Talked words left m new sent k (Ok e) → Prints e shown p pf pf' taken
    → Ran words (outside left old sent shown rf wf pf) (outside m new k p rf' wf' pf') taken
ran_ended {words} {shown = shown} {p} {e = e} (course.Ended status) t h = record {
  replies = t.replies;
  rest = t.rest;
  reads = t.reads;
  sends = t.sends;
  prints = subst (Appends shown p) (sym (lines_at words t.replies (e.text, e.status) t.ends)) h.1;
  ends = status_at words t.replies (e.text, e.status) t.ends ∙ ap Some (sym h.0);
}
ran_ended {words} {shown = shown} {p} {e = e} course.PrintFailed t h = record {
  replies = t.replies;
  rest = t.rest;
  reads = t.reads;
  sends = t.sends;
  prints = subst (SendsSome shown p) (sym (lines_at words t.replies (e.text, e.status) t.ends)) h.0;
  ends = (ap is_some (status_at words t.replies (e.text, e.status) t.ends), h.1);
}
ran_ended course.Unread t h = absurd h
ran_ended course.Malformed t h = absurd h
ran_ended course.LinkFailed t h = absurd h
ran_ended course.NoMemory t h = absurd h

nothing_shown : (words : ClientWords) (replies : List Told) (shown : Option (List ℕ)) → ending_of words replies ≡ None → Appends shown shown (lines_of words replies)
nothing_shown words replies shown e = subst (Appends shown shown) (sym (no_lines words replies e)) (none_written shown)

pub ran_halted : {words : ClientWords} {left m sent k shown : Option (List ℕ)} {old new : Bool} {rf rf' wf wf' pf : ℕ} (s : Stop)
    → Talked words left m new sent k (Err s) → OnLinkFailed {T = Ending} (Err s) (Rose rf rf' ⊎ Rose wf wf')
    → Ran words (outside left old sent shown rf wf pf) (outside m new k shown rf' wf' pf) (course_of s)
ran_halted {words} {shown = shown} stop.Malformed t rose = record {
  replies = t.replies;
  rest = t.rest;
  reads = t.reads;
  sends = t.sends;
  prints = nothing_shown words t.replies shown t.ends.0;
  ends = (no_status words t.replies t.ends.0, t.ends.1);
}
ran_halted {words} {shown = shown} stop.LinkFailed t rose = record {
  replies = t.replies;
  rest = t.rest;
  reads = t.reads;
  sends = t.sends;
  prints = nothing_shown words t.replies shown t.ends;
  ends = (no_status words t.replies t.ends, rose);
}
ran_halted {words} {shown = shown} stop.NoMemory t rose = record {
  replies = t.replies;
  rest = t.rest;
  reads = t.reads;
  sends = t.sends;
  prints = none_sent shown (lines_of words t.replies);
  ends = tt;
}

-- nothing was done
stays : (o : Option (List ℕ)) → Keeps o o
stays None = tt
stays (Some bytes) = refl

pub untouched : (left sent shown : Option (List ℕ)) (ended : Bool) (rf wf pf : ℕ) → Untouched (outside left ended sent shown rf wf pf) (outside left ended sent shown rf wf pf)
untouched left sent shown ended rf wf pf = record { left = stays left; sent = stays sent; shown = stays shown }

pub goes_nothing : (words : Option ClientWords) (left sent shown : Option (List ℕ)) (ended : Bool) (rf wf pf : ℕ)
    → Goes words (outside left ended sent shown rf wf pf) (outside left ended sent shown rf wf pf) course.NoMemory
goes_nothing None left sent shown ended rf wf pf = untouched left sent shown ended rf wf pf
goes_nothing (Some words) left sent shown ended rf wf pf = record {
  replies = [];
  rest = [];
  reads = reads_none left;
  sends = none_sent sent (concat (requests_of words []));
  prints = none_sent shown (lines_of words []);
  ends = tt;
}
