-- What a sink took of texts that were written one after the other.
use Rattle.std.proofs.Common.{◌≡◌, ◌≤◌, ◌++◌, ℕ, List, [], take, drop, refl, ap, sym, ◌∙◌, subst, arith, append_assoc}
use Rattle.std.proofs.lemmas.List.{take-append-drop}
use Rattle.size_values.specs.Causes.{Rose}
use Rattle.gates.specs.rest_answers.specs.Links.{BreaksOff, Outlet, Takes}
use Rattle.gates.specs.rest_answers.proofs.Linking.{appends_nothing, appends_twice}
use Rattle.serve_loop.specs.Sessions.{Ends, SessionStage, TakesFront}
use Rattle.serve_loop.specs.declared.session.SessionEnd.{SessionEnd}
use Rattle.serve_loop.specs.declared.session.SessionEnd.TheVariants as end

-- nothing was written
pub takes_nothing : (s : Outlet) → Takes s s []
takes_nothing s = record { written = appends_nothing s.held; later = omega arith }

-- one text, and then another
pub takes_twice : {a b c : Outlet} {t u : List ℕ} → Takes a b t → Takes b c u → Takes a c (t ++ u)
takes_twice {a} {b} {c} {t} {u} first then = record {
  written = appends_twice a.held b.held c.held t u first.written then.written;
  later = let before : a.failures ≤ b.failures = first.later in
      let after : b.failures ≤ c.failures = then.later in
      omega (arith, before, after);
}

-- nothing was taken
pub front_none : (s : Outlet) (t : List ℕ) → TakesFront s s t
front_none s t =
    record { taken = []; left = t; is = refl; written = appends_nothing s.held; later = omega arith }

-- nothing was taken, where the sink is the same
pub front_same : {s s' : Outlet} (t : List ℕ) → s' ≡ s → TakesFront s s' t
front_same {s} t same = subst (λ v. TakesFront s v t) (sym same) (front_none s t)

-- a write that failed took a front
pub front_broken : {a b : Outlet} {t : List ℕ} → BreaksOff a b t → TakesFront a b t
front_broken {a} {b} {t} breaks = record {
  taken = take breaks.count t;
  left = drop breaks.count t;
  is = sym (take-append-drop breaks.count t);
  written = breaks.written;
  later = breaks.later;
}

-- a front of a text is a front of each longer one
pub front_more : {a b : Outlet} {t : List ℕ} (u : List ℕ) → TakesFront a b t → TakesFront a b (t ++ u)
front_more {a} {b} {t} u front = record {
  taken = front.taken;
  left = front.left ++ u;
  is = ap (λ l. l ++ u) front.is ∙ append_assoc front.taken front.left u;
  written = front.written;
  later = front.later;
}

-- one text, and then a front of another
pub front_after : {a b c : Outlet} {t u : List ℕ} → Takes a b t → TakesFront b c u → TakesFront a c (t ++ u)
front_after {a} {b} {c} {t} {u} takes front = record {
  taken = t ++ front.taken;
  left = front.left;
  is = ap (λ l. t ++ l) front.is ∙ sym (append_assoc t front.taken front.left);
  written = appends_twice a.held b.held c.held t front.taken takes.written front.written;
  later = let before : a.failures ≤ b.failures = takes.later in
      let after : b.failures ≤ c.failures = front.later in
      omega (arith, before, after);
}

pub rose_after : (a b c : ℕ) → a ≤ b → Rose b c → Rose a c
rose_after a b c later rose = omega (arith, later, rose)

-- one text, and then a session that ended so
pub ends_after : (a b c : Outlet) (t u : List ℕ) (p : SessionStage) (ends : SessionEnd) → Takes a b t → Ends ends p b c u
    → Ends ends p a c (t ++ u)
ends_after a b c t u p (end.Lagged cursor oldest) takes ended = (ended.0, takes_twice takes ended.1)
ends_after a b c t u p (end.Closed code) takes ended = (ended.0, takes_twice takes ended.1)
ends_after a b c t u p end.Ended takes ended = (ended.0, takes_twice takes ended.1)
ends_after a b c t u p end.ReadFault takes ended = (ended.0, takes_twice takes ended.1)
ends_after a b c t u p end.WriteFault takes ended =
    (front_after takes ended.0, rose_after a.failures b.failures c.failures takes.later ended.1)
ends_after a b c t u p end.NoMemory takes ended = front_after takes ended
