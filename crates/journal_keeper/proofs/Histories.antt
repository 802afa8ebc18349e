-- One commit more, after many.
use Rattle.std.proofs.Common.{◌≡◌, inl, inr, ℕ, Bool, true, false, List, [], ◌∷◌, ◌++◌, length, Result, Ok, Err, refl, sym, subst, ◌∙◌, arith}
use Rattle.std.specs.Prelude.{is_some, is_ok}
use Rattle.disk_model.specs.Disk.{DiskState}
use Rattle.journal_keeper.specs.Texts.{Commit}
use Rattle.journal_keeper.specs.Keeping.{IsLeft, Stands, StandsOn, Commits}
use Rattle.journal_keeper.specs.History.{base_after, doubts_after, LeftDuring, Survives}
use Rattle.journal_keeper.specs.declared.gate.Gate.{Gate}
use Rattle.journal_keeper.proofs.Standing.{left_more, stands_left, told_joined, told_weaker}

base_push : (base : List Commit) (cs : List Commit) (ks : List Bool) (c : Commit) (a : Bool) → length cs ≡ length ks → base_after base (cs ++ c ∷ []) (ks ++ a ∷ []) ≡ base_after (base_after base cs ks) (c ∷ []) (a ∷ [])
base_push base [] [] c a len = refl
base_push base [] (b ∷ ks) c a len = absurd (omega (arith, len))
base_push base (d ∷ cs) [] c a len = absurd (omega (arith, len))
base_push base (d ∷ cs) (true ∷ ks) c a len = base_push (base ++ d ∷ []) cs ks c a (omega (arith, len))
base_push base (d ∷ cs) (false ∷ ks) c a len = base_push base cs ks c a (omega (arith, len))

doubts_push : (doubts : List Commit) (cs : List Commit) (ks : List Bool) (c : Commit) (a : Bool) → length cs ≡ length ks → doubts_after doubts (cs ++ c ∷ []) (ks ++ a ∷ []) ≡ doubts_after (doubts_after doubts cs ks) (c ∷ []) (a ∷ [])
doubts_push doubts [] [] c a len = refl
doubts_push doubts [] (b ∷ ks) c a len = absurd (omega (arith, len))
doubts_push doubts (d ∷ cs) [] c a len = absurd (omega (arith, len))
doubts_push doubts (d ∷ cs) (true ∷ ks) c a len = doubts_push [] cs ks c a (omega (arith, len))
doubts_push doubts (d ∷ cs) (false ∷ ks) c a len = doubts_push (doubts ++ d ∷ []) cs ks c a (omega (arith, len))

earlier : (base doubts : List Commit) (cs : List Commit) (ks : List Bool) (c : Commit) (a : Bool) (f : List ℕ) → length cs ≡ length ks → LeftDuring base doubts cs ks f → LeftDuring base doubts (cs ++ c ∷ []) (ks ++ a ∷ []) f
earlier base doubts [] [] c true f len is = inl (left_more base doubts (c ∷ []) f is)
earlier base doubts [] [] c false f len is = inl (left_more base doubts (c ∷ []) f is)
earlier base doubts [] (b ∷ ks) c a f len is = absurd (omega (arith, len))
earlier base doubts (d ∷ cs) [] c a f len is = absurd (omega (arith, len))
earlier base doubts (d ∷ cs) (true ∷ ks) c a f len (inl is) = inl is
earlier base doubts (d ∷ cs) (true ∷ ks) c a f len (inr is) = inr (earlier (base ++ d ∷ []) [] cs ks c a f (omega (arith, len)) is)
earlier base doubts (d ∷ cs) (false ∷ ks) c a f len (inl is) = inl is
earlier base doubts (d ∷ cs) (false ∷ ks) c a f len (inr is) = inr (earlier base (doubts ++ d ∷ []) cs ks c a f (omega (arith, len)) is)

now_left : (base doubts : List Commit) (cs : List Commit) (ks : List Bool) (c : Commit) (a : Bool) (f : List ℕ) → length cs ≡ length ks → IsLeft (base_after base cs ks) (doubts_after doubts cs ks ++ c ∷ []) f → LeftDuring base doubts (cs ++ c ∷ []) (ks ++ a ∷ []) f
now_left base doubts [] [] c true f len is = inl is
now_left base doubts [] [] c false f len is = inl is
now_left base doubts [] (b ∷ ks) c a f len is = absurd (omega (arith, len))
now_left base doubts (d ∷ cs) [] c a f len is = absurd (omega (arith, len))
now_left base doubts (d ∷ cs) (true ∷ ks) c a f len is = inr (now_left (base ++ d ∷ []) [] cs ks c a f (omega (arith, len)) is)
now_left base doubts (d ∷ cs) (false ∷ ks) c a f len is = inr (now_left base (doubts ++ d ∷ []) cs ks c a f (omega (arith, len)) is)

-- what holds of a loop: all survived so far
pub record SoFar (old new : DiskState) (before gate : Gate) (cs : List Commit) (ks : List Bool) : Type 0 where
  pub tells : is_some new.contents ≡ is_some old.contents
  pub survives : (base doubts : List Commit) → Stands old before base doubts → Survives old new gate base doubts cs ks

pub none_yet : (d : DiskState) (gate : Gate) → ((base doubts : List Commit) → Stands d gate base doubts → StandsOn d d gate base doubts) → SoFar d d gate gate [] []
none_yet d gate same = record { tells = refl; survives = λ base doubts is. record { any_moment = (same base doubts is).any_moment; now = stands_left d gate base doubts is; stands = is } }

stands_one : {E : Type 0} (old new : DiskState) (gate : Gate) (base doubts : List Commit) (c : Commit) (result : Result (Unit {0}) E) → Commits old new gate base doubts c result
    → Stands new gate (base_after base (c ∷ []) (is_ok result ∷ [])) (doubts_after doubts (c ∷ []) (is_ok result ∷ []))
stands_one old new gate base doubts c (Ok u) is = is.ok
stands_one old new gate base doubts c (Err why) is = is.err

pub one_more : {E : Type 0} (old mid new : DiskState) (before gate next : Gate) (cs : List Commit) (ks : List Bool) (c : Commit) (result : Result (Unit {0}) E) → length cs ≡ length ks → SoFar old mid before gate cs ks
    → is_some new.contents ≡ is_some mid.contents → ((base doubts : List Commit) → Stands mid gate base doubts → Commits mid new next base doubts c result) → SoFar old new before next (cs ++ c ∷ []) (ks ++ is_ok result ∷ [])
one_more old mid new before gate next cs ks c result len so_far tells commits = record {
  tells = tells ∙ so_far.tells;
  survives = λ base doubts is.
      let s = so_far.survives base doubts is in
      let now = commits (base_after base cs ks) (doubts_after doubts cs ks) s.stands in
      let whole : List ℕ → Type 0 = LeftDuring base doubts (cs ++ c ∷ []) (ks ++ is_ok result ∷ []) in
      let all : List Commit = cs ++ c ∷ [] in
      let answers : List Bool = ks ++ is_ok result ∷ [] in
      let stands : Stands new next (base_after base all answers) (doubts_after doubts all answers) =
      subst (λ (b : List Commit). Stands new next b (doubts_after doubts all answers)) (sym (base_push base cs ks c (is_ok result) len))
      (subst (λ (d : List Commit). Stands new next (base_after (base_after base cs ks) (c ∷ []) (is_ok result ∷ [])) d) (sym (doubts_push doubts cs ks c (is_ok result) len))
      (stands_one mid new next (base_after base cs ks) (doubts_after doubts cs ks) c result now)) in
      record {
        any_moment = told_joined old mid new whole so_far.tells
            (told_weaker old mid (LeftDuring base doubts cs ks) whole (λ f left. earlier base doubts cs ks c (is_ok result) f len left) s.any_moment)
            (told_weaker mid new (IsLeft (base_after base cs ks) (doubts_after doubts cs ks ++ c ∷ [])) whole (λ f left. now_left base doubts cs ks c (is_ok result) f len left) now.any_moment);
        now = stands_left new next (base_after base all answers) (doubts_after doubts all answers) stands;
        stands = stands;
      };
}
