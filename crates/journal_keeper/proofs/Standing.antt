-- What a journal stands for, before and after the writes of its keeper.
use Rattle.std.proofs.Common.{◌≡◌, inl, inr, ℕ, ◌+◌, ◌≤◌, true, List, [], ◌∷◌, ◌++◌, length, Option, Some, None, IfSome, Result, Ok, Err, refl, sym, ap, subst, ◌∙◌, arith, length-append}
use Rattle.std.specs.Prelude.{is_some, option_map}
use Rattle.plain_lists.specs.Members.{Mem}
use Rattle.disk_model.specs.Disk.{DiskState, LeavesOnly, Torn, Only, MayStay, patched, disk_limit, Follows}
use Rattle.journal_keeper.specs.Texts.{Commit}
use Rattle.journal_keeper.specs.Chain.{Chain}
use Rattle.journal_keeper.specs.Keeping.{IsLeft, IsClosed, HasDoubt, IsUnsure, HasAlways, Stands, IsSound, LeavesTold, LeavesNow, TornFrom, IsLoaded, Commits, StandsOn, IsBlock, is_read}
use Rattle.journal_keeper.specs.declared.gate.Gate.{Gate}
use Rattle.journal_keeper.specs.declared.gate.Gate.TheVariants.{Unread, Closed, Unsure}
use Rattle.journal_keeper.proofs.Moments.{started, joined, weaker}
use Rattle.journal_keeper.proofs.Torn.{torn_behind, doubt_written, gate_written, open_doubt, other_gate, doubt_left, unsure_left, torn_unsure, unsure_shut, unsure_long}

-- ---- commits in doubt

mem_more : (x : Commit) (xs more : List Commit) → Mem x xs → Mem x (xs ++ more)
mem_more x [] more m = absurd m
mem_more x (y ∷ xs) more (inl e) = inl e
mem_more x (y ∷ xs) more (inr m) = inr (mem_more x xs more m)

mem_last : (x : Commit) (xs : List Commit) → Mem x (xs ++ x ∷ [])
mem_last x [] = inl refl
mem_last x (y ∷ xs) = inr (mem_last x xs)

pub left_more : (base doubts more : List Commit) (left : List ℕ) → IsLeft base doubts left → IsLeft base (doubts ++ more) left
left_more base doubts more left (inl is) = inl is
left_more base doubts more left (inr is) = inr (is.0, mem_more is.0 doubts more is.1, is.2)

unsure_more : (place : ℕ) (base doubts more : List Commit) (file : List ℕ) → IsUnsure place base doubts file → IsUnsure place base (doubts ++ more) file
unsure_more place base doubts more file (inl is) = inl is
unsure_more place base doubts more file (inr is) = inr (is.0, mem_more is.0 doubts more is.1, is.2)

closed_left : (place : ℕ) (base doubts : List Commit) (left : List ℕ) → IsClosed place base left → IsLeft base doubts left
closed_left place base doubts left is = inl (inr is.0)

-- ---- what a disk has always

pub always_now : (d : DiskState) (P R : List ℕ → Type 0) → HasAlways d P → ((file : List ℕ) → P file → R file) → IfSome d.contents R
always_now d P R is tells = go d.contents is
  where
    go : (o : Option (List ℕ)) → IfSome o (λ file. P file × ((left : List ℕ) → d.may_leave left → P left)) → IfSome o R
    go None is = tt
    go (Some file) is = tells file is.0

always_weaker : (d : DiskState) (P Q : List ℕ → Type 0) → ((file : List ℕ) → P file → Q file) → HasAlways d P → HasAlways d Q
always_weaker d P Q tells is = go d.contents is
  where
    go : (o : Option (List ℕ)) → IfSome o (λ file. P file × ((left : List ℕ) → d.may_leave left → P left)) → IfSome o (λ file. Q file × ((left : List ℕ) → d.may_leave left → Q left))
    go None is = tt
    go (Some file) is = (tells file is.0, λ left now. tells left (is.1 left now))

-- after a call, where what a crash may leave now it could leave before but for a step
pub always_from : (old new : DiskState) (P Q : List ℕ → Type 0) (step : List ℕ → List ℕ → Type 0) → HasAlways old P → is_some new.contents ≡ is_some old.contents → MayStay new → Follows step old.may_leave new.may_leave
    → ((was left : List ℕ) → P was → step was left → Q left) → HasAlways new Q
always_from old new P Q step is tells stays crash next = go old.contents new.contents is tells stays
  where
    go : (o n : Option (List ℕ)) → IfSome o (λ file. P file × ((left : List ℕ) → old.may_leave left → P left)) → is_some n ≡ is_some o → IfSome n new.may_leave → IfSome n (λ file. Q file × ((left : List ℕ) → new.may_leave left → Q left))
    go None None is tells stays = tt
    go None (Some file) is tells stays = absurd cc
    go (Some was) None is tells stays = tt
    go (Some was) (Some file) is tells stays =
        let each : (left : List ℕ) → new.may_leave left → Q left = λ left now. let from = crash left now in next from.0 left (is.1 from.0 from.1) from.2 in
        (each file stays, each)

-- after a write and a sync
pub always_written : (old new : DiskState) (P Q : List ℕ → Type 0) (place : ℕ) (bytes : List ℕ) → HasAlways old P → new.contents ≡ option_map (patched place bytes) old.contents → IfSome new.contents (λ file. Only file new.may_leave)
    → ((file : List ℕ) → P file → Q (patched place bytes file)) → HasAlways new Q
always_written old new P Q place bytes is written durable next = go old.contents new.contents is written durable
  where
    go : (o n : Option (List ℕ)) → IfSome o (λ file. P file × ((left : List ℕ) → old.may_leave left → P left)) → n ≡ option_map (patched place bytes) o → IfSome n (λ file. Only file new.may_leave) → IfSome n (λ file. Q file × ((left : List ℕ) → new.may_leave left → Q left))
    go None None is written durable = tt
    go None (Some file) is written durable = absurd cc
    go (Some was) None is written durable = tt
    go (Some was) (Some file) is written durable =
        let same : file ≡ patched place bytes was = cc in
        let now : Q file = subst Q (sym same) (next was is.0) in
        (now, λ left left_now. subst Q (sym (durable left left_now)) now)

pub told_moments : (old new : DiskState) (P R : List ℕ → Type 0) (place count : ℕ) → HasAlways old P → LeavesOnly old new (TornFrom place count old) → ((was left : List ℕ) → P was → Torn place count was left → R left) → LeavesTold old new R
told_moments old new P R place count is moments tells = go old.contents is
  where
    go : (o : Option (List ℕ)) → IfSome o (λ file. P file × ((left : List ℕ) → old.may_leave left → P left)) → IfSome o (λ _. LeavesOnly old new R)
    go None is = tt
    go (Some file) is = weaker old new (TornFrom place count old) R (λ left from. tells from.0 left (is.1 from.0 from.1) from.2) moments

pub told_start : (d : DiskState) (P R : List ℕ → Type 0) → ((left : List ℕ) → d.left_since d.moment left → d.may_leave left) → HasAlways d P → ((left : List ℕ) → P left → R left) → LeavesTold d d R
told_start d P R now is tells = go d.contents is
  where
    go : (o : Option (List ℕ)) → IfSome o (λ file. P file × ((left : List ℕ) → d.may_leave left → P left)) → IfSome o (λ _. LeavesOnly d d R)
    go None is = tt
    go (Some file) is = started d R (λ left since. tells left (is.1 left (now left since)))

pub told_joined : (old mid new : DiskState) (R : List ℕ → Type 0) → is_some mid.contents ≡ is_some old.contents → LeavesTold old mid R → LeavesTold mid new R → LeavesTold old new R
told_joined old mid new R tells first second = go old.contents mid.contents tells first second
  where
    go : (o m : Option (List ℕ)) → is_some m ≡ is_some o → IfSome o (λ _. LeavesOnly old mid R) → IfSome m (λ _. LeavesOnly mid new R) → IfSome o (λ _. LeavesOnly old new R)
    go None m tells first second = tt
    go (Some file) None tells first second = absurd cc
    go (Some file) (Some other) tells first second = joined old mid new R first second

pub told_weaker : (old new : DiskState) (P Q : List ℕ → Type 0) → ((left : List ℕ) → P left → Q left) → LeavesTold old new P → LeavesTold old new Q
told_weaker old new P Q tells is = go old.contents is
  where
    go : (o : Option (List ℕ)) → IfSome o (λ _. LeavesOnly old new P) → IfSome o (λ _. LeavesOnly old new Q)
    go None is = tt
    go (Some file) is = weaker old new P Q tells is

-- ---- the gates

pub stands_sound : (d : DiskState) (gate : Gate) (base doubts : List Commit) → Stands d gate base doubts → IsSound d gate
stands_sound d Unread base doubts is = absurd is
stands_sound d (Closed place) base doubts is = (base, doubts, is)
stands_sound d (Unsure place) base doubts is = (base, doubts, is)

pub stands_more : (d : DiskState) (gate : Gate) (base doubts more : List Commit) → Stands d gate base doubts → Stands d gate base (doubts ++ more)
stands_more d Unread base doubts more is = absurd is
stands_more d (Closed place) base doubts more is = is
stands_more d (Unsure place) base doubts more is = (is.0, always_weaker d (IsUnsure place base doubts) (IsUnsure place base (doubts ++ more)) (unsure_more place base doubts more) is.1)

-- a journal that was loaded is sound for some commits
pub record SoundFor (d : DiskState) (gate : Gate) : Type 0 where
  pub base : List Commit
  pub doubts : List Commit
  pub stands : Stands d gate base doubts

pub sound_for : (d : DiskState) (gate : Gate) → IsLoaded gate → IsSound d gate → SoundFor d gate
sound_for d Unread loaded is = absurd loaded
sound_for d (Closed place) loaded is = record { base = is.0; doubts = is.1; stands = is.2 }
sound_for d (Unsure place) loaded is = record { base = is.0; doubts = is.1; stands = is.2 }

-- what a journal stands for is what a crash may leave of it
pub stands_left : (d : DiskState) (gate : Gate) (base doubts : List Commit) → Stands d gate base doubts → LeavesNow d (IsLeft base doubts)
stands_left d Unread base doubts is = absurd is
stands_left d (Closed place) base doubts is = go d.contents is.1
  where
    go : (o : Option (List ℕ)) → IfSome o (λ file. IsClosed place base file × ((left : List ℕ) → d.may_leave left → IsClosed place base left)) → IfSome o (λ _. (left : List ℕ) → d.may_leave left → IsLeft base doubts left)
    go None closed = tt
    go (Some file) closed = λ left may. closed_left place base doubts left (closed.1 left may)
stands_left d (Unsure place) base doubts is = go d.contents is.1
  where
    go : (o : Option (List ℕ)) → IfSome o (λ file. IsUnsure place base doubts file × ((left : List ℕ) → d.may_leave left → IsUnsure place base doubts left)) → IfSome o (λ _. (left : List ℕ) → d.may_leave left → IsLeft base doubts left)
    go None unsure = tt
    go (Some file) unsure = λ left may. unsure_left place base doubts left (unsure.1 left may)

no_doubt : (base : List Commit) (left : List ℕ) → IsLeft base [] left → Chain left base
no_doubt base left (inl is) = is
no_doubt base left (inr is) = absurd is.1

pub stands_alone : (d : DiskState) (gate : Gate) (base : List Commit) → Stands d gate base [] → LeavesNow d (λ left. Chain left base)
stands_alone d gate base is = go d.contents (stands_left d gate base [] is)
  where
    go : (o : Option (List ℕ)) → IfSome o (λ _. (left : List ℕ) → d.may_leave left → IsLeft base [] left) → IfSome o (λ _. (left : List ℕ) → d.may_leave left → Chain left base)
    go None all = tt
    go (Some file) all = λ left may. no_doubt base left (all left may)

-- nothing was written yet
pub stands_on_same : (d : DiskState) (gate : Gate) (base doubts : List Commit) → ((left : List ℕ) → d.left_since d.moment left → d.may_leave left) → Stands d gate base doubts → StandsOn d d gate base doubts
stands_on_same d Unread base doubts now is = absurd is
stands_on_same d (Closed place) base doubts now is = record { any_moment = told_start d (IsClosed place base) (IsLeft base doubts) now is.1 (closed_left place base doubts); stands = is }
stands_on_same d (Unsure place) base doubts now is = record { any_moment = told_start d (IsUnsure place base doubts) (IsLeft base doubts) now is.1 (unsure_left place base doubts); stands = is }

-- ---- an unsure gate is written closed

module _ (old new : DiskState) (place : ℕ) (base doubts : List Commit) (is : Stands old (Unsure place) base doubts) (moments : LeavesOnly old new (TornFrom place 1 old)) where
  mend_moments : LeavesTold old new (IsLeft base doubts)
  mend_moments = told_moments old new (IsUnsure place base doubts) (IsLeft base doubts) place 1 is.1 moments (λ was left p torn. unsure_left place base doubts left (torn_unsure place base doubts was left p torn))

  pub mend_failed : is_some new.contents ≡ is_some old.contents → MayStay new → Follows (Torn place 1) old.may_leave new.may_leave → StandsOn old new (Unsure place) base doubts
  mend_failed tells stays crash = record {
    any_moment = mend_moments;
    stands = (is.0, always_from old new (IsUnsure place base doubts) (IsUnsure place base doubts) (Torn place 1) is.1 tells stays crash (torn_unsure place base doubts));
  }

  pub mend_done : new.contents ≡ option_map (patched place (0 ∷ [])) old.contents → IfSome new.contents (λ file. Only file new.may_leave) → StandsOn old new (Closed place) base doubts
  mend_done written durable = record {
    any_moment = mend_moments;
    stands = (is.0, always_written old new (IsUnsure place base doubts) (IsClosed place base) place (0 ∷ []) is.1 written durable (unsure_shut place base doubts));
  }

-- ---- a record is written behind a closed gate, and the gate is opened

module _ (old : DiskState) (place : ℕ) (base doubts : List Commit) (changes : Commit) (is : Stands old (Closed place) base doubts) where
  -- the gate behind the base may be closed still
  pub not_staged : {E : Type 0} (new : DiskState) (count : ℕ) (why : E) → LeavesOnly old new (TornFrom (place + 1) count old) → is_some new.contents ≡ is_some old.contents → MayStay new → Follows (Torn (place + 1) count) old.may_leave new.may_leave
      → Commits old new (Closed place) base doubts changes (Err why)
  not_staged new count why moments tells stays crash = record {
    any_moment = told_moments old new (IsClosed place base) (IsLeft base (doubts ++ changes ∷ [])) (place + 1) count is.1 moments (λ was left p torn. closed_left place base (doubts ++ changes ∷ []) left (torn_behind place count base was left p torn));
    acknowledged = tt;
    ok = tt;
    err = (is.0, always_from old new (IsClosed place base) (IsClosed place base) (Torn (place + 1) count) is.1 tells stays crash (λ was left p torn. torn_behind place count base was left p torn));
  }

  module _ (mid : DiskState) (block : List ℕ) (block_is : IsBlock block changes) (written : mid.contents ≡ option_map (patched (place + 1) block) old.contents) (durable : IfSome mid.contents (λ file. Only file mid.may_leave)) (first : LeavesOnly old mid (TornFrom (place + 1) (length block) old)) (mid_tells : is_some mid.contents ≡ is_some old.contents) where
    abbrev Staged : List ℕ → Type 0
    Staged file = (h : HasDoubt place base changes file) × (length h.body + 1 ≡ length block)

    staged : HasAlways mid Staged
    staged = always_written old mid (IsClosed place base) Staged (place + 1) block is.1 written durable
        (λ file closed. subst (λ (b : List ℕ). (h : HasDoubt place base changes (patched (place + 1) b file)) × (length h.body + 1 ≡ length b)) (sym block_is.2)
        (let doubt = doubt_written place base changes block_is.0 file closed block_is.1 in (doubt.0, omega (arith, ap length doubt.1, length-append block_is.0 (0 ∷ [])))))

    pub staged_long : IfSome mid.contents (λ file. place ≤ length file)
    staged_long = always_now mid Staged (λ file. place ≤ length file) staged (λ file doubt. unsure_long place base (changes ∷ []) file (inr (changes, inl refl, doubt.0)))

    stage_moments : LeavesTold old mid (IsLeft base (doubts ++ changes ∷ []))
    stage_moments = told_moments old mid (IsClosed place base) (IsLeft base (doubts ++ changes ∷ [])) (place + 1) (length block) is.1 first (λ was left p torn. closed_left place base (doubts ++ changes ∷ []) left (torn_behind place (length block) base was left p torn))

    module _ (new : DiskState) (second : LeavesOnly mid new (TornFrom place 1 mid)) where
      all_moments : LeavesTold old new (IsLeft base (doubts ++ changes ∷ []))
      all_moments = told_joined old mid new (IsLeft base (doubts ++ changes ∷ [])) mid_tells stage_moments
          (told_moments mid new Staged (IsLeft base (doubts ++ changes ∷ [])) place 1 staged second (λ was left p torn. doubt_left place base (doubts ++ changes ∷ []) changes left (other_gate place base changes was left p.0 torn) (mem_last changes doubts)))

      pub not_opened : {E : Type 0} (why : E) → is_some new.contents ≡ is_some mid.contents → MayStay new → Follows (Torn place 1) mid.may_leave new.may_leave → Commits old new (Unsure place) base doubts changes (Err why)
      not_opened why tells stays crash = record {
        any_moment = all_moments;
        acknowledged = tt;
        ok = tt;
        err = (is.0, always_from mid new Staged (IsUnsure place base (doubts ++ changes ∷ [])) (Torn place 1) staged tells stays crash (λ was left p torn. inr (changes, mem_last changes doubts, other_gate place base changes was left p.0 torn)));
      }

      pub opened_gate : {E : Type 0} (next : ℕ) → next ≡ place + length block → new.contents ≡ option_map (patched place (1 ∷ [])) mid.contents → IfSome new.contents (λ file. Only file new.may_leave) → place + 1 + length block ≤ disk_limit
          → Commits {E = E} old new (Closed next) base doubts changes (Ok tt)
      opened_gate {E} next next_is open_written open_durable limit =
          let opens : (file : List ℕ) → Staged file → IsClosed (place + length block) (base ++ changes ∷ []) (patched place (1 ∷ []) file) = λ file doubt.
          let open_at = open_doubt place base changes file (patched place (1 ∷ []) file) doubt.0 (gate_written place 1 base changes file doubt.0) in
          (open_at.0, open_at.1 ∙ behind doubt.0.body doubt.1) in
          let stands : Stands new (Closed (place + length block)) (base ++ changes ∷ []) [] =
          (omega (arith, limit), always_written mid new Staged (IsClosed (place + length block) (base ++ changes ∷ [])) place (1 ∷ []) staged open_written open_durable opens) in
          subst (λ (n : ℕ). Commits {E = E} old new (Closed n) base doubts changes (Ok tt)) (sym next_is) (
          record {
            any_moment = all_moments;
            acknowledged = stands_alone new (Closed (place + length block)) (base ++ changes ∷ []) stands;
            ok = stands;
            err = tt;
          })
        where
          behind : (body : List ℕ) → length body + 1 ≡ length block → place + (1 + length body) ≡ place + length block
          behind body same = omega (arith, same)

-- ---- a commit that mends first

-- the gate could not be mended, or memory was refused
pub not_begun : {E : Type 0} (old new : DiskState) (gate : Gate) (base doubts : List Commit) (changes : Commit) (why : E) → StandsOn old new gate base doubts → Commits old new gate base doubts changes (Err why)
not_begun old new gate base doubts changes why is = record {
  any_moment = told_weaker old new (IsLeft base doubts) (IsLeft base (doubts ++ changes ∷ [])) (left_more base doubts (changes ∷ [])) is.any_moment;
  acknowledged = tt;
  ok = tt;
  err = stands_more new gate base doubts (changes ∷ []) is.stands;
}

pub mended_then : {E : Type 0} (old mid new : DiskState) (before gate : Gate) (base doubts : List Commit) (changes : Commit) (result : Result (Unit {0}) E) → is_some mid.contents ≡ is_some old.contents
    → StandsOn old mid before base doubts → Commits mid new gate base doubts changes result → Commits old new gate base doubts changes result
mended_then old mid new before gate base doubts changes result tells is then = record {
  any_moment = told_joined old mid new (IsLeft base (doubts ++ changes ∷ [])) tells
      (told_weaker old mid (IsLeft base doubts) (IsLeft base (doubts ++ changes ∷ [])) (left_more base doubts (changes ∷ [])) is.any_moment) then.any_moment;
  acknowledged = then.acknowledged;
  ok = then.ok;
  err = then.err;
}

-- a journal that was loaded stays sound, and so does its file
pub commits_sound : {E : Type 0} (old new : DiskState) (before gate : Gate) (changes : Commit) (result : Result (Unit {0}) E) → IsLoaded before → IsSound old before
    → ((base doubts : List Commit) → Stands old before base doubts → Commits old new gate base doubts changes result) → IsSound new gate
commits_sound {E} old new before gate changes result loaded sound commits =
    let s = sound_for old before loaded sound in
    by result (commits s.base s.doubts s.stands)
  where
    by : {base doubts : List Commit} (r : Result (Unit {0}) E) → Commits old new gate base doubts changes r → IsSound new gate
    by {base} {doubts} (Ok u) is = stands_sound new gate (base ++ changes ∷ []) [] is.ok
    by {base} {doubts} (Err why) is = stands_sound new gate base (doubts ++ changes ∷ []) is.err

pub mended_sound : (old mid : DiskState) (before after : Gate) → IsSound old before → ((base doubts : List Commit) → Stands old before base doubts → StandsOn old mid after base doubts) → (before ≡ Unread → after ≡ Unread) → IsSound mid after
mended_sound old mid Unread after sound stands unread = subst (IsSound mid) (sym (unread refl)) tt
mended_sound old mid (Closed place) after sound stands unread = stands_sound mid after sound.0 sound.1 (stands sound.0 sound.1 sound.2).stands
mended_sound old mid (Unsure place) after sound stands unread = stands_sound mid after sound.0 sound.1 (stands sound.0 sound.1 sound.2).stands

pub loaded_if : (gate : Gate) → is_read gate ≡ true → IsLoaded gate
loaded_if Unread is = absurd cc
loaded_if (Closed place) is = tt
loaded_if (Unsure place) is = tt
