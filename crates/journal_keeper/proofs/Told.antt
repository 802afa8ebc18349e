-- What a journal stands for, before and after a load, and what it tells.
use Rattle.std.proofs.Common.{◌≡◌, inl, inr, ℕ, List, [], ◌∷◌, ◌++◌, Option, Some, None, IfSome, IfOk, Result, Ok, Err, OnOk, OnErr, refl, sym, ap, subst, ◌∙◌}
use Rattle.std.specs.Prelude.{is_some, option_map}
use Rattle.record_keeper.specs.Entries.{after_changes}
use Rattle.size_values.specs.declared.entry.Entry.{Entry}
use Rattle.disk_model.specs.Disk.{DiskState, LeavesOnly, WritesNothing, patched}
use Rattle.journal_keeper.specs.Texts.{Commit}
use Rattle.journal_keeper.specs.Chain.{Chain, chain_of, rows_of}
use Rattle.journal_keeper.specs.Keeping.{IsLeft, IsClosed, IsUnsure, HasAlways, Stands, IsSound, LeavesTold, StandsOn, Commits, Loads, LeavesChain, IsLoaded, read_as, entries_told}
use Rattle.journal_keeper.specs.declared.gate.Gate.{Gate}
use Rattle.journal_keeper.specs.declared.gate.Gate.TheVariants.{Unread, Closed, Unsure}
use Rattle.journal_keeper.proofs.ReadChain.{chain_read}
use Rattle.journal_keeper.proofs.Prefix.{rows_push}
use Rattle.journal_keeper.proofs.Moments.{started, still}
use Rattle.journal_keeper.proofs.Torn.{unsure_left, unsure_shut}
use Rattle.journal_keeper.proofs.Standing.{always_from, told_joined, stands_sound, mended_sound, sound_for, SoundFor}

pub some_is : {A : Type 0} (x y : A) → Some x ≡ Some y → x ≡ y
some_is x y e = cc

pub no_some : {A : Type 0} (x : A) → None ≡ Some x → ⊥
no_some x e = absurd cc

-- ---- what is told

pub told_closed : (place : ℕ) (base : List Commit) (file : List ℕ) → IsClosed place base file → chain_of file ≡ Some base
told_closed place base file is = chain_read file base (inr is.0)

-- a file that has the property is told as the base commits
abbrev pub TellsBase : Gate → List Commit → List ℕ → Type 0
TellsBase gate base file = chain_of (read_as gate file) ≡ Some base

tells_base : (d : DiskState) (gate : Gate) (base doubts : List Commit) → Stands d gate base doubts → IfSome d.contents (TellsBase gate base)
tells_base d Unread base doubts is = absurd is
tells_base d (Closed place) base doubts is = go d.contents is.1
  where
    go : (o : Option (List ℕ)) → IfSome o (λ file. IsClosed place base file × ((left : List ℕ) → d.may_leave left → IsClosed place base left)) → IfSome o (TellsBase (Closed place) base)
    go None is = tt
    go (Some file) is = told_closed place base file is.0
tells_base d (Unsure place) base doubts is = go d.contents is.1
  where
    go : (o : Option (List ℕ)) → IfSome o (λ file. IsUnsure place base doubts file × ((left : List ℕ) → d.may_leave left → IsUnsure place base doubts left)) → IfSome o (TellsBase (Unsure place) base)
    go None is = tt
    go (Some file) is = told_closed place base (patched place (0 ∷ []) file) (unsure_shut place base doubts file is.0)

pub told_is : (gate : Gate) (base : List Commit) (o : Option (List ℕ)) → IfSome o (TellsBase gate base) → entries_told gate o ≡ option_map (λ _. rows_of base) o
told_is gate base None is = refl
told_is gate base (Some file) is = ap (option_map rows_of) is

pub same_told : {A B : Type 0} (o n : Option A) (b : B) → is_some n ≡ is_some o → option_map (λ _. b) n ≡ option_map (λ _. b) o
same_told None None b e = refl
same_told None (Some x) b e = absurd cc
same_told (Some x) None b e = absurd cc
same_told (Some x) (Some y) b e = refl

-- two journals that stand for the same commits tell the same
pub told_same : (d e : DiskState) (g h : Gate) (base doubts others : List Commit) → Stands d g base doubts → Stands e h base others → is_some e.contents ≡ is_some d.contents → entries_told h e.contents ≡ entries_told g d.contents
told_same d e g h base doubts others was is tells =
    told_is h base e.contents (tells_base e h base others is) ∙ same_told d.contents e.contents (rows_of base) tells ∙ sym (told_is g base d.contents (tells_base d g base doubts was))

-- one that stands for one commit more tells what that leaves
pub told_more : (d e : DiskState) (g h : Gate) (base doubts others : List Commit) (changes : Commit) → Stands d g base doubts → Stands e h (base ++ changes ∷ []) others → is_some e.contents ≡ is_some d.contents
    → entries_told h e.contents ≡ option_map (after_changes changes) (entries_told g d.contents)
told_more d e g h base doubts others changes was is tells =
    told_is h (base ++ changes ∷ []) e.contents (tells_base e h (base ++ changes ∷ []) others is)
    ∙ same_told d.contents e.contents (rows_of (base ++ changes ∷ [])) tells
    ∙ more d.contents
    ∙ ap (option_map (after_changes changes)) (sym (told_is g base d.contents (tells_base d g base doubts was)))
  where
    more : (o : Option (List ℕ)) → option_map (λ _. rows_of (base ++ changes ∷ [])) o ≡ option_map (after_changes changes) (option_map (λ _. rows_of base) o)
    more None = refl
    more (Some file) = ap Some (rows_push [] base changes)

-- ---- calls that write nothing

module _ (old new : DiskState) (now : (left : List ℕ) → old.left_since old.moment left → old.may_leave left) (quiet : WritesNothing old new) where
  pub quiet_always : (P : List ℕ → Type 0) → HasAlways old P → HasAlways new P
  quiet_always P is = always_from old new P P (λ was left. was ≡ left) is (ap is_some quiet.contents) quiet.stays (λ left is_now. (left, quiet.crash left is_now, refl)) (λ was left p same. subst P same p)

  pub quiet_sound : (gate : Gate) → IsSound old gate → IsSound new gate
  quiet_sound Unread is = tt
  quiet_sound (Closed place) is = stands_sound new (Closed place) is.0 is.1 (is.2.0, quiet_always (IsClosed place is.0) is.2.1)
  quiet_sound (Unsure place) is = stands_sound new (Unsure place) is.0 is.1 (is.2.0, quiet_always (IsUnsure place is.0 is.1) is.2.1)

  quiet_told : (P R : List ℕ → Type 0) → HasAlways old P → ((left : List ℕ) → P left → R left) → LeavesTold old new R
  quiet_told P R is tells = go old.contents is
    where
      go : (o : Option (List ℕ)) → IfSome o (λ file. P file × ((left : List ℕ) → old.may_leave left → P left)) → IfSome o (λ _. LeavesOnly old new R)
      go None is = tt
      go (Some file) is = still old new R now quiet (λ left may. tells left (is.1 left may))

  pub quiet_stands : (gate : Gate) (base doubts : List Commit) → Stands old gate base doubts → StandsOn old new gate base doubts
  quiet_stands Unread base doubts is = absurd is
  quiet_stands (Closed place) base doubts is = record { any_moment = quiet_told (IsClosed place base) (IsLeft base doubts) is.1 (λ left closed. inl (inr closed.0)); stands = (is.0, quiet_always (IsClosed place base) is.1) }
  quiet_stands (Unsure place) base doubts is = record { any_moment = quiet_told (IsUnsure place base doubts) (IsLeft base doubts) is.1 (unsure_left place base doubts); stands = (is.0, quiet_always (IsUnsure place base doubts) is.1) }

  pub quiet_chain : (gate : Gate) (commits : List Commit) → LeavesChain old gate commits → LeavesTold old new (λ left. Chain left commits)
  quiet_chain gate commits is = go old.contents
    where
      go : (o : Option (List ℕ)) → IfSome o (λ _. LeavesOnly old new (λ left. Chain left commits))
      go None = tt
      go (Some file) = still old new (λ left. Chain left commits) now quiet is.1

  -- a load that failed without a write
  pub quiet_failed : {E : Type 0} (gate : Gate) (why : E) → Loads old new gate gate (Err why)
  quiet_failed gate why = record {
    stands = quiet_stands gate;
    first = quiet_chain gate;
    told = ap (entries_told gate) quiet.contents;
    found = tt;
    sound = quiet_sound gate;
  }

  -- a load that begins with them
  pub quiet_then : {E : Type 0} (last : DiskState) (before gate : Gate) (result : Result (List Entry) E) → Loads new last before gate result → Loads old last before gate result
  quiet_then last before gate result rest = record {
    stands = λ base doubts is.
        let first = quiet_stands before base doubts is in
        let second = rest.stands base doubts first.stands in
        record { any_moment = told_joined old new last (IsLeft base doubts) (ap is_some quiet.contents) first.any_moment second.any_moment; stands = second.stands };
    first = λ commits is. told_joined old new last (λ left. Chain left commits) (ap is_some quiet.contents) (quiet_chain before commits is) (rest.first commits (is.0, λ left may. is.1 left (quiet.crash left may)));
    told = rest.told ∙ ap (entries_told before) quiet.contents;
    found = rest.found;
    sound = λ is. rest.sound (quiet_sound before is);
  }

-- ---- a gate that was mended first

mended_told : (old mid : DiskState) (before after : Gate) → IsSound old before → ((base doubts : List Commit) → Stands old before base doubts → StandsOn old mid after base doubts) → (before ≡ Unread → old ≡ mid) → (before ≡ Unread → after ≡ Unread)
    → is_some mid.contents ≡ is_some old.contents → entries_told after mid.contents ≡ entries_told before old.contents
mended_told old mid Unread after sound stands same gate tells = ap (λ (g : Gate). entries_told g mid.contents) (gate refl) ∙ ap (λ (d : DiskState). entries_told Unread d.contents) (sym (same refl))
mended_told old mid (Closed place) after sound stands same gate tells = told_same old mid (Closed place) after sound.0 sound.1 sound.1 sound.2 (stands sound.0 sound.1 sound.2).stands tells
mended_told old mid (Unsure place) after sound stands same gate tells = told_same old mid (Unsure place) after sound.0 sound.1 sound.1 sound.2 (stands sound.0 sound.1 sound.2).stands tells

module _ (old mid : DiskState) (before after : Gate) (sound : IsSound old before) (mend : (base doubts : List Commit) → Stands old before base doubts → StandsOn old mid after base doubts)
    (same : before ≡ Unread → old ≡ mid) (unread : before ≡ Unread → after ≡ Unread) (tells : is_some mid.contents ≡ is_some old.contents) where
  pub mend_then : {E : Type 0} (last : DiskState) (gate : Gate) (result : Result (List Entry) E) → Loads mid last after gate result → Loads old last before gate result
  mend_then last gate result rest = record {
    stands = λ base doubts is.
        let first = mend base doubts is in
        let second = rest.stands base doubts first.stands in
        record { any_moment = told_joined old mid last (IsLeft base doubts) tells first.any_moment second.any_moment; stands = second.stands };
    first = λ commits is. subst (λ (d : DiskState). LeavesTold d last (λ left. Chain left commits)) (sym (same is.0))
        (rest.first commits (unread is.0, subst (λ (d : DiskState). (left : List ℕ) → d.may_leave left → Chain left commits) (same is.0) is.1));
    told = rest.told ∙ mended_told old mid before after sound mend same unread tells;
    found = rest.found;
    sound = λ is. rest.sound (mended_sound old mid before after is mend unread);
  }

  -- the gate could not be mended
  pub mend_loads : {E : Type 0} (why : E) → ((left : List ℕ) → old.left_since old.moment left → old.may_leave left) → Loads old mid before after (Err why)
  mend_loads why now = record {
    stands = mend;
    first = λ commits is. subst (λ (d : DiskState). LeavesTold old d (λ left. Chain left commits)) (same is.0) (go commits is.1 old.contents);
    told = mended_told old mid before after sound mend same unread tells;
    found = tt;
    sound = λ is. mended_sound old mid before after is mend unread;
  }
    where
      go : (commits : List Commit) → ((left : List ℕ) → old.may_leave left → Chain left commits) → (o : Option (List ℕ)) → IfSome o (λ _. LeavesOnly old old (λ left. Chain left commits))
      go commits is None = tt
      go commits is (Some file) = started old (λ left. Chain left commits) (λ left since. is left (now left since))

-- ---- what a keeper answers

pub loads_found : {E : Type 0} (old new : DiskState) (before gate : Gate) (result : Result (List Entry) E) → Loads old new before gate result → IfOk result (λ found. IfSome (entries_told before old.contents) (λ kept. found ≡ kept))
loads_found old new before gate (Err why) is = tt
loads_found old new before gate (Ok entries) is = subst (λ (o : Option (List Entry)). IfSome o (λ kept. entries ≡ kept)) is.told (go new.contents refl is.found)
  where
    go : (o : Option (List ℕ)) → new.contents ≡ o → IfSome o (λ file. (commits : List Commit) × Chain file commits × (entries ≡ rows_of commits) × Stands new gate commits [])
        → IfSome (entries_told gate o) (λ kept. entries ≡ kept)
    go None same found = tt
    go (Some file) same found =
        let told : chain_of (read_as gate file) ≡ Some found.0 = subst (λ (o : Option (List ℕ)). IfSome o (TellsBase gate found.0)) same (tells_base new gate found.0 [] found.3) in
        subst (λ (r : Option (List Commit)). IfSome (option_map rows_of r) (λ kept. entries ≡ kept)) (sym told) found.2

pub commit_ok : {E : Type 0} (old new : DiskState) (before gate : Gate) (changes : Commit) (result : Result (Unit {0}) E) → IsLoaded before → IsSound old before → ((base doubts : List Commit) → Stands old before base doubts → Commits old new gate base doubts changes result)
    → is_some new.contents ≡ is_some old.contents → OnOk result (entries_told gate new.contents ≡ option_map (after_changes changes) (entries_told before old.contents))
commit_ok {E} old new before gate changes result loaded sound commits tells = let s = sound_for old before loaded sound in by s result (commits s.base s.doubts s.stands)
  where
    by : (s : SoundFor old before) (r : Result (Unit {0}) E) → Commits old new gate s.base s.doubts changes r → OnOk r (entries_told gate new.contents ≡ option_map (after_changes changes) (entries_told before old.contents))
    by s (Ok u) is = told_more old new before gate s.base s.doubts [] changes s.stands is.ok tells
    by s (Err why) is = tt

pub commit_err : {E : Type 0} (old new : DiskState) (before gate : Gate) (changes : Commit) (result : Result (Unit {0}) E) → IsLoaded before → IsSound old before → ((base doubts : List Commit) → Stands old before base doubts → Commits old new gate base doubts changes result)
    → is_some new.contents ≡ is_some old.contents → OnErr result (entries_told gate new.contents ≡ entries_told before old.contents)
commit_err {E} old new before gate changes result loaded sound commits tells = let s = sound_for old before loaded sound in by s result (commits s.base s.doubts s.stands)
  where
    by : (s : SoundFor old before) (r : Result (Unit {0}) E) → Commits old new gate s.base s.doubts changes r → OnErr r (entries_told gate new.contents ≡ entries_told before old.contents)
    by s (Ok u) is = tt
    by s (Err why) is = told_same old new before gate s.base s.doubts (s.doubts ++ changes ∷ []) s.stands is.err tells
