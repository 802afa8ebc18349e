-- A load that writes the gate of an empty chain, and one that reads a file.
use Rattle.std.proofs.Common.{◌≡◌, inl, inr, ℕ, ◌≤◌, List, [], ◌∷◌, length, Option, Some, None, IfSome, Ok, Err, refl, sym, ap, subst, ◌∙◌, arith}
use Rattle.std.specs.Prelude.{is_some, option_map}
use Rattle.std.proofs.lemmas.List.{drop_all}
use Rattle.std.specs.List.Sorted.{IsStrictlySortedBy}
use Rattle.record_keeper.specs.Entries.{IsOrderedEntries}
use Rattle.size_values.specs.declared.entry.Entry.{Entry}
use Rattle.disk_model.specs.Disk.{DiskState, LeavesOnly, Torn, Only, MayStay, WritesNothing, patched, disk_limit, Follows}
use Rattle.journal_keeper.specs.Texts.{Commit}
use Rattle.journal_keeper.specs.Chain.{Chain, chain_of, rows_of}
use Rattle.journal_keeper.specs.Keeping.{IsLeft, IsClosed, IsUnsure, HasAlways, Stands, IsSound, LeavesTold, TornFrom, IsMended, IsSettled, first_gate, read_gate, StandsOn, Loads, LeavesChain, entries_told}
use Rattle.journal_keeper.specs.declared.gate.Gate.{Gate}
use Rattle.journal_keeper.specs.declared.gate.Gate.TheVariants.{Unread, Closed, Unsure}
use Rattle.journal_keeper.proofs.ReadChain.{chain_read}
use Rattle.journal_keeper.proofs.Moments.{weaker}
use Rattle.journal_keeper.proofs.Torn.{closed_long}
use Rattle.journal_keeper.proofs.Standing.{always_from, always_written}
use Rattle.journal_keeper.proofs.Told.{some_is, told_closed, told_is, same_told, told_same, quiet_stands, quiet_chain, quiet_always, quiet_sound}

abbrev IsSmall : List ℕ → Type 0
IsSmall file = length file ≤ 1

small_chain : (file : List ℕ) → IsSmall file → chain_of file ≡ Some []
small_chain file small = chain_read file [] (inl (small, refl))

-- a small file with base commits has none, and its gate is its first byte
small_base : (place : ℕ) (base : List Commit) (file : List ℕ) → IsSmall file → IsClosed place base file → (place ≡ 0) × (base ≡ [])
small_base place base file small closed =
    (omega (arith, closed_long place base file closed), some_is base [] (sym (told_closed place base file closed) ∙ small_chain file small))

first_written : (file : List ℕ) → IsSmall file → IsClosed 0 [] (patched 0 (0 ∷ []) file)
first_written file small =
    (record { records = []; gate = 0; rest = []; are = refl; closed = λ (e : 0 ≡ 1). absurd (omega (arith, e)); bytes_are = ap (λ (l : List ℕ). 0 ∷ l) (drop_all 1 file small) }, refl)

module _ (old new : DiskState) (size : ℕ) (settled : IsSettled old size) (small : size ≤ 1) (old_stays : MayStay old) (moments : LeavesOnly old new (TornFrom 0 1 old)) where
  old_small : HasAlways old IsSmall
  old_small = go old.contents settled
    where
      go : (o : Option (List ℕ)) → IfSome o (λ file. (size ≡ length file) × Only file old.may_leave) → IfSome o (λ file. IsSmall file × ((left : List ℕ) → old.may_leave left → IsSmall left))
      go None is = tt
      go (Some file) is = let short : IsSmall file = omega (arith, is.0, small) in (short, λ left may. subst IsSmall (sym (is.1 left may)) short)

  torn_small : (was left : List ℕ) → IsSmall was → Torn 0 1 was left → IsSmall left
  torn_small was left short torn = omega (arith, short, torn.no_longer)

  -- what a crash leaves in the call is small
  small_moments : LeavesTold old new IsSmall
  small_moments = go old.contents old_small
    where
      go : (o : Option (List ℕ)) → IfSome o (λ file. IsSmall file × ((left : List ℕ) → old.may_leave left → IsSmall left)) → IfSome o (λ _. LeavesOnly old new IsSmall)
      go None is = tt
      go (Some file) is = weaker old new (TornFrom 0 1 old) IsSmall (λ left from. torn_small from.0 left (is.1 from.0 from.1) from.2) moments

  first_chain : (gate : Gate) (commits : List Commit) → LeavesChain old gate commits → LeavesTold old new (λ left. Chain left commits)
  first_chain gate commits is = go old.contents old_stays old_small small_moments
    where
      go : (o : Option (List ℕ)) → IfSome o old.may_leave → IfSome o (λ file. IsSmall file × ((left : List ℕ) → old.may_leave left → IsSmall left)) → IfSome o (λ _. LeavesOnly old new IsSmall) → IfSome o (λ _. LeavesOnly old new (λ left. Chain left commits))
      go None stays short run = tt
      go (Some file) stays short run =
          let none : commits ≡ [] = some_is commits [] (sym (chain_read file commits (is.1 file stays)) ∙ small_chain file short.0) in
          weaker old new IsSmall (λ left. Chain left commits) (λ left is_small. inl (is_small, none)) run

  module _ (place : ℕ) (base doubts : List Commit) (is : Stands old (Closed place) base doubts) where
    base_moments : LeavesTold old new (IsLeft base doubts)
    base_moments = go old.contents is.1 old_small small_moments
      where
        go : (o : Option (List ℕ)) → IfSome o (λ file. IsClosed place base file × ((left : List ℕ) → old.may_leave left → IsClosed place base left)) → IfSome o (λ file. IsSmall file × ((left : List ℕ) → old.may_leave left → IsSmall left))
            → IfSome o (λ _. LeavesOnly old new IsSmall) → IfSome o (λ _. LeavesOnly old new (IsLeft base doubts))
        go None closed short run = tt
        go (Some file) closed short run = weaker old new IsSmall (IsLeft base doubts) (λ left is_small. inl (inl (is_small, (small_base place base file short.0 closed.0).1))) run

    abbrev Both : List ℕ → Type 0
    Both file = (place ≡ 0) × (base ≡ []) × IsSmall file

    both : HasAlways old Both
    both = go old.contents is.1 old_small
      where
        go : (o : Option (List ℕ)) → IfSome o (λ file. IsClosed place base file × ((left : List ℕ) → old.may_leave left → IsClosed place base left)) → IfSome o (λ file. IsSmall file × ((left : List ℕ) → old.may_leave left → IsSmall left))
            → IfSome o (λ file. Both file × ((left : List ℕ) → old.may_leave left → Both left))
        go None closed short = tt
        go (Some file) closed short =
            let at = small_base place base file short.0 closed.0 in
            ((at.0, at.1, short.0), λ left may. (at.0, at.1, short.1 left may))

  small_told : (d : DiskState) → HasAlways d IsSmall → entries_told Unread d.contents ≡ option_map (λ _. []) d.contents
  small_told d is = told_is Unread [] d.contents (go d.contents is)
    where
      go : (o : Option (List ℕ)) → IfSome o (λ file. IsSmall file × ((left : List ℕ) → d.may_leave left → IsSmall left)) → IfSome o (λ file. chain_of file ≡ Some [])
      go None is = tt
      go (Some file) is = small_chain file is.0

  -- the write or its sync failed
  module _ (tells : is_some new.contents ≡ is_some old.contents) (stays : MayStay new) (crash : Follows (Torn 0 1) old.may_leave new.may_leave) where
    failed_stands : (gate : Gate) → IsMended gate → (base doubts : List Commit) → Stands old gate base doubts → StandsOn old new (first_gate gate) base doubts
    failed_stands Unread mended base doubts is = absurd is
    failed_stands (Closed place) mended base doubts is = record {
      any_moment = base_moments place base doubts is;
      stands = (is.0, always_from old new (Both place base doubts is) (IsUnsure place base doubts) (Torn 0 1) (both place base doubts is) tells stays crash (λ was left p torn. inl (p.0, p.1, torn_small was left p.2 torn)));
    }
    failed_stands (Unsure place) mended base doubts is = absurd mended

    failed_told : (gate : Gate) → IsMended gate → IsSound old gate → entries_told (first_gate gate) new.contents ≡ entries_told gate old.contents
    failed_told Unread mended sound = small_told new (always_from old new IsSmall IsSmall (Torn 0 1) old_small tells stays crash torn_small) ∙ same_told old.contents new.contents [] tells ∙ sym (small_told old old_small)
    failed_told (Closed place) mended sound = told_same old new (Closed place) (Unsure place) sound.0 sound.1 sound.1 sound.2 (failed_stands (Closed place) mended sound.0 sound.1 sound.2).stands tells
    failed_told (Unsure place) mended sound = absurd mended

    failed_sound : (gate : Gate) → IsMended gate → IsSound old gate → IsSound new (first_gate gate)
    failed_sound Unread mended is = tt
    failed_sound (Closed place) mended is = (is.0, is.1, (failed_stands (Closed place) mended is.0 is.1 is.2).stands)
    failed_sound (Unsure place) mended is = absurd mended

    pub begin_failed : {E : Type 0} (gate : Gate) (why : E) → IsMended gate → IsSound old gate → Loads old new gate (first_gate gate) (Err why)
    begin_failed gate why mended sound = record {
      stands = failed_stands gate mended;
      first = first_chain gate;
      told = failed_told gate mended sound;
      found = tt;
      sound = λ is. failed_sound gate mended is;
    }

  -- both went well
  module _ (written : new.contents ≡ option_map (patched 0 (0 ∷ [])) old.contents) (durable : IfSome new.contents (λ file. Only file new.may_leave)) (tells : is_some new.contents ≡ is_some old.contents) where
    empty : Stands new (Closed 0) [] []
    empty = (omega arith, always_written old new IsSmall (IsClosed 0 []) 0 (0 ∷ []) old_small written durable first_written)

    done_stands : (gate : Gate) → IsMended gate → (base doubts : List Commit) → Stands old gate base doubts → StandsOn old new (Closed 0) base doubts
    done_stands Unread mended base doubts is = absurd is
    done_stands (Closed place) mended base doubts is = record {
      any_moment = base_moments place base doubts is;
      stands = (omega arith, always_written old new (Both place base doubts is) (IsClosed 0 base) 0 (0 ∷ []) (both place base doubts is) written durable (λ file p. subst (λ (b : List Commit). IsClosed 0 b (patched 0 (0 ∷ []) file)) (sym p.1) (first_written file p.2)));
    }
    done_stands (Unsure place) mended base doubts is = absurd mended

    told_now : entries_told (Closed 0) new.contents ≡ option_map (λ _. []) old.contents
    told_now = told_is (Closed 0) [] new.contents (go new.contents empty.1) ∙ same_told old.contents new.contents [] tells
      where
        go : (o : Option (List ℕ)) → IfSome o (λ file. IsClosed 0 [] file × ((left : List ℕ) → new.may_leave left → IsClosed 0 [] left)) → IfSome o (λ file. chain_of file ≡ Some [])
        go None is = tt
        go (Some file) is = told_closed 0 [] file is.0

    done_told : (gate : Gate) → IsMended gate → entries_told (Closed 0) new.contents ≡ entries_told gate old.contents
    done_told Unread mended = told_now ∙ sym (small_told old old_small)
    done_told (Closed place) mended = told_now ∙ sym (small_told old old_small)
    done_told (Unsure place) mended = absurd mended

    pub begin_done : {E : Type 0} (gate : Gate) (entries : List Entry) → entries ≡ [] → IsMended gate → Loads {E = E} old new gate (Closed 0) (Ok entries)
    begin_done gate entries none mended = record {
      stands = done_stands gate mended;
      first = first_chain gate;
      told = done_told gate mended;
      found = go new.contents empty.1;
      sound = λ is. ([], [], empty);
    }
      where
        go : (o : Option (List ℕ)) → IfSome o (λ file. IsClosed 0 [] file × ((left : List ℕ) → new.may_leave left → IsClosed 0 [] left)) → IfSome o (λ file. (commits : List Commit) × Chain file commits × (entries ≡ rows_of commits) × Stands new (Closed 0) commits [])
        go None is = tt
        go (Some file) is = ([], inr is.0.0, none, empty)

-- ---- a file that is read

module _ (old new : DiskState) (now : (left : List ℕ) → old.left_since old.moment left → old.may_leave left) (quiet : WritesNothing old new) (size : ℕ) (settled : IsSettled old size)
    (bytes : List ℕ) (bytes_are : IfSome old.contents (λ file. bytes ≡ file)) (len : length bytes ≡ size) (limit : size ≤ disk_limit)
    (place : ℕ) (entries : List Entry) (commits : List Commit) (closed : IsClosed place commits bytes) (rows : entries ≡ rows_of commits) where
  within : place ≤ disk_limit
  within = omega (arith, closed_long place commits bytes closed, len, limit)

  old_closed : HasAlways old (IsClosed place commits)
  old_closed = go old.contents settled bytes_are
    where
      go : (o : Option (List ℕ)) → IfSome o (λ file. (size ≡ length file) × Only file old.may_leave) → IfSome o (λ file. bytes ≡ file) → IfSome o (λ file. IsClosed place commits file × ((left : List ℕ) → old.may_leave left → IsClosed place commits left))
      go None is same = tt
      go (Some file) is same =
          let there : IsClosed place commits file = subst (IsClosed place commits) same closed in
          (there, λ left may. subst (IsClosed place commits) (sym (is.1 left may)) there)

  new_closed : HasAlways new (IsClosed place commits)
  new_closed = quiet_always old new now quiet (IsClosed place commits) old_closed

  abbrev Found : Gate → Option (List ℕ) → Type 0
  Found gate o = IfSome o (λ file. (found : List Commit) × Chain file found × (entries ≡ rows_of found) × Stands new gate found [])

  read_found : (gate : Gate) → IsMended gate → IsSound old gate → Found (read_gate gate place) new.contents
  read_found Unread mended sound = go new.contents new_closed
    where
      go : (o : Option (List ℕ)) → IfSome o (λ file. IsClosed place commits file × ((left : List ℕ) → new.may_leave left → IsClosed place commits left)) → Found (Closed place) o
      go None is = tt
      go (Some file) is = (commits, inr is.0.0, rows, (within, new_closed))
  read_found (Closed was) mended sound = go new.contents new_closed (quiet_stands old new now quiet (Closed was) sound.0 sound.1 sound.2).stands.1
    where
      base : List Commit
      base = sound.0

      again : Stands new (Closed was) base sound.1
      again = (quiet_stands old new now quiet (Closed was) sound.0 sound.1 sound.2).stands

      go : (o : Option (List ℕ)) → IfSome o (λ file. IsClosed place commits file × ((left : List ℕ) → new.may_leave left → IsClosed place commits left)) → IfSome o (λ file. IsClosed was base file × ((left : List ℕ) → new.may_leave left → IsClosed was base left)) → Found (Closed was) o
      go None is stands = tt
      go (Some file) is stands =
          let same : base ≡ commits = some_is base commits (sym (told_closed was base file stands.0) ∙ told_closed place commits file is.0) in
          (commits, inr is.0.0, rows, subst (λ (cs : List Commit). Stands new (Closed was) cs []) same again)
  read_found (Unsure was) mended sound = absurd mended

  pub read_done : {E : Type 0} (gate : Gate) → IsMended gate → IsSound old gate → Loads {E = E} old new gate (read_gate gate place) (Ok entries)
  read_done gate mended sound = record {
    stands = λ base doubts is. stands_read gate mended base doubts is;
    first = quiet_chain old new now quiet gate;
    told = told_read gate mended;
    found = read_found gate mended sound;
    sound = sound_read gate mended;
  }
    where
      stands_read : (gate : Gate) → IsMended gate → (base doubts : List Commit) → Stands old gate base doubts → StandsOn old new (read_gate gate place) base doubts
      stands_read Unread mended base doubts is = absurd is
      stands_read (Closed was) mended base doubts is = quiet_stands old new now quiet (Closed was) base doubts is
      stands_read (Unsure was) mended base doubts is = absurd mended

      sound_read : (gate : Gate) → IsMended gate → IsSound old gate → IsSound new (read_gate gate place)
      sound_read Unread mended is = (commits, [], (within, new_closed))
      sound_read (Closed was) mended is = quiet_sound old new now quiet (Closed was) is
      sound_read (Unsure was) mended is = absurd mended

      told_read : (gate : Gate) → IsMended gate → entries_told (read_gate gate place) new.contents ≡ entries_told gate old.contents
      told_read Unread mended = ap (entries_told Unread) quiet.contents
      told_read (Closed was) mended = ap (entries_told (Closed was)) quiet.contents
      told_read (Unsure was) mended = absurd mended

-- no entries are in order
pub none_ordered : IsOrderedEntries []
unfolding IsStrictlySortedBy
none_ordered = tt
