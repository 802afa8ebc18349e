-- What a crash leaves of a file while a record is written behind a closed gate, and while a gate is written.
use Rattle.std.proofs.Common.{◌≡◌, ◌≢◌, inl, inr, ℕ, ◌+◌, ◌≤◌, List, [], ◌∷◌, ◌++◌, length, take, drop, get_or, refl, sym, ap, subst, ◌∙◌, append_assoc, arith, length-append, take-append-drop}
use Rattle.std.proofs.lemmas.Bool.{cases_eq}
use Rattle.std.proofs.lemmas.List.{take_at, drop_at, append-nil, drop_more, drop_all}
use Rattle.plain_lists.specs.Members.{Mem}
use Rattle.disk_model.specs.Disk.{Torn, patched}
use Rattle.journal_keeper.specs.Texts.{Commit}
use Rattle.journal_keeper.specs.Chain.{IsRecord, AreRecords}
use Rattle.journal_keeper.specs.Keeping.{IsLeft, IsClosed, HasDoubt, IsUnsure}

-- records of some commits, and then one of one commit more
pub records_push : (records one : List ℕ) (commits : List Commit) (commit : Commit) → AreRecords records commits → IsRecord one commit → AreRecords (records ++ one) (commits ++ commit ∷ [])
records_push records one [] commit are is = (one, [], is, refl, ap (λ (l : List ℕ). l ++ one) are ∙ sym (append-nil one))
records_push records one (c ∷ commits) commit are is =
    (are.0, are.1 ++ one, are.2, records_push are.1 one commits commit are.3 is, ap (λ (l : List ℕ). l ++ one) are.4 ∙ append_assoc are.0 are.1 one)

-- ---- a record behind a closed gate

-- bytes that have the same front and gate
pub same_front : (place : ℕ) (base : List Commit) (old new : List ℕ) → IsClosed place base old → take (place + 1) new ≡ take (place + 1) old → IsClosed place base new
same_front place base old new closed same =
    let has = closed.0 in
    let front : take (place + 1) old ≡ has.records ++ has.gate ∷ [] =
    ap (λ (l : List ℕ). take (place + 1) l) (has.bytes_are ∙ sym (append_assoc has.records (has.gate ∷ []) has.rest))
    ∙ take_at (has.records ++ has.gate ∷ []) has.rest (place + 1) (omega (arith, closed.1, length-append has.records (has.gate ∷ []))) in
    let whole : new ≡ has.records ++ has.gate ∷ drop (place + 1) new =
    sym (take-append-drop (place + 1) new) ∙ ap (λ (l : List ℕ). l ++ drop (place + 1) new) (same ∙ front) ∙ append_assoc has.records (has.gate ∷ []) (drop (place + 1) new) in
    (record { records = has.records; gate = has.gate; rest = drop (place + 1) new; are = has.are; closed = has.closed; bytes_are = whole }, closed.1)

-- the file reaches past its closed gate
pub closed_long : (place : ℕ) (base : List Commit) (file : List ℕ) → IsClosed place base file → place + 1 ≤ length file
closed_long place base file closed = omega (arith, ap length closed.0.bytes_are, length-append closed.0.records (closed.0.gate ∷ closed.0.rest), closed.1)

-- whatever a crash leaves of a write behind the gate
pub torn_behind : (place count : ℕ) (base : List Commit) (old new : List ℕ) → IsClosed place base old → Torn (place + 1) count old new → IsClosed place base new
torn_behind place count base old new closed torn = same_front place base old new closed torn.before

-- a record and a closed gate, written behind the gate
pub doubt_written : (place : ℕ) (base : List Commit) (last : Commit) (body : List ℕ) (file : List ℕ) → IsClosed place base file → IsRecord (1 ∷ body) last → (h : HasDoubt place base last (patched (place + 1) (body ++ 0 ∷ []) file)) × (h.body ≡ body)
doubt_written place base last body file closed one =
    let has = closed.0 in
    let block : List ℕ = body ++ 0 ∷ [] in
    let rest : List ℕ = drop (place + 1 + length block) file in
    let front : take (place + 1) file ≡ has.records ++ has.gate ∷ [] =
    ap (λ (l : List ℕ). take (place + 1) l) (has.bytes_are ∙ sym (append_assoc has.records (has.gate ∷ []) has.rest))
    ∙ take_at (has.records ++ has.gate ∷ []) has.rest (place + 1) (omega (arith, closed.1, length-append has.records (has.gate ∷ []))) in (
      record {
        records = has.records;
        gate = has.gate;
        body = body;
        next = 0;
        rest = rest;
        are = has.are;
        place_is = closed.1;
        one = one;
        closed = λ (e : 0 ≡ 1). absurd (omega (arith, e));
        bytes_are = ap (λ (l : List ℕ). l ++ block ++ rest) front ∙ append_assoc (has.records ++ has.gate ∷ []) block rest ∙ append_assoc has.records (has.gate ∷ []) (block ++ rest) ∙ ap (λ (l : List ℕ). has.records ++ has.gate ∷ l) (append_assoc body (0 ∷ []) rest);
      },
      refl,
    )

-- ---- a gate

-- bytes that differ from others in a gate alone
pub other_gate : (place : ℕ) (base : List Commit) (last : Commit) (old new : List ℕ) → HasDoubt place base last old → Torn place 1 old new → HasDoubt place base last new
other_gate place base last old new h torn =
    let behind : List ℕ = h.body ++ h.next ∷ h.rest in
    let long : place + 1 ≤ length old = omega (arith, ap length h.bytes_are, length-append h.records (h.gate ∷ behind), h.place_is) in
    let front : take place new ≡ h.records = torn.before ∙ ap (λ (l : List ℕ). take place l) h.bytes_are ∙ take_at h.records (h.gate ∷ behind) place h.place_is in
    let back : drop (place + 1) new ≡ behind =
    torn.after ∙ ap (λ (l : List ℕ). drop (place + 1) l) (h.bytes_are ∙ sym (append_assoc h.records (h.gate ∷ []) behind))
    ∙ drop_at (h.records ++ h.gate ∷ []) behind (place + 1) (omega (arith, h.place_is, length-append h.records (h.gate ∷ []))) in
    let rest : drop place new ≡ get_or new place 0 ∷ behind = drop_more new place 0 (omega (arith, torn.no_shorter, long)) ∙ ap (λ (l : List ℕ). get_or new place 0 ∷ l) back in
    record {
      records = h.records;
      gate = get_or new place 0;
      body = h.body;
      next = h.next;
      rest = h.rest;
      are = h.are;
      place_is = h.place_is;
      one = h.one;
      closed = h.closed;
      bytes_are = sym (take-append-drop place new) ∙ ap (λ (l : List ℕ). l ++ drop place new) front ∙ ap (λ (l : List ℕ). h.records ++ l) rest;
    }

-- the gate as it was written
pub gate_written : (place gate : ℕ) (base : List Commit) (last : Commit) (file : List ℕ) → (h : HasDoubt place base last file) → patched place (gate ∷ []) file ≡ h.records ++ gate ∷ (h.body ++ h.next ∷ h.rest)
gate_written place gate base last file h =
    let behind : List ℕ = h.body ++ h.next ∷ h.rest in
    let front : take place file ≡ h.records = ap (λ (l : List ℕ). take place l) h.bytes_are ∙ take_at h.records (h.gate ∷ behind) place h.place_is in
    let back : drop (place + 1) file ≡ behind =
    ap (λ (l : List ℕ). drop (place + 1) l) (h.bytes_are ∙ sym (append_assoc h.records (h.gate ∷ []) behind))
    ∙ drop_at (h.records ++ h.gate ∷ []) behind (place + 1) (omega (arith, h.place_is, length-append h.records (h.gate ∷ []))) in
    ap (λ (l : List ℕ). l ++ gate ∷ [] ++ drop (place + 1) file) front ∙ ap (λ (l : List ℕ). h.records ++ gate ∷ [] ++ l) back ∙ append_assoc h.records (gate ∷ []) behind

-- closed, it ends the base
pub shut_doubt : (place gate : ℕ) (base : List Commit) (last : Commit) (old file : List ℕ) → (h : HasDoubt place base last old) → gate ≢ 1 → file ≡ h.records ++ gate ∷ (h.body ++ h.next ∷ h.rest) → IsClosed place base file
shut_doubt place gate base last old file h shut is =
    (record { records = h.records; gate = gate; rest = h.body ++ h.next ∷ h.rest; are = h.are; closed = shut; bytes_are = is }, h.place_is)

-- open, the commit in doubt counts
pub open_doubt : (place : ℕ) (base : List Commit) (last : Commit) (old file : List ℕ) → (h : HasDoubt place base last old) → file ≡ h.records ++ 1 ∷ (h.body ++ h.next ∷ h.rest) → IsClosed (place + (1 + length h.body)) (base ++ last ∷ []) file
open_doubt place base last old file h is = (
  record {
    records = h.records ++ 1 ∷ h.body;
    gate = h.next;
    rest = h.rest;
    are = records_push h.records (1 ∷ h.body) base last h.are h.one;
    closed = h.closed;
    bytes_are = is ∙ sym (append_assoc h.records (1 ∷ h.body) (h.next ∷ h.rest));
  },
  omega (arith, h.place_is, length-append h.records (1 ∷ h.body)),
)

-- a file with a commit in doubt stands for the base with it or without
pub doubt_left : (place : ℕ) (base doubts : List Commit) (last : Commit) (file : List ℕ) → HasDoubt place base last file → Mem last doubts → IsLeft base doubts file
doubt_left place base doubts last file h among = elim (cases_eq h.gate 1) [
  | inl open_gate ↦ inr (last, among, inr (open_doubt place base last file file h (h.bytes_are ∙ ap (λ (g : ℕ). h.records ++ g ∷ (h.body ++ h.next ∷ h.rest)) open_gate)).0)
  | inr shut ↦ inl (inr (shut_doubt place h.gate base last file file h shut h.bytes_are).0)
]

pub unsure_left : (place : ℕ) (base doubts : List Commit) (file : List ℕ) → IsUnsure place base doubts file → IsLeft base doubts file
unsure_left place base doubts file (inl short) = inl (inl (short.2, short.1))
unsure_left place base doubts file (inr doubt) = doubt_left place base doubts doubt.0 file doubt.2 doubt.1

-- an unsure gate stays one in whatever a crash leaves of a write to it
pub torn_unsure : (place : ℕ) (base doubts : List Commit) (old new : List ℕ) → IsUnsure place base doubts old → Torn place 1 old new → IsUnsure place base doubts new
torn_unsure place base doubts old new (inl short) torn = inl (short.0, short.1, omega (arith, short.0, short.2, torn.no_longer))
torn_unsure place base doubts old new (inr doubt) torn = inr (doubt.0, doubt.1, other_gate place base doubt.0 old new doubt.2 torn)

-- a gate that was written closed
pub unsure_shut : (place : ℕ) (base doubts : List Commit) (file : List ℕ) → IsUnsure place base doubts file → IsClosed place base (patched place (0 ∷ []) file)
unsure_shut place base doubts file (inl short) =
    let at_start : patched place (0 ∷ []) file ≡ 0 ∷ [] = ap (λ (p : ℕ). patched p (0 ∷ []) file) short.0 ∙ ap (λ (l : List ℕ). 0 ∷ l) (drop_all 1 file short.2) in
    (record { records = []; gate = 0; rest = []; are = subst (AreRecords []) (sym short.1) refl; closed = λ (e : 0 ≡ 1). absurd (omega (arith, e)); bytes_are = at_start }, sym short.0)
unsure_shut place base doubts file (inr doubt) = shut_doubt place 0 base doubt.0 file (patched place (0 ∷ []) file) doubt.2 (λ (e : 0 ≡ 1). absurd (omega (arith, e))) (gate_written place 0 base doubt.0 file doubt.2)

-- the place of an unsure gate is within the file
pub unsure_long : (place : ℕ) (base doubts : List Commit) (file : List ℕ) → IsUnsure place base doubts file → place ≤ length file
unsure_long place base doubts file (inl short) = omega (arith, short.0)
unsure_long place base doubts file (inr doubt) = omega (arith, ap length doubt.2.bytes_are, length-append doubt.2.records (doubt.2.gate ∷ (doubt.2.body ++ doubt.2.next ∷ doubt.2.rest)), doubt.2.place_is)
