-- Whether a text begins with a head is decided: it does, or it does not.
use Rattle.std.proofs.Common.{◌≡◌, ℕ, zero, suc, ◌<◌, ◌≤◌, ◌⊎◌, inl, inr, Bool, true, false, List, [], ◌∷◌, ◌++◌, length, codes, refl, sym, ap, ◌∙◌, subst, arith, append_assoc, append-nil, length-append}
use Rattle.std.specs.Str.{is_utf8}
use Rattle.std.specs.List.{flat_map}
use Rattle.std.proofs.lemmas.Str.{IsUtf8-from_is_utf8, is_utf8-from_IsUtf8}
use Rattle.std.proofs.lemmas.Bool.{cases_eq, cases_lt, cases_Bool, false≢true}
use Rattle.std.proofs.lemmas.List.Elements.{All-nil, All-cons, All-head, All-tail}
use Rattle.httparse.specs.Grammar.{is_token_byte, is_uri_byte, is_value_byte, AllPass, LineEnd, crlf, lf, print_end, print_blank, Field, IsField, print_field, RequestHead, ReadsRequest}
use Rattle.httparse.specs.Pieces.{Piece, Begins, Then, Stops, is_newline, Newline, Word, Target, Version, Text, FieldLine, FieldLines, Section, RequestStart}
use Rattle.httparse.proofs.GrammarLemmas.{request_head, request_pieces, request_from_pieces, request_unique}
use Rattle.http_heads.specs.Limits.{max_fields}
use Rattle.http_heads.specs.Heads.{is_line_byte, after_blank}
use Rattle.http_heads.specs.Messages.{IsHead}
use Rattle.httparse.proofs.PieceLemmas.{IsDeterministic, Name_deterministic, FieldLine_parts, print_field-append, Section_skip, Section_line, Word_deterministic, Method_deterministic, Blank_deterministic, RequestStart_deterministic, Target_deterministic, Version_deterministic, space_ends_token, colon_ends_token}

-- whether a text begins with the piece is decided
pub record IsDecidable {A : Type 0} (G : Piece A) : Type 0 where
  pub at : (text : List ℕ) → Begins G text ⊎ (Begins G text → ⊥)

-- one piece and then another, where the first one is decided of this text
pub Then_at : {A B : Type 0} {G : Piece A} {H : Piece B} → IsDeterministic G → IsDecidable H → (text : List ℕ)
    → Begins G text ⊎ (Begins G text → ⊥) → Begins (Then G H) text ⊎ (Begins (Then G H) text → ⊥)
Then_at {G} {H} det h text (inr none) = inr (λ x. none (x.0.0, x.2.0, x.2.1))
Then_at {G} {H} det h text (inl first) = second (h.at first.1)
  where
    second : Begins H first.1 ⊎ (Begins H first.1 → ⊥) → Begins (Then G H) text ⊎ (Begins (Then G H) text → ⊥)
    second (inl y) = inl ((first.0, y.0), y.1, (first.1, first.2, y.2))
    second (inr none) = inr (λ x.
        let same = det.unique x.0.0 first.0 text x.2.0 first.1 x.2.1 first.2 in
        none (x.0.1, x.1, subst (λ m. H x.0.1 m x.1) same.1 x.2.2))

pub Then_decidable : {A B : Type 0} {G : Piece A} {H : Piece B} → IsDeterministic G → IsDecidable G → IsDecidable H → IsDecidable (Then G H)
Then_decidable det g h = record { at = λ text. Then_at det h text (g.at text) }

-- ---- the pieces

abbrev HasPrefix : List ℕ → List ℕ → Type 0
HasPrefix bytes text = (rest : List ℕ) × (text ≡ bytes ++ rest)

prefix_at : (bytes text : List ℕ) → HasPrefix bytes text ⊎ (HasPrefix bytes text → ⊥)
prefix_at [] text = inl (text, refl)
prefix_at (b ∷ bytes) [] = inr (λ x. let e = x.1 in cc)
prefix_at (b ∷ bytes) (c ∷ text) = by_cases (cases_eq c b) (prefix_at bytes text)
  where
    by_cases : (c ≡ b) ⊎ (c ≡ b → ⊥) → HasPrefix bytes text ⊎ (HasPrefix bytes text → ⊥)
        → HasPrefix (b ∷ bytes) (c ∷ text) ⊎ (HasPrefix (b ∷ bytes) (c ∷ text) → ⊥)
    by_cases (inl e) (inl p) = inl (p.0, let q = p.1 in cc)
    by_cases (inl e) (inr none) = inr (λ x. let q = x.1 in none (x.0, cc))
    by_cases (inr other) p = inr (λ x. let q = x.1 in other cc)

pub Newline_decidable : IsDecidable Newline
Newline_decidable = record { at = λ text. by_ends text (prefix_at (print_end crlf) text) (prefix_at (print_end lf) text) }
  where
    by_ends : (text : List ℕ) → HasPrefix (print_end crlf) text ⊎ (HasPrefix (print_end crlf) text → ⊥)
        → HasPrefix (print_end lf) text ⊎ (HasPrefix (print_end lf) text → ⊥) → Begins Newline text ⊎ (Begins Newline text → ⊥)
    by_ends text (inl p) q = inl (crlf, p.0, p.1)
    by_ends text (inr p) (inl q) = inl (lf, q.0, q.1)
    by_ends text (inr p) (inr q) = inr (λ x. neither x.0 x.1 x.2)
      where
        neither : (end : LineEnd) (rest : List ℕ) → Newline end text rest → ⊥
        neither crlf rest e = p (rest, e)
        neither lf rest e = q (rest, e)

-- bytes that pass the test, and then the byte stop
abbrev Until : (ℕ → Bool) → ℕ → List ℕ → Type 0
Until test stop text = (word : List ℕ) × (rest : List ℕ) × AllPass test word × (text ≡ word ++ stop ∷ rest)

until_at : (test : ℕ → Bool) (stop : ℕ) (text : List ℕ) → Until test stop text ⊎ (Until test stop text → ⊥)
until_at test stop [] = inr (λ x. none x.0 x.1 x.3)
  where
    none : (word rest : List ℕ) → [] ≡ word ++ stop ∷ rest → ⊥
    none [] rest e = cc
    none (w ∷ word) rest e = cc
until_at test stop (b ∷ text) = by_cases (cases_eq b stop) (cases_Bool (test b)) (until_at test stop text)
  where
    by_cases : (b ≡ stop) ⊎ (b ≡ stop → ⊥) → (test b ≡ true) ⊎ (test b ≡ false)
        → Until test stop text ⊎ (Until test stop text → ⊥) → Until test stop (b ∷ text) ⊎ (Until test stop (b ∷ text) → ⊥)
    by_cases (inl e) t later = inl ([], text, All-nil (λ v. test v ≡ true), cc)
    by_cases (inr other) (inl passes) (inl x) = inl (b ∷ x.0, x.1, All-cons (λ v. test v ≡ true) b x.0 passes x.2, let q = x.3 in cc)
    by_cases (inr other) (inl passes) (inr none) = inr (λ x. refute x.0 x.1 x.2 x.3)
      where
        refute : (word rest : List ℕ) → AllPass test word → b ∷ text ≡ word ++ stop ∷ rest → ⊥
        refute [] rest all e = other cc
        refute (w ∷ word) rest all e = none (word, rest, All-tail (λ v. test v ≡ true) w word all, cc)
    by_cases (inr other) (inr fails) later = inr (λ x. refute x.0 x.1 x.2 x.3)
      where
        refute : (word rest : List ℕ) → AllPass test word → b ∷ text ≡ word ++ stop ∷ rest → ⊥
        refute [] rest all e = other cc
        refute (w ∷ word) rest all e =
            let same : b ≡ w = cc in
            false≢true (sym fails ∙ ap test same ∙ All-head (λ v. test v ≡ true) w word all)

pub Word_decidable : (test : ℕ → Bool) (stop : ℕ) → test stop ≡ false → IsDecidable (Word test stop)
Word_decidable test stop ends = record { at = λ text. by_word text (until_at test stop text) }
  where
    by_word : (text : List ℕ) → Until test stop text ⊎ (Until test stop text → ⊥) → Begins (Word test stop) text ⊎ (Begins (Word test stop) text → ⊥)
    by_word text (inr none) = inr (λ x. none (x.0, x.1, x.2.1, x.2.2))
    by_word text (inl found) = by_length found.0 found.1 found.2 found.3
      where
        by_length : (word rest : List ℕ) → AllPass test word → text ≡ word ++ stop ∷ rest
            → Begins (Word test stop) text ⊎ (Begins (Word test stop) text → ⊥)
        by_length (w ∷ word) rest all e = inl (w ∷ word, rest, (omega arith, all, e))
        by_length [] rest all e = inr (λ x. refute x.0 x.1 x.2.0 x.2.1 x.2.2)
          where
            refute : (v q : List ℕ) → 0 < length v → AllPass test v → text ≡ v ++ stop ∷ q → ⊥
            refute [] q some pass f = omega arith
            refute (c ∷ v) q some pass f =
                let same : stop ≡ c = cc in
                false≢true (sym ends ∙ ap test same ∙ All-head (λ u. test u ≡ true) c v pass)

pub Target_decidable : IsDecidable Target
Target_decidable = record { at = λ text. by_word text ((Word_decidable is_uri_byte 32 refl).at text) }
  where
    by_word : (text : List ℕ) → Begins (Word is_uri_byte 32) text ⊎ (Begins (Word is_uri_byte 32) text → ⊥) → Begins Target text ⊎ (Begins Target text → ⊥)
    by_word text (inr none) = inr (λ x. none (x.0, x.1, x.2.0))
    by_word text (inl found) = by_text (cases_Bool (is_utf8 found.0))
      where
        by_text : (is_utf8 found.0 ≡ true) ⊎ (is_utf8 found.0 ≡ false) → Begins Target text ⊎ (Begins Target text → ⊥)
        by_text (inl is) = inl (found.0, found.1, (found.2, IsUtf8-from_is_utf8 found.0 is))
        by_text (inr other) = inr (λ x.
            let same = (Word_deterministic is_uri_byte 32 refl).unique x.0 found.0 text x.1 found.1 x.2.0 found.2 in
            false≢true (sym other ∙ ap is_utf8 (sym same.0) ∙ is_utf8-from_IsUtf8 x.0 x.2.1))

pub Version_decidable : IsDecidable Version
Version_decidable = record { at = λ text. by_minor text (prefix_at (codes "HTTP/1.0") text) (prefix_at (codes "HTTP/1.1") text) }
  where
    by_minor : (text : List ℕ) → HasPrefix (codes "HTTP/1.0") text ⊎ (HasPrefix (codes "HTTP/1.0") text → ⊥)
        → HasPrefix (codes "HTTP/1.1") text ⊎ (HasPrefix (codes "HTTP/1.1") text → ⊥) → Begins Version text ⊎ (Begins Version text → ⊥)
    by_minor text (inl p) q = inl (0, p.0, (omega arith, p.1))
    by_minor text (inr p) (inl q) = inl (1, q.0, (omega arith, q.1))
    by_minor text (inr p) (inr q) = inr (λ x. neither x.0 x.1 x.2)
      where
        neither : (minor : ℕ) (rest : List ℕ) → Version minor text rest → ⊥
        neither zero rest x = p (rest, x.1)
        neither (suc zero) rest x = q (rest, x.1)
        neither (suc (suc n)) rest x = let small = x.0 in omega arith

pub Text_at : (text : List ℕ) → Begins Text text ⊎ (Begins Text text → ⊥)
Text_at [] = inr (λ x. none x.0.0 x.0.1 x.1 x.2.1)
  where
    none : (word : List ℕ) (end : LineEnd) (rest : List ℕ) → [] ≡ word ++ (print_end end ++ rest) → ⊥
    none [] crlf rest e = cc
    none [] lf rest e = cc
    none (w ∷ word) end rest e = cc
Text_at (b ∷ text) = by_cases (Newline_decidable.at (b ∷ text)) (cases_Bool (is_value_byte b)) (Text_at text)
  where
    by_cases : Begins Newline (b ∷ text) ⊎ (Begins Newline (b ∷ text) → ⊥) → (is_value_byte b ≡ true) ⊎ (is_value_byte b ≡ false)
        → Begins Text text ⊎ (Begins Text text → ⊥) → Begins Text (b ∷ text) ⊎ (Begins Text (b ∷ text) → ⊥)
    by_cases (inl n) t later = inl (([], n.0), n.1, (All-nil (λ v. is_value_byte v ≡ true), n.2))
    by_cases (inr no_end) (inl passes) (inl x) =
        inl ((b ∷ x.0.0, x.0.1), x.1, (All-cons (λ v. is_value_byte v ≡ true) b x.0.0 passes x.2.0, ap (λ l. b ∷ l) x.2.1))
    by_cases (inr no_end) (inl passes) (inr none) = inr (λ x. refute x.0.0 x.0.1 x.1 x.2.0 x.2.1)
      where
        refute : (word : List ℕ) (end : LineEnd) (rest : List ℕ) → AllPass is_value_byte word → b ∷ text ≡ word ++ (print_end end ++ rest) → ⊥
        refute [] end rest all e = no_end (end, rest, e)
        refute (w ∷ word) end rest all e = none ((word, end), rest, (All-tail (λ v. is_value_byte v ≡ true) w word all, cc))
    by_cases (inr no_end) (inr fails) later = inr (λ x. refute x.0.0 x.0.1 x.1 x.2.0 x.2.1)
      where
        refute : (word : List ℕ) (end : LineEnd) (rest : List ℕ) → AllPass is_value_byte word → b ∷ text ≡ word ++ (print_end end ++ rest) → ⊥
        refute [] end rest all e = no_end (end, rest, e)
        refute (w ∷ word) end rest all e =
            let same : b ≡ w = cc in
            false≢true (sym fails ∙ ap is_value_byte same ∙ All-head (λ v. is_value_byte v ≡ true) w word all)

pub FieldLine_decidable : IsDecidable FieldLine
FieldLine_decidable =
    let parts = Then_decidable Name_deterministic (Word_decidable is_token_byte 58 colon_ends_token) (record { at = Text_at }) in
    record { at = λ text. by_parts text (parts.at text) }
  where
    Parts : List ℕ → Type 0
    Parts = Begins (Then (Word is_token_byte 58) Text)

    by_parts : (text : List ℕ) → Parts text ⊎ (Parts text → ⊥) → Begins FieldLine text ⊎ (Begins FieldLine text → ⊥)
    by_parts text (inr none) = inr (λ x. none (_, x.1, FieldLine_parts x.0 text x.1 x.2))
    by_parts text (inl p) =
        let f : Field = record { name = p.0.0; raw = p.0.1.0; end = p.0.1.1 } in
        let is : IsField f = record { name = (p.2.1.0, p.2.1.1); raw = p.2.2.0 } in
        inl (f, p.1, (is, p.2.1.2 ∙ ap (λ l. p.0.0 ++ 58 ∷ l) p.2.2.1 ∙ sym (print_field-append f p.1)))

field_line_shorter : (f : Field) (text rest : List ℕ) → FieldLine f text rest → length rest < length text
field_line_shorter f text rest x =
    let tail = print_end f.end ++ rest in
    omega (arith, ap length (x.1 ∙ print_field-append f rest), length-append f.name (58 ∷ (f.raw ++ tail)), length-append f.raw tail, length-append (print_end f.end) rest)

regrouped : (a b c r : List ℕ) → a ++ ((b ++ c) ++ r) ≡ ((a ++ b) ++ c) ++ r
regrouped a b c r = simp append_assoc

-- a section is its empty line, or a field line and a section
section_step : (text : List ℕ) → ((rest : List ℕ) → length rest < length text → Begins Section rest ⊎ (Begins Section rest → ⊥))
    → Begins Section text ⊎ (Begins Section text → ⊥)
section_step text later = by_line (Newline_decidable.at text) (FieldLine_decidable.at text)
  where
    by_line : Begins Newline text ⊎ (Begins Newline text → ⊥) → Begins FieldLine text ⊎ (Begins FieldLine text → ⊥)
        → Begins Section text ⊎ (Begins Section text → ⊥)
    by_line (inl n) f = inl (([], n.0), n.1, (All-nil IsField, n.2))
    by_line (inr no_end) (inr no_line) = inr (λ x. refute (Section_line x.0 text x.1 x.2))
      where
        refute : Begins Newline text ⊎ Begins FieldLine text → ⊥
        refute (inl n) = no_end n
        refute (inr f) = no_line f
    by_line (inr no_end) (inl f) = by_rest (later f.1 (field_line_shorter f.0 text f.1 f.2))
      where
        by_rest : Begins Section f.1 ⊎ (Begins Section f.1 → ⊥) → Begins Section text ⊎ (Begins Section text → ⊥)
        by_rest (inl s) = inl (
          (f.0 ∷ s.0.0, s.0.1),
          s.1,
          (
            All-cons IsField f.0 s.0.0 f.2.0 s.2.0,
            f.2.1 ∙ ap (λ l. print_field f.0 ++ l) s.2.1 ∙ regrouped (print_field f.0) (flat_map print_field s.0.0) (print_end s.0.1) s.1,
          ),
        )
        by_rest (inr none) = inr (λ x. refute x.0.0 x.0.1 x.1 x.2)
          where
            refute : (gs : List Field) (last : LineEnd) (rest : List ℕ) → Section (gs, last) text rest → ⊥
            refute [] last rest s = no_end (last, rest, s.1)
            refute (g ∷ gs) last rest s =
                let front : FieldLines (f.0 ∷ []) text f.1 = (All-cons IsField f.0 [] f.2.0 (All-nil IsField), f.2.1 ∙ ap (λ l. l ++ f.1) (sym (append-nil (print_field f.0)))) in
                let skipped = Section_skip (f.0 ∷ []) (g ∷ gs) last text f.1 rest front s in
                none ((skipped.0, last), rest, skipped.2)

section_at : (n : ℕ) (text : List ℕ) → length text ≤ n → Begins Section text ⊎ (Begins Section text → ⊥)
section_at zero text few = section_step text (λ rest shorter. absurd (omega arith))
section_at (suc n) text few = section_step text (λ rest shorter. section_at n rest (omega arith))

pub Section_decidable : IsDecidable Section
Section_decidable = record { at = λ text. section_at (length text) text (omega arith) }

-- ---- heads

abbrev HasRequest : List ℕ → Type 0
HasRequest = Begins (Then RequestStart Section)

request_at : (text : List ℕ) → Stops is_newline text → HasRequest text ⊎ (HasRequest text → ⊥)
request_at text stops =
    let ending = Then_decidable Version_deterministic Version_decidable Newline_decidable in
    let target = Then_decidable Target_deterministic Target_decidable ending in
    let method = Then_decidable Method_deterministic (Word_decidable is_token_byte 32 space_ends_token) target in
    let start : Begins RequestStart text ⊎ (Begins RequestStart text → ⊥) =
    Then_at Blank_deterministic method text (inl ([], text, (refl, stops))) in
    Then_at RequestStart_deterministic Section_decidable text start

abbrev pub HeadOrNot : List ℕ → Type 0
HeadOrNot text = ((head : RequestHead) × IsHead text head) ⊎ ((head : RequestHead) → IsHead text head → ⊥)

head_at : (text : List ℕ) → Stops is_newline text → HeadOrNot text
head_at text stops = by_request (request_at text stops)
  where
    by_request : HasRequest text ⊎ (HasRequest text → ⊥) → HeadOrNot text
    by_request (inr none) = inr (λ head h. none (_, [], request_pieces text head [] h.reads))
    by_request (inl r) = by_rest r.1 (request_from_pieces text r.0 r.1 r.2)
      where
        found : RequestHead
        found = request_head r.0

        by_rest : (rest : List ℕ) → ReadsRequest text found rest → HeadOrNot text
        by_rest (c ∷ rest) reads = inr (λ head h. let same = (request_unique text head found [] (c ∷ rest) h.reads reads).1 in cc)
        by_rest [] reads = by_count (cases_lt max_fields (length found.fields))
          where
            by_count : (max_fields < length found.fields) ⊎ (length found.fields ≤ max_fields) → HeadOrNot text
            by_count (inr few) = inl (found, record { reads = reads; few = few })
            by_count (inl many) = inr (λ head h.
                let same = (request_unique text head found [] [] h.reads reads).0 in
                omega (arith, h.few, many, ap (λ x. length x.fields) same))

no_head_in_nothing : (head : RequestHead) → IsHead [] head → ⊥
no_head_in_nothing head h = let x = request_pieces [] head [] h.reads in refute (print_blank head.blank) x.1.0 x.1.1.0 x.1.1.1
  where
    refute : (front middle : List ℕ) → [] ≡ front ++ middle → Stops is_newline middle → ⊥
    refute [] [] e stops = stops
    refute [] (c ∷ middle) e stops = cc
    refute (f ∷ front) middle e stops = cc

after_blank-begins : (bytes : List ℕ) → (after_blank bytes ≡ []) ⊎ Stops is_newline (after_blank bytes)
after_blank-begins [] = inl refl
after_blank-begins (b ∷ bytes) = by_test (is_line_byte b) refl (after_blank-begins bytes)
  where
    by_test : (t : Bool) → is_line_byte b ≡ t → (after_blank bytes ≡ []) ⊎ Stops is_newline (after_blank bytes)
        → (after_blank (b ∷ bytes) ≡ []) ⊎ Stops is_newline (after_blank (b ∷ bytes))
    by_test true is later = rw is later
    by_test false is later = rw is (inr is)

pub head_or_not : (bytes : List ℕ) → HeadOrNot (after_blank bytes)
head_or_not bytes = by_front (after_blank-begins bytes)
  where
    by_front : (after_blank bytes ≡ []) ⊎ Stops is_newline (after_blank bytes) → HeadOrNot (after_blank bytes)
    by_front (inl nothing) = subst HeadOrNot (sym nothing) (inr no_head_in_nothing)
    by_front (inr stops) = head_at (after_blank bytes) stops
