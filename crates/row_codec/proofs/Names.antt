-- A good name has no slash and is not empty, so the names of a key are those that were joined.
use Rattle.std.proofs.Common.{◌≡◌, ◌≢◌, ℕ, ◌+◌, Bool, true, false, cond, not, ◌&&◌, List, [], ◌∷◌, ◌++◌, length, take, drop, Result, Ok, Err, refl, sym, ap, subst, ◌∙◌, arith, inl, inr}
use Rattle.std.specs.List.{before_first, after_first, position_or_len, list_all}
use Rattle.std.proofs.lemmas.Bool.{eqb-true, cases_lt}
use Rattle.std.proofs.Math.Seq.{drop-append-add}
use Rattle.std.proofs.lemmas.List.{take_at, drop_all}
use Rattle.std.proofs.lemmas.List.Sums.{split_at_first, passes_at_first}
use Rattle.size_values.specs.declared.kinds.ObjectKind.{ObjectKind}
use Rattle.size_values.specs.declared.kinds.ObjectKind.TheVariants as kind
use Rattle.estate_rules.specs.Names.{good_name_of, is_word_of, is_object_byte, is_project_byte, is_instance_byte, is_object_name, is_project_name, is_instance_name}
use Rattle.row_codec.specs.declared.damage.Damaged.{Damaged}
use Rattle.row_codec.specs.declared.damage.Damaged.TheVariants as damaged
use Rattle.row_codec.specs.Rows.{IsGood}
use Rattle.row_codec.specs.Spelling.{two_names, three_names}
use Rattle.row_codec.specs.Reading.{◌>>=◌, is_slash, two_names_in, three_names_in}
use Rattle.row_codec.proofs.Fields.{both_true, passed, went}

-- a list without a byte that is a slash
abbrev pub HasNoSlash : List ℕ → Type 0
HasNoSlash name = list_all (λ b. not (is_slash b)) name ≡ true

-- a test that no slash passes
other_than_slash : (test : ℕ → Bool) → test 47 ≡ false → (name : List ℕ) → list_all test name ≡ true → HasNoSlash name
other_than_slash test fails [] all = refl
other_than_slash test fails (b ∷ bs) all =
    let h = both_true (test b) (list_all test bs) all in
    rw (apart (is_slash b) refl h.0, other_than_slash test fails bs h.1) refl
  where
    apart : (t : Bool) → is_slash b ≡ t → test b ≡ true → not (is_slash b) ≡ true
    apart false is passes = ap not is
    apart true is passes = let same : b ≡ 47 = eqb-true b 47 is in absurd (cc (ap test same))

word_no_slash : (test : ℕ → Bool) (least most : ℕ) (name : List ℕ) (more : Bool) → test 47 ≡ false → (is_word_of test least most name && more) ≡ true → HasNoSlash name
word_no_slash test least most name more fails good =
    other_than_slash test fails name (both_true _ _ (both_true (is_word_of test least most name) more good).0).1

pub good_no_slash : (kind : ObjectKind) (name : List ℕ) → IsGood kind name → HasNoSlash name
unfolding is_object_name is_project_name is_instance_name
good_no_slash kind.Project name good = word_no_slash is_project_byte 1 63 name _ refl good
good_no_slash kind.Profile name good = word_no_slash is_object_byte 1 63 name _ refl good
good_no_slash kind.Network name good = word_no_slash is_object_byte 2 15 name _ refl good
good_no_slash kind.Pool name good = word_no_slash is_object_byte 1 63 name _ refl good
good_no_slash kind.Volume name good = word_no_slash is_object_byte 1 63 name _ refl good
good_no_slash kind.Instance name good = word_no_slash is_instance_byte 1 63 name _ refl (both_true _ _ good).0
good_no_slash kind.Snapshot name good = word_no_slash is_object_byte 1 63 name _ refl good
good_no_slash kind.Operation name good = absurd cc

good_not_empty : (kind : ObjectKind) → good_name_of kind [] ≡ false
unfolding is_object_name is_project_name is_instance_name
good_not_empty kind.Project = refl
good_not_empty kind.Profile = refl
good_not_empty kind.Network = refl
good_not_empty kind.Pool = refl
good_not_empty kind.Volume = refl
good_not_empty kind.Instance = refl
good_not_empty kind.Snapshot = refl
good_not_empty kind.Operation = refl

-- ---- what stands before and after the first slash

first_slash : (front back : List ℕ) → HasNoSlash front → position_or_len is_slash (front ++ 47 ∷ back) ≡ length front
first_slash [] back none = refl
first_slash (b ∷ bs) back none =
    let h = both_true (not (is_slash b)) (list_all (λ c. not (is_slash c)) bs) none in
    rw h.0 (omega (arith, first_slash bs back h.1))

pub before_joined : (front back : List ℕ) → HasNoSlash front → before_first is_slash (two_names front back) ≡ front
before_joined front back none = ap (λ n. take n (two_names front back)) (first_slash front back none) ∙ take_at front (47 ∷ back) (length front) refl

after_joined : (front back : List ℕ) → HasNoSlash front → after_first is_slash (two_names front back) ≡ back
after_joined front back none = ap (λ n. drop (n + 1) (two_names front back)) (first_slash front back none) ∙ drop-append-add front (47 ∷ back) 1

-- a key with something after its first slash is joined of what stands before and after it
joined : (key : List ℕ) → after_first is_slash key ≢ [] → key ≡ two_names (before_first is_slash key) (after_first is_slash key)
joined key following =
    elim (cases_lt (position_or_len is_slash key) (length key)) [
      | inl lt ↦ split_at_first is_slash key 0 lt ∙ ap (λ b. before_first is_slash key ++ b ∷ after_first is_slash key) (eqb-true _ _ (passes_at_first is_slash key 0 lt))
      | inr le ↦ absurd (following (drop_all (position_or_len is_slash key + 1) key (omega arith)))
    ]

good_is_something : (kind : ObjectKind) (name : List ℕ) → IsGood kind name → name ≢ []
good_is_something kind name good empty = let fails = good_not_empty kind in absurd (cc (ap (good_name_of kind) empty))

joined_is_something : (front back : List ℕ) → two_names front back ≢ []
joined_is_something [] back empty = absurd cc
joined_is_something (b ∷ bs) back empty = absurd cc

-- ---- two names, three names

pub passed_then : {A E : Type 0} (b : Bool) (r : Result A E) (y : A) (d : E) → cond b r (Err d) ≡ Ok y → (b ≡ true) × (r ≡ Ok y)
passed_then true r y d e = (refl, e)
passed_then false r y d e = absurd cc

pub two_took : (first second : ObjectKind) (key : List ℕ) (x : List ℕ × List ℕ) → two_names_in first second key ≡ Ok x → IsGood first x.0 × IsGood second x.1 × (key ≡ two_names x.0 x.1)
unfolding two_names_in
two_took first second key x e =
    let p = passed (good_name_of first (before_first is_slash key) && good_name_of second (after_first is_slash key)) (before_first is_slash key, after_first is_slash key) x damaged.Key e in
    let g = both_true (good_name_of first (before_first is_slash key)) (good_name_of second (after_first is_slash key)) p.0 in
    subst (λ (y : List ℕ × List ℕ). IsGood first y.0 × IsGood second y.1 × (key ≡ two_names y.0 y.1)) p.1 (g.0, g.1, joined key (good_is_something second (after_first is_slash key) g.1))

pub two_again : (first second : ObjectKind) (front back : List ℕ) → IsGood first front → IsGood second back → two_names_in first second (two_names front back) ≡ Ok (front, back)
unfolding two_names_in
two_again first second front back front_good back_good =
    let none = good_no_slash first front front_good in
    rw (before_joined front back none, after_joined front back none, front_good, back_good) refl

abbrev past_first : List ℕ → List ℕ × List ℕ → Result (List ℕ × List ℕ × List ℕ) Damaged
past_first front names = Ok (front, names.0, names.1)

pub three_took : (first second third : ObjectKind) (key : List ℕ) (x : List ℕ × List ℕ × List ℕ) → three_names_in first second third key ≡ Ok x
    → IsGood first x.0 × IsGood second x.1 × IsGood third x.2 × (key ≡ three_names x.0 x.1 x.2)
unfolding three_names_in
three_took first second third key x e =
    let front = before_first is_slash key in
    let back = after_first is_slash key in
    let p = passed_then (good_name_of first front) (two_names_in second third back >>= past_first front) x damaged.Key e in
    let n = went (two_names_in second third back) (past_first front) x p.1 in
    let two = two_took second third back n.got n.read_is in
    let same : (front, n.got.0, n.got.1) ≡ x = cc (n.next_is) in
    let whole : key ≡ three_names front n.got.0 n.got.1 =
    joined key (λ empty. joined_is_something n.got.0 n.got.1 (sym two.2 ∙ empty)) ∙ ap (λ (b : List ℕ). two_names front b) two.2 in
    subst (λ (y : List ℕ × List ℕ × List ℕ). IsGood first y.0 × IsGood second y.1 × IsGood third y.2 × (key ≡ three_names y.0 y.1 y.2)) same (p.0, two.0, two.1, whole)

pub three_again : (first second third : ObjectKind) (a b c : List ℕ) → IsGood first a → IsGood second b → IsGood third c → three_names_in first second third (three_names a b c) ≡ Ok (a, b, c)
unfolding three_names_in
three_again first second third a b c a_good b_good c_good =
    let none = good_no_slash first a a_good in
    rw (before_joined a (two_names b c) none, after_joined a (two_names b c) none, a_good, two_again second third b c b_good c_good) refl
