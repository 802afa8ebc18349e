-- In tables in which no two lines meet, each line by itself is the rule of its keys.
use Rattle.std.proofs.Common.{◌≡◌, ℕ, zero, suc, ◌≤◌, Bool, true, false, not, cond, ◌&&◌, ◌||◌, List, [], ◌∷◌, length, take, drop, slice_get, find, map, Some, nat_eq, nat_lt, refl, sym, ap, subst, inl, inr, ◌∙◌, arith}
use Rattle.std.specs.List.{list_all, starts_with}
use Rattle.std.specs.Str.{bytes_eq}
use Rattle.std.proofs.lemmas.List.{take-take}
use Rattle.std.proofs.lemmas.Bool.{cases_lt}
use Rattle.std.proofs.lemmas.Option.{same_Some, slice_get-map}
use Rattle.std.specs.Option.{option_map}
use Rattle.config_lists.proofs.Keys.{same, bytes_eq-itself}
use Rattle.estate_rules.specs.Names.{good_name_of}
use Rattle.size_values.specs.declared.kinds.ObjectKind.TheVariants.{Pool}
use Rattle.option_tables.specs.Tables.{front_of, has_sign, has_star, takes}
use Rattle.option_tables.specs.Apart.{is_front, meet, are_apart}

-- parts of tests
both_left : (a b : Bool) → (a && b) ≡ true → a ≡ true
both_left true b h = refl
both_left false b h = cc

both_right : (a b : Bool) → (a && b) ≡ true → b ≡ true
both_right true b h = h
both_right false b h = cc

either_left : (a b : Bool) → a ≡ true → (a || b) ≡ true
either_left true b h = refl
either_left false b h = cc

either_right : (a b : Bool) → b ≡ true → (a || b) ≡ true
either_right true b h = refl
either_right false b h = h

-- two beginnings of one text: the shorter begins the longer
begins : (key p q : List ℕ) → length p ≤ length q → starts_with nat_eq key p ≡ true → starts_with nat_eq key q ≡ true → starts_with nat_eq q p ≡ true
begins key p q shorter is_p is_q = ap (bytes_eq p) (sym along) ∙ bytes_eq-itself p
  where
    along : p ≡ take (length p) q
    along = same p (take (length p) key) is_p ∙ sym (take-take (length p) (length q) key shorter) ∙ ap (take (length p)) (sym (same q (take (length q) key) is_q))

-- what it is that a line takes a key: where it stands for others its front begins the key, else it is the key
front : (x key : List ℕ) → is_front x ≡ true → takes x key ≡ true → starts_with nat_eq key (front_of x) ≡ true
front x key is taken = at (has_sign x) (has_star x) is taken where
  starts : Bool
  starts = starts_with nat_eq key (front_of x)

  named : Bool
  named = good_name_of Pool (drop (length (front_of x)) key)

  longer : Bool
  longer = nat_lt (length (front_of x)) (length key)

  at : (sign star : Bool) → (sign || star) ≡ true → cond sign (starts && named) (cond star (longer && starts) (bytes_eq x key)) ≡ true → starts ≡ true
  at true star is taken = both_left starts named taken
  at false true is taken = both_right longer starts taken
  at false false is taken = cc

plain : (x key : List ℕ) → is_front x ≡ false → takes x key ≡ true → x ≡ key
plain x key is taken = at (has_sign x) (has_star x) is taken where
  starts : Bool
  starts = starts_with nat_eq key (front_of x)

  named : Bool
  named = good_name_of Pool (drop (length (front_of x)) key)

  longer : Bool
  longer = nat_lt (length (front_of x)) (length key)

  at : (sign star : Bool) → (sign || star) ≡ false → cond sign (starts && named) (cond star (longer && starts) (bytes_eq x key)) ≡ true → x ≡ key
  at true star is taken = cc
  at false true is taken = cc
  at false false is taken = same x key taken

-- two lines that take one key meet
pub meets : (a b key : List ℕ) → takes a key ≡ true → takes b key ≡ true → meet a b ≡ true
meets a b key by_a by_b = cases (is_front a) (is_front b) refl refl
  where
    both : Bool
    both = starts_with nat_eq (front_of a) (front_of b) || starts_with nat_eq (front_of b) (front_of a)

    one : Bool
    one = takes a b || takes b a

    fronts : is_front a ≡ true → is_front b ≡ true → both ≡ true
    fronts is_a is_b = elim (cases_lt (length (front_of a)) (length (front_of b))) [
      | inl less ↦ either_right (starts_with nat_eq (front_of a) (front_of b)) (starts_with nat_eq (front_of b) (front_of a)) (begins key (front_of a) (front_of b) (omega arith) (front a key is_a by_a) (front b key is_b by_b))
      | inr more ↦ either_left (starts_with nat_eq (front_of a) (front_of b)) (starts_with nat_eq (front_of b) (front_of a)) (begins key (front_of b) (front_of a) more (front b key is_b by_b) (front a key is_a by_a))
    ]

    cases : (s t : Bool) → is_front a ≡ s → is_front b ≡ t → meet a b ≡ true
    cases true true is_a is_b = ap (λ x. cond (x && is_front b) both one) is_a ∙ ap (λ x. cond x both one) is_b ∙ fronts is_a is_b
    cases true false is_a is_b =
        ap (λ x. cond (x && is_front b) both one) is_a ∙ ap (λ x. cond x both one) is_b
        ∙ either_left (takes a b) (takes b a) (ap (takes a) (plain b key is_b by_b) ∙ by_a)
    cases false t is_a is_b =
        ap (λ x. cond (x && is_front b) both one) is_a
        ∙ either_right (takes a b) (takes b a) (ap (takes b) (plain a key is_a by_a) ∙ by_b)

-- a line that meets no other takes no key of theirs
apart : (a b key : List ℕ) → not (meet a b) ≡ true → takes b key ≡ true → takes a key ≡ false
apart a b key unmet by_b = by (takes a key) refl
  where
    by : (t : Bool) → takes a key ≡ t → t ≡ false
    by true is = absurd (never (sym (ap not (meets a b key is by_b)) ∙ unmet))
      where
        never : false ≡ true → ⊥
        never h = cc
    by false is = refl

at_place : (p : List ℕ → Bool) (ns : List (List ℕ)) (i : ℕ) (n : List ℕ) → list_all p ns ≡ true → slice_get ns i ≡ Some n → p n ≡ true
at_place p [] i n all is = cc
at_place p (x ∷ ns) zero n all is = ap p (sym (same_Some x n is)) ∙ both_left (p x) (list_all p ns) all
at_place p (x ∷ ns) (suc i) n all is = at_place p ns i n (both_right (p x) (list_all p ns) all) is

-- the line at a place is found for each key that it takes
pub alone : {L : Type 0} (name : L → List ℕ) (test : L → Bool) (key : List ℕ) (lines : List L) (i : ℕ) (line : L) → are_apart (map name lines) ≡ true → slice_get lines i ≡ Some line → test line ≡ true → takes (name line) key ≡ true
    → find (λ l. test l && takes (name l) key) lines ≡ Some line
alone name test key [] i line all is fits taken = cc
alone name test key (l ∷ ls) zero line all is fits taken =
    ap (λ b. cond b (Some l) (find (λ x. test x && takes (name x) key) ls)) (subst (λ x. (test x && takes (name x) key) ≡ true) (sym (same_Some l line is)) (ap (λ b. b && takes (name line) key) fits ∙ taken)) ∙ is
alone name test key (l ∷ ls) (suc i) line all is fits taken =
    ap (λ b. cond b (Some l) (find (λ x. test x && takes (name x) key) ls)) (ap (λ b. test l && b) off ∙ none (test l))
    ∙ alone name test key ls i line (both_right (list_all (λ m. not (meet (name l) m)) (map name ls)) (are_apart (map name ls)) all) is fits taken
  where
    off : takes (name l) key ≡ false
    off = apart (name l) (name line) key (at_place (λ m. not (meet (name l) m)) (map name ls) i (name line) (both_left (list_all (λ m. not (meet (name l) m)) (map name ls)) (are_apart (map name ls)) all) (slice_get-map name ls i ∙ ap (option_map name) is)) taken

    none : (b : Bool) → (b && false) ≡ false
    none true = refl
    none false = refl
