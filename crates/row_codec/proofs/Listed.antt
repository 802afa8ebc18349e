-- Lists that are read are those that were written: texts, settings with rising keys, devices with rising names.
use Rattle.std.proofs.Common.{◌≡◌, ℕ, zero, suc, ◌^◌, ◌<◌, List, [], ◌∷◌, ◌++◌, length, Option, Some, None, Ok, refl, sym, ap, subst, ◌∙◌, append_assoc, arith}
use Rattle.std.specs.Int.{w32, to_be_bytes}
use Rattle.std.specs.List.{flat_map, AllByRecursion}
use Rattle.std.proofs.lemmas.List.Concat.{flat_map-cons}
use Rattle.row_codec.specs.Spelling.{list_bytes}
use Rattle.row_codec.specs.Rows.{IsShort}
use Rattle.row_codec.specs.Reading.{◌>>=◌, Read, count_at, items_at, list_at}
use Rattle.row_codec.proofs.Fields.{IsBytes, went, Takes, Takes-then, IsPart, count_part, ok_is}

-- A reader of one item after another: as of a part, and the item may follow that other.
pub record IsItem {X : Type 0} (read : Option X → List ℕ → Read X) (spelled : X → List ℕ) (Fits : X → Type 0) (Follows : Option X → X → Type 0) : Type 0 where
  pub takes : (before : Option X) (bytes : List ℕ) (x : X × List ℕ) → IsBytes bytes → read before bytes ≡ Ok x → Takes bytes (spelled x.0) x.1
  pub fits : (before : Option X) (bytes : List ℕ) (x : X × List ℕ) → IsBytes bytes → read before bytes ≡ Ok x → Fits x.0
  pub follows : (before : Option X) (bytes : List ℕ) (x : X × List ℕ) → read before bytes ≡ Ok x → Follows before x.0
  pub again : (before : Option X) (x : X) (rest : List ℕ) → Fits x → Follows before x → read before (spelled x ++ rest) ≡ Ok (x, rest)

-- each item may follow the one before it
abbrev pub AreInRow : {X : Type 0} → (Option X → X → Type 0) → Option X → List X → Type 0
AreInRow Follows before [] = Unit {0}
AreInRow Follows before (x ∷ xs) = Follows before x × AreInRow Follows (Some x) xs

-- the items fit, are in a row, and have a short list
pub record AreItems {X : Type 0} (Fits : X → Type 0) (Follows : Option X → X → Type 0) (xs : List X) : Type 0 where
  pub short : IsShort xs
  pub each : AllByRecursion Fits xs
  pub in_row : AreInRow Follows None xs

module _ {X : Type 0} (read : Option X → List ℕ → Read X) (spelled : X → List ℕ) (Fits : X → Type 0) (Follows : Option X → X → Type 0) (item : IsItem read spelled Fits Follows) where
  abbrev rest_of : ℕ → X × List ℕ → Read (List X)
  rest_of n first = items_at read n (Some first.0) first.1 >>= λ others. Ok (first.0 ∷ others.0, others.1)

  items_took : (n : ℕ) (before : Option X) (bytes : List ℕ) (xs : List X × List ℕ) → IsBytes bytes → items_at read n before bytes ≡ Ok xs
      → Takes bytes (flat_map spelled xs.0) xs.1 × (length xs.0 ≡ n) × AllByRecursion Fits xs.0 × AreInRow Follows before xs.0
  unfolding items_at
  items_took zero before bytes xs all e =
      let same : ([], bytes) ≡ xs = cc in
      subst (λ (p : List X × List ℕ). Takes bytes (flat_map spelled p.0) p.1 × (length p.0 ≡ 0) × AllByRecursion Fits p.0 × AreInRow Follows before p.0) same (record { parts = refl; rest_fits = all }, refl, tt, tt)
  items_took (suc n) before bytes xs all e =
      let a = went (read before bytes) (rest_of n) xs e in
      let b = went (items_at read n (Some a.got.0) a.got.1) (λ (others : List X × List ℕ). Ok (a.got.0 ∷ others.0, others.1)) xs a.next_is in
      let first = item.takes before bytes a.got all a.read_is in
      let others = items_took n (Some a.got.0) a.got.1 b.got first.rest_fits b.read_is in
      let whole : Takes bytes (flat_map spelled (a.got.0 ∷ b.got.0)) b.got.1 = rw flat_map-cons (Takes-then first others.0) in
      let same : (a.got.0 ∷ b.got.0, b.got.1) ≡ xs = ok_is (a.got.0 ∷ b.got.0, b.got.1) xs b.next_is in
      subst (λ (p : List X × List ℕ). Takes bytes (flat_map spelled p.0) p.1 × (length p.0 ≡ suc n) × AllByRecursion Fits p.0 × AreInRow Follows before p.0) same
      (whole, ap suc others.1, (item.fits before bytes a.got all a.read_is, others.2), (item.follows before bytes a.got a.read_is, others.3))

  items_again : (xs : List X) (before : Option X) (rest : List ℕ) → AllByRecursion Fits xs → AreInRow Follows before xs → items_at read (length xs) before (flat_map spelled xs ++ rest) ≡ Ok (xs, rest)
  unfolding items_at
  items_again [] before rest fits row = refl
  items_again (x ∷ xs) before rest fits row =
      let regrouped : flat_map spelled (x ∷ xs) ++ rest ≡ spelled x ++ (flat_map spelled xs ++ rest) = ap (λ (t : List ℕ). t ++ rest) (flat_map-cons spelled x xs) ∙ append_assoc (spelled x) (flat_map spelled xs) rest in
      ap (items_at read (suc (length xs)) before) regrouped ∙ rw (item.again before x (flat_map spelled xs ++ rest) fits.0 row.0, items_again xs (Some x) rest fits.1 row.1) refl

  abbrev counted : ℕ × List ℕ → Read (List X)
  counted count = items_at read count.0 None count.1

  pub list_part : IsPart (list_at read) (list_bytes spelled) (AreItems Fits Follows)
  unfolding list_at list_bytes
  list_part = record { takes = λ bytes xs all e. (took bytes xs all e).0; fits = λ bytes xs all e. (took bytes xs all e).1; again = again }
    where
      took : (bytes : List ℕ) (xs : List X × List ℕ) → IsBytes bytes → (count_at bytes >>= counted) ≡ Ok xs → Takes bytes (to_be_bytes w32 (length xs.0) ++ flat_map spelled xs.0) xs.1 × AreItems Fits Follows xs.0
      took bytes xs all e =
          let a = went (count_at bytes) counted xs e in
          let front = count_part.takes bytes a.got all a.read_is in
          let items = items_took a.got.0 None a.got.1 xs front.rest_fits a.next_is in
          let whole : Takes bytes (to_be_bytes w32 (length xs.0) ++ flat_map spelled xs.0) xs.1 = Takes-then (subst (λ (n : ℕ). Takes bytes (to_be_bytes w32 n) a.got.1) (sym items.1) front) items.0 in
          let small : a.got.0 < 2 ^ 32 = count_part.fits bytes a.got all a.read_is in
          (whole, record { short = omega (arith, items.1); each = items.2; in_row = items.3 })

      again : (xs : List X) (rest : List ℕ) → AreItems Fits Follows xs → (count_at ((to_be_bytes w32 (length xs) ++ flat_map spelled xs) ++ rest) >>= counted) ≡ Ok (xs, rest)
      again xs rest fits =
          let regrouped = append_assoc (to_be_bytes w32 (length xs)) (flat_map spelled xs) rest in
          let front : count_at ((to_be_bytes w32 (length xs) ++ flat_map spelled xs) ++ rest) ≡ Ok (length xs, flat_map spelled xs ++ rest) = ap count_at regrouped ∙ count_part.again (length xs) (flat_map spelled xs ++ rest) fits.short in
          rw front (items_again xs None rest fits.each fits.in_row)
