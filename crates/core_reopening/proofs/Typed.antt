-- What holds of each item of a list, as a loop goes over it.
use Rattle.std.proofs.Common.{◌≡◌, ◌<◌, ◌≤◌, ℕ, ◌+◌, List, [], ◌∷◌, ◌++◌, length, get_or, take, sym, subst}
use Rattle.std.specs.List.{AllByRecursion}
use Rattle.std.proofs.lemmas.List.{take_all, take_more}
use Rattle.plain_lists.specs.Members.{Each}
use Rattle.plain_lists.proofs.Elements.{Each-push}

-- ---- by recursion

all-push : {X : Type 0} (P : X → Type 0) (xs : List X) (x : X) → AllByRecursion P xs → P x → AllByRecursion P (xs ++ x ∷ [])
all-push P [] x all p = (p, tt)
all-push P (y ∷ ys) x all p = (all.0, all-push P ys x all.1 p)

-- one more item
pub all-next : {X : Type 0} (P : X → Type 0) (xs : List X) (i : ℕ) (x : X) → take (i + 1) xs ≡ take i xs ++ x ∷ [] → P x → AllByRecursion P (take i xs)
    → AllByRecursion P (take (i + 1) xs)
all-next P xs i x more p all = subst (AllByRecursion P) (sym more) (all-push P (take i xs) x all p)

-- ---- by membership

-- one more item
pub each-next : {X : Type 0} (P : X → Type 0) (xs : List X) (i : ℕ) (x : X) → i < length xs → x ≡ get_or xs i x → P x → Each P (take i xs)
    → Each P (take (i + 1) xs)
each-next P xs i x below is p e = rw (take_more xs i x below) (Each-push P e (subst P is p))

-- all of them
pub each-all : {X : Type 0} (P : X → Type 0) (xs : List X) (i : ℕ) → length xs ≤ i → Each P (take i xs) → Each P xs
each-all P xs i past e = subst (Each P) (take_all i xs past) e
