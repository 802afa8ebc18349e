-- Lemmas on the objects in memory.
use Rattle.std.proofs.Common.{Option, Some, None, subst, append_assoc, append-nil, [], ◌≡◌, ℕ, ◌+◌, ◌-◌, ◌≤◌, List, ◌++◌, length, take, drop, sym, ap, ◌∙◌, arith, take-append-drop, length-append, length-take, length-drop}
use Rattle.std.specs.Io.KnownBytes.{Appends, Consumes, Keeps}
use Rattle.std.proofs.lemmas.List.{drop-drop}
use Rattle.std.proofs.Math.Seq.{take-append_seam, take-length, take-add}

-- what a read puts in front of the rest of a slice is what the source loses
pub delivered : (at n : ℕ) (bytes gave into : List ℕ) → at ≤ length bytes → at + n ≤ length bytes
    → gave ≡ take n (take (length bytes - at) (drop at bytes))
    → (n ≤ length (gave ++ into)) × (drop at bytes ≡ take n (gave ++ into) ++ drop (at + n) bytes)
delivered at n bytes gave into within fits is =
    let whole : take (length bytes - at) (drop at bytes) ≡ drop at bytes =
    ap (λ k. take k (drop at bytes)) (sym (length-drop at bytes)) ∙ take-length (drop at bytes) in
    let same : gave ≡ take n (drop at bytes) = is ∙ ap (take n) whole in
    let len : length gave ≡ n = ap length same ∙ length-take n (drop at bytes) ∙ omega (arith, length-drop at bytes) in
    let front : take n (gave ++ into) ≡ take n (drop at bytes) =
    ap (λ k. take k (gave ++ into)) (sym len) ∙ take-append_seam gave into ∙ same in (
      omega (arith, length-append gave into),
      sym (take-append-drop n (drop at bytes))
          ∙ ap (λ l. l ++ drop n (drop at bytes)) (sym front)
          ∙ ap (λ l. take n (gave ++ into) ++ l) (drop-drop n at bytes),
    )

-- ---- readers and writers that may tell their bytes

-- bytes that stay as they were, and then stay again
pub keeps_twice : (a b c : Option (List ℕ)) → Keeps a b → Keeps b c → Keeps a c
keeps_twice None b c first then = tt
keeps_twice (Some x) None c first then = absurd first
keeps_twice (Some x) (Some y) None first then = absurd then
keeps_twice (Some x) (Some y) (Some z) first then = then ∙ first

-- bytes that stay as they were, and then are consumed
pub keeps_consumes : (a b c : Option (List ℕ)) (bs : List ℕ) → Keeps a b → Consumes b c bs → Consumes a c bs
keeps_consumes None b c bs first then = tt
keeps_consumes (Some x) None c bs first then = absurd first
keeps_consumes (Some x) (Some y) None bs first then = absurd then
keeps_consumes (Some x) (Some y) (Some z) bs first then = sym first ∙ then

-- some bytes are consumed, and then more
pub consumes_twice : (a b c : Option (List ℕ)) (bs cs : List ℕ) → Consumes a b bs → Consumes b c cs → Consumes a c (bs ++ cs)
consumes_twice None b c bs cs first then = tt
consumes_twice (Some x) None c bs cs first then = absurd first
consumes_twice (Some x) (Some y) None bs cs first then = absurd then
consumes_twice (Some x) (Some y) (Some z) bs cs first then = first ∙ ap (λ l. bs ++ l) then ∙ sym (append_assoc bs cs z)

-- some bytes are written, and then more
pub appends_twice : (a b c : Option (List ℕ)) (bs cs : List ℕ) → Appends a b bs → Appends b c cs → Appends a c (bs ++ cs)
appends_twice None b c bs cs first then = tt
appends_twice (Some x) None c bs cs first then = absurd first
appends_twice (Some x) (Some y) None bs cs first then = absurd then
appends_twice (Some x) (Some y) (Some z) bs cs first then = then ∙ ap (λ l. l ++ cs) first ∙ append_assoc x bs cs

-- some bytes are written, and then none
pub appends_keeps : (a b c : Option (List ℕ)) (bs : List ℕ) → Appends a b bs → Keeps b c → Appends a c bs
appends_keeps None b c bs first then = tt
appends_keeps (Some x) None c bs first then = absurd first
appends_keeps (Some x) (Some y) None bs first then = absurd then
appends_keeps (Some x) (Some y) (Some z) bs first then = then ∙ first

-- bytes that stay as they were have none appended
pub keeps_appends : (a b : Option (List ℕ)) → Keeps a b → Appends a b []
keeps_appends None b kept = tt
keeps_appends (Some x) None kept = absurd kept
keeps_appends (Some x) (Some y) kept = kept ∙ sym (append-nil x)

-- some bytes are written, and then a write takes none
pub appends_none : (a b c : Option (List ℕ)) (bs : List ℕ) → Appends a b bs → Appends b c [] → Appends a c bs
appends_none a b c bs first then = subst (Appends a c) (append-nil bs) (appends_twice a b c bs [] first then)

-- a write of the bytes after a place appends what comes after the bytes before it
pub appends_more : (a b c : Option (List ℕ)) (done n : ℕ) (bytes rest : List ℕ) → rest ≡ drop done bytes → Appends a b (take done bytes) → Appends b c (take n rest) → Appends a c (take (done + n) bytes)
appends_more a b c done n bytes rest is first then =
    subst (Appends a c) ((ap (λ l. take done bytes ++ take n l) is ∙ sym (take-add done n bytes))) (appends_twice a b c (take done bytes) (take n rest) first then)
