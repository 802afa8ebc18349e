-- Texts without a slash.
use Rattle.std.proofs.Common.{◌≡◌, ◌≢◌, ℕ, ◌+◌, ◌<◌, false, List, [], ◌∷◌, length, get_or, refl, arith}
use Rattle.std.proofs.lemmas.Bool.{ne_eqb}
use Rattle.std.proofs.lemmas.Grind.{common_steps}
use Rattle.records.specs.Forms.{has_slash}

-- a text none of whose bytes is a slash
pub lacks_slash : (text : List ℕ) → ((i : ℕ) → i < length text → get_or text i 0 ≢ 47) → has_slash text ≡ false
lacks_slash [] none = refl
lacks_slash (b ∷ bs) none =
    let first : b ≢ 47 = none 0 (grind (arith, common_steps)) in
    rw (ne_eqb b 47 first, lacks_slash bs (λ i within. let at = none (i + 1) (grind (arith, common_steps)) in grind (arith, common_steps))) refl
