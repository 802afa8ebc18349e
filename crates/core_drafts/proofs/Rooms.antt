-- The least room of eight lists, of which each lost one place at most.
use Rattle.std.proofs.Common.{◌≡◌, ℕ, ◌+◌, ◌≤◌, min, subst, arith}

-- of two
min-step : (a b c d : ℕ) → a ≤ c + 1 → b ≤ d + 1 → min a b ≤ min c d + 1
min-step a b c d h k = omega (arith, h, k)

pub more : (n : ℕ) → n ≤ n + 1
more n = omega arith

pub least-step : (n a b c d e f g h a' b' c' d' e' f' g' h' : ℕ)
    → min a (min b (min c (min d (min e (min f (min g h)))))) ≡ n
    → a ≤ a' + 1 → b ≤ b' + 1 → c ≤ c' + 1 → d ≤ d' + 1 → e ≤ e' + 1 → f ≤ f' + 1 → g ≤ g' + 1 → h ≤ h' + 1
    → n ≤ min a' (min b' (min c' (min d' (min e' (min f' (min g' h')))))) + 1
least-step n a b c d e f g h a' b' c' d' e' f' g' h' is p q r s t u v w =
    subst (λ m. m ≤ min a' (min b' (min c' (min d' (min e' (min f' (min g' h')))))) + 1) is
    (min-step a _ a' _ p (min-step b _ b' _ q (min-step c _ c' _ r (min-step d _ d' _ s (min-step e _ e' _ t (min-step f _ f' _ u (min-step g h g' h' v w)))))))
