use Rattle.std.proofs.Common.{◌≡◌, ◌<◌, ◌≤◌, ◌⊎◌, inl, inr, ℕ, List, length, take, min, sym, ap, ◌∙◌, arith}
use Rattle.std.proofs.lemmas.Bool.{cases_lt}
use Rattle.std.proofs.lemmas.List.{take_all}
use Rattle.http_front.proofs.read.front_of.Goals as goal

take-min : (n : ℕ) (bytes : List ℕ) → take (min (length bytes) n) bytes ≡ take n bytes
take-min n bytes = by_case (cases_lt n (length bytes))
  where
    by_case : (n < length bytes) ⊎ (length bytes ≤ n) → take (min (length bytes) n) bytes ≡ take n bytes
    by_case (inl long) = ap (λ k. take k bytes) (omega arith)
    by_case (inr short) =
        take_all (min (length bytes) n) bytes (omega arith) ∙ sym (take_all n bytes short)

pub returns : goal.returns
returns c = ap (λ k. take k c.args.bytes.now) c.min.ensures ∙ take-min _ c.args.bytes.now
