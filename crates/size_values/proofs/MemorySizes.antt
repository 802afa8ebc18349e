-- The exits of the reader of memory settings.
use Rattle.std.proofs.Common.{◌≡◌, ℕ, ◌-◌, Bool, true, false, cond, List, length, take, Result, Ok, Err, sym, ap, ◌∙◌}
use Rattle.std.specs.Prelude.{codes, nat_eq}
use Rattle.std.specs.Result.{result_map_both}
use Rattle.std.specs.List.{ends_with}
use Rattle.size_values.specs.Count.{count_of}
use Rattle.size_values.specs.Size.{size_of}
use Rattle.size_values.specs.MemorySize.{memory_of}
use Rattle.size_values.specs.declared.fault.ValueFault.{ValueFault}
use Rattle.size_values.specs.declared.memory_size.Memory.{Memory}
use Rattle.size_values.specs.declared.memory_size.Memory.TheVariants.{Bytes, Percent}

either : List ℕ → Bool → Result Memory ValueFault
either text b = cond b (result_map_both Percent (λ e. e) (count_of (take (length text - 1) text) 1 100)) (result_map_both Bytes (λ e. e) (size_of text))

module _ (text : List ℕ) (e : ValueFault) where
  pub percent-fault : ends_with nat_eq text (codes "%") ≡ true → Err e ≡ count_of (take (length text - 1) text) 1 100 → Err e ≡ memory_of text
  unfolding memory_of either
  percent-fault h is = ap (λ r. result_map_both Percent (λ d. d) r) is ∙ ap (either text) (sym h)

  pub size-fault : ends_with nat_eq text (codes "%") ≡ false → Err e ≡ size_of text → Err e ≡ memory_of text
  unfolding memory_of either
  size-fault h is = ap (λ r. result_map_both Bytes (λ d. d) r) is ∙ ap (either text) (sym h)

module _ (text : List ℕ) (n : ℕ) where
  pub percent-value : ends_with nat_eq text (codes "%") ≡ true → Ok n ≡ count_of (take (length text - 1) text) 1 100 → Ok (Percent n) ≡ memory_of text
  unfolding memory_of either
  percent-value h is = ap (λ r. result_map_both Percent (λ d. d) r) is ∙ ap (either text) (sym h)

  pub size-value : ends_with nat_eq text (codes "%") ≡ false → Ok n ≡ size_of text → Ok (Bytes n) ≡ memory_of text
  unfolding memory_of either
  size-value h is = ap (λ r. result_map_both Bytes (λ d. d) r) is ∙ ap (either text) (sym h)
