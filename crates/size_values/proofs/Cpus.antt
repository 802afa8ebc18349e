-- The exits of the reader of CPU settings.
use Rattle.std.proofs.Common.{◌≡◌, ℕ, ◌<◌, ◌≤◌, Bool, true, cond, List, length, Result, Ok, Err, sym, ap, ◌∙◌, arith}
use Rattle.std.proofs.lemmas.List.Folds.{list_all_at}
use Rattle.std.proofs.lemmas.List.Sums.{prefix_len_passes, prefix_len_stops, list_all-from_AllPass}
use Rattle.std.specs.Result.{result_map_both}
use Rattle.std.specs.List.{prefix_len, list_all}
use Rattle.std.specs.Char.{is_ascii_digit}
use Rattle.size_values.specs.Number.{number_at}
use Rattle.size_values.specs.Count.{count_of}
use Rattle.size_values.specs.Cpu.{set_of, cpu_of}
use Rattle.size_values.specs.declared.number.Number.{Number}
use Rattle.size_values.specs.declared.fault.ValueFault.{ValueFault}
use Rattle.size_values.specs.declared.cpu.Cpu.{Cpu}
use Rattle.size_values.specs.declared.cpu.Cpu.TheVariants.{Count}

either : List ℕ → Bool → Result Cpu ValueFault
either text b = cond b (result_map_both Count (λ e. e) (count_of text 1 1000000)) (set_of text)

module _ (text : List ℕ) (number : Number) (front : number ≡ number_at text) where
  len : number.len ≡ prefix_len is_ascii_digit text
  len = ap (λ (n : Number). n.len) front

  pub cpu-set : number.len < length text → set_of text ≡ cpu_of text
  unfolding cpu_of either
  cpu-set less = ap (either text) (sym (list_all_at is_ascii_digit text (prefix_len is_ascii_digit text) 0 (omega (arith, len)) (prefix_len_stops is_ascii_digit text 0 (omega (arith, len)))))

  module _ (all : length text ≤ number.len) where
    digits : list_all is_ascii_digit text ≡ true
    digits = list_all-from_AllPass is_ascii_digit text (λ k d less. prefix_len_passes is_ascii_digit text k d (omega (arith, len)))

    pub cpu-fault : (e : ValueFault) → Err e ≡ count_of text 1 1000000 → Err e ≡ cpu_of text
    unfolding cpu_of either
    cpu-fault e is = ap (λ r. result_map_both Count (λ d. d) r) is ∙ ap (either text) (sym digits)

    pub cpu-count : (n : ℕ) → Ok n ≡ count_of text 1 1000000 → Ok (Count n) ≡ cpu_of text
    unfolding cpu_of either
    cpu-count n is = ap (λ r. result_map_both Count (λ d. d) r) is ∙ ap (either text) (sym digits)
