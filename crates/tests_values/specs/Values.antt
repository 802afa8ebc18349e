-- Amounts, the order of texts, and calls of which some fail.
use Prim.Native.String.{String}
use Rattle.std.specs.Prelude.{◌≡◌, ℕ, zero, suc, ◌*◌, ◌^◌, ◌==◌, Bool, true, false, List, [], ◌∷◌, length, codes}
use Rattle.std.specs.Cmp.Lexicographic.{slice_cmp}
use Rattle.std.specs.Ordering.{nat_cmp}
use Rattle.std.specs.Str.{bytes_eq}
use Rattle.std.specs.declared.cmp.Ordering.{Ordering}
use Rattle.std.specs.declared.cmp.Ordering.TheVariants as order
use Rattle.size_values.specs.Amounts.{nothing, plus_of, minus_of, excess_of, fits_in}
use Rattle.size_values.specs.Calls.{Calls, no_calls, is_next_failing, after_call}
use Rattle.size_values.specs.declared.amounts.Amounts.{Amounts}
use Rattle.tests_values.specs.Tables.{Agree}

-- ---- amounts

-- amounts by their parts
abbrev pub amounts : ℕ → ℕ → ℕ → ℕ → ℕ → ℕ → ℕ → Amounts
amounts instances containers machines cpu memory processes disk = record {
  instances = instances;
  containers = containers;
  machines = machines;
  cpu = cpu;
  memory = memory;
  processes = processes;
  disk = disk;
}

abbrev pub small : Amounts
small = amounts 0 0 0 3 0 0 (2 ^ 70)

abbrev pub large : Amounts
large = amounts 0 0 0 4 5 0 (2 ^ 71)

-- two of each
abbrev pub twos : Amounts
twos = amounts 2 2 2 2 2 2 2

-- amounts of 2 each but for one part, by how much they are above 2 each, and whether they fit into 2 each
abbrev pub alone : List (Amounts × Amounts × Bool)
alone =
    (amounts 2 2 2 2 2 2 2, amounts 0 0 0 0 0 0 0, true)
    ∷ (amounts 5 2 2 2 2 2 2, amounts 3 0 0 0 0 0 0, false)
    ∷ (amounts 2 5 2 2 2 2 2, amounts 0 3 0 0 0 0 0, false)
    ∷ (amounts 2 2 5 2 2 2 2, amounts 0 0 3 0 0 0 0, false)
    ∷ (amounts 2 2 2 5 2 2 2, amounts 0 0 0 3 0 0 0, false)
    ∷ (amounts 2 2 2 2 5 2 2, amounts 0 0 0 0 3 0 0, false)
    ∷ (amounts 2 2 2 2 2 5 2, amounts 0 0 0 0 0 3 0, false)
    ∷ (amounts 2 2 2 2 2 2 5, amounts 0 0 0 0 0 0 3, false)
    ∷ []

pub record AmountsHold : Type 0 where
  pub zero_is_nothing : nothing ≡ amounts 0 0 0 0 0 0 0
  pub both : plus_of small large ≡ amounts 0 0 0 7 5 0 (3 * 2 ^ 70)
  pub rest : minus_of large small ≡ amounts 0 0 0 1 5 0 (2 ^ 70)
  pub above_two : Agree (λ row. excess_of row.0 twos) (λ row. row.1) alone
  pub fits_two : Agree (λ row. fits_in row.0 twos) (λ row. row.2) alone
  pub two_are_within : Agree (λ row. excess_of twos row.0) (λ row. amounts 0 0 0 0 0 0 0) alone

-- ---- texts

-- two texts, the order of the first to the second, and whether they are the same
abbrev pub texts : List (String × String × Ordering × Bool)
texts =
    ("lab", "lac", order.Less, false)
    ∷ ("lac", "lab", order.Greater, false)
    ∷ ("lab", "lab", order.Equal, true)
    ∷ ("la", "lab", order.Less, false)
    ∷ ("", "", order.Equal, true)
    ∷ []

pub record TextsHold : Type 0 where
  pub ordered : Agree (λ row. slice_cmp nat_cmp (codes row.0) (codes row.1)) (λ row. row.2) texts
  pub same : Agree (λ row. bytes_eq (codes row.0) (codes row.1)) (λ row. row.3) texts
  pub empty : Agree (λ row. length (codes row.0) == 0) (λ row. bytes_eq (codes row.0) []) texts

-- ---- calls

-- of the next calls, as many as are asked for, whether each fails, and how many failed with it
abbrev pub failing : ℕ → Calls → List (Bool × ℕ)
failing zero calls = []
failing (suc more) calls = (is_next_failing calls, (after_call calls).failed) ∷ failing more (after_call calls)

pub record CallsHold : Type 0 where
  pub first_fails : failing 2 (no_calls (1 ∷ [])) ≡ (true, 1) ∷ (false, 1) ∷ []
  pub second_fails : failing 3 (no_calls (2 ∷ [])) ≡ (false, 0) ∷ (true, 1) ∷ (false, 1) ∷ []
  pub two_of_six_fail :
      failing 6 (no_calls (2 ∷ 4 ∷ 4 ∷ []))
      ≡ (false, 0) ∷ (true, 1) ∷ (false, 1) ∷ (true, 2) ∷ (false, 2) ∷ (false, 2) ∷ []

-- ---- all of it

pub record ValuesHold : Type 0 where
  pub of_amounts : AmountsHold
  pub of_texts : TextsHold
  pub of_calls : CallsHold
