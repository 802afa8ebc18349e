use Rattle.std.specs.Prelude.{ℕ, ◌-◌, if◌then◌else◌, List, length, take, Result, codes, nat_eq}
use Rattle.std.specs.Result.{result_map_both}
use Rattle.std.specs.List.{ends_with}
use Rattle.size_values.specs.Count.{count_of}
use Rattle.size_values.specs.Size.{size_of}
use Rattle.size_values.specs.declared.fault.ValueFault.{ValueFault}
use Rattle.size_values.specs.declared.memory_size.Memory.{Memory}
use Rattle.size_values.specs.declared.memory_size.Memory.TheVariants.{Bytes, Percent}

-- The memory setting that a text gives, or the first fault: what stands before a last `%` is a count of percents, any
-- other text is a size.
unfoldable pub memory_of : List ℕ → Result Memory ValueFault
memory_of text =
    if ends_with nat_eq text (codes "%")
    then result_map_both Percent (λ fault. fault) (count_of (take (length text - 1) text) 1 100)
    else result_map_both Bytes (λ fault. fault) (size_of text)
