use Rattle.std.proofs.Common.{◌≡◌, ◌-◌, ◌++◌, length, codes, decimal, string_bytes}
use Rattle.std.specs.List.{flat_map, range_with_len}
use Rattle.workload.specs.Summary.{code_line}
use Rattle.workload.proofs.summary.summary_by.Given as goal

abbrev pub invariant-loop-code : goal.invariant-loop-code
invariant-loop-code l =
    string_bytes l.text ≡ codes "requests " ++ decimal (length l.codes) ++ codes "\n" ++ flat_map (code_line l.codes) (range_with_len 100 (l.code - 100))
