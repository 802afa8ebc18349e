use Rattle.std.proofs.Common.{take}
use Rattle.std.specs.List.{AllByRecursion}
use Rattle.std.specs.Str.{IsUtf8}
use Rattle.row_codec.specs.Parts.{AreTypedSettings}
use Rattle.core_reopening.proofs.parts.devices_are_typed.Given as goal

abbrev pub invariant-loop-place : goal.invariant-loop-place
invariant-loop-place l = AllByRecursion (λ d. IsUtf8 d.0 × AreTypedSettings d.1) (take l.place l.devices)
