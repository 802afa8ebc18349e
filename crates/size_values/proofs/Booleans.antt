-- The exits of the reader of booleans.
use Rattle.std.proofs.Common.{◌≡◌, ℕ, Bool, true, false, List, [], ◌∷◌, length, Option, Some, None, Err, refl, ◌∙◌, eqb}
use Rattle.std.specs.Option.{ok_or, unwrap_or, is_none}
use Rattle.size_values.specs.Reading.{reading, fault_if}
use Rattle.size_values.specs.Boolean.{boolean_of, boolean_named}
use Rattle.size_values.specs.declared.fault.ValueFault.TheVariants.{Empty, OutOfRange}
use Rattle.size_values.proofs.Forms.{reading-here, reading-past}

pub boolean-empty : (text : List ℕ) → eqb (length text) 0 ≡ true → Err Empty ≡ boolean_of text
unfolding boolean_of
boolean-empty text h = reading-here _ _ _ _ h

pub boolean-named : (text : List ℕ) → eqb (length text) 0 ≡ false → ok_or (boolean_named text) OutOfRange ≡ boolean_of text
unfolding boolean_of
boolean-named text h = by (boolean_named text) ∙ reading-past _ _ _ _ h
  where
    by : (boolean : Option Bool) → ok_or boolean OutOfRange ≡ reading (unwrap_or boolean false) (fault_if (is_none boolean) OutOfRange ∷ [])
    by None = refl
    by (Some b) = refl
