use Rattle.std.specs.Prelude.{◌≡◌, ◌≢◌, ◌⊎◌, List, [], ◌∷◌}

-- the item is an element of the list
abbrev pub Mem : {X : Type 0} → X → List X → Type 0
Mem item [] = ⊥
Mem item (other ∷ rest) = (item ≡ other) ⊎ Mem item rest

-- each element of the list meets the fact
pub record Each {X : Type 0} (P : X → Type 0) (items : List X) : Type 0 where
  pub at : (item : X) → Mem item items → P item

-- no two elements of the list have one key
abbrev pub Distinct : {X K : Type 0} → (X → K) → List X → Type 0
Distinct key [] = Unit {0}
Distinct key (item ∷ rest) = Each (λ other. key other ≢ key item) rest × Distinct key rest
