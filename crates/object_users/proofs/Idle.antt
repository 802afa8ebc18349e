-- Volumes use the pool that they stand in, and nothing else.
use Rattle.std.proofs.Common.{◌≡◌, false, List, [], ◌∷◌, filter, refl, sym, subst, ◌⊎◌, inl, inr}
use Rattle.row_machine.specs.Words.{ObjectKind, Target}
use Rattle.row_machine.specs.Words.kind
use Rattle.records.specs.declared.rows.Volume.{Volume}
use Rattle.row_machine.specs.machine.Holders.{volume_uses}

-- nothing is left by a test that no element passes
filter-none : {X : Type 0} (xs : List X) → filter (λ x. false) xs ≡ []
filter-none [] = refl
filter-none (x ∷ xs) = filter-none xs

-- what holds where the kind is known holds of the object
of-kind : (of : Target) (vs : List Volume) (k : ObjectKind) → of.kind ≡ k
    → filter (volume_uses (record of { kind = k })) vs ≡ [] → filter (volume_uses of) vs ≡ []
of-kind of vs k e none = subst (λ other. filter (volume_uses (record of { kind = other })) vs ≡ []) (sym e) none

-- no volume uses what is no pool
pub no-volume-uses : (of : Target) (vs : List Volume)
    → (of.kind ≡ kind.Project) ⊎ ((of.kind ≡ kind.Profile) ⊎ ((of.kind ≡ kind.Network) ⊎ ((of.kind ≡ kind.Volume)
    ⊎ ((of.kind ≡ kind.Instance) ⊎ ((of.kind ≡ kind.Snapshot) ⊎ (of.kind ≡ kind.Operation))))))
    → filter (volume_uses of) vs ≡ []
no-volume-uses of vs (inl e) = of-kind of vs kind.Project e (filter-none vs)
no-volume-uses of vs (inr (inl e)) = of-kind of vs kind.Profile e (filter-none vs)
no-volume-uses of vs (inr (inr (inl e))) = of-kind of vs kind.Network e (filter-none vs)
no-volume-uses of vs (inr (inr (inr (inl e)))) = of-kind of vs kind.Volume e (filter-none vs)
no-volume-uses of vs (inr (inr (inr (inr (inl e))))) = of-kind of vs kind.Instance e (filter-none vs)
no-volume-uses of vs (inr (inr (inr (inr (inr (inl e)))))) = of-kind of vs kind.Snapshot e (filter-none vs)
no-volume-uses of vs (inr (inr (inr (inr (inr (inr e)))))) = of-kind of vs kind.Operation e (filter-none vs)
