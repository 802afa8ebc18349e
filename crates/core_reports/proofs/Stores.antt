-- What a call to the store leaves as it was.
use Rattle.std.proofs.Common.{◌≡◌, ap, inl, inr}
use Rattle.record_keeper.specs.Store.{Store, IsAfterUpTo}

-- at most one call leaves the count of failures
pub failures-same : (store store' : Store) → IsAfterUpTo 1 store store' → store'.failures ≡ store.failures
failures-same store store' (inl is) = ap (λ (x : Store). x.failures) is
failures-same store store' (inr is) = ap (λ (x : Store). x.failures) is

-- and what is told of the entries
pub contents-same : (store store' : Store) → IsAfterUpTo 1 store store' → store'.contents ≡ store.contents
contents-same store store' (inl is) = ap (λ (x : Store). x.contents) is
contents-same store store' (inr is) = ap (λ (x : Store). x.contents) is
