-- The passes that a new pool gives.
use Rattle.std.proofs.Common.{◌≡◌, ℕ, zero, suc, [], ◌∷◌, None, refl, arith, length, length-append}
use Rattle.std.proofs.lemmas.List.Elements.{All-nil, All-push}
use Rattle.atomic_table.specs.Seated.{TableId}
use Rattle.scratch_pool.specs.Passes.{PassView}
use Rattle.scratch_pool.specs.Pools.{AreIdle, fresh, fresh_passes}

-- there are as many as seats
pub length-fresh_passes : (table : TableId) (n : ℕ) → length (fresh_passes table n) ≡ n
length-fresh_passes table zero = refl
length-fresh_passes table (suc n) = omega (arith, length-append (fresh_passes table n) (fresh table n ∷ []), length-fresh_passes table n)

-- none holds anything
pub fresh_are_idle : (table : TableId) (n : ℕ) → AreIdle table (fresh_passes table n)
fresh_are_idle table zero = All-nil (λ (p : PassView). (p.table ≡ table) × (p.holds ≡ None))
fresh_are_idle table (suc n) = All-push (λ (p : PassView). (p.table ≡ table) × (p.holds ≡ None)) (fresh_passes table n) (fresh table n) (fresh_are_idle table n) (refl, refl)
