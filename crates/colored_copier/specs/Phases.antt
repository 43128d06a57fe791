-- What a pass of a round may be doing: fresh, with a claimed item, or over.
use Rattle.std.specs.Prelude.{ℕ, ◌<◌, cond, ◌==◌}
use Rattle.colored_copier.specs.declared.view.Phase.{Phase}
use Rattle.colored_copier.specs.declared.view.Phase.TheVariants.{Fresh, Claimed, Over}

-- the pass has found that all items are claimed
abbrev pub IsOver : Phase → Type 0
IsOver Fresh = ⊥
IsOver (Claimed n) = ⊥
IsOver (Over n) = Unit {0}

abbrev pub NotOver : Phase → Type 0
NotOver Fresh = Unit {0}
NotOver (Claimed n) = Unit {0}
NotOver (Over n) = ⊥

-- the pass has no item
abbrev pub Free : Phase → Type 0
Free Fresh = Unit {0}
Free (Claimed n) = ⊥
Free (Over n) = Unit {0}

-- the number is above the item that the pass has claimed, if it has one
abbrev pub Rises : ℕ → Phase → Type 0
Rises r Fresh = Unit {0}
Rises r (Claimed n) = n < r
Rises r (Over n) = Unit {0}

-- an item that the pass has claimed is one of these many
abbrev pub Below : ℕ → Phase → Type 0
Below items Fresh = Unit {0}
Below items (Claimed n) = n < items
Below items (Over n) = Unit {0}

-- 1 where the two numbers are the same
abbrev pub is : ℕ → ℕ → ℕ
is n m = cond (m == n) 1 0

-- 1 where the pass has claimed this item
abbrev pub claims : ℕ → Phase → ℕ
claims n Fresh = 0
claims n (Claimed m) = is n m
claims n (Over m) = 0

-- 1 where the pass is over
abbrev pub over_of : Phase → ℕ
over_of Fresh = 0
over_of (Claimed n) = 0
over_of (Over n) = 1
