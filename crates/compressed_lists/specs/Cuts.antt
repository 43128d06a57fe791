-- Lists that lie one behind the other in one list, each from the end of the one before to its own end.
use Rattle.std.specs.Prelude.{◌≡◌, ◌≤◌, ℕ, zero, suc, List, [], ◌∷◌, slice_index_or}
use Rattle.std.specs.List.{between}

-- the lists with these ends, from this place on
abbrev pub cut : {A : Type 0} → List A → ℕ → List ℕ → List (List A)
cut items from [] = []
cut items from (end ∷ ends) = between from end items ∷ cut items end ends

-- the ends rise, and the last is the end of all
abbrev pub AreEnds : ℕ → ℕ → List ℕ → Type 0
AreEnds total from [] = from ≡ total
AreEnds total from (end ∷ ends) = (from ≤ end) × AreEnds total end ends

-- where list k starts
abbrev pub start_of : ℕ → List ℕ → ℕ → ℕ
start_of from ends zero = from
start_of from ends (suc k) = slice_index_or ends k 0
