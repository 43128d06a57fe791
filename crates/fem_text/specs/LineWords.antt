-- The first words of a line.
use Rattle.std.specs.Prelude.{◌≡◌, ℕ, ◌<◌, ◌≤◌, ◌++◌, List, [], length, map, take}
use Rattle.std.specs.Borrow.{Bor}

-- first begins with so many of the words, and with all of them where there is room for more
pub record AreFirst (words : List (List ℕ)) (first : List (Bor (List ℕ))) (count : ℕ) : Type 0 where
  pub room : length first ≡ 8
  pub few : count ≤ 8
  pub rest : List (List ℕ)
  pub same : words ≡ map (λ word. word.now) (take count first) ++ rest
  pub all : count < 8 → rest ≡ []
