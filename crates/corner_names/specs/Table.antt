-- Numbers of corner names.
use Rattle.std.specs.Prelude.{◌≡◌, ℕ, ◌+◌, ◌-◌, ◌<◌, ◌≤◌, ◌⊎◌, cond, nat_lt, ◌==◌, List, [], ◌∷◌, ◌++◌, length, take, fold, slice_index_or, Some}
use Rattle.std.specs.declared.option.Option.{Option}
use Rattle.std.specs.Ordering.{nat_cmp, ordering_then}
use Rattle.std.specs.BTreeMap.{BTreeMap, get}
use Rattle.corner_names.specs.Names.{Cell, root, child, Name, node, middle, centre, middle_of}

-- the number of the first name that is no node
abbrev pub first : ℕ
first = 1048576

-- the name of a number, by the names that have the numbers from `first` on
abbrev pub name_at : List Name → ℕ → Name
name_at names n = cond (nat_lt n first) (node n) (slice_index_or names (n - first) (node 0))

-- the centre of a child, by the centre of the cell above
abbrev pub centre_below : Name → ℕ → Name
centre_below (node n) k = node 0
centre_below (middle a b) k = node 0
centre_below (centre p) k = centre (child p k)

abbrev pub IsCentre : Name → Type 0
IsCentre (node n) = ⊥
IsCentre (middle a b) = ⊥
IsCentre (centre p) = Unit {0}

-- what a pair of numbers stands for: the middle of two names where it rises; the centre of a coarse cell where
-- both are the cell; the centre of a child where it falls from the centre above to the child's number
unfoldable pub made_of : List Name → ℕ × ℕ → Name
made_of names pair =
    cond (nat_lt pair.0 pair.1) (middle_of (name_at names pair.0) (name_at names pair.1))
    (cond (pair.0 == pair.1) (centre (root pair.0)) (centre_below (name_at names pair.0) pair.1))

abbrev pub next_name : List Name → ℕ × ℕ → List Name
next_name names pair = names ++ (made_of names pair ∷ [])

-- the names that a list of pairs of numbers stands for
unfoldable pub names_of : List (ℕ × ℕ) → List Name
names_of pairs = fold next_name [] pairs

unfoldable pub name_of : List (ℕ × ℕ) → ℕ → Name
name_of pairs n = name_at (names_of pairs) n

unfoldable pub name_made : List (ℕ × ℕ) → ℕ × ℕ → Name
name_made pairs pair = made_of (names_of pairs) pair

abbrev pub pair_at : List (ℕ × ℕ) → ℕ → ℕ × ℕ
pair_at pairs i = slice_index_or pairs i (0, 0)

abbrev pub Numbers : Type 0
Numbers = BTreeMap (ℕ × ℕ) ℕ

abbrev pub number_of : Numbers → ℕ × ℕ → Option ℕ
number_of numbers pair = get (λ a b. ordering_then (nat_cmp a.0 b.0) (nat_cmp a.1 b.1)) numbers pair

-- a pair that stands for a name, by names with numbers below n
pub data IsKey (pairs : List (ℕ × ℕ)) (n : ℕ) (pair : ℕ × ℕ) : Type 0 where
  rises : pair.0 < pair.1 → pair.1 < n → IsKey pairs n pair
  coarse : pair.0 ≡ pair.1 → IsKey pairs n pair
  falls : pair.1 < pair.0 → pair.0 < n → (p : Cell) → name_of pairs pair.0 ≡ centre p → IsKey pairs n pair

-- no two numbers have one name
abbrev pub AreOneEach : List (ℕ × ℕ) → Type 0
AreOneEach pairs = (x y : ℕ) → x < first + length pairs → y < first + length pairs → name_of pairs x ≡ name_of pairs y → x ≡ y

-- the pairs stand for names and are numbered in turn; the map finds each; no two numbers have one name
pub record IsTable (pairs : List (ℕ × ℕ)) (numbers : Numbers) : Type 0 where
  pub keys : (i : ℕ) → i < length pairs → IsKey pairs (first + i) (pair_at pairs i)
  pub found : (pair : ℕ × ℕ) (n : ℕ) → number_of numbers pair ≡ Some n → (first ≤ n) × (n < first + length pairs) × (pair_at pairs (n - first) ≡ pair)
  pub complete : (i : ℕ) → i < length pairs → number_of numbers (pair_at pairs i) ≡ Some (first + i)
  pub named : (i : ℕ) → i < length pairs → name_of pairs (first + i) ≡ name_made pairs (pair_at pairs i)
  pub one : AreOneEach pairs

-- the numbers given before keep their names, and n, which is no node, is the number of this name
pub record IsNumbered (old now : List (ℕ × ℕ)) (name : Name) (n : ℕ) : Type 0 where
  pub high : first ≤ n
  pub known : n < first + length now
  pub kept : (x : ℕ) → x < first + length old → name_of now x ≡ name_of old x
  pub named : name_of now n ≡ name

-- the numbers given before keep their names, and the new ones stand behind them
pub record IsMore (old now : List (ℕ × ℕ)) : Type 0 where
  pub more : length old ≤ length now
  pub before : take (length old) now ≡ old
  pub kept : (x : ℕ) → x < first + length old → name_of now x ≡ name_of old x

-- nothing was added, or one name, which has the next number, and that is n
unfoldable pub AddsAtMostOne : List (ℕ × ℕ) → List (ℕ × ℕ) → ℕ → Type 0
AddsAtMostOne old now n = (now ≡ old) ⊎ ((length now ≡ length old + 1) × (n ≡ first + length old))
