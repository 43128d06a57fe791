-- The rows of an item are written in turn.
use Rattle.std.proofs.Common.{◌≡◌, ℕ, zero, suc, List, [], ◌∷◌, ◌++◌, map, take, drop, sym, ap, ◌∙◌, append_assoc}
use mathlib.Core.Option.{some, some-injective, some-ne-none}
use lib.ListN.{get_elem?}
use Rattle.atomic_table.specs.Table.{rest}
use Rattle.atomic_table.proofs.Lists.{drop_at, at_map}
use Rattle.colored_copier.specs.Plans.{In, Rise, row_number}
use Rattle.colored_copier.specs.Places.{Next}
use Rattle.colored_copier.proofs.Search.{one_place}

module _ {R : Type 0} where
  pub in_numbers : (first : List (ℕ × R)) (row : ℕ) (l : List (ℕ × (ℕ × R))) (numbers : List ℕ) → Next first row l → numbers ≡ map row_number first → In row numbers
  in_numbers first row l numbers n e = (n.0, ap (λ m. get_elem? m n.0) e ∙ at_map row_number first n.0 (row, n.1) n.3)

  -- the search finds the place of the seat's first slot
  pub next_place : (first : List (ℕ × R)) (row k : ℕ) (l : List (ℕ × (ℕ × R))) (numbers : List ℕ) (n : Next first row l) → numbers ≡ map row_number first → Rise numbers → get_elem? numbers k ≡ some row → l ≡ (k, (row, n.1)) ∷ rest l
  unfolding in_numbers
  next_place first row k l numbers n e rise at =
      let same : n.0 ≡ k = one_place numbers n.0 k row rise (in_numbers first row l numbers n e).1 at in
      n.2 ∙ ap (λ (p : ℕ). (p, (row, n.1)) ∷ rest l) same

  abbrev first_place : List (ℕ × (ℕ × R)) → ℕ → ℕ
  first_place [] d = d
  first_place (z ∷ zs) d = z.0

  abbrev first_value : List (ℕ × (ℕ × R)) → ℕ × R → ℕ × R
  first_value [] d = d
  first_value (z ∷ zs) d = z.1

  pub heads : (k p row : ℕ) (x : R) (y : ℕ × R) (l : List (ℕ × (ℕ × R))) → l ≡ (p, (row, x)) ∷ rest l → l ≡ (k, y) ∷ rest l → (k ≡ p) × (y ≡ (row, x))
  heads k p row x y l a b = let e : (k, y) ∷ rest l ≡ (p, (row, x)) ∷ rest l = sym b ∙ a in (ap (λ m. first_place m p) e, ap (λ m. first_value m y) e)

module _ {A : Type 0} (f : A → A) where
  -- the rows from i on, and then those that are written
  abbrev pub at_row : List A → ℕ → List A
  at_row l i = drop i l ++ map f (take i l)

  one_written : (l : List A) (i : ℕ) (y : A) → get_elem? l i ≡ some y → map f (take (suc i) l) ≡ map f (take i l) ++ f y ∷ []
  one_written [] i y e = absurd (some-ne-none y (sym e))
  one_written (x ∷ xs) zero y e = ap (λ z. f z ∷ []) (some-injective x y e)
  one_written (x ∷ xs) (suc i) y e = ap (λ l. f x ∷ l) (one_written xs i y e)

  pub head_row : (l : List A) (i : ℕ) (y : A) → get_elem? l i ≡ some y → at_row l i ≡ y ∷ (drop (suc i) l ++ map f (take i l))
  head_row l i y e = ap (λ m. m ++ map f (take i l)) (drop_at l i y e)

  pub next_row : (l : List A) (i : ℕ) (y : A) → get_elem? l i ≡ some y → (drop (suc i) l ++ map f (take i l)) ++ f y ∷ [] ≡ at_row l (suc i)
  next_row l i y e = append_assoc (drop (suc i) l) (map f (take i l)) (f y ∷ []) ∙ ap (λ m. drop (suc i) l ++ m) (sym (one_written l i y e))
