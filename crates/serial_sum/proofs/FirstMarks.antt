-- The first marked row.
use Rattle.std.proofs.Common.{◌≡◌, ◌∙◌, sym, ap, refl, ℕ, ◌+◌, ◌<◌, ◌≤◌, List, length, Bool, true, false, arith, inl, inr, cond}
use Rattle.std.specs.Prelude.{Some, None, ◌⊎◌, nat_le}
use Rattle.std.specs.declared.option.Option.{Option}
use Rattle.std.proofs.lemmas.Bool.{cases_lt}
use Rattle.std.proofs.lemmas.List.{get_or_past}
use Rattle.sparsity.specs.declared.rows.Row.{Row}
use Rattle.sparsity.specs.declared.rows.Mark.{Mark}
use Rattle.serial_sum.specs.Rows.{row_at, no_row}
use Rattle.serial_sum.specs.Marks.{IsFirstMark, Tells}
use Rattle.serial_sum.specs.FirstMark.{earlier_of}
use Rattle.serial_sum.specs.declared.marks.Marked.{Marked}

-- the first marked row among those below a number
pub record IsFirstBelow (rows : List Row) (n : ℕ) (found : Marked) : Type 0 where
  pub there : (row_at rows found.row).mark ≡ Some found.mark
  pub first : (j : ℕ) (other : Mark) → j < n → (row_at rows j).mark ≡ Some other → (found.mark.cell < other.cell) ⊎ ((found.mark.cell ≡ other.cell) × (found.row ≤ j))
  pub low : found.row < n

abbrev pub FirstBelow : List Row → ℕ → Option Marked → Type 0
FirstBelow rows n None = (j : ℕ) → j < n → (row_at rows j).mark ≡ None
FirstBelow rows n (Some first) = IsFirstBelow rows n first

none_is_some : {X : Type 0} {x : X} → ◌≡◌ {A = Option X} None (Some x) → ⊥
none_is_some e = cc

one_mark : {a b : Mark} → ◌≡◌ {A = Option Mark} (Some a) (Some b) → a ≡ b
one_mark e = cc

le_true : (a b : ℕ) → nat_le a b ≡ true → a ≤ b
le_true a b e = grind arith

le_false : (a b : ℕ) → nat_le a b ≡ false → b < a
le_false a b e = grind arith

-- a row more
pub first_more : (rows : List Row) (n : ℕ) (first : Option Marked) (mark : Option Mark) → (row_at rows n).mark ≡ mark → FirstBelow rows n first → FirstBelow rows (n + 1) (earlier_of first n mark)
first_more rows n None None e so_far = λ j h. elim (cases_lt j n) [ inl less ↦ so_far j less | inr more ↦ (let at : n ≡ j = omega (arith, h, more) in ap (λ k. (row_at rows k).mark) (sym at) ∙ e) ]
first_more rows n (Some first) None e so_far = record {
  there = so_far.there;
  first = λ j other h is. elim (cases_lt j n) [
    | inl less ↦ so_far.first j other less is
    | inr more ↦ (let at : n ≡ j = omega (arith, h, more) in absurd (none_is_some (sym e ∙ ap (λ k. (row_at rows k).mark) at ∙ is)))
  ];
  low = (let low = so_far.low in omega (arith, low));
}
first_more rows n None (Some mark) e so_far = record {
  there = e;
  first = λ j other h is. elim (cases_lt j n) [
    | inl less ↦ absurd (none_is_some (sym (so_far j less) ∙ is))
    | inr more ↦ (let at : n ≡ j = omega (arith, h, more) in inr (ap (λ (m : Mark). m.cell) (one_mark (sym e ∙ ap (λ k. (row_at rows k).mark) at ∙ is)), more))
  ];
  low = omega arith;
}
first_more rows n (Some first) (Some mark) e so_far = by_cells (nat_le first.mark.cell mark.cell) refl
  where
    last : (j : ℕ) (other : Mark) → j < n + 1 → n ≤ j → (row_at rows j).mark ≡ Some other → mark.cell ≡ other.cell
    last j other h more is = (let at : n ≡ j = omega (arith, h, more) in ap (λ (m : Mark). m.cell) (one_mark (sym e ∙ ap (λ k. (row_at rows k).mark) at ∙ is)))

    older : first.mark.cell ≤ mark.cell → (j : ℕ) (other : Mark) → j < n + 1 → (row_at rows j).mark ≡ Some other → (first.mark.cell < other.cell) ⊎ ((first.mark.cell ≡ other.cell) × (first.row ≤ j))
    older le j other h is = elim (cases_lt j n) [
      | inl less ↦ so_far.first j other less is
      | inr more ↦ (let same = last j other h more is in elim (cases_lt first.mark.cell other.cell) [
        | inl under ↦ inl under
        | inr over ↦ inr (omega (arith, le, same, over), let low = so_far.low in omega (arith, low, more))
      ])
    ]

    newer : mark.cell < first.mark.cell → (j : ℕ) (other : Mark) → j < n + 1 → (row_at rows j).mark ≡ Some other → (mark.cell < other.cell) ⊎ ((mark.cell ≡ other.cell) × (n ≤ j))
    newer less j other h is = elim (cases_lt j n) [
      | inl under ↦ inl (above j other (so_far.first j other under is))
      | inr more ↦ inr (last j other h more is, more)
    ]
      where
        above : (j : ℕ) (other : Mark) → (first.mark.cell < other.cell) ⊎ ((first.mark.cell ≡ other.cell) × (first.row ≤ j)) → mark.cell < other.cell
        above j other (inl up) = omega (arith, up, less)
        above j other (inr same) = omega (arith, same.0, less)

    by_cells : (b : Bool) → nat_le first.mark.cell mark.cell ≡ b → FirstBelow rows (n + 1) (cond b (Some first) (Some (record { row = n; mark = mark })))
    by_cells true le = record { there = so_far.there; first = older (le_true first.mark.cell mark.cell le); low = (let low = so_far.low in omega (arith, low)) }
    by_cells false gt = record { there = e; first = newer (le_false first.mark.cell mark.cell gt); low = omega arith }

past_mark : (rows : List Row) (i : ℕ) → length rows ≤ i → (row_at rows i).mark ≡ None
past_mark rows i h = ap (λ (r : Row). r.mark) (get_or_past rows i no_row h)

-- after all rows
pub none_tells : (rows : List Row) (n : ℕ) → length rows ≤ n → FirstBelow rows n None → Tells rows None
none_tells rows n all so_far i = elim (cases_lt i n) [ inl less ↦ so_far i less | inr more ↦ past_mark rows i (omega (arith, all, more)) ]

pub some_tells : (rows : List Row) (n : ℕ) (first : Marked) → length rows ≤ n → IsFirstBelow rows n first → IsFirstMark rows first.row first.mark
some_tells rows n first all so_far = record {
  there = so_far.there;
  first = λ j other is. elim (cases_lt j n) [
    | inl less ↦ so_far.first j other less is
    | inr more ↦ absurd (none_is_some (sym (past_mark rows j (omega (arith, all, more))) ∙ is))
  ];
}
