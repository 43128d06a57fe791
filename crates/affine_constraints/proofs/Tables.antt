-- The lines of a table, as parts of one list of terms.
use Rattle.std.proofs.Common.{◌≡◌, ◌∙◌, sym, ap, refl, subst, zero, suc, ◌∷◌, ℕ, ◌+◌, ◌-◌, ◌<◌, ◌≤◌, List, length, take, drop, set, ◌++◌, arith, inl, inr, ℤ}
use Rattle.std.specs.Prelude.{Some, None, is_some, option_map, IfSome, replicate}
use Rattle.std.specs.declared.option.Option.{Option}
use Rattle.std.proofs.lemmas.Bool.{cases_eq}
use Rattle.std.proofs.lemmas.List.{take-append-le, drop-append-le, length-drop, take_all, length-map, length-set, get_or-set_same, get_or-set_other, ext_get_or}
use Rattle.std.proofs.Math.ListN.{length-append, get_or-map}
use Rattle.std.proofs.Math.Seq.{drop-append_seam}
use Rattle.affine_constraints.specs.declared.term.Term.{Term}
use Rattle.affine_constraints.specs.declared.table.Place.{Place}
use Rattle.affine_constraints.specs.Lines.{AffineLine, lines_in}
use Rattle.affine_constraints.specs.Table.{line_at, table_of, place_in, IsPlace, ArePlaces}

-- the line of a dof
pub line_of_place : (places : List (Option Place)) (terms : List Term) (dof : ℕ) → lines_in (table_of places terms) dof ≡ option_map (line_at terms) (place_in places dof)
line_of_place places terms dof = get_or-map (option_map (line_at terms)) places dof None

pub length_table : (places : List (Option Place)) (terms : List Term) → length (table_of places terms) ≡ length places
length_table places terms = length-map places (option_map (line_at terms))

-- whether a dof has a line
some_mapped : (terms : List Term) (o : Option Place) → is_some (option_map (line_at terms) o) ≡ is_some o
some_mapped terms None = refl
some_mapped terms (Some p) = refl

pub has_line : (places : List (Option Place)) (terms : List Term) (dof : ℕ) → is_some (place_in places dof) ≡ is_some (lines_in (table_of places terms) dof)
has_line places terms dof = sym (ap is_some (line_of_place places terms dof) ∙ some_mapped terms (place_in places dof))

part_kept : (xs ys : List Term) (s e : ℕ) → s ≤ e → e ≤ length xs → take (e - s) (drop s (xs ++ ys)) ≡ take (e - s) (drop s xs)
part_kept xs ys s e le inside =
    ap (take (e - s)) (drop-append-le s xs ys (omega arith)) ∙ take-append-le (e - s) (drop s xs) ys (let n = length-drop s xs in omega arith)

line_same : (a b : List Term) (c d : ℤ) → a ≡ b → c ≡ d → ◌≡◌ {A = AffineLine} (record { terms = a; constant = c }) (record { terms = b; constant = d })
line_same a b c d e f = cc

-- a line stays where terms are put behind the others
line_kept : (xs ys : List Term) (o : Option Place) → IfSome o (IsPlace (length xs)) → option_map (line_at (xs ++ ys)) o ≡ option_map (line_at xs) o
line_kept xs ys None is = refl
line_kept xs ys (Some p) is =
    ap (λ (l : AffineLine). Some l) (line_same (take (p.end - p.start) (drop p.start (xs ++ ys))) (take (p.end - p.start) (drop p.start xs)) p.constant p.constant (part_kept xs ys p.start p.end is.rising is.within) refl)

line_new : (xs ys : List Term) (p : Place) (constant : ℤ) → p.start ≡ length xs → p.end ≡ length xs + length ys → p.constant ≡ constant → line_at (xs ++ ys) p ≡ record { terms = ys; constant = constant }
line_new xs ys p constant s e c =
    let n : p.end - p.start ≡ length ys = omega arith in
    line_same (take (p.end - p.start) (drop p.start (xs ++ ys))) ys p.constant constant
    (ap (λ m. take m (drop p.start (xs ++ ys))) n ∙ ap (λ m. take (length ys) (drop m (xs ++ ys))) s ∙ ap (take (length ys)) (drop-append_seam xs ys) ∙ take_all (length ys) ys (omega arith)) c

-- a line is put
pub table_put : (places new : List (Option Place)) (xs ys terms : List Term) (dof : ℕ) (p : Place) (constant : ℤ) → ArePlaces places xs → dof < length places → p.start ≡ length xs → p.end ≡ length xs + length ys → p.constant ≡ constant →
    new ≡ set places dof (Some p) → terms ≡ xs ++ ys → table_of new terms ≡ set (table_of places xs) dof (Some (record { terms = ys; constant = constant }))
table_put places new xs ys terms dof p constant are below s e c is grown =
    let line : AffineLine = record { terms = ys; constant = constant } in
    let all : table_of (set places dof (Some p)) (xs ++ ys) ≡ set (table_of places xs) dof (Some line) =
    ext_get_or None (table_of (set places dof (Some p)) (xs ++ ys)) (set (table_of places xs) dof (Some line))
    (length_table (set places dof (Some p)) (xs ++ ys) ∙ length-set places dof (Some p) ∙ sym (length_table places xs) ∙ sym (length-set (table_of places xs) dof (Some line)))
    (λ i _. line_of_place (set places dof (Some p)) (xs ++ ys) i ∙ elim (cases_eq i dof) [
      | inl same ↦ (let within : dof < length (table_of places xs) = (let n = length_table places xs in omega arith) in
          ap (λ j. option_map (line_at (xs ++ ys)) (place_in (set places dof (Some p)) j)) same
          ∙ ap (option_map (line_at (xs ++ ys))) (get_or-set_same places dof (Some p) None below)
          ∙ ap (λ (l : AffineLine). Some l) (line_new xs ys p constant s e c)
          ∙ sym (get_or-set_same (table_of places xs) dof (Some line) None within)
          ∙ ap (lines_in (set (table_of places xs) dof (Some line))) (sym same))
      | inr apart ↦ ap (option_map (line_at (xs ++ ys))) (get_or-set_other places dof i (Some p) None apart)
          ∙ line_kept xs ys (place_in places i) (are i)
          ∙ sym (line_of_place places xs i)
          ∙ sym (get_or-set_other (table_of places xs) dof i (Some line) None apart)
    ]) in
    rw (is, grown) all

place_grown : (size more : ℕ) (o : Option Place) → size ≤ more → IfSome o (IsPlace size) → IfSome o (IsPlace more)
place_grown size more None le is = tt
place_grown size more (Some p) le is = record { rising = is.rising; within = (let w = is.within in omega arith) }

pub places_put : (places new : List (Option Place)) (xs ys terms : List Term) (dof : ℕ) (p : Place) → ArePlaces places xs → dof < length places → p.start ≡ length xs → p.end ≡ length xs + length ys →
    new ≡ set places dof (Some p) → terms ≡ xs ++ ys → ArePlaces new terms
places_put places new xs ys terms dof p are below s e is grown =
    let n = length-append xs ys in
    let all : ArePlaces (set places dof (Some p)) (xs ++ ys) = λ i. elim (cases_eq i dof) [
      | inl same ↦ (let at : place_in (set places dof (Some p)) i ≡ Some p = ap (place_in (set places dof (Some p))) same ∙ get_or-set_same places dof (Some p) None below in
          let fits : IsPlace (length (xs ++ ys)) p = record { rising = omega arith; within = omega arith } in
          subst (λ (o : Option Place). IfSome o (IsPlace (length (xs ++ ys)))) (sym at) fits)
      | inr apart ↦ subst (λ (o : Option Place). IfSome o (IsPlace (length (xs ++ ys)))) (sym (get_or-set_other places dof i (Some p) None apart))
          (place_grown (length xs) (length (xs ++ ys)) (place_in places i) (omega arith) (are i))
    ] in
    subst (λ (ps : List (Option Place)). ArePlaces ps terms) (sym is) (subst (λ (ts : List Term). ArePlaces (set places dof (Some p)) ts) (sym grown) all)

map_none : (terms : List Term) (size : ℕ) → table_of (replicate size None) terms ≡ replicate size None
map_none terms zero = refl
map_none terms (suc n) = ap (λ (ls : List (Option AffineLine)). None ∷ ls) (map_none terms n)

none_placed : (terms : List Term) (size : ℕ) → ArePlaces (replicate size None) terms
none_placed terms zero dof = tt
none_placed terms (suc n) zero = tt
none_placed terms (suc n) (suc dof) = none_placed terms n dof

-- no lines
pub table_none : (places : List (Option Place)) (terms : List Term) (size : ℕ) → places ≡ replicate size None → table_of places terms ≡ replicate size None
table_none places terms size is = ap (λ (ps : List (Option Place)). table_of ps terms) is ∙ map_none terms size

pub places_none : (places : List (Option Place)) (terms : List Term) (size : ℕ) → places ≡ replicate size None → ArePlaces places terms
places_none places terms size is = subst (λ (ps : List (Option Place)). ArePlaces ps terms) (sym is) (none_placed terms size)
