-- Pieces of a line, one behind another.
use Rattle.std.proofs.Common.{◌≡◌, ◌∙◌, sym, ap, ℕ, ◌≤◌, ◌^◌, List, [], ◌∷◌, ◌++◌, append_assoc, append-nil, arith}
use Rattle.std.specs.Prelude.{ℤ, unsigned_abs}
use Rattle.std.specs.Int.{w64}
use Rattle.std.specs.Int.RustNames.{FitsSigned}
use Rattle.std.proofs.lemmas.Int.{ints}

regroup_four : (t a b c d : List ℕ) → (((t ++ (a ++ 32 ∷ [])) ++ (b ++ 32 ∷ [])) ++ (c ++ 32 ∷ [])) ++ (d ++ 10 ∷ []) ≡ t ++ ((a ++ 32 ∷ (b ++ 32 ∷ (c ++ 32 ∷ d))) ++ 10 ∷ [])
regroup_four t a b c d = simp append_assoc

pub four_joined : (t t1 t2 t3 t4 a b c d : List ℕ) → t1 ≡ t ++ (a ++ 32 ∷ []) → t2 ≡ t1 ++ (b ++ 32 ∷ []) → t3 ≡ t2 ++ (c ++ 32 ∷ []) → t4 ≡ t3 ++ (d ++ 10 ∷ []) →
    t4 ≡ t ++ (((a ++ 32 ∷ (b ++ 32 ∷ (c ++ 32 ∷ d))) ++ 10 ∷ []) ++ [])
four_joined t t1 t2 t3 t4 a b c d e1 e2 e3 e4 =
    e4 ∙ ap (λ s. s ++ (d ++ 10 ∷ [])) (e3 ∙ ap (λ s. s ++ (c ++ 32 ∷ [])) (e2 ∙ ap (λ s. s ++ (b ++ 32 ∷ [])) e1)) ∙ regroup_four t a b c d
    ∙ ap (λ s. t ++ s) (sym (append-nil ((a ++ 32 ∷ (b ++ 32 ∷ (c ++ 32 ∷ d))) ++ 10 ∷ [])))

regroup_two : (t a b c d : List ℕ) → (t ++ (a ++ 32 ∷ (b ++ 32 ∷ []))) ++ (c ++ 32 ∷ (d ++ 10 ∷ [])) ≡ t ++ ((a ++ 32 ∷ (b ++ 32 ∷ (c ++ 32 ∷ d))) ++ 10 ∷ [])
regroup_two t a b c d = simp append_assoc

pub two_joined : (t t1 t2 a b c d : List ℕ) → t1 ≡ t ++ (a ++ 32 ∷ (b ++ 32 ∷ [])) → t2 ≡ t1 ++ (c ++ 32 ∷ (d ++ 10 ∷ [])) →
    t2 ≡ t ++ (((a ++ 32 ∷ (b ++ 32 ∷ (c ++ 32 ∷ d))) ++ 10 ∷ []) ++ [])
two_joined t t1 t2 a b c d e1 e2 =
    e2 ∙ ap (λ s. s ++ (c ++ 32 ∷ (d ++ 10 ∷ []))) e1 ∙ regroup_two t a b c d ∙ ap (λ s. t ++ s) (sym (append-nil ((a ++ 32 ∷ (b ++ 32 ∷ (c ++ 32 ∷ d))) ++ 10 ∷ [])))

regroup_type : (t a b type rest : List ℕ) → ((t ++ (a ++ 32 ∷ [])) ++ (b ++ 32 ∷ (type ++ 32 ∷ []))) ++ (rest ++ 10 ∷ []) ≡ t ++ ((a ++ 32 ∷ (b ++ 32 ∷ (type ++ 32 ∷ rest))) ++ 10 ∷ [])
regroup_type t a b type rest = simp append_assoc

pub type_joined : (t t1 t2 t3 a b type rest : List ℕ) → t1 ≡ t ++ (a ++ 32 ∷ []) → t2 ≡ t1 ++ (b ++ 32 ∷ (type ++ 32 ∷ [])) → t3 ≡ t2 ++ ((rest ++ 10 ∷ []) ++ []) →
    t3 ≡ t ++ (((a ++ 32 ∷ (b ++ 32 ∷ (type ++ 32 ∷ rest))) ++ 10 ∷ []) ++ [])
type_joined t t1 t2 t3 a b type rest e1 e2 e3 =
    e3 ∙ ap (λ s. t2 ++ s) (append-nil (rest ++ 10 ∷ []))
    ∙ ap (λ s. s ++ (rest ++ 10 ∷ [])) (e2 ∙ ap (λ s. s ++ (b ++ 32 ∷ (type ++ 32 ∷ []))) e1) ∙ regroup_type t a b type rest
    ∙ ap (λ s. t ++ s) (sym (append-nil ((a ++ 32 ∷ (b ++ 32 ∷ (type ++ 32 ∷ rest))) ++ 10 ∷ [])))

-- a coordinate fits 64 bits
pub coordinate_fits : (ticks : ℤ) → unsigned_abs ticks ≤ 2 ^ 26 → FitsSigned w64 ticks
coordinate_fits ticks h = grind (arith, ints)
