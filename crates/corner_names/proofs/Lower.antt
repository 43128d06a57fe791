-- What meets an active cell from one level lower, and that the four ways exclude each other.
use Rattle.std.proofs.Common.{◌≡◌, ℕ, ◌+◌, ◌<◌, Bool, true, sym, ap, ◌∙◌, arith}
use Rattle.corner_names.specs.Names.{Cell, child, middle_of, name_size}
use Rattle.corner_names.specs.Cells.{Corners, vertex, mid, is_on, level, Across}
use Rattle.corner_names.specs.Forest.{IsMesh, IsBalanced, IsActive, MeetAt, IsHalfAt}
use Rattle.corner_names.proofs.Names.{middle_of-size}
use Rattle.corner_names.proofs.Cover.{half_mid}
use Rattle.corner_names.proofs.Covers.{same, other, up, down, met}
use Rattle.corner_names.proofs.Active.{across_level}

-- the cell above, the child's number, and the edge
pub record Lower (m : Corners) (x : Cell) (f : ℕ) (z : Cell) (e : ℕ) : Type 0 where
  pub above : Cell
  pub number : ℕ
  pub is : x ≡ child above number
  pub on : is_on number f ≡ true
  pub across : Across m above f z e

-- an active cell one level lower that meets a face holds a half of which the face is
pub lower_half : (n : ℕ) (m : Corners) (bd : ℕ → ℕ → Bool) (refined : Cell → Bool) → IsMesh n m bd → IsBalanced n m bd refined →
    (x z : Cell) (f e : ℕ) → IsActive n refined x → IsActive n refined z → f < 4 → e < 4 → level z + 1 ≡ level x → MeetAt m x f z e → Lower m x f z e
lower_half n m bd refined mesh w x z f e ax az a b lower meet =
    elim (met n m bd refined mesh w x z f e ax az a b meet) [
      | same s ↦ let t : level z ≡ level x = ap level s.0 in absurd (omega arith)
      | other s ↦ absurd (omega (arith, across_level m x z f e s))
      | up p k is on s ↦ record { above = p; number = k; is = is; on = on; across = s }
      | down q i v is r l on d s ↦ let t : level z ≡ level q + 1 = ap level is in absurd (omega (arith, across_level m x q f e s))
    ]

-- a face isn't both a face and a half of a face
pub half_not_same : (m : Corners) (x y : Cell) (f h v : ℕ) → IsHalfAt m x f y h v → mid m x f ≡ mid m y h → ⊥
half_not_same m x y f h v s e =
    let t : name_size (mid m y h) ≡ name_size (middle_of (vertex m y v) (mid m y h)) = ap name_size (sym e ∙ half_mid m x y f h v s) in
    omega (arith, middle_of-size (vertex m y v) (mid m y h))
