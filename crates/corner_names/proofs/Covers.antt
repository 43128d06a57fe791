-- Each face of an active cell of a balanced forest is covered as it should be.
use Rattle.std.proofs.Common.{◌≡◌, ℕ, ◌<◌, ◌⊎◌, inl, inr, ⊎_elim, Bool, true, false, refl, sym, ap, subst, ◌∙◌}
use Rattle.corner_names.specs.Names.{Cell, root, child, middle_of, SamePair}
use Rattle.corner_names.specs.Cells.{Corners, vertex, face_start, face_end, is_on, mid, beside, IsCell, Across}
use Rattle.corner_names.specs.Forest.{IsMesh, OnBoundary, Exists, IsActive, Facing, IsBalanced, IsHalfAt, MeetAt, IsFace, Covered, boundary, equal, coarser, finer}
use Rattle.corner_names.proofs.Cells.{outer_mid}
use Rattle.corner_names.proofs.Distinct.{vertex_one, bool_cases}
use Rattle.corner_names.proofs.Across.{same_face, on_cases}
use Rattle.corner_names.proofs.Balance.{sibling, across_mid, across_sym, boundary_alone, matching, exists_cell, start_on, end_on}
use Rattle.corner_names.proofs.Cover.{across_one, pair_mid, half_mid, mid_half, half_up}

clash : (r : Cell → Bool) (p : Cell) → r p ≡ true → r p ≡ false → ⊥
clash r p h k = let e : true ≡ false = sym h ∙ k in cc

-- the ways in which two faces of active cells meet
pub data Met (m : Corners) (refined : Cell → Bool) (x : Cell) (f : ℕ) (z : Cell) (e : ℕ) : Type 0 where
  same : IsFace z e x f → Met m refined x f z e
  other : Across m x f z e → Met m refined x f z e
  up : (p : Cell) (k : ℕ) → x ≡ child p k → is_on k f ≡ true → Across m p f z e → Met m refined x f z e
  down : (q : Cell) (i v : ℕ) → z ≡ child q i → refined q ≡ true → i < 4 → is_on v f ≡ true → vertex m q i ≡ vertex m x v → Across m x f q e → Met m refined x f z e

pub met : (n : ℕ) (m : Corners) (bd : ℕ → ℕ → Bool) (refined : Cell → Bool) → IsMesh n m bd → IsBalanced n m bd refined →
    (x z : Cell) (f e : ℕ) → IsActive n refined x → IsActive n refined z → f < 4 → e < 4 → MeetAt m x f z e → Met m refined x f z e
met n m bd refined mesh w x z f e ax az a b meet =
    let ix : IsCell n x = exists_cell n m bd refined w x ax.0 in
    let iz : IsCell n z = exists_cell n m bd refined w z az.0 in
    let R : Type 0 = Met m refined x f z e in
    ⊎_elim
    (λ (s : SamePair (vertex m x (face_start f)) (vertex m x (face_end f)) (vertex m z (face_start e)) (vertex m z (face_end e))).
    ⊎_elim (λ (t : (x ≡ z) × (f ≡ e)). let r : R = same (sym t.0, sym t.1) in r) (λ (t : Across m x f z e). let r : R = other t in r)
    (same_face n m mesh.distinct x z ix iz f e a b (pair_mid m x z f e s)))
    (λ (s : ((v : ℕ) × IsHalfAt m x f z e v) ⊎ ((v : ℕ) × IsHalfAt m z e x f v)). ⊎_elim
    (λ (h : (v : ℕ) × IsHalfAt m x f z e v).
    let u = half_up n m x z ix iz f e h.0 a b h.1.0 (half_mid m x z f e h.0 h.1) in
    let ex : Exists n refined (child u.above u.number) = subst (Exists n refined) u.is ax.0 in
    let ip : IsCell n u.above = exists_cell n m bd refined w u.above (w.exist u.above ex.0) in
    ⊎_elim (λ (t : (u.above ≡ z) × (f ≡ e)). absurd (clash refined z (ap refined (sym t.0) ∙ ex.0) az.1))
    (λ (t : Across m u.above f z e). let r : R = up u.above u.number u.is u.on t in r)
    (same_face n m mesh.distinct u.above z ip iz f e a b u.edge))
    (λ (h : (v : ℕ) × IsHalfAt m z e x f v).
    let u = half_up n m z x iz ix e f h.0 b a h.1.0 (half_mid m z x e f h.0 h.1) in
    let ez : Exists n refined (child u.above u.number) = subst (Exists n refined) u.is az.0 in
    let iq : IsCell n u.above = exists_cell n m bd refined w u.above (w.exist u.above ez.0) in
    ⊎_elim (λ (t : (x ≡ u.above) × (f ≡ e)). absurd (clash refined x (ap refined t.0 ∙ ez.0) ax.1))
    (λ (t : Across m x f u.above e). let r : R = down u.above u.number h.0 u.is ez.0 ez.1 h.1.0 u.end t in r)
    (same_face n m mesh.distinct x u.above ix iq f e a b (sym u.edge)))
    s)
    meet

across_not_itself : (m : Corners) (p : Cell) (f : ℕ) → Across m p f p f → ⊥
across_not_itself m (root c) f x = x.1 refl refl
across_not_itself m (child p k) f x =
    ⊎_elim
    (λ (s : (is_on k f ≡ true) × (is_on k f ≡ true) × (vertex m p k ≡ vertex m p k) × Across m p f p f). across_not_itself m p f s.3)
    (λ (s : (is_on k f ≡ false) × (is_on k f ≡ false) × (p ≡ p) × (beside k f ≡ beside k f) × ((k ≡ k) → (f ≡ f) → ⊥)). s.4 refl refl)
    x

-- what lies across a half of a face is a child of what lies across the face
pub record Above (m : Corners) (p : Cell) (k f : ℕ) (y : Cell) (g : ℕ) : Type 0 where
  pub cell : Cell
  pub number : ℕ
  pub is : y ≡ child cell number
  pub end : vertex m p k ≡ vertex m cell number
  pub on : is_on number g ≡ true
  pub across : Across m p f cell g

pub above_across : (m : Corners) (p : Cell) (k f : ℕ) (y : Cell) (g : ℕ) → is_on k f ≡ true → Across m (child p k) f y g → Above m p k f y g
above_across m p k f (root c) g on x = absurd x
above_across m p k f (child q l) g on x =
    ⊎_elim
    (λ (s : (is_on k f ≡ true) × (is_on l g ≡ true) × (vertex m p k ≡ vertex m q l) × Across m p f q g). record { cell = q; number = l; is = refl; end = s.2; on = s.1; across = s.3 })
    (λ (s : (is_on k f ≡ false) × (is_on l g ≡ false) × (p ≡ q) × (beside k f ≡ beside l g) × ((k ≡ l) → (f ≡ g) → ⊥)). let z : true ≡ false = sym on ∙ s.0 in absurd cc)
    x

-- where the other side of a face is
pub data Place (n : ℕ) (m : Corners) (bd : ℕ → ℕ → Bool) (refined : Cell → Bool) : Cell → ℕ → Type 0 where
  alone : {x : Cell} {f : ℕ} → OnBoundary bd x f → Place n m bd refined x f
  facing : {x : Cell} {f : ℕ} → Facing n m refined x f → Place n m bd refined x f
  higher : {p : Cell} {k f : ℕ} → is_on k f ≡ true → (q : Cell) (g : ℕ) → IsActive n refined q → g < 4 → Across m p f q g → Place n m bd refined (child p k) f

pub place : (n : ℕ) (m : Corners) (bd : ℕ → ℕ → Bool) (refined : Cell → Bool) → IsMesh n m bd → IsBalanced n m bd refined →
    (x : Cell) (f : ℕ) → IsActive n refined x → f < 4 → Place n m bd refined x f
place n m bd refined mesh w (root c) f ax a =
    ⊎_elim (λ (b : bd c f ≡ true). alone b)
    (λ (b : bd c f ≡ false).
    let j = mesh.joined c f ax.0 a b in
    facing (record { other = root j.0; face = j.1.0; is_face = j.1.1.1; there = j.1.1.0; across = j.1.1.2 }))
    (bool_cases (bd c f))
place n m bd refined mesh w (child p k) f ax a =
    let ip : IsCell n p = exists_cell n m bd refined w p (w.exist p ax.0.0) in
    ⊎_elim
    (λ (on : is_on k f ≡ true). ⊎_elim
    (λ (b : OnBoundary bd p f). alone (on, b))
    (λ (o : Facing n m refined p f). ⊎_elim
    (λ (r : refined o.other ≡ true).
    let it : IsCell n o.other = exists_cell n m bd refined w o.other o.there in
    let x = matching m p o.other k f o.face a o.is_face on (across_mid m p o.other n ip it f o.face a o.is_face o.across) in
    facing (record { other = child o.other x.number; face = o.face; is_face = o.is_face; there = (r, x.is_child); across = inl (on, x.is_on_it, x.same, o.across) }))
    (λ (r : refined o.other ≡ false). higher on o.other o.face (o.there, r) o.is_face o.across)
    (bool_cases (refined o.other)))
    (w.faced p f ax.0.0 a))
    (λ (off : is_on k f ≡ false).
    let x = sibling k f ax.0.1 a off in
    facing (record { other = child p x.number; face = x.face; is_face = x.is_face; there = (ax.0.0, x.is_child); across = inr (off, x.inside, refl, x.same, λ e _. x.apart e) }))
    (bool_cases (is_on k f))

covers_alone : (n : ℕ) (m : Corners) (bd : ℕ → ℕ → Bool) (refined : Cell → Bool) → IsMesh n m bd → IsBalanced n m bd refined →
    (x : Cell) (f : ℕ) → IsActive n refined x → f < 4 → OnBoundary bd x f → Covered n m bd refined x f
covers_alone n m bd refined mesh w x f ax a b =
    let cell = exists_cell n m bd refined w in
    boundary b (λ z e az le meet. elim (met n m bd refined mesh w x z f e ax az a le meet) [
      | same s ↦ s
      | other t ↦ absurd (boundary_alone n m bd mesh x z f e (cell x ax.0) (cell z az.0) a le b t)
      | up p k is on t ↦
          let c : OnBoundary bd (child p k) f = let P : Cell → Type 0 = λ y. OnBoundary bd y f in subst P is b in
          absurd (boundary_alone n m bd mesh p z f e (cell (child p k) (subst (Exists n refined) is ax.0)).0 (cell z az.0) a le c.1 t)
      | down q i v is r li on s t ↦ absurd (boundary_alone n m bd mesh x q f e (cell x ax.0) (cell q (w.exist q r)) a le b t)
    ])

-- a cell that lies across a half of a face whose other side is there is refined
up_refined : (n : ℕ) (m : Corners) (bd : ℕ → ℕ → Bool) (refined : Cell → Bool) → IsMesh n m bd → IsBalanced n m bd refined →
    (x z p : Cell) (k f e : ℕ) → IsActive n refined x → IsActive n refined z → f < 4 → e < 4 → x ≡ child p k → is_on k f ≡ true → Across m p f z e →
    Facing n m refined x f → ⊥
up_refined n m bd refined mesh w x z p k f e ax az a b is on t o =
    let P : Cell → Type 0 = λ y. Across m y f o.other o.face in
    let up = above_across m p k f o.other o.face on (subst P is o.across) in
    let ex : Exists n refined (child p k) = subst (Exists n refined) is ax.0 in
    let ey : Exists n refined (child up.cell up.number) = subst (Exists n refined) up.is o.there in
    let ip : IsCell n p = exists_cell n m bd refined w p (w.exist p ex.0) in
    let iz : IsCell n z = exists_cell n m bd refined w z az.0 in
    let iq : IsCell n up.cell = exists_cell n m bd refined w up.cell (w.exist up.cell ey.0) in
    let one : (z ≡ up.cell) × (e ≡ o.face) = across_one n m mesh.distinct mesh.shared p z up.cell ip iz iq f e o.face a b o.is_face t up.across in
    clash refined z (ap refined one.0 ∙ ey.0) az.1

-- a child at the face of a refined cell, across from an active one, is active
child_active : (n : ℕ) (m : Corners) (bd : ℕ → ℕ → Bool) (refined : Cell → Bool) → IsMesh n m bd → IsBalanced n m bd refined →
    (x y : Cell) (f g l : ℕ) → IsActive n refined x → f < 4 → g < 4 → refined y ≡ true → l < 4 → is_on l g ≡ true → Across m y g x f → IsActive n refined (child y l)
child_active n m bd refined mesh w x y f g l ax a b r ll on t = (
  (r, ll),
  ⊎_elim
      (λ (s : refined (child y l) ≡ true). ⊎_elim
      (λ (c : OnBoundary bd (child y l) g). absurd (boundary_alone n m bd mesh y x g f (exists_cell n m bd refined w y (w.exist y r)) (exists_cell n m bd refined w x ax.0) b a c.1 t))
      (λ (o : Facing n m refined (child y l) g).
      let up = above_across m y l g o.other o.face on o.across in
      let ez : Exists n refined (child up.cell up.number) = subst (Exists n refined) up.is o.there in
      let iy : IsCell n y = exists_cell n m bd refined w y (w.exist y r) in
      let ix : IsCell n x = exists_cell n m bd refined w x ax.0 in
      let iq : IsCell n up.cell = exists_cell n m bd refined w up.cell (w.exist up.cell ez.0) in
      let one : (x ≡ up.cell) × (f ≡ o.face) = across_one n m mesh.distinct mesh.shared y x up.cell iy ix iq g f o.face b a o.is_face t up.across in
      absurd (clash refined x (ap refined one.0 ∙ ez.0) ax.1))
      (w.faced (child y l) g s b))
      (λ (s : refined (child y l) ≡ false). s)
      (bool_cases (refined (child y l))),
)

covers_equal : (n : ℕ) (m : Corners) (bd : ℕ → ℕ → Bool) (refined : Cell → Bool) → IsMesh n m bd → IsBalanced n m bd refined →
    (x : Cell) (f : ℕ) → IsActive n refined x → f < 4 → (o : Facing n m refined x f) → refined o.other ≡ false → Covered n m bd refined x f
covers_equal n m bd refined mesh w x f ax a o r =
    let ix : IsCell n x = exists_cell n m bd refined w x ax.0 in
    let iy : IsCell n o.other = exists_cell n m bd refined w o.other o.there in
    equal o.other o.face (o.there, r) o.is_face (across_mid m x o.other n ix iy f o.face a o.is_face o.across)
    (λ s. let P : Cell → Type 0 = λ y. Across m x f y f in let Q : ℕ → Type 0 = λ g. Across m x f o.other g in
    across_not_itself m x f (subst P s.0 (subst Q s.1 o.across)))
    (λ z e az le meet.
    let iz : IsCell n z = exists_cell n m bd refined w z az.0 in
    elim (met n m bd refined mesh w x z f e ax az a le meet) [
      | same s ↦ inl s
      | other t ↦ inr (across_one n m mesh.distinct mesh.shared x z o.other ix iz iy f e o.face a le o.is_face t o.across)
      | up p k is on t ↦ absurd (up_refined n m bd refined mesh w x z p k f e ax az a le is on t o)
      | down q i v is s li on d t ↦
          let iq : IsCell n q = exists_cell n m bd refined w q (w.exist q s) in
          let one : (q ≡ o.other) × (e ≡ o.face) = across_one n m mesh.distinct mesh.shared x q o.other ix iq iy f e o.face a le o.is_face t o.across in
          absurd (clash refined o.other (ap refined (sym one.0) ∙ s) r)
    ])

covers_finer : (n : ℕ) (m : Corners) (bd : ℕ → ℕ → Bool) (refined : Cell → Bool) → IsMesh n m bd → IsBalanced n m bd refined →
    (x : Cell) (f : ℕ) → IsActive n refined x → f < 4 → (o : Facing n m refined x f) → refined o.other ≡ true → Covered n m bd refined x f
covers_finer n m bd refined mesh w x f ax a o r =
    let y : Cell = o.other in let g : ℕ = o.face in
    let ix : IsCell n x = exists_cell n m bd refined w x ax.0 in
    let iy : IsCell n y = exists_cell n m bd refined w y o.there in
    let edge : mid m x f ≡ mid m y g = across_mid m x y n ix iy f g a o.is_face o.across in
    let first = matching m x y (face_start f) f g a o.is_face (start_on f) edge in
    let second = matching m x y (face_end f) f g a o.is_face (end_on f) edge in
    let back : Across m y g x f = across_sym m x y f g o.across in
    let half : (l v : ℕ) → l < 4 → is_on l g ≡ true → is_on v f ≡ true → vertex m x v ≡ vertex m y l → IsHalfAt m (child y l) g x f v =
    λ l v ll on ov s. mid_half m (child y l) x g f v ov (outer_mid m y l g ll o.is_face on ∙ ap (λ c. middle_of c (mid m y g)) (sym s) ∙ ap (middle_of (vertex m x v)) (sym edge)) in
    finer (child y first.number) (child y second.number) g
    (child_active n m bd refined mesh w x y f g first.number ax a o.is_face r first.is_child first.is_on_it back)
    (child_active n m bd refined mesh w x y f g second.number ax a o.is_face r second.is_child second.is_on_it back)
    o.is_face
    (half first.number (face_start f) first.is_child first.is_on_it (start_on f) first.same)
    (half second.number (face_end f) second.is_child second.is_on_it (end_on f) second.same)
    (λ z e az le meet.
    let R : Type 0 = IsFace z e x f ⊎ (IsFace z e (child y first.number) g ⊎ IsFace z e (child y second.number) g) in
    let iz : IsCell n z = exists_cell n m bd refined w z az.0 in
    elim (met n m bd refined mesh w x z f e ax az a le meet) [
      | same s ↦ inl s
      | other t ↦
          let one : (z ≡ y) × (e ≡ g) = across_one n m mesh.distinct mesh.shared x z y ix iz iy f e g a le o.is_face t o.across in
          absurd (clash refined z (ap refined one.0 ∙ r) az.1)
      | up p k is on t ↦ absurd (up_refined n m bd refined mesh w x z p k f e ax az a le is on t o)
      | down q i v is s li on d t ↦
          let iq : IsCell n q = exists_cell n m bd refined w q (w.exist q s) in
          let one : (q ≡ y) × (e ≡ g) = across_one n m mesh.distinct mesh.shared x q y ix iq iy f e g a le o.is_face t o.across in
          let qy : q ≡ y = one.0 in
          let number : (l u : ℕ) → l < 4 → v ≡ u → vertex m x u ≡ vertex m y l → z ≡ child y l =
          λ l u ll vu s2.
          let il : i ≡ l = vertex_one n m mesh.distinct y iy i l li ll (ap (λ c. vertex m c i) (sym qy) ∙ d ∙ ap (vertex m x) vu ∙ s2) in
          is ∙ ap (λ c. child c i) qy ∙ ap (child y) il in
          ⊎_elim (λ (u : v ≡ face_start f). let k : R = inr (inl (number first.number (face_start f) first.is_child u first.same, one.1)) in k)
          (λ (u : v ≡ face_end f). let k : R = inr (inr (number second.number (face_end f) second.is_child u second.same, one.1)) in k)
          (on_cases v f on)
    ])

covers_coarser : (n : ℕ) (m : Corners) (bd : ℕ → ℕ → Bool) (refined : Cell → Bool) → IsMesh n m bd → IsBalanced n m bd refined →
    (p : Cell) (k f : ℕ) → IsActive n refined (child p k) → f < 4 → is_on k f ≡ true → (q : Cell) (g : ℕ) → IsActive n refined q → g < 4 → Across m p f q g →
    Covered n m bd refined (child p k) f
covers_coarser n m bd refined mesh w p k f ax a on q g aq b t =
    let ip : IsCell n p = exists_cell n m bd refined w p (w.exist p ax.0.0) in
    let iq : IsCell n q = exists_cell n m bd refined w q aq.0 in
    let edge : mid m p f ≡ mid m q g = across_mid m p q n ip iq f g a b t in
    let l = matching m p q k f g a b on edge in
    -- what lies across the half is a child of q, so q were refined
    let none : (c : Cell) (e : ℕ) → Exists n refined c → e < 4 → Across m (child p k) f c e → ⊥ =
    λ c e ec le s.
    let up = above_across m p k f c e on s in
    let ey : Exists n refined (child up.cell up.number) = subst (Exists n refined) up.is ec in
    let iu : IsCell n up.cell = exists_cell n m bd refined w up.cell (w.exist up.cell ey.0) in
    let one : (up.cell ≡ q) × (e ≡ g) = across_one n m mesh.distinct mesh.shared p up.cell q ip iu iq f e g a le b up.across t in
    clash refined q (ap refined (sym one.0) ∙ ey.0) aq.1 in
    coarser q g l.number aq b
    (mid_half m (child p k) q f g l.number l.is_on_it
    (outer_mid m p k f ax.0.1 a on ∙ ap (λ c. middle_of c (mid m p f)) l.same ∙ ap (middle_of (vertex m q l.number)) edge))
    (λ z e az le meet. elim (met n m bd refined mesh w (child p k) z f e ax az a le meet) [
      | same s ↦ inl s
      | other s ↦ absurd (none z e az.0 le s)
      | up o i is un s ↦
          let po : o ≡ p = cc in let P : Cell → Type 0 = λ c. Across m c f z e in
          let iz : IsCell n z = exists_cell n m bd refined w z az.0 in
          inr (across_one n m mesh.distinct mesh.shared p z q ip iz iq f e g a le b (subst P po s) t)
      | down c i v is s li un d u ↦ absurd (none c e (w.exist c s) le u)
    ])

place_covered : (n : ℕ) (m : Corners) (bd : ℕ → ℕ → Bool) (refined : Cell → Bool) → IsMesh n m bd → IsBalanced n m bd refined →
    (x : Cell) (f : ℕ) → IsActive n refined x → f < 4 → Place n m bd refined x f → Covered n m bd refined x f
place_covered n m bd refined mesh w x f ax a (alone b) = covers_alone n m bd refined mesh w x f ax a b
place_covered n m bd refined mesh w x f ax a (facing o) =
    ⊎_elim (λ (r : refined o.other ≡ true). covers_finer n m bd refined mesh w x f ax a o r)
    (λ (r : refined o.other ≡ false). covers_equal n m bd refined mesh w x f ax a o r) (bool_cases (refined o.other))
place_covered n m bd refined mesh w (child p k) f ax a (higher on q g aq b t) = covers_coarser n m bd refined mesh w p k f ax a on q g aq b t

-- each face of an active cell of a balanced forest is covered in one of the four ways
pub covered : (n : ℕ) (m : Corners) (bd : ℕ → ℕ → Bool) (refined : Cell → Bool) → IsMesh n m bd → IsBalanced n m bd refined →
    (x : Cell) (f : ℕ) → IsActive n refined x → f < 4 → Covered n m bd refined x f
covered n m bd refined mesh w x f ax a = place_covered n m bd refined mesh w x f ax a (place n m bd refined mesh w x f ax a)
