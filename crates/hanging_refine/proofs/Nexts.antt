-- The next cells, one after the other.
use Rattle.std.proofs.Common.{◌≡◌, ◌∙◌, sym, ap, ap₂, refl, subst, ℕ, zero, suc, ◌+◌, ◌-◌, ◌<◌, ◌≤◌, Bool, true, false, List, [], ◌∷◌, ◌++◌, length, All, map, arith, slice_index, slice_index_or, add-one}
use Rattle.std.proofs.lemmas.List.Elements.{All-append, All-push, All-same, All-weaker}
use Rattle.quad_mesh.specs.Mesh.{CoarseMesh}
use Rattle.corner_names.specs.Names.{Cell}
use Rattle.corner_names.specs.Table.{IsCentre, IsMore, AreOneEach}
use Rattle.corner_names.proofs.Keys.{more_same, more_trans}
use Rattle.hanging_refine.specs.declared.stored.StoredCell.{StoredCell}
use Rattle.hanging_refine.specs.Stored.{IsStored, stored_name, stored_names}
use Rattle.hanging_refine.specs.Step.{IsDivisible, AreChildren, IsNext, part_named, part_of, refined_below, last_of, stored_at}
use Rattle.hanging_refine.proofs.Lists.{name_in}

pub stored_more : (mesh : CoarseMesh) (old now : List (ℕ × ℕ)) (c : StoredCell) → IsMore old now → IsStored mesh old c → IsStored mesh now c
stored_more mesh old now c m s =
    let l : length old ≤ length now = m.more in
    record {
      low = s.low;
      room = s.room;
      known = λ v a. let k = s.known v a in omega arith;
      corner = λ v a. m.kept (slice_index c.corners v) (s.known v a) ∙ s.corner v a;
      points = s.points;
      reach = s.reach;
    }

pub all_more : (mesh : CoarseMesh) (old now : List (ℕ × ℕ)) (cells : List StoredCell) → IsMore old now → All (IsStored mesh old) cells → All (IsStored mesh now) cells
all_more mesh old now cells m s = All-weaker (IsStored mesh old) (IsStored mesh now) (λ c h. stored_more mesh old now c m h) cells s

less_four : (k : ℕ) → k < 4 → 3 - k < 4
less_four k h = omega arith

pub divisible_more : (old now : List (ℕ × ℕ)) (c : StoredCell) → IsMore old now → IsDivisible old c → IsDivisible now c
divisible_more old now c m d =
    let l : length old ≤ length now = m.more in
    record {
      low = d.low;
      room = d.room;
      known = λ v a. let k = d.known v a in omega arith;
      apart = d.apart;
      number = d.number;
      high = d.high;
      above = λ h. let P : _ → Type 0 = IsCentre in subst P (sym (m.kept (slice_index c.corners (3 - last_of c)) (d.known (3 - last_of c) (less_four (last_of c) (d.number h))))) (d.above h);
      reach = d.reach;
    }

map_append : {A B : Type 0} (f : A → B) (xs ys : List A) → map f (xs ++ ys) ≡ map f xs ++ map f ys
map_append f [] ys = refl
map_append f (x ∷ xs) ys = ap (λ zs. f x ∷ zs) (map_append f xs ys)

list_four : (xs : List StoredCell) → length xs ≡ 4 → xs ≡ stored_at xs 0 ∷ stored_at xs 1 ∷ stored_at xs 2 ∷ stored_at xs 3 ∷ []
list_four [] h = absurd (omega arith)
list_four (a ∷ []) h = absurd (omega arith)
list_four (a ∷ b ∷ []) h = absurd (omega arith)
list_four (a ∷ b ∷ c ∷ []) h = absurd (omega arith)
list_four (a ∷ b ∷ c ∷ d ∷ []) h = refl
list_four (a ∷ b ∷ c ∷ d ∷ e ∷ xs) h = absurd (omega arith)

four_names : (a b c d : StoredCell) (x y z w : Cell) → stored_name a ≡ x → stored_name b ≡ y → stored_name c ≡ z → stored_name d ≡ w → stored_names (a ∷ b ∷ c ∷ d ∷ []) ≡ x ∷ y ∷ z ∷ w ∷ []
four_names a b c d x y z w e f g h = cc

pub next_divided : (old now : List (ℕ × ℕ)) (c : StoredCell) (four before after : List StoredCell) (b : Bool) → b ≡ true → AreChildren old now c four → after ≡ before ++ four → IsNext old now c b before after
next_divided old now c four before after b is ch e = record {
  names = ap stored_names e ∙ map_append stored_name before four
      ∙ ap (λ xs. stored_names before ++ xs) (ap stored_names (list_four four ch.count)
      ∙ four_names (stored_at four 0) (stored_at four 1) (stored_at four 2) (stored_at four 3) _ _ _ _ (ch.named 0 (omega arith)) (ch.named 1 (omega arith)) (ch.named 2 (omega arith)) (ch.named 3 (omega arith)))
      ∙ ap (λ t. stored_names before ++ part_named t (stored_name c)) (sym is);
  stored = λ mesh s all. All-same (IsStored mesh now) after (before ++ four) e (All-append (IsStored mesh now) before four all
      (λ k d h. let P : StoredCell → Type 0 = IsStored mesh now in subst P (default_in four k d h) (ch.stored mesh s k (let l : length four ≡ 4 = ch.count in omega arith))));
}
  where
    default_in : (xs : List StoredCell) (k : ℕ) (d : StoredCell) → k < length xs → stored_at xs k ≡ slice_index_or xs k d
    default_in [] k d h = absurd (omega arith)
    default_in (x ∷ xs) zero d h = refl
    default_in (x ∷ xs) (suc k) d h = default_in xs k d (omega arith)

pub next_kept : (old : List (ℕ × ℕ)) (c : StoredCell) (before after : List StoredCell) (b : Bool) → b ≡ false → after ≡ before ++ (c ∷ []) → IsNext old old c b before after
next_kept old c before after b none e = record {
  names = ap stored_names e ∙ map_append stored_name before (c ∷ []) ∙ ap (λ t. stored_names before ++ part_named t (stored_name c)) (sym none);
  stored = λ mesh s all. All-same (IsStored mesh old) after (before ++ (c ∷ [])) e (All-push (IsStored mesh old) before c all s);
}

pub below_next : (chosen : ℕ → Bool) (cells : List Cell) (n : ℕ) → refined_below chosen cells (n + 1) ≡ refined_below chosen cells n ++ part_of chosen cells n
unfolding refined_below
below_next chosen cells n = ap (refined_below chosen cells) (add-one n)

pub below_zero : (chosen : ℕ → Bool) (cells : List Cell) → refined_below chosen cells 0 ≡ []
unfolding refined_below
below_zero chosen cells = refl

-- what is true of the next cells after the first n
pub record NextBelow (start now : List (ℕ × ℕ)) (cells : List StoredCell) (chosen : ℕ → Bool) (next : List StoredCell) (n : ℕ) : Type 0 where
  pub names : stored_names next ≡ refined_below chosen (stored_names cells) n
  pub stored : (mesh : CoarseMesh) → All (IsStored mesh start) cells → All (IsStored mesh now) next
  pub more : IsMore start now
  pub one : AreOneEach now

pub next_start : (start : List (ℕ × ℕ)) (cells : List StoredCell) (chosen : ℕ → Bool) (next : List StoredCell) → next ≡ [] → AreOneEach start → NextBelow start start cells chosen next 0
next_start start cells chosen next e one = record {
  names = ap stored_names e ∙ sym (below_zero chosen (stored_names cells));
  stored = λ mesh s. All-same (IsStored mesh start) next [] e (λ k d h. absurd (omega arith));
  more = more_same start;
  one = one;
}

pub next_more : (start half now : List (ℕ × ℕ)) (cells : List StoredCell) (chosen : ℕ → Bool) (before after : List StoredCell) (n : ℕ) → n < length cells → NextBelow start half cells chosen before n →
    IsNext half now (stored_at cells n) (chosen n) before after → IsMore half now → AreOneEach now → NextBelow start now cells chosen after (n + 1)
next_more start half now cells chosen before after n h b s m one = record {
  names = s.names ∙ ap₂ (λ (xs : List Cell) (x : Cell). xs ++ part_named (chosen n) x) b.names (sym (name_in cells n _ h)) ∙ sym (below_next chosen (stored_names cells) n);
  stored = λ mesh all. s.stored mesh (stored_more mesh start half (stored_at cells n) b.more (all n _ h)) (all_more mesh half now before m (b.stored mesh all));
  more = more_trans start half now b.more m;
  one = one;
}
