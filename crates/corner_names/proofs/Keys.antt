-- A new pair in the table.
use Rattle.std.proofs.Common.{◌≡◌, ℕ, ◌+◌, ◌-◌, ◌<◌, ◌≤◌, ◌⊎◌, inl, inr, ⊎_elim, Bool, true, false, cond, List, [], ◌∷◌, ◌++◌, length, refl, sym, ap, subst, ◌∙◌, arith, length-append, slice_index_or, take}
use Rattle.std.specs.Prelude.{nat_lt, fold, Some, None, Ok, Err, IfOk, ◌==◌, ◌&&◌}
use Rattle.std.specs.declared.result.Result.{Result}
use Rattle.fem_fixed.specs.declared.memory.NoMemory.{NoMemory}
use Rattle.std.specs.Ordering.{nat_cmp, ordering_then, is_eq}
use Rattle.std.specs.BTreeMap.{is_at}
use Rattle.std.specs.Map.{lookup}
use Rattle.std.specs.declared.option.Option.{Option}
use Rattle.std.proofs.lemmas.List.Sums.{fold-append}
use Rattle.std.proofs.lemmas.List.{get_or_append_left}
use Rattle.std.proofs.Math.Seq.{get_or-append_seam, take-append_seam}
use Rattle.std.proofs.lemmas.Grind.{common_steps}
use Rattle.corner_names.specs.Names.{Name, Cell, root, child, node, middle, centre, middle_of}
use Rattle.corner_names.proofs.Names.{middle_of-inj, middle_of-node, middle_of-centre}
use Rattle.corner_names.specs.Table.{first, name_at, centre_below, IsCentre, made_of, next_name, names_of, name_of, name_made, pair_at, Numbers, number_of, IsKey, rises, coarse, falls, AreOneEach, IsTable, IsNumbered, IsMore}

pub names_push : (pairs : List (ℕ × ℕ)) (p : ℕ × ℕ) → names_of (pairs ++ (p ∷ [])) ≡ names_of pairs ++ (name_made pairs p ∷ [])
unfolding names_of name_made
names_push pairs p = fold-append next_name [] pairs (p ∷ [])

fold_length : (pairs : List (ℕ × ℕ)) (names : List Name) → length (fold next_name names pairs) ≡ length names + length pairs
fold_length [] names = omega arith
fold_length (p ∷ pairs) names =
    let h : length (fold next_name (next_name names p) pairs) ≡ length (next_name names p) + length pairs = fold_length pairs (next_name names p) in
    let k : length (next_name names p) ≡ length names + 1 = length-append names (made_of names p ∷ []) in
    let s : length (p ∷ pairs) ≡ length pairs + 1 = grind arith in
    h ∙ omega arith

pub names_length : (pairs : List (ℕ × ℕ)) → length (names_of pairs) ≡ length pairs
unfolding names_of
names_length pairs = let h : length (fold next_name [] pairs) ≡ length {A = Name} [] + length pairs = fold_length pairs [] in h ∙ omega arith

bool_cases : (b : Bool) → (b ≡ true) ⊎ (b ≡ false)
bool_cases true = inl refl
bool_cases false = inr refl

at_more : (names : List Name) (e : Name) (x : ℕ) → x < first + length names → name_at (names ++ (e ∷ [])) x ≡ name_at names x
at_more names e x h =
    ⊎_elim
    (λ (b : nat_lt x first ≡ true). ap (λ t. cond t (node x) (slice_index_or (names ++ (e ∷ [])) (x - first) (node 0))) b ∙ sym (ap (λ t. cond t (node x) (slice_index_or names (x - first) (node 0))) b))
    (λ (b : nat_lt x first ≡ false).
    let lt : x - first < length names = grind arith in
    ap (λ t. cond t (node x) (slice_index_or (names ++ (e ∷ [])) (x - first) (node 0))) b ∙ get_or_append_left names (e ∷ []) (node 0) (x - first) lt
    ∙ sym (ap (λ t. cond t (node x) (slice_index_or names (x - first) (node 0))) b))
    (bool_cases (nat_lt x first))

-- a name given before is kept
pub name_kept : (pairs : List (ℕ × ℕ)) (p : ℕ × ℕ) (x : ℕ) → x < first + length pairs → name_of (pairs ++ (p ∷ [])) x ≡ name_of pairs x
unfolding name_of
name_kept pairs p x h =
    ap (λ names. name_at names x) (names_push pairs p) ∙ at_more (names_of pairs) (name_made pairs p) x (omega (arith, names_length pairs))

past_first : (n : ℕ) → nat_lt (first + n) first ≡ false
past_first n = grind arith

at_last : (names : List Name) (e : Name) (n : ℕ) → length names ≡ n → name_at (names ++ (e ∷ [])) (first + n) ≡ e
at_last names e n h =
    let less : first + n - first ≡ length names = omega arith in
    ap (λ t. cond t (node (first + n)) (slice_index_or (names ++ (e ∷ [])) (first + n - first) (node 0))) (past_first n)
    ∙ ap (λ k. slice_index_or (names ++ (e ∷ [])) k (node 0)) less ∙ get_or-append_seam names e [] (node 0)

-- the new number has the name of the new pair
pub name_last : (pairs : List (ℕ × ℕ)) (p : ℕ × ℕ) → name_of (pairs ++ (p ∷ [])) (first + length pairs) ≡ name_made pairs p
unfolding name_of
name_last pairs p =
    ap (λ names. name_at names (first + length pairs)) (names_push pairs p) ∙ at_last (names_of pairs) (name_made pairs p) (length pairs) (names_length pairs)

pub pair_kept : (pairs : List (ℕ × ℕ)) (p : ℕ × ℕ) (i : ℕ) → i < length pairs → pair_at (pairs ++ (p ∷ [])) i ≡ pair_at pairs i
pair_kept pairs p i h = get_or_append_left pairs (p ∷ []) (0, 0) i h

pub pair_last : (pairs : List (ℕ × ℕ)) (p : ℕ × ℕ) → pair_at (pairs ++ (p ∷ [])) (length pairs) ≡ p
pair_last pairs p = get_or-append_seam pairs p [] (0, 0)

below_suc : (i n : ℕ) → i < n + 1 → (i < n) ⊎ (i ≡ n)
below_suc i n h = grind arith

pub node_name : (pairs : List (ℕ × ℕ)) (x : ℕ) → x < first → name_of pairs x ≡ node x
unfolding name_of
node_name pairs x h =
    let b : nat_lt x first ≡ true = grind arith in ap (λ t. cond t (node x) (slice_index_or (names_of pairs) (x - first) (node 0))) b

split_first : (x : ℕ) → (x < first) ⊎ ((i : ℕ) × (x ≡ first + i))
split_first x = ⊎_elim (λ (b : nat_lt x first ≡ true). inl (grind arith)) (λ (b : nat_lt x first ≡ false). inr (x - first, grind arith)) (bool_cases (nat_lt x first))

pair_eq : (p : ℕ × ℕ) (a b : ℕ) → p.0 ≡ a → p.1 ≡ b → p ≡ (a, b)
pair_eq p a b h k =
    let f : ℕ → ℕ × ℕ = λ x. (x, p.1) in let g : ℕ → ℕ × ℕ = λ y. (a, y) in ap f h ∙ ap g k

same_pair : (p q : ℕ × ℕ) → p.0 ≡ q.0 → p.1 ≡ q.1 → p ≡ q
same_pair p q h k = pair_eq p q.0 q.1 h k

-- what the three kinds of pairs stand for
less_true : (a b : ℕ) → a < b → nat_lt a b ≡ true
less_true a b h = grind arith

less_false : (a b : ℕ) → b ≤ a → nat_lt a b ≡ false
less_false a b h = grind arith

same_true : (a b : ℕ) → a ≡ b → (a == b) ≡ true
same_true a b h = grind arith

same_false : (a b : ℕ) → b < a → (a == b) ≡ false
same_false a b h = grind arith

pub made_rises : (pairs : List (ℕ × ℕ)) (q : ℕ × ℕ) → q.0 < q.1 → name_made pairs q ≡ middle_of (name_of pairs q.0) (name_of pairs q.1)
unfolding name_made made_of name_of
made_rises pairs q h =
    let names : List Name = names_of pairs in
    ap (λ b. cond b (middle_of (name_at names q.0) (name_at names q.1)) (cond (q.0 == q.1) (centre (root q.0)) (centre_below (name_at names q.0) q.1))) (less_true q.0 q.1 h)

pub made_coarse : (pairs : List (ℕ × ℕ)) (q : ℕ × ℕ) → q.0 ≡ q.1 → name_made pairs q ≡ centre (root q.0)
unfolding name_made made_of name_of
made_coarse pairs q h =
    let names : List Name = names_of pairs in
    ap (λ b. cond b (middle_of (name_at names q.0) (name_at names q.1)) (cond (q.0 == q.1) (centre (root q.0)) (centre_below (name_at names q.0) q.1))) (less_false q.0 q.1 (omega arith))
    ∙ ap (λ b. cond b (centre (root q.0)) (centre_below (name_at names q.0) q.1)) (same_true q.0 q.1 h)

pub made_falls : (pairs : List (ℕ × ℕ)) (q : ℕ × ℕ) → q.1 < q.0 → name_made pairs q ≡ centre_below (name_of pairs q.0) q.1
unfolding name_made made_of name_of
made_falls pairs q h =
    let names : List Name = names_of pairs in
    ap (λ b. cond b (middle_of (name_at names q.0) (name_at names q.1)) (cond (q.0 == q.1) (centre (root q.0)) (centre_below (name_at names q.0) q.1))) (less_false q.0 q.1 (omega arith))
    ∙ ap (λ b. cond b (centre (root q.0)) (centre_below (name_at names q.0) q.1)) (same_false q.0 q.1 h)

below_centre : (pairs : List (ℕ × ℕ)) (q : ℕ × ℕ) (p : Cell) → q.1 < q.0 → name_of pairs q.0 ≡ centre p → name_made pairs q ≡ centre (child p q.1)
below_centre pairs q p h e = made_falls pairs q h ∙ ap (λ x. centre_below x q.1) e

root_one : (a b : ℕ) → centre (root a) ≡ centre (root b) → a ≡ b
root_one a b e = cc

root_not_child : (a k : ℕ) (p : Cell) → centre (root a) ≡ centre (child p k) → ⊥
root_not_child a k p e = cc

child_one : (p q : Cell) (k l : ℕ) → centre (child p k) ≡ centre (child q l) → (p ≡ q) × (k ≡ l)
child_one p q k l e = (cc, cc)

-- two keys of one name are one pair
pub key_one : (pairs : List (ℕ × ℕ)) (n : ℕ) (q r : ℕ × ℕ) → AreOneEach pairs → n ≤ first + length pairs → IsKey pairs n q → IsKey pairs n r → name_made pairs q ≡ name_made pairs r → q ≡ r
key_one pairs n q r one top a b e = elim a [
  | rises s t ↦ elim b [
    | rises u v ↦ ⊎_elim
        (λ (x : (name_of pairs q.0 ≡ name_of pairs r.0) × (name_of pairs q.1 ≡ name_of pairs r.1)).
        same_pair q r (one q.0 r.0 (omega arith) (omega arith) x.0) (one q.1 r.1 (omega arith) (omega arith) x.1))
        (λ (x : (name_of pairs q.0 ≡ name_of pairs r.1) × (name_of pairs q.1 ≡ name_of pairs r.0)).
        let c : q.0 ≡ r.1 = one q.0 r.1 (omega arith) (omega arith) x.0 in let d : q.1 ≡ r.0 = one q.1 r.0 (omega arith) (omega arith) x.1 in
        absurd (omega arith))
        (middle_of-inj (name_of pairs q.0) (name_of pairs q.1) (name_of pairs r.0) (name_of pairs r.1) (sym (made_rises pairs q s) ∙ e ∙ made_rises pairs r u))
    | coarse u ↦ absurd (middle_of-centre (name_of pairs q.0) (name_of pairs q.1) (root r.0) (sym (made_rises pairs q s) ∙ e ∙ made_coarse pairs r u))
    | falls u v p w ↦ absurd (middle_of-centre (name_of pairs q.0) (name_of pairs q.1) (child p r.1) (sym (made_rises pairs q s) ∙ e ∙ below_centre pairs r p u w))
  ]
  | coarse s ↦ elim b [
    | rises u v ↦ absurd (middle_of-centre (name_of pairs r.0) (name_of pairs r.1) (root q.0) (sym (made_rises pairs r u) ∙ sym e ∙ made_coarse pairs q s))
    | coarse u ↦ let h : q.0 ≡ r.0 = root_one q.0 r.0 (sym (made_coarse pairs q s) ∙ e ∙ made_coarse pairs r u) in same_pair q r h (sym s ∙ h ∙ u)
    | falls u v p w ↦ absurd (root_not_child q.0 r.1 p (sym (made_coarse pairs q s) ∙ e ∙ below_centre pairs r p u w))
  ]
  | falls s t o x ↦ elim b [
    | rises u v ↦ absurd (middle_of-centre (name_of pairs r.0) (name_of pairs r.1) (child o q.1) (sym (made_rises pairs r u) ∙ sym e ∙ below_centre pairs q o s x))
    | coarse u ↦ absurd (root_not_child r.0 q.1 o (sym (made_coarse pairs r u) ∙ sym e ∙ below_centre pairs q o s x))
    | falls u v p w ↦
        let h = child_one o p q.1 r.1 (sym (below_centre pairs q o s x) ∙ e ∙ below_centre pairs r p u w) in
        same_pair q r (one q.0 r.0 (omega arith) (omega arith) (x ∙ ap centre h.0 ∙ sym w)) h.1
  ]
]

-- a key stands for no node
pub key_not_node : (pairs : List (ℕ × ℕ)) (n : ℕ) (q : ℕ × ℕ) (x : ℕ) → IsKey pairs n q → name_made pairs q ≡ node x → ⊥
key_not_node pairs n q x a e = elim a [
  | rises s t ↦ middle_of-node (name_of pairs q.0) (name_of pairs q.1) x (sym (made_rises pairs q s) ∙ e)
  | coarse s ↦ let z : centre (root q.0) ≡ node x = sym (made_coarse pairs q s) ∙ e in cc
  | falls s t p w ↦ let z : centre (child p q.1) ≡ node x = sym (below_centre pairs q p s w) ∙ e in cc
]

pub key_more : (pairs : List (ℕ × ℕ)) (n k : ℕ) (q : ℕ × ℕ) → n ≤ k → IsKey pairs n q → IsKey pairs k q
key_more pairs n k q h a = elim a [
  | rises s t ↦ rises s (omega arith)
  | coarse s ↦ coarse s
  | falls s t p w ↦ falls s (omega arith) p w
]

pub key_kept : (pairs : List (ℕ × ℕ)) (p : ℕ × ℕ) (n : ℕ) (q : ℕ × ℕ) → n ≤ first + length pairs → IsKey pairs n q → IsKey (pairs ++ (p ∷ [])) n q
key_kept pairs p n q h a = elim a [
  | rises s t ↦ rises s t
  | coarse s ↦ coarse s
  | falls s t o w ↦ falls s t o (name_kept pairs p q.0 (omega arith) ∙ w)
]

pub made_kept : (pairs : List (ℕ × ℕ)) (p : ℕ × ℕ) (n : ℕ) (q : ℕ × ℕ) → n ≤ first + length pairs → IsKey pairs n q → name_made (pairs ++ (p ∷ [])) q ≡ name_made pairs q
made_kept pairs p n q h a =
    let ps : List (ℕ × ℕ) = pairs ++ (p ∷ []) in elim a [
      | rises s t ↦ made_rises ps q s ∙ ap (λ x. middle_of x (name_of ps q.1)) (name_kept pairs p q.0 (omega arith))
          ∙ ap (middle_of (name_of pairs q.0)) (name_kept pairs p q.1 (omega arith)) ∙ sym (made_rises pairs q s)
      | coarse s ↦ made_coarse ps q s ∙ sym (made_coarse pairs q s)
      | falls s t o w ↦ made_falls ps q s ∙ ap (λ x. centre_below x q.1) (name_kept pairs p q.0 (omega arith)) ∙ sym (made_falls pairs q s)
    ]

-- the new pair's name is new
name_fresh : (pairs : List (ℕ × ℕ)) (numbers : Numbers) (q : ℕ × ℕ) → IsTable pairs numbers → IsKey pairs (first + length pairs) q → number_of numbers q ≡ None →
    (x : ℕ) → x < first + length pairs → name_of pairs x ≡ name_made pairs q → ⊥
name_fresh pairs numbers q t key fresh x hx e =
    ⊎_elim
    (λ (h : x < first). key_not_node pairs (first + length pairs) q x key (sym e ∙ node_name pairs x h))
    (λ (h : (i : ℕ) × (x ≡ first + i)).
    let i : ℕ = h.0 in
    let hi : i < length pairs = omega arith in
    let k : IsKey pairs (first + length pairs) (pair_at pairs i) = key_more pairs (first + i) (first + length pairs) (pair_at pairs i) (omega arith) (t.keys i hi) in
    let m : name_made pairs (pair_at pairs i) ≡ name_made pairs q = sym (t.named i hi) ∙ ap (name_of pairs) (sym h.1) ∙ e in
    let s : pair_at pairs i ≡ q = key_one pairs (first + length pairs) (pair_at pairs i) q t.one (omega arith) k key m in
    let z : None ≡ Some (first + i) = sym fresh ∙ ap (number_of numbers) (sym s) ∙ t.complete i hi in cc)
    (split_first x)

take_whole : (xs : List (ℕ × ℕ)) → take (length xs) xs ≡ xs
take_whole xs = grind (arith, common_steps)

take_shorter : (n k : ℕ) (xs : List (ℕ × ℕ)) → n ≤ k → take n xs ≡ take n (take k xs)
take_shorter n k xs h = grind (arith, common_steps)

pub more_same : (pairs : List (ℕ × ℕ)) → IsMore pairs pairs
more_same pairs = record { more = omega arith; before = take_whole pairs; kept = λ x h. refl }

pub more_added : (pairs : List (ℕ × ℕ)) (q : ℕ × ℕ) → IsMore pairs (pairs ++ (q ∷ []))
more_added pairs q =
    let len : length (pairs ++ (q ∷ [])) ≡ length pairs + 1 = length-append pairs (q ∷ []) in
    record { more = omega arith; before = take-append_seam pairs (q ∷ []); kept = λ x h. name_kept pairs q x h }

pub add_numbered : (pairs : List (ℕ × ℕ)) (q : ℕ × ℕ) → IsNumbered pairs (pairs ++ (q ∷ [])) (name_made pairs q) (first + length pairs)
add_numbered pairs q =
    let len : length (pairs ++ (q ∷ [])) ≡ length pairs + 1 = length-append pairs (q ∷ []) in
    record { high = omega arith; known = omega arith; kept = λ x h. name_kept pairs q x h; named = name_last pairs q }

add_one : (pairs : List (ℕ × ℕ)) (numbers : Numbers) (p : ℕ × ℕ) → IsTable pairs numbers → IsKey pairs (first + length pairs) p → number_of numbers p ≡ None →
    (x y : ℕ) → x < first + (length pairs + 1) → y < first + (length pairs + 1) → name_of (pairs ++ (p ∷ [])) x ≡ name_of (pairs ++ (p ∷ [])) y → x ≡ y
add_one pairs numbers p t key fresh x y hx hy e =
    let n : ℕ = first + length pairs in
    let side : (v : ℕ) → v < first + (length pairs + 1) → (v < n) ⊎ (v ≡ n) = λ v h. below_suc v n (omega arith) in
    let new = name_fresh pairs numbers p t key fresh in
    ⊎_elim
    (λ (a : x < n). ⊎_elim
    (λ (b : y < n). t.one x y a b (sym (name_kept pairs p x a) ∙ e ∙ name_kept pairs p y b))
    (λ (b : y ≡ n). absurd (new x a (sym (name_kept pairs p x a) ∙ e ∙ ap (name_of (pairs ++ (p ∷ []))) b ∙ name_last pairs p))) (side y hy))
    (λ (a : x ≡ n). ⊎_elim
    (λ (b : y < n). absurd (new y b (sym (name_kept pairs p y b) ∙ sym e ∙ ap (name_of (pairs ++ (p ∷ []))) a ∙ name_last pairs p)))
    (λ (b : y ≡ n). a ∙ sym b) (side y hy))
    (side x hx)

pub found_numbered : (pairs : List (ℕ × ℕ)) (numbers : Numbers) (low high n : ℕ) → IsTable pairs numbers → number_of numbers (low, high) ≡ Some n → IsNumbered pairs pairs (name_made pairs (low, high)) n
found_numbered pairs numbers low high n t e =
    let f = t.found (low, high) n e in
    let i : ℕ = n - first in let hi : i < length pairs = omega arith in let at : first + i ≡ n = omega arith in
    record {
      high = f.0;
      known = f.1;
      kept = λ x h. refl;
      named = ap (name_of pairs) (sym at) ∙ t.named i hi ∙ ap (name_made pairs) f.2;
    }

same_key : (a b i j : ℕ) → is_eq (ordering_then (nat_cmp a i) (nat_cmp b j)) ≡ (a == i && b == j)
same_key a b i j = grind arith

both_true : (a b i j : ℕ) → (a == i && b == j) ≡ true → (a ≡ i) × (b ≡ j)
both_true a b i j h = (grind arith, grind arith)

here_true : (a b : ℕ) → (a == a && b == b) ≡ true
here_true a b = grind arith

-- the look-ups after a new pair
abbrev pub IsUpdate : Numbers → Numbers → ℕ × ℕ → ℕ → Type 0
IsUpdate old now p n =
    (q : ℕ × ℕ) → number_of now q ≡ cond (is_eq (ordering_then (nat_cmp p.0 q.0) (nat_cmp p.1 q.1))) (Some n) (number_of old q)

pub data Looked (old now : Numbers) (p : ℕ × ℕ) (n : ℕ) (q : ℕ × ℕ) : Type 0 where
  this : q ≡ p → number_of now q ≡ Some n → Looked old now p n q
  others : (q ≡ p → ⊥) → number_of now q ≡ number_of old q → Looked old now p n q

looked : (old now : Numbers) (p : ℕ × ℕ) (n : ℕ) → IsUpdate old now p n → (q : ℕ × ℕ) → Looked old now p n q
looked old now p n u q =
    let C : Bool → Option ℕ = λ b. cond b (Some n) (number_of old q) in
    let s : is_eq (ordering_then (nat_cmp p.0 q.0) (nat_cmp p.1 q.1)) ≡ (p.0 == q.0 && p.1 == q.1) = same_key p.0 p.1 q.0 q.1 in
    ⊎_elim
    (λ (b : (p.0 == q.0 && p.1 == q.1) ≡ true).
    let e = both_true p.0 p.1 q.0 q.1 b in this (same_pair q p (sym e.0) (sym e.1)) (u q ∙ ap C s ∙ ap C b))
    (λ (b : (p.0 == q.0 && p.1 == q.1) ≡ false).
    others (λ e.
    let z : (p.0 == q.0 && p.1 == q.1) ≡ true = let P : ℕ × ℕ → Type 0 = λ r. (p.0 == r.0 && p.1 == r.1) ≡ true in subst P (sym e) (here_true p.0 p.1) in
    let x : true ≡ false = sym z ∙ b in cc) (u q ∙ ap C s ∙ ap C b))
    (bool_cases (p.0 == q.0 && p.1 == q.1))

pub add_table : (pairs : List (ℕ × ℕ)) (numbers now : Numbers) (p : ℕ × ℕ) → IsTable pairs numbers → IsKey pairs (first + length pairs) p → number_of numbers p ≡ None →
    IsUpdate numbers now p (first + length pairs) → IsTable (pairs ++ (p ∷ [])) now
add_table pairs numbers now p t key fresh u =
    let ps : List (ℕ × ℕ) = pairs ++ (p ∷ []) in
    let len : length ps ≡ length pairs + 1 = length-append pairs (p ∷ []) in
    let last : pair_at ps (length pairs) ≡ p = pair_last pairs p in
    let O : ℕ → Type 0 = λ i. IsKey ps (first + i) (pair_at ps i) in
    let C : ℕ → Type 0 = λ i. number_of now (pair_at ps i) ≡ Some (first + i) in
    let N : ℕ → Type 0 = λ i. name_of ps (first + i) ≡ name_made ps (pair_at ps i) in
    record {
      keys = λ i h. ⊎_elim
          (λ (a : i < length pairs). let R : ℕ × ℕ → Type 0 = λ r. IsKey ps (first + i) r in subst R (sym (pair_kept pairs p i a)) (key_kept pairs p (first + i) (pair_at pairs i) (omega arith) (t.keys i a)))
          (λ (a : i ≡ length pairs). let R : ℕ × ℕ → Type 0 = λ r. IsKey ps (first + length pairs) r in
          let o : O (length pairs) = subst R (sym last) (key_kept pairs p (first + length pairs) p (omega arith) key) in subst O (sym a) o)
          (below_suc i (length pairs) (omega arith));
      found = λ q n e. elim (looked numbers now p (first + length pairs) u q) [
        | this g k ↦
            let s : Some n ≡ Some (first + length pairs) = sym e ∙ k in let m : n ≡ first + length pairs = cc in
            let at : n - first ≡ length pairs = omega arith in
            (omega arith, omega arith, ap (pair_at ps) at ∙ last ∙ sym g)
        | others g k ↦
            let f = t.found q n (sym k ∙ e) in
            let lt : n - first < length pairs = omega (arith, f.0, f.1) in
            (f.0, omega (arith, f.1), pair_kept pairs p (n - first) lt ∙ f.2)
      ];
      complete = λ i h. ⊎_elim
          (λ (a : i < length pairs).
          let k : pair_at ps i ≡ pair_at pairs i = pair_kept pairs p i a in
          elim (looked numbers now p (first + length pairs) u (pair_at pairs i)) [
            | this g x ↦ let z : None ≡ Some (first + i) = sym fresh ∙ ap (number_of numbers) (sym g) ∙ t.complete i a in absurd cc
            | others g x ↦ ap (number_of now) k ∙ x ∙ t.complete i a
          ])
          (λ (a : i ≡ length pairs).
          let o : C (length pairs) = elim (looked numbers now p (first + length pairs) u p) [
            | this g x ↦ ap (number_of now) last ∙ x
            | others g x ↦ absurd (g refl)
          ] in subst C (sym a) o)
          (below_suc i (length pairs) (omega arith));
      named = λ i h. ⊎_elim
          (λ (a : i < length pairs).
          name_kept pairs p (first + i) (omega arith) ∙ t.named i a ∙ sym (made_kept pairs p (first + i) (pair_at pairs i) (omega arith) (t.keys i a))
          ∙ ap (name_made ps) (sym (pair_kept pairs p i a)))
          (λ (a : i ≡ length pairs).
          let o : N (length pairs) = name_last pairs p ∙ sym (made_kept pairs p (first + length pairs) p (omega arith) key) ∙ ap (name_made ps) (sym last) in subst N (sym a) o)
          (below_suc i (length pairs) (omega arith));
      one = λ x y hx hy e. add_one pairs numbers p t key fresh x y (omega arith) (omega arith) e;
    }

-- a map with the same entries serves the same table
pub same_table : (pairs ps : List (ℕ × ℕ)) (numbers now : Numbers) → ps ≡ pairs → now.entries ≡ numbers.entries → IsTable pairs numbers → IsTable ps now
same_table pairs ps numbers now e h t =
    let g : (q : ℕ × ℕ) → number_of now q ≡ number_of numbers q =
    λ q. ap (lookup (is_at (λ (b : ℕ × ℕ). ordering_then (nat_cmp q.0 b.0) (nat_cmp q.1 b.1)))) h in
    let P : List (ℕ × ℕ) → Type 0 = λ xs. IsTable xs now in
    let k : IsTable pairs now = record {
      keys = t.keys;
      found = λ q n x. t.found q n (sym (g q) ∙ x);
      complete = λ i x. g (pair_at pairs i) ∙ t.complete i x;
      named = t.named;
      one = t.one;
    } in subst P (sym e) k

pub take_all_but : (xs : List (ℕ × ℕ)) (p : ℕ × ℕ) (n : ℕ) → n ≡ length (xs ++ (p ∷ [])) → take (n - 1) (xs ++ (p ∷ [])) ≡ xs
take_all_but xs p n h = let l : n - 1 ≡ length xs = omega (arith, length-append xs (p ∷ [])) in ap (λ k. take k (xs ++ (p ∷ []))) l ∙ take-append_seam xs (p ∷ [])

-- the name of a pair in one of the three forms
pub middle_key : (pairs : List (ℕ × ℕ)) (a b n : ℕ) → a < b → b < n → IsKey pairs n (a, b)
middle_key pairs a b n h k = rises h k

pub coarse_key : (pairs : List (ℕ × ℕ)) (a n : ℕ) → IsKey pairs n (a, a)
coarse_key pairs a n = coarse refl

centre_cases : (x : Name) → IsCentre x → (p : Cell) × (x ≡ centre p)
centre_cases (node n) h = absurd h
centre_cases (middle a b) h = absurd h
centre_cases (centre p) h = (p, refl)

pub child_key : (pairs : List (ℕ × ℕ)) (a k n : ℕ) → k < 4 → first ≤ a → a < n → IsCentre (name_of pairs a) → IsKey pairs n (a, k)
child_key pairs a k n h high less c = let t = centre_cases (name_of pairs a) c in falls (omega arith) less t.0 t.1

pub empty_table : (now : Numbers) → ((q : ℕ × ℕ) → number_of now q ≡ None) → IsTable [] now
empty_table now none = record {
  keys = λ i h. absurd (omega arith);
  found = λ q n e. let z : None ≡ Some n = sym (none q) ∙ e in absurd cc;
  complete = λ i h. absurd (omega arith);
  named = λ i h. absurd (omega arith);
  one = λ x y a b e. let n : node x ≡ node y = sym (node_name [] x (omega arith)) ∙ e ∙ node_name [] y (omega arith) in cc;
}

pub ok_numbered : (inside old now : List (ℕ × ℕ)) (q : ℕ × ℕ) (name : Name) (r : Result ℕ NoMemory) → inside ≡ old → name_made old q ≡ name →
    IfOk r (λ n. IsNumbered inside now (name_made inside q) n) → IfOk r (λ n. IsNumbered old now name n)
ok_numbered inside old now q name (Ok n) e h k =
    let P : List (ℕ × ℕ) → Type 0 = λ ps. IsNumbered ps now (name_made ps q) n in let Q : Name → Type 0 = λ x. IsNumbered old now x n in subst Q h (subst P e k)
ok_numbered inside old now q name (Err f) e h k = tt

pub more_trans : (a b c : List (ℕ × ℕ)) → IsMore a b → IsMore b c → IsMore a c
more_trans a b c h k =
    let s : length a ≤ length b = h.more in
    record {
      more = omega (arith, h.more, k.more);
      before = take_shorter (length a) (length b) c s ∙ ap (take (length a)) k.before ∙ h.before;
      kept = λ x l. k.kept x (omega (arith, h.more)) ∙ h.kept x l;
    }

-- the look-ups after a pair was taken out
abbrev pub IsWithout : Numbers → Numbers → ℕ × ℕ → Type 0
IsWithout old now p = (q : ℕ × ℕ) → number_of now q ≡ cond (is_eq (ordering_then (nat_cmp p.0 q.0) (nat_cmp p.1 q.1))) None (number_of old q)

data Kept (old now : Numbers) (p q : ℕ × ℕ) : Type 0 where
  gone : q ≡ p → number_of now q ≡ None → Kept old now p q
  stays : (q ≡ p → ⊥) → number_of now q ≡ number_of old q → Kept old now p q

kept : (old now : Numbers) (p : ℕ × ℕ) → IsWithout old now p → (q : ℕ × ℕ) → Kept old now p q
kept old now p u q =
    let C : Bool → Option ℕ = λ b. cond b None (number_of old q) in
    let s : is_eq (ordering_then (nat_cmp p.0 q.0) (nat_cmp p.1 q.1)) ≡ (p.0 == q.0 && p.1 == q.1) = same_key p.0 p.1 q.0 q.1 in
    ⊎_elim
    (λ (b : (p.0 == q.0 && p.1 == q.1) ≡ true).
    let e = both_true p.0 p.1 q.0 q.1 b in gone (same_pair q p (sym e.0) (sym e.1)) (u q ∙ ap C s ∙ ap C b))
    (λ (b : (p.0 == q.0 && p.1 == q.1) ≡ false).
    stays (λ e.
    let z : (p.0 == q.0 && p.1 == q.1) ≡ true = let P : ℕ × ℕ → Type 0 = λ r. (p.0 == r.0 && p.1 == r.1) ≡ true in subst P (sym e) (here_true p.0 p.1) in
    let x : true ≡ false = sym z ∙ b in cc) (u q ∙ ap C s ∙ ap C b))
    (bool_cases (p.0 == q.0 && p.1 == q.1))

-- a pair that stands for a name does so without those behind it
key_before : (pairs : List (ℕ × ℕ)) (p : ℕ × ℕ) (n : ℕ) (q : ℕ × ℕ) → n ≤ first + length pairs → IsKey (pairs ++ (p ∷ [])) n q → IsKey pairs n q
key_before pairs p n q h (rises a b) = rises a b
key_before pairs p n q h (coarse e) = coarse e
key_before pairs p n q h (falls a b c e) = falls a b c (sym (name_kept pairs p q.0 (omega arith)) ∙ e)

-- the table without its last pair
pub take_back : (pairs : List (ℕ × ℕ)) (numbers now : Numbers) (p : ℕ × ℕ) → IsTable (pairs ++ (p ∷ [])) numbers → IsWithout numbers now p → IsTable pairs now
take_back pairs numbers now p t u =
    let ps : List (ℕ × ℕ) = pairs ++ (p ∷ []) in
    let len : length ps ≡ length pairs + 1 = length-append pairs (p ∷ []) in
    let last : number_of numbers p ≡ Some (first + length pairs) = ap (number_of numbers) (sym (pair_last pairs p)) ∙ t.complete (length pairs) (omega arith) in
    let key : (i : ℕ) → i < length pairs → IsKey pairs (first + i) (pair_at pairs i) = λ i h.
    (let R : ℕ × ℕ → Type 0 = λ r. IsKey ps (first + i) r in
    key_before pairs p (first + i) (pair_at pairs i) (omega arith) (subst R (pair_kept pairs p i h) (t.keys i (omega arith)))) in
    record {
      keys = key;
      found = λ q n e. elim (kept numbers now p u q) [
        | gone g k ↦ let z : None ≡ Some n = sym k ∙ e in absurd cc
        | stays g k ↦
            let f = t.found q n (sym k ∙ e) in
            let less : n - first < length pairs = ⊎_elim
            (λ (a : n - first < length pairs). a)
            (λ (a : n - first ≡ length pairs). absurd (g (sym f.2 ∙ ap (pair_at ps) a ∙ pair_last pairs p)))
            (below_suc (n - first) (length pairs) (omega (arith, f.0, f.1))) in
            (f.0, omega (arith, f.0), sym (pair_kept pairs p (n - first) less) ∙ f.2)
      ];
      complete = λ i h.
          let k : pair_at ps i ≡ pair_at pairs i = pair_kept pairs p i h in
          let o : number_of numbers (pair_at pairs i) ≡ Some (first + i) = ap (number_of numbers) (sym k) ∙ t.complete i (omega arith) in
          elim (kept numbers now p u (pair_at pairs i)) [
            | gone g x ↦ let z : Some (first + i) ≡ Some (first + length pairs) = sym o ∙ ap (number_of numbers) g ∙ last in let m : first + i ≡ first + length pairs = cc in absurd (omega arith)
            | stays g x ↦ x ∙ o
          ];
      named = λ i h.
          sym (name_kept pairs p (first + i) (omega arith)) ∙ t.named i (omega arith) ∙ ap (name_made ps) (pair_kept pairs p i h)
          ∙ made_kept pairs p (first + i) (pair_at pairs i) (omega arith) (key i h);
      one = λ x y hx hy e. t.one x y (omega arith) (omega arith) (name_kept pairs p x hx ∙ e ∙ sym (name_kept pairs p y hy));
    }

-- the same, where the pairs are seen before and after a `pop`
pub popped : (old new : List (ℕ × ℕ)) (numbers now : Numbers) (p : ℕ × ℕ) → old ≡ new ++ (p ∷ []) → IsTable old numbers → IsWithout numbers now p → IsTable new now
popped old new numbers now p e t u = let P : List (ℕ × ℕ) → Type 0 = λ ps. IsTable ps numbers in take_back new numbers now p (subst P e t) u
