-- Lists of slots: packed, unpacked and taken one after another.
use Rattle.std.proofs.Common.{◌≡◌, ◌≢◌, ℕ, zero, suc, ◌+◌, ◌<◌, List, [], ◌∷◌, ◌++◌, map, reverse, replicate, length, get_or, set, sym, refl, ap, ◌∙◌, subst, arith, length-set, length-append, get_or-set_same, get_or-set_other, ◌*◌}
use Rattle.std.specs.List.{All}
use Rattle.std.proofs.lemmas.List.{reverse-append, reverse-reverse, map-append, length-map, length-reverse, length-replicate, get_or-replicate}
use Rattle.std.proofs.lemmas.List.Elements.{All-append}
use mathlib.Core.List.{reverse-cons}
use mathlib.Core.Option.{some, some-injective, some-ne-none}
use mathlib.Core.Logic.{dite}
use native.Mathlib.Decide.{dec_le}
use lib.ListN.{get_elem?}
use Rattle.atomic_table.proofs.Lists.{at_longer, at_map}
use Rattle.ordered_pipeline.specs.declared.view.Cargo.{Cargo}
use Rattle.ordered_pipeline.specs.declared.view.Cargo.TheVariants as cargo
use Rattle.ordered_pipeline.specs.Slots.{IsPacked}

module _ {A : Type 0} where
  pub got : (l : List A) (i : ℕ) (x d : A) → get_elem? l i ≡ some x → get_or l i d ≡ x
  got [] i x d e = absurd (some-ne-none x (sym e))
  got (y ∷ l) zero x d e = some-injective y x e
  got (y ∷ l) (suc i) x d e = got l i x d e

  pub snoc_before : (l : List A) (x d : A) (j : ℕ) → j < length l → get_or (l ++ x ∷ []) j d ≡ get_or l j d
  snoc_before [] x d j lt = absurd (omega (arith, lt))
  snoc_before (y ∷ l) x d zero lt = refl
  snoc_before (y ∷ l) x d (suc j) lt = snoc_before l x d j (omega (arith, lt))

  pub snoc_at : (l : List A) (x d : A) → get_or (l ++ x ∷ []) (length l) d ≡ x
  snoc_at [] x d = refl
  snoc_at (y ∷ l) x d = snoc_at l x d

  pub snoc_same : (l l' : List A) (a b : A) → l ++ a ∷ [] ≡ l' ++ b ∷ [] → (l ≡ l') × (a ≡ b)
  snoc_same [] [] a b e = (refl, cc)
  snoc_same [] (y ∷ []) a b e = absurd cc
  snoc_same [] (y ∷ z ∷ l') a b e = absurd cc
  snoc_same (x ∷ []) [] a b e = absurd cc
  snoc_same (x ∷ w ∷ l) [] a b e = absurd cc
  snoc_same (x ∷ l) (y ∷ l') a b e =
      let r = snoc_same l l' a b cc in
      let h : x ≡ y = cc in
      (ap (λ z. z ∷ l) h ∙ ap (λ m. y ∷ m) r.0, r.1)

  one_all : (P : A → Type 0) (x : A) → P x → All P (x ∷ [])
  one_all P x h zero d lt = h
  one_all P x h (suc k) d lt = absurd (omega (arith, lt))

  tail_all : (P : A → Type 0) (x : A) (xs : List A) → All P (x ∷ xs) → All P xs
  tail_all P x xs h k d lt = h (suc k) d (omega (arith, lt))

  pub all_reverse : (P : A → Type 0) (xs : List A) → All P xs → All P (reverse xs)
  all_reverse P [] h = h
  all_reverse P (x ∷ xs) h = subst (All P) (sym (reverse-cons x xs)) (All-append P (reverse xs) (x ∷ []) (all_reverse P xs (tail_all P x xs h)) (one_all P x (h 0 x (omega arith))))

  pub there : (l : List A) (k : ℕ) → k < length l → (x : A) × (get_elem? l k ≡ some x)
  there [] k lt = absurd (omega (arith, lt))
  there (x ∷ l) zero lt = (x, refl)
  there (x ∷ l) (suc k) lt = there l k (omega (arith, lt))

last_at : {A : Type 0} (l : List A) (x : A) → get_elem? (l ++ x ∷ []) (length l) ≡ some x
last_at [] x = refl
last_at (y ∷ l) x = last_at l x

module _ {A B : Type 0} (f : A → B) where
  no_other : (to xs : List A) (y : B) (r : List B) → ((x : A) → f x ≡ y → ⊥) → map f to ++ y ∷ r ≡ map f xs → ⊥
  no_other [] [] y r other e = cc
  no_other [] (x ∷ xs) y r other e = other x cc
  no_other (z ∷ to) [] y r other e = cc
  no_other (z ∷ to) (x ∷ xs) y r other e = no_other to xs y r other cc

  pub never : (from from' : List B) (to xs : List A) (all : List B) (y : B) → from ≡ from' ++ y ∷ [] → map f to ++ reverse from ≡ all → all ≡ map f xs → ((x : A) → f x ≡ y → ⊥) → ⊥
  never from from' to xs all y e h full other = no_other to xs y (reverse from') other (ap (λ l. map f to ++ l) (sym (ap reverse e ∙ reverse-append from' (y ∷ []))) ∙ (h ∙ full))

  map_reverse : (xs : List A) → map f (reverse xs) ≡ reverse (map f xs)
  map_reverse [] = refl
  map_reverse (x ∷ xs) = ap (map f) (reverse-cons x xs) ∙ (map-append f (reverse xs) (x ∷ []) ∙ (ap (λ l. l ++ f x ∷ []) (map_reverse xs) ∙ sym (reverse-cons (f x) (map f xs))))

  pub all_mapped : (slots : List B) (xs : List A) → reverse slots ≡ map f xs → slots ≡ map f (reverse xs)
  all_mapped slots xs h = sym (reverse-reverse slots) ∙ (ap reverse h ∙ sym (map_reverse xs))

module _ {C S : Type 0} where
  pub copy_same : (x y : C) → ◌≡◌ {A = Cargo C S} (cargo.Copy x) (cargo.Copy y) → x ≡ y
  copy_same x y e = cc

  pub state_same : (x y : S) → ◌≡◌ {A = Cargo C S} (cargo.State x) (cargo.State y) → x ≡ y
  state_same x y e = cc

  pub copy_state : (x : C) (y : S) → ◌≡◌ {A = Cargo C S} (cargo.Copy x) (cargo.State y) → ⊥
  copy_state x y e = cc

  pub copy_out : (x : C) → ◌≡◌ {A = Cargo C S} (cargo.Copy x) cargo.Out → ⊥
  copy_out x e = cc

  pub same_copies : (xs ys : List C) → ◌≡◌ {A = List (Cargo C S)} (map cargo.Copy xs) (map cargo.Copy ys) → xs ≡ ys
  same_copies [] [] e = refl
  same_copies [] (y ∷ ys) e = absurd cc
  same_copies (x ∷ xs) [] e = absurd cc
  same_copies (x ∷ xs) (y ∷ ys) e =
      let first : ◌≡◌ {A = Cargo C S} (cargo.Copy x) (cargo.Copy y) = cc in
      let rest : ◌≡◌ {A = List (Cargo C S)} (map cargo.Copy xs) (map cargo.Copy ys) = cc in
      ap (λ z. z ∷ xs) (copy_same x y first) ∙ ap (λ m. y ∷ m) (same_copies xs ys rest)

  pub unpacked : (xs home : List C) (y state : S) (slots popped : List (Cargo C S)) → IsPacked xs y slots → slots ≡ popped ++ cargo.State state ∷ [] → map cargo.Copy home ≡ reverse popped → (home ≡ xs) × (state ≡ y)
  unpacked xs home y state slots popped h e back =
      let s = snoc_same h.0 popped (cargo.State y) (cargo.State state) (sym h.1 ∙ e) in
      (same_copies home xs (back ∙ (ap reverse (sym s.0) ∙ h.2)), sym (state_same y state s.1))

  -- the copy objects of a packed list, and the state behind them
  pub packed_copies : (room : C → Type 0) (xs : List C) (y : S) (slots : List (Cargo C S)) → IsPacked xs y slots → All room xs → (k : ℕ) → k < length xs → (x : C) × (get_elem? slots k ≡ some (cargo.Copy x)) × room x
  packed_copies room xs y slots h all k lt =
      let l : h.0 ≡ map cargo.Copy (reverse xs) = all_mapped cargo.Copy h.0 xs h.2 in
      let long : k < length (reverse xs) = subst (λ (n : ℕ). k < n) (sym (length-reverse xs)) lt in
      let t = there (reverse xs) k long in
      let here : get_elem? h.0 k ≡ some (cargo.Copy t.0) = ap (λ m. get_elem? m k) l ∙ at_map cargo.Copy (reverse xs) k t.0 t.1 in
      (t.0, ap (λ m. get_elem? m k) h.1 ∙ at_longer h.0 (cargo.State y ∷ []) k (cargo.Copy t.0) here, subst room (got (reverse xs) k t.0 t.0 t.1) (all_reverse room xs all k t.0 long))

  pub packed_length : (xs : List C) (y : S) (slots : List (Cargo C S)) → IsPacked xs y slots → length slots ≡ length xs + 1
  packed_length xs y slots h =
      let l : length h.0 ≡ length xs = sym (length-reverse h.0) ∙ (ap length h.2 ∙ length-map xs copied) in
      ap length h.1 ∙ (length-append h.0 (cargo.State y ∷ []) ∙ omega (arith, l))
    where
      copied : C → Cargo C S
      copied x = cargo.Copy x

  pub packed_state : (xs : List C) (y : S) (slots : List (Cargo C S)) → IsPacked xs y slots → get_elem? slots (length xs) ≡ some (cargo.State y)
  packed_state xs y slots h =
      let l : length xs ≡ length h.0 = omega (arith, ap length h.1, length-append h.0 (cargo.State y ∷ []), packed_length xs y slots h) in
      ap (get_elem? slots) l ∙ (ap (λ m. get_elem? m (length h.0)) h.1 ∙ last_at h.0 (cargo.State y))

-- the words of a new table
abbrev pub first_words : ℕ → List ℕ
first_words queue = set (replicate (8 * queue + 16) 0) 16 2

pub words_long : (queue : ℕ) → length (first_words queue) ≡ 8 * queue + 16
words_long queue = length-set (replicate (8 * queue + 16) 0) 16 2 ∙ length-replicate {A = ℕ} (8 * queue + 16) 0

pub words_turn : (queue : ℕ) → 0 < queue → get_or (first_words queue) 16 0 ≡ 2
words_turn queue lt = get_or-set_same (replicate (8 * queue + 16) 0) 16 2 0 (omega (arith, lt, length-replicate {A = ℕ} (8 * queue + 16) 0))

zero_past : (n i : ℕ) → ◌≡◌ {A = ℕ} (get_or (replicate n 0) i 0) 0
zero_past n i = dite (dec_le n i) (λ le. Rattle.std.proofs.lemmas.List.get_or_past (replicate n 0) i 0 (omega (arith, le, length-replicate {A = ℕ} n 0))) (λ lt. get_or-replicate n i 0 0 (omega arith))

pub words_else : (queue i : ℕ) → i ≢ 16 → get_or (first_words queue) i 0 ≡ 0
words_else queue i ne = get_or-set_other (replicate (8 * queue + 16) 0) 16 i 2 0 ne ∙ zero_past (8 * queue + 16) i
