-- Positions of ids: by counting, and in a list that is sorted by id.
use Rattle.std.proofs.Common.{◌≡◌, ◌∙◌, sym, ap, refl, subst, ℕ, ◌+◌, ◌-◌, ◌<◌, ◌≤◌, ◌⊎◌, inl, inr, ⊎_elim, Bool, true, false, ◌==◌, ◌&&◌, if◌then◌else◌, cond, List, [], ◌∷◌, ◌++◌, length, map, slice_index, slice_index_or, nat_lt, arith}
use Rattle.std.specs.Prelude.{All, Contains, Some, None, nat_le}
use Rattle.std.specs.declared.option.Option.{Option}
use Rattle.std.specs.Ordering.{is_lt, nat_cmp, ordering_then}
use Rattle.std.specs.List.{position, position_or_len, range_with_len}
use Rattle.std.specs.List.Sorted.{IsSorted, IsPermutation, IsPartitionedBy}
use Rattle.std.proofs.lemmas.Cmp.{nat_cmp_total, on_total, then_total}
use Rattle.std.proofs.lemmas.Bool.{cases_lt}
use Rattle.std.proofs.lemmas.Bool.Decides.{nat_tests}
use Rattle.std.proofs.lemmas.List.Sums.{position_or_len_is}
use Rattle.std.proofs.lemmas.List.Sorted.{ranks_by, sorted_far, All-permutation, Contains-permutation}
use Rattle.std.proofs.lemmas.List.Elements.{All-get_or, All-from_get_or}
use Rattle.std.proofs.lemmas.List.FromFn.{length-map-range_with_len, get_or-map-range_with_len, map-range_with_len_more}
use Rattle.fem_fixed.specs.Lists.{pair_cmp}
use Rattle.node_ids.specs.NodeIds.{place_of, AreCounted, counted_place, listed, IsOf, AreByIds}

-- the test passes at k, and nowhere before
position_is : (xs : List ℕ) (id k : ℕ) → k < length xs → slice_index xs k ≡ id → ((j : ℕ) → j < k → slice_index xs j ≡ id → ⊥) → position (λ other. other == id) xs ≡ Some k
position_is xs id k h at before = at_place (position_or_len (λ other. other == id) xs) (length xs) k
    (position_or_len_is (λ other. other == id) xs k 0 (omega arith) (λ j b. differ (slice_index xs j) id (before j b)) (λ b. same (slice_index xs k) id at)) h
  where
    at_place : (n m k : ℕ) → n ≡ k → k < m → cond (nat_lt n m) (Some n) None ≡ Some k
    at_place n m k e h = grind (arith, nat_tests)

    differ : (a b : ℕ) → (a ≡ b → ⊥) → (a == b) ≡ false
    differ a b h = grind (arith, nat_tests)

    same : (a b : ℕ) → a ≡ b → (a == b) ≡ true
    same a b h = grind (arith, nat_tests)

position_none : (xs : List ℕ) (id : ℕ) → ((j : ℕ) → j < length xs → slice_index xs j ≡ id → ⊥) → position (λ other. other == id) xs ≡ None
position_none xs id never = at_end (position_or_len (λ other. other == id) xs) (length xs)
    (position_or_len_is (λ other. other == id) xs (length xs) 0 (omega arith) (λ j b. differ (slice_index xs j) id (never j b)) (λ b. absurd (omega arith)))
  where
    at_end : (n m : ℕ) → n ≡ m → (let r : Option ℕ = cond (nat_lt n m) (Some n) None in r) ≡ None
    at_end n m e = grind (arith, nat_tests)

    differ : (a b : ℕ) → (a ≡ b → ⊥) → (a == b) ≡ false
    differ a b h = grind (arith, nat_tests)

-- the position of an id among ids that count from 1
pub counted : (ids : List ℕ) (id : ℕ) → AreCounted ids → counted_place (length ids) id ≡ place_of ids id
counted ids id are = ⊎_elim
    (λ (low : id < 1). here_none id (length ids) (inl low) ∙ sym (position_none ids id (λ j b e. let w = are j b in omega arith)))
    (λ (low : 1 ≤ id). ⊎_elim
    (λ (high : length ids < id). here_none id (length ids) (inr high) ∙ sym (position_none ids id (λ j b e. let w = are j b in omega arith)))
    (λ (high : id ≤ length ids). here id (length ids) low high
    ∙ sym (position_is ids id (id - 1) (omega arith) (let w = are (id - 1) (omega arith) in omega arith) (λ j b e. let w = are j (omega arith) in omega arith)))
    (cases_lt (length ids) id))
    (cases_lt id 1)
  where
    here : (id n : ℕ) → 1 ≤ id → id ≤ n → counted_place n id ≡ Some (id - 1)
    here id n a b = grind (arith, nat_tests)

    here_none : (id n : ℕ) → (id < 1) ⊎ (n < id) → counted_place n id ≡ None
    here_none id n h = grind (arith, nat_tests)

-- the ids with their positions are all that
pub sorted_is : (ids : List ℕ) (places : List (ℕ × ℕ)) → IsPermutation (listed ids (length ids)) places → IsSorted pair_cmp places → AreByIds ids places
sorted_is ids places moved sorted =
    let f : ℕ → ℕ × ℕ = λ k. (slice_index ids k, k) in
    let n : ℕ = length ids in
    let len : length (listed ids n) ≡ n = length-map-range_with_len f 0 n in
    let at : (k : ℕ) → k < n → slice_index_or (listed ids n) k (0, 0) ≡ f k = λ k b. get_or-map-range_with_len f 0 n k k (0, 0) b (omega arith) in
    record {
      each = All-permutation (IsOf ids) (listed ids n) places moved
          (All-from_get_or (IsOf ids) (listed ids n) (0, 0) (λ k b. (let P : ℕ × ℕ → Type 0 = IsOf ids in let w : k < n = omega (arith, b, len) in subst P (sym (at k w)) (w, refl))));
      every = λ k b. Contains-permutation (listed ids n) places (f k) moved
          (k, omega (arith, b, len), get_or-map-range_with_len f 0 n k k (f k) b (omega arith));
      sorted = sorted;
    }

-- a pair is not after another
abbrev pub Comes : ℕ × ℕ → ℕ × ℕ → Type 0
Comes a b = (a.0 < b.0) ⊎ ((a.0 ≡ b.0) × (a.1 ≤ b.1))

not_less : (a b c d : ℕ) → is_lt (ordering_then (nat_cmp b a) (nat_cmp d c)) ≡ false → (a < b) ⊎ ((a ≡ b) × (c ≤ d))
not_less a b c d e = ⊎_elim (λ (h : a < b). inl h)
    (λ (h : b ≤ a). ⊎_elim (λ (k : b < a). absurd (less a b c d k e))
    (λ (k : a ≤ b). inr (let q : a ≡ b = omega arith in q, ⊎_elim (λ (m : d < c). absurd (second a b c d (omega arith) m e)) (λ (m : c ≤ d). m) (cases_lt d c))) (cases_lt b a)) (cases_lt a b)
  where
    less : (a b c d : ℕ) → b < a → is_lt (ordering_then (nat_cmp b a) (nat_cmp d c)) ≡ false → ⊥
    less a b c d h e = grind (arith, nat_tests)

    second : (a b c d : ℕ) → b ≡ a → d < c → is_lt (ordering_then (nat_cmp b a) (nat_cmp d c)) ≡ false → ⊥
    second a b c d q h e = grind (arith, nat_tests)

rises : (places : List (ℕ × ℕ)) → IsSorted pair_cmp places → (i j : ℕ) (d : ℕ × ℕ) → i ≤ j → j < length places → Comes (slice_index_or places i d) (slice_index_or places j d)
rises places sorted i j d h b =
    let o = then_total (on_total (λ (p : ℕ × ℕ). p.0) nat_cmp_total) (on_total (λ (p : ℕ × ℕ). p.1) nat_cmp_total) in
    let x : ℕ × ℕ = slice_index_or places i d in let y : ℕ × ℕ = slice_index_or places j d in
    not_less x.0 y.0 x.1 y.1 (sorted_far (λ a b. is_lt (pair_cmp a b)) (ranks_by o (λ (p : ℕ × ℕ). p)) places sorted i j d h b)

-- what is before an id stands in front
pub parted : (ids : List ℕ) (places : List (ℕ × ℕ)) (id : ℕ) → AreByIds ids places → IsPartitionedBy (λ (entry : ℕ × ℕ). nat_lt entry.0 id) places
parted ids places id w i j d h b less = below (slice_index_or places i d) (slice_index_or places j d) id (rises places w.sorted i j d h b) less
  where
    below : (x y : ℕ × ℕ) (id : ℕ) → Comes x y → nat_lt y.0 id ≡ true → nat_lt x.0 id ≡ true
    below x y id c h = grind (arith, nat_tests)

-- start is the first place whose id isn't below
pub record IsStart (places : List (ℕ × ℕ)) (id start : ℕ) : Type 0 where
  pub before : (k : ℕ) (d : ℕ × ℕ) → k < start → k < length places → nat_lt (slice_index_or places k d).0 id ≡ true
  pub behind : (k : ℕ) (d : ℕ × ℕ) → start ≤ k → k < length places → nat_lt (slice_index_or places k d).0 id ≡ false

-- where an id stands, its pair is at start or later
pub record IsPaired (places : List (ℕ × ℕ)) (start id k : ℕ) : Type 0 where
  pub q : ℕ
  pub from : start ≤ q
  pub within : q < length places
  pub is : slice_index_or places q (id, k) ≡ (id, k)

paired : (ids : List ℕ) (places : List (ℕ × ℕ)) (id start k : ℕ) → AreByIds ids places → IsStart places id start → k < length ids → slice_index ids k ≡ id → IsPaired places start id k
paired ids places id start k w s b e =
    let P : ℕ → Type 0 = λ x. Contains places (x, k) in
    let there : Contains places (id, k) = subst P e (w.every k b) in
    record {
      q = there.0;
      from = ⊎_elim (λ (h : there.0 < start). absurd (not_below id (sym (ap (λ (x : ℕ × ℕ). nat_lt x.0 id) there.2) ∙ s.before there.0 (id, k) h there.1))) (λ (h : start ≤ there.0). h) (cases_lt there.0 start);
      within = there.1;
      is = there.2;
    }
  where
    not_below : (n : ℕ) → nat_lt n n ≡ true → ⊥
    not_below n e = grind (arith, nat_tests)

pub found : (ids : List ℕ) (places : List (ℕ × ℕ)) (id start : ℕ) (entry : ℕ × ℕ) → AreByIds ids places → IsStart places id start → start < length places → ((d : ℕ × ℕ) → slice_index_or places start d ≡ entry) → entry.0 ≡ id →
    Some entry.1 ≡ place_of ids id
found ids places id start entry w s b at e =
    let of : IsOf ids entry = (let P : ℕ × ℕ → Type 0 = IsOf ids in subst P (at entry) (All-get_or (IsOf ids) places start entry b w.each)) in
    sym (position_is ids id entry.1 of.0 (of.1 ∙ e) (λ j h t.
    let p = paired ids places id start j w s (let m = of.0 in omega arith) t in
    let c : Comes (slice_index_or places start (id, j)) (slice_index_or places p.q (id, j)) = rises places w.sorted start p.q (id, j) p.from p.within in
    let P : ℕ × ℕ → Type 0 = λ x. Comes x (slice_index_or places p.q (id, j)) in
    let Q : ℕ × ℕ → Type 0 = λ x. Comes entry x in
    after entry id j e (subst Q p.is (subst P (at (id, j)) c)) h))
  where
    after : (entry : ℕ × ℕ) (id j : ℕ) → entry.0 ≡ id → Comes entry (id, j) → j < entry.1 → ⊥
    after entry id j e c h = ⊎_elim (λ (l : entry.0 < id). omega arith) (λ (m : (entry.0 ≡ id) × (entry.1 ≤ j)). let n = m.1 in omega arith) c

pub not_there : (ids : List ℕ) (places : List (ℕ × ℕ)) (id start : ℕ) (entry : ℕ × ℕ) → AreByIds ids places → IsStart places id start → start < length places → ((d : ℕ × ℕ) → slice_index_or places start d ≡ entry) → (entry.0 ≡ id → ⊥) →
    None ≡ place_of ids id
not_there ids places id start entry w s b at e =
    sym (position_none ids id (λ j h t.
    let p = paired ids places id start j w s h t in
    let c : Comes (slice_index_or places start (id, j)) (slice_index_or places p.q (id, j)) = rises places w.sorted start p.q (id, j) p.from p.within in
    let P : ℕ × ℕ → Type 0 = λ x. Comes x (slice_index_or places p.q (id, j)) in
    let Q : ℕ × ℕ → Type 0 = λ x. Comes entry x in
    let not_less : nat_lt entry.0 id ≡ false = sym (ap (λ (x : ℕ × ℕ). nat_lt x.0 id) (at entry)) ∙ s.behind start entry (omega arith) b in
    apart entry id j e not_less (subst Q p.is (subst P (at (id, j)) c))))
  where
    from_test : (a b : ℕ) → nat_lt a b ≡ false → b ≤ a
    from_test a b h = grind (arith, nat_tests)

    apart : (entry : ℕ × ℕ) (id j : ℕ) → (entry.0 ≡ id → ⊥) → nat_lt entry.0 id ≡ false → Comes entry (id, j) → ⊥
    apart entry id j e l c = let m = from_test entry.0 id l in ⊎_elim (λ (l : entry.0 < id). omega arith) (λ (n : (entry.0 ≡ id) × (entry.1 ≤ j)). e n.0) c

pub not_there_at_end : (ids : List ℕ) (places : List (ℕ × ℕ)) (id start : ℕ) → AreByIds ids places → IsStart places id start → length places ≤ start → None ≡ place_of ids id
not_there_at_end ids places id start w s b = sym (position_none ids id (λ j h t. let p = paired ids places id start j w s h t in let a = p.from in let c = p.within in omega arith))

-- the positions of one id more
pub listed_more : (ids : List ℕ) (k : ℕ) → listed ids (k + 1) ≡ listed ids k ++ (slice_index ids k, k) ∷ []
listed_more ids k = map-range_with_len_more (λ j. (slice_index ids j, j)) 0 k k (omega arith)
