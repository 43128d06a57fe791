-- A plan that is looked up by row numbers names each row once, where the items' rows are apart.
use Rattle.std.proofs.Common.{◌≡◌, ◌≢◌, ℕ, zero, suc, ◌+◌, ◌<◌, List, [], ◌∷◌, ◌++◌, map, sym, refl, ap, ◌∙◌, subst, arith, cond, eq-eqb, ne_eqb}
use mathlib.Core.Option.{some, some-injective}
use mathlib.Core.Logic.{dite}
use native.Mathlib.Decide.{ℕ_discrete}
use lib.ListN.{get_elem?}
use Rattle.colored_copier.specs.Plans.{In, IsApart, Rise, look, picks, row_number}
use Rattle.colored_copier.specs.Rule.{place, Planned}
use Rattle.colored_copier.proofs.Chains.{in_tail, not_in_nil}
use Rattle.colored_copier.proofs.Claims.{at_map_back}

pub rise_apart : (rs : List ℕ) → Rise rs → IsApart rs
rise_apart [] h = tt
rise_apart (r ∷ rs) h = let first = h.0 in ((λ q i e. let lt = first q i in omega (arith, e)), rise_apart rs h.1)

abbrev pub AllIn : List ℕ → List ℕ → Type 0
AllIn rs all = (r : ℕ) → In r rs → In r all

module _ {R : Type 0} where
  -- what is found for a row that is there
  abbrev pub FoundAt : ℕ → ℕ → List (ℕ × R) → Type 0
  FoundAt r k xs = (i : ℕ) × (x : R) × (get_elem? xs i ≡ some (r, x)) × (look r k xs ≡ (k + i, (r, x)) ∷ [])

  look_hit : (r k : ℕ) (x : ℕ × R) (xs : List (ℕ × R)) → x.0 ≡ r → look r k (x ∷ xs) ≡ (k, x) ∷ []
  look_hit r k x xs e = ap (λ b. cond b ((k, x) ∷ []) (look r (suc k) xs)) (eq-eqb x.0 r e)

  look_miss : (r k : ℕ) (x : ℕ × R) (xs : List (ℕ × R)) → x.0 ≢ r → look r k (x ∷ xs) ≡ look r (suc k) xs
  look_miss r k x xs ne = ap (λ b. cond b ((k, x) ∷ []) (look r (suc k) xs)) (ne_eqb x.0 r ne)

  pub looked : (r k : ℕ) (xs : List (ℕ × R)) → In r (map row_number xs) → FoundAt r k xs
  looked r k [] h = absurd (not_in_nil r h)
  looked r k (x ∷ xs) h = dite (ℕ_discrete x.0 r)
      (λ e. (0, x.1, ap (λ (n : ℕ). some (n, x.1)) e, look_hit r k x xs e ∙ (ap (λ (n : ℕ). (k, (n, x.1)) ∷ []) e ∙ ap (λ (n : ℕ). (n, (r, x.1)) ∷ []) (plus_zero k))))
      (λ ne. let f = looked r (suc k) xs (later h.0 h.1 ne) in (suc f.0, f.1, f.2, look_miss r k x xs ne ∙ (f.3 ∙ ap (λ (n : ℕ). (n, (r, f.1)) ∷ []) (plus_suc k f.0))))
    where
      plus_zero : (n : ℕ) → n ≡ n + 0
      plus_zero n = omega arith

      plus_suc : (n i : ℕ) → suc n + i ≡ n + suc i
      plus_suc n i = omega arith

      later : (j : ℕ) → get_elem? (map row_number (x ∷ xs)) j ≡ some r → x.0 ≢ r → In r (map row_number xs)
      later zero e ne = absurd (ne (some-injective x.0 r e))
      later (suc j) e ne = (j, e)

  -- the plan of rows that are all there
  pub record Pick (start : List (ℕ × R)) (rs : List ℕ) (l : List (ℕ × (ℕ × R))) : Type 0 where
    pub rows : map (λ x. x.1.0) l ≡ rs
    pub at : (p : ℕ) (x : ℕ × R) → In (p, x) l → (get_elem? start p ≡ some x) × In x.0 rs
    pub apart : IsApart (map place l)

  at_map_place : (l : List (ℕ × (ℕ × R))) (q : ℕ) → In q (map place l) → (x : ℕ × R) × In (q, x) l
  at_map_place l q h = let b = at_map_back place l h.0 q h.1 in (b.0.1, (h.0, b.1 ∙ ap (λ (n : ℕ). some (n, b.0.1)) b.2))

  first_or : (start : List (ℕ × R)) (r : ℕ) (rs : List ℕ) (l : List (ℕ × (ℕ × R))) (i : ℕ) (y : R) → get_elem? start i ≡ some (r, y) → Pick start rs l → (p : ℕ) (x : ℕ × R) (j : ℕ) → get_elem? ((0 + i, (r, y)) ∷ l) j ≡ some (p, x) → (get_elem? start p ≡ some x) × In x.0 (r ∷ rs)
  first_or start r rs l i y at o p x zero e =
      let same : (0 + i, (r, y)) ≡ (p, x) = some-injective (0 + i, (r, y)) (p, x) e in
      subst (λ (z : ℕ × (ℕ × R)). (get_elem? start z.0 ≡ some z.1) × In z.1.0 (r ∷ rs)) same (subst (λ (n : ℕ). get_elem? start n ≡ some (r, y)) (plain i) at, (0, refl))
    where
      plain : (n : ℕ) → n ≡ 0 + n
      plain n = omega arith
  first_or start r rs l i y at o p x (suc j) e = let t = o.at p x (j, e) in (t.0, in_tail x.0 r rs t.1)

  clash : (start : List (ℕ × R)) (r : ℕ) (rs : List ℕ) (l : List (ℕ × (ℕ × R))) (i : ℕ) (y : R) → get_elem? start i ≡ some (r, y) → Pick start rs l → ((q : ℕ) → In q rs → q ≢ r) → (q : ℕ) → In q (map place l) → q ≢ 0 + i
  clash start r rs l i y at o far q h e =
      let t = at_map_place l q h in
      let b = o.at q t.0 t.1 in
      let both : some t.0 ≡ some (r, y) = sym b.0 ∙ (ap (get_elem? start) (e ∙ plain i) ∙ at) in
      far t.0.0 b.1 (ap (λ (z : ℕ × R). z.0) (some-injective t.0 (r, y) both))
    where
      plain : (n : ℕ) → 0 + n ≡ n
      plain n = omega arith

  pub picked : (start : List (ℕ × R)) (rs : List ℕ) → IsApart rs → AllIn rs (map row_number start) → Pick start rs (picks start rs)
  picked start [] apart there = record { rows = refl; at = λ p x h. absurd (not_in_nil (p, x) h); apart = tt }
  picked start (r ∷ rs) apart there =
      let far = apart.0 in
      let f = looked r 0 start (there r (0, refl)) in
      let o = picked start rs apart.1 (λ q h. there q (in_tail q r rs h)) in
      let e : picks start (r ∷ rs) ≡ (0 + f.0, (r, f.1)) ∷ picks start rs = ap (λ l. l ++ picks start rs) f.3 in
      subst (Pick start (r ∷ rs)) (sym e) record {
        rows = ap (λ l. r ∷ l) o.rows;
        at = λ p x h. first_or start r rs (picks start rs) f.0 f.1 f.2 o p x h.0 h.1;
        apart = (clash start r rs (picks start rs) f.0 f.1 f.2 o far, o.apart);
      }

  -- the items' rows rise, are among those of the round, and no two items share one
  pub planned : (items : ℕ) (start : List (ℕ × R)) (rows_of : ℕ → List ℕ) → ((n : ℕ) → n < items → Rise (rows_of n)) → ((n r : ℕ) → n < items → In r (rows_of n) → In r (map row_number start))
      → ((m n r : ℕ) → m < items → n < items → In r (rows_of m) → In r (rows_of n) → m ≡ n) → Planned items start (λ n. picks start (rows_of n))
  planned items start rows_of rise there once =
      let pick : (n : ℕ) → n < items → Pick start (rows_of n) (picks start (rows_of n)) = λ n lt. picked start (rows_of n) (rise_apart (rows_of n) (rise n lt)) (λ r h. there n r lt h) in
      record {
        at = λ n p x lt h. ((pick n lt).at p x h).0;
        apart = λ n lt. (pick n lt).apart;
        once = λ m n p x y ltm ltn hm hn.
            let a = (pick m ltm).at p x hm in let b = (pick n ltn).at p y hn in
            let same : x ≡ y = some-injective x y (sym a.0 ∙ b.0) in
            once m n x.0 ltm ltn a.1 (subst (λ (z : ℕ × R). In z.0 (rows_of n)) (sym same) b.1);
      }
