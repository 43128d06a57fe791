-- The keys of the cells that are left, one key more or less.
use Rattle.std.proofs.Common.{◌≡◌, ℕ, ◌+◌, ◌-◌, ◌<◌, ◌≤◌, List, length, Bool, true, false, cond, ◌||◌, ◌&&◌, ◌==◌, slice_index, take, sym, ◌∙◌, ap, arith}
use Rattle.std.specs.Prelude.{not}
use Rattle.std.specs.Ordering.{is_eq}
use Rattle.std.specs.BTreeSet.{BTreeSet, contains, Updates}
use Rattle.std.proofs.lemmas.List.Folds.{list_any_more}
use Rattle.conflict_coloring.specs.Conflict.{has}
use Rattle.conflict_coloring.specs.Colours.{Picks, saturation, degree}
use Rattle.conflict_coloring.specs.Links.{AreKeys, Keys, key_of, key_cmp}

pub key_same : (top a b x s m d : ℕ) → x ≤ top → d ≤ top → is_eq (key_cmp (a, b, top - x) (s, m, top - d)) ≡ (a == s && (b == m && x == d))
key_same top a b x s m d h k = grind arith

pub put_more : (a b a2 b2 x d s m : ℕ) (p h : Bool) → (x ≡ d → a ≡ a2) → (x ≡ d → b ≡ b2) →
    cond (a == s && (b == m && x == d)) true ((p || h) && (s == a2 && m == b2)) ≡ ((p || (h || (x == d))) && (s == a2 && m == b2))
put_more a b a2 b2 x d s m p h f g = grind arith

take_more : (a b a2 b2 x d s m : ℕ) (p h : Bool) → (x ≡ d → a ≡ a2) → (x ≡ d → b ≡ b2) →
    cond (a == s && (b == m && x == d)) false ((p && not h) && (s == a2 && m == b2)) ≡ ((p && not (h || (x == d))) && (s == a2 && m == b2))
take_more a b a2 b2 x d s m p h f g = grind arith

pub put_key : (cells : List (List ℕ)) (zone : List ℕ) (picks : Picks) (present : ℕ → Bool) (old new : BTreeSet Keys) (xs : List ℕ) (i : ℕ) (key : Keys) → i < length xs → slice_index xs i ≤ 4294967295 →
    ◌≡◌ {A = Keys} key (key_of cells zone picks (slice_index xs i)) → Updates key_cmp old new key true → AreKeys cells zone picks (λ d. present d || has (take i xs) d) old →
    AreKeys cells zone picks (λ d. present d || has (take (i + 1) xs) d) new
put_key cells zone picks present old new xs i key inside small is update keys s m d le =
    let x : ℕ = slice_index xs i in
    update.0 (s, m, 4294967295 - d)
    ∙ ap (λ (k : Keys). cond (is_eq (key_cmp k (s, m, 4294967295 - d))) true (contains key_cmp old (s, m, 4294967295 - d))) is
    ∙ ap (λ b. cond b true (contains key_cmp old (s, m, 4294967295 - d))) (key_same 4294967295 (saturation cells picks x) (degree cells zone x) x s m d small le)
    ∙ ap (λ b. cond (saturation cells picks x == s && (degree cells zone x == m && x == d)) true b) (keys s m d le)
    ∙ put_more (saturation cells picks x) (degree cells zone x) (saturation cells picks d) (degree cells zone d) x d s m (present d) (has (take i xs) d) (λ e. ap (saturation cells picks) e) (λ e. ap (degree cells zone) e)
    ∙ ap (λ h. (present d || h) && (s == saturation cells picks d && m == degree cells zone d)) (sym (list_any_more (λ y. y == d) xs i 0 inside))

pub take_key : (cells : List (List ℕ)) (zone : List ℕ) (picks : Picks) (present : ℕ → Bool) (old new : BTreeSet Keys) (xs : List ℕ) (i : ℕ) (key : Keys) → i < length xs → slice_index xs i ≤ 4294967295 →
    ◌≡◌ {A = Keys} key (key_of cells zone picks (slice_index xs i)) → Updates key_cmp old new key false → AreKeys cells zone picks (λ d. present d && not (has (take i xs) d)) old →
    AreKeys cells zone picks (λ d. present d && not (has (take (i + 1) xs) d)) new
take_key cells zone picks present old new xs i key inside small is update keys s m d le =
    let x : ℕ = slice_index xs i in
    update.0 (s, m, 4294967295 - d)
    ∙ ap (λ (k : Keys). cond (is_eq (key_cmp k (s, m, 4294967295 - d))) false (contains key_cmp old (s, m, 4294967295 - d))) is
    ∙ ap (λ b. cond b false (contains key_cmp old (s, m, 4294967295 - d))) (key_same 4294967295 (saturation cells picks x) (degree cells zone x) x s m d small le)
    ∙ ap (λ b. cond (saturation cells picks x == s && (degree cells zone x == m && x == d)) false b) (keys s m d le)
    ∙ take_more (saturation cells picks x) (degree cells zone x) (saturation cells picks d) (degree cells zone d) x d s m (present d) (has (take i xs) d) (λ e. ap (saturation cells picks) e) (λ e. ap (degree cells zone) e)
    ∙ ap (λ h. (present d && not h) && (s == saturation cells picks d && m == degree cells zone d)) (sym (list_any_more (λ y. y == d) xs i 0 inside))
