-- The least set that is closed under a relation which leads down from level to level.
use Rattle.std.proofs.Common.{◌≡◌, ℕ, zero, suc, ◌+◌, ◌<◌, ◌≤◌, ⊎_elim, Bool, true, arith}
use Rattle.std.specs.Prelude.{◌||◌, ◌&&◌}
use Rattle.corner_names.proofs.Active.{or_true, or_left, or_right}
use Rattle.mesh_visits.proofs.Meets.{and_true, and_by}
use Rattle.system_laws.proofs.Search.{some_below, some_from, some_to}

-- asked, or up from one that is reached, in so many steps at most
pub reached : (ℕ → Bool) → (ℕ → ℕ → Bool) → ℕ → ℕ → ℕ → Bool
reached asked up n zero i = asked i
reached asked up n (suc steps) i = asked i || some_below (λ z. reached asked up n steps z && up z i) n

pub reached_asked : (asked : ℕ → Bool) (up : ℕ → ℕ → Bool) (n steps i : ℕ) → asked i ≡ true → reached asked up n steps i ≡ true
unfolding reached
reached_asked asked up n zero i h = h
reached_asked asked up n (suc steps) i h = or_left (asked i) (some_below (λ z. reached asked up n steps z && up z i) n) h

reached_up : (asked : ℕ → Bool) (up : ℕ → ℕ → Bool) (n steps z i : ℕ) → z < n → reached asked up n steps z ≡ true → up z i ≡ true → reached asked up n (suc steps) i ≡ true
unfolding reached
reached_up asked up n steps z i h r u =
    or_right (asked i) (some_below (λ y. reached asked up n steps y && up y i) n) (some_to (λ y. reached asked up n steps y && up y i) n z h (and_by (reached asked up n steps z) (up z i) r u))

-- no more steps are needed than there are levels above
settled : (asked : ℕ → Bool) (up : ℕ → ℕ → Bool) (n : ℕ) (level : ℕ → ℕ) (top : ℕ) → ((z : ℕ) → z < n → level z ≤ top) → ((z i : ℕ) → up z i ≡ true → level i + 1 ≡ level z) →
    (steps i : ℕ) → top ≤ level i + steps → reached asked up n (suc steps) i ≡ true → reached asked up n steps i ≡ true
unfolding reached
settled asked up n level top low falls zero i h r = ⊎_elim (λ (a : asked i ≡ true). a)
    (λ (a : some_below (λ z. asked z && up z i) n ≡ true).
    let t = some_from (λ z. asked z && up z i) n a in
    let l = low t.0 t.1.0 in let f = falls t.0 i (and_true (asked t.0) (up t.0 i) t.1.1).1 in absurd (omega arith))
    (or_true (asked i) (some_below (λ z. asked z && up z i) n) r)
settled asked up n level top low falls (suc steps) i h r = ⊎_elim
    (λ (a : asked i ≡ true). or_left (asked i) (some_below (λ z. reached asked up n steps z && up z i) n) a)
    (λ (a : some_below (λ z. reached asked up n (suc steps) z && up z i) n ≡ true).
    let t = some_from (λ z. reached asked up n (suc steps) z && up z i) n a in
    let p = and_true (reached asked up n (suc steps) t.0) (up t.0 i) t.1.1 in
    let f = falls t.0 i p.1 in
    reached_up asked up n steps t.0 i t.1.0 (settled asked up n level top low falls steps t.0 (omega arith) p.0) p.1)
    (or_true (asked i) (some_below (λ z. reached asked up n (suc steps) z && up z i) n) r)

pub reached_closed : (asked : ℕ → Bool) (up : ℕ → ℕ → Bool) (n : ℕ) (level : ℕ → ℕ) (top : ℕ) → ((z : ℕ) → z < n → level z ≤ top) → ((z i : ℕ) → up z i ≡ true → level i + 1 ≡ level z) →
    (z i : ℕ) → z < n → reached asked up n top z ≡ true → up z i ≡ true → reached asked up n top i ≡ true
reached_closed asked up n level top low falls z i h r u = settled asked up n level top low falls top i (omega arith) (reached_up asked up n top z i h r u)

pub reached_least : (asked other : ℕ → Bool) (up : ℕ → ℕ → Bool) (n : ℕ) → ((i : ℕ) → asked i ≡ true → other i ≡ true) → ((z i : ℕ) → z < n → i < n → other z ≡ true → up z i ≡ true → other i ≡ true) →
    (steps i : ℕ) → i < n → reached asked up n steps i ≡ true → other i ≡ true
unfolding reached
reached_least asked other up n has closed zero i h r = has i r
reached_least asked other up n has closed (suc steps) i h r = ⊎_elim
    (λ (a : asked i ≡ true). has i a)
    (λ (a : some_below (λ z. reached asked up n steps z && up z i) n ≡ true).
    let t = some_from (λ z. reached asked up n steps z && up z i) n a in
    let p = and_true (reached asked up n steps t.0) (up t.0 i) t.1.1 in
    closed t.0 i t.1.0 h (reached_least asked other up n has closed steps t.0 t.1.0 p.0) p.1)
    (or_true (asked i) (some_below (λ z. reached asked up n steps z && up z i) n) r)
