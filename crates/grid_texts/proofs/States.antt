-- States of the draws.
use Rattle.std.proofs.Common.{◌≡◌, ◌∙◌, ◌+◌, ◌*◌, ◌%◌, ap, sym, ℕ, zero, suc, refl, arith}
use Rattle.std.proofs.Math.Nat.{add-mod}
use Rattle.grid_texts.specs.Draws.{next_state, state_after, draw}

pub state_after-add : (seed a b : ℕ) → state_after (state_after seed a) b ≡ state_after seed (a + b)
unfolding state_after
state_after-add seed a zero = let e : a ≡ a + 0 = omega arith in ap (λ k. state_after seed k) e
state_after-add seed a (suc b) =
    let e : suc (a + b) ≡ a + suc b = omega arith in
    ap next_state (state_after-add seed a b) ∙ ap (λ k. state_after seed k) e

pub second_state : (state : ℕ) → state_after (state_after state 1) 1 ≡ state_after state 2
second_state state = state_after-add state 1 1

pub wrapped : (state : ℕ) → ((state * 6364136223846793005) % 18446744073709551616 + 1442695040888963407) % 18446744073709551616 ≡ state_after state 1
unfolding state_after next_state
wrapped state = sym (add-mod (state * 6364136223846793005) 1442695040888963407 18446744073709551616)
