use Rattle.std.proofs.Common.{◌≡◌, ℕ, of_calls, rules, ◌<◌, true, false, nat_lt, List, length, slice_index_or, arith}
use Rattle.std.specs.List.Sorted.{IsPartitionPoint}
use Rattle.std.proofs.lemmas.Fn.{always_returns_same}
use Rattle.std.proofs.lemmas.List.{get_or_default}
use Rattle.node_ids.proofs.Places.{parted, IsStart, found, not_there, not_there_at_end}
use Rattle.node_ids.proofs.sorted.place_in.Goals as goal

-- what the search tells of the place where it ends
start_of : (places : List (ℕ × ℕ)) (id n : ℕ) → IsPartitionPoint (λ (y : ℕ × ℕ). nat_lt y.0 id ≡ true) (λ (y : ℕ × ℕ). nat_lt y.0 id ≡ false) places n → IsStart places id n
start_of places id n point = record { before = λ k d h b. point.0 k d (omega arith) h; behind = λ k d h b. point.1 k d h b }

one_read : (places : List (ℕ × ℕ)) (n : ℕ) → n < length places → (d : ℕ × ℕ) → slice_index_or places n d ≡ slice_index_or places n (0, 0)
one_read places n h d = get_or_default places n d (0, 0) h

pub returns-then-start-places : goal.returns-then-start-places
returns-then-start-places c = λ ids w.
    let point = c.partition_point-start.ensures.partitioned (λ (entry : ℕ × ℕ). nat_lt entry.0 c.args.id) (always_returns_same _ _ _ (λ a r f k. search (rules, of_calls))) (parted ids c.args.places.now c.args.id w) in
    not_there_at_end ids c.args.places.now c.args.id c.partition_point-start.result w (start_of c.args.places.now c.args.id c.partition_point-start.result point) c.if-start-places.true

pub returns-then-entry-id : goal.returns-then-entry-id
returns-then-entry-id c = λ ids w.
    let n = c.partition_point-start.result in
    let point = c.partition_point-start.ensures.partitioned (λ (entry : ℕ × ℕ). nat_lt entry.0 c.args.id) (always_returns_same _ _ _ (λ a r f k. search (rules, of_calls))) (parted ids c.args.places.now c.args.id w) in
    not_there ids c.args.places.now c.args.id n (slice_index_or c.args.places.now n (0, 0)) w (start_of c.args.places.now c.args.id n point) c.if-start-places.false (one_read c.args.places.now n c.if-start-places.false) c.if-entry-id.true

pub returns : goal.returns
returns c = λ ids w.
    let n = c.partition_point-start.result in
    let point = c.partition_point-start.ensures.partitioned (λ (entry : ℕ × ℕ). nat_lt entry.0 c.args.id) (always_returns_same _ _ _ (λ a r f k. search (rules, of_calls))) (parted ids c.args.places.now c.args.id w) in
    found ids c.args.places.now c.args.id n (slice_index_or c.args.places.now n (0, 0)) w (start_of c.args.places.now c.args.id n point) c.if-start-places.false (one_read c.args.places.now n c.if-start-places.false) c.if-entry-id.false
