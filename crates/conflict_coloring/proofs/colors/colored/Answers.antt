use Rattle.std.proofs.Common.{◌≡◌, ◌∙◌, ◌<◌, ◌≤◌, ◌+◌, ℕ, List, ap, sym, subst, length, slice_index, arith}
use Rattle.std.specs.Prelude.{All}
use Rattle.std.specs.List.{range_with_len}
use Rattle.std.proofs.lemmas.List.FromFn.{length-range_with_len}
use Rattle.conflict_coloring.specs.Conflict.{has}
use Rattle.conflict_coloring.specs.Colours.{order_of, AreInZones, IsShift, whole}
use Rattle.conflict_coloring.proofs.Whole.{order_plain}
use Rattle.conflict_coloring.proofs.Colorings.{is_coloring, inside_few, whole_few, starts_few}
use Rattle.conflict_coloring.proofs.colors.colored.Goals as goal

few_cells : (m n top : ℕ) → m ≡ n → m ≤ top → n ≤ top
few_cells m n top e le = omega arith

less_cells : (m n top : ℕ) → m ≡ n → m ≤ top → n < top + 1
less_cells m n top e le = omega arith

pub by_row-requires : goal.by_row-requires
by_row-requires c = less_cells c.len.result (length c.args.conflicts.now) 4294967295 c.len.ensures.count c.len.ensures.few

pub zones_of-requires-clause-few : goal.zones_of-requires-clause-few
zones_of-requires-clause-few c = few_cells c.len.result (length c.args.conflicts.now) 4294967295 c.len.ensures.count c.len.ensures.few

pub near_in_zones-requires-clause-few : goal.near_in_zones-requires-clause-few
near_in_zones-requires-clause-few c = less_cells c.len.result (length c.args.conflicts.now) 4294967295 c.len.ensures.count c.len.ensures.few

pub numbers-requires : goal.numbers-requires
numbers-requires c = let f = c.len.ensures.few in omega arith

pub inner-requires-clause-few : goal.inner-requires-clause-few
inner-requires-clause-few c = few_cells c.len.result (length c.args.conflicts.now) 4294967295 c.len.ensures.count c.len.ensures.few

pub inner-requires-clause-numbers : goal.inner-requires-clause-numbers
inner-requires-clause-numbers c =
    c.deref-9.ensures.value ∙ c.in_ok-numbers.ensures ∙ ap (range_with_len 0) (c.len.ensures.count ∙ sym c.in_ok-zones.ensures.one_each ∙ sym (ap length c.deref-8.ensures.value))

pub top_even-shift-requires-clause-few : goal.top_even-shift-requires-clause-few
top_even-shift-requires-clause-few c =
    let zones : List ℕ = c.in_ok-zones.zones.items in
    let inside : List ℕ = c.in_ok-inside.inside.items in
    let in_zones : AreInZones c.args.conflicts.now zones inside = subst (λ (xs : List ℕ). AreInZones c.args.conflicts.now xs inside) c.deref-8.ensures.value c.in_ok-inside.ensures.inner in
    let few : length zones ≤ 4294967295 = few_cells c.len.result (length zones) 4294967295 (c.len.ensures.count ∙ sym c.in_ok-zones.ensures.one_each) c.len.ensures.few in
    subst (λ (xs : List ℕ). All (λ k. k < 4294967295) xs) (sym c.deref-11.ensures.value)
    (inside_few c.args.conflicts.now zones inside 4294967295 in_zones few (c.in_ok-inside.ensures.each ∙ sym c.in_ok-zones.ensures.one_each))

pub shifted-requires-clause-few : goal.shifted-requires-clause-few
shifted-requires-clause-few c =
    let zones : List ℕ = c.in_ok-zones.zones.items in
    let inside : List ℕ = c.in_ok-inside.inside.items in
    let shift : ℕ = c.top_even-shift.result in
    let in_zones : AreInZones c.args.conflicts.now zones inside = subst (λ (xs : List ℕ). AreInZones c.args.conflicts.now xs inside) c.deref-8.ensures.value c.in_ok-inside.ensures.inner in
    let is_shift : IsShift zones inside shift =
    subst (λ (xs : List ℕ). IsShift xs inside shift) c.deref-10.ensures.value (subst (λ (xs : List ℕ). IsShift c.deref-10.result.now xs shift) c.deref-11.ensures.value c.top_even-shift.ensures) in
    let few : length zones ≤ 4294967295 = few_cells c.len.result (length zones) 4294967295 (c.len.ensures.count ∙ sym c.in_ok-zones.ensures.one_each) c.len.ensures.few in
    let more : length zones ≤ 4294967296 = omega arith in
    let same : length inside ≡ length zones = c.in_ok-inside.ensures.each ∙ sym c.in_ok-zones.ensures.one_each in
    let T : List ℕ → List ℕ → Type 0 = λ zs xs. (k : ℕ) → k < length xs → whole shift (slice_index zs k) (slice_index xs k) < 4294967296 in
    let base : T zones inside = λ k lt. whole_few c.args.conflicts.now zones inside shift 4294967296 k in_zones is_shift more (omega arith) in
    subst (λ (xs : List ℕ). T xs c.deref-13.result.now) (sym c.deref-12.ensures.value) (subst (λ (xs : List ℕ). T zones xs) (sym c.deref-13.ensures.value) base)

pub order_by-requires-clause-one_each : goal.order_by-requires-clause-one_each
order_by-requires-clause-one_each c =
    let values : length c.deref-16.result.now ≡ c.len.result = ap length (c.deref-16.ensures.value ∙ c.in_ok-numbers.ensures) ∙ length-range_with_len 0 c.len.result in
    let keys : length c.deref-15.result.now ≡ length c.args.conflicts.now = ap length c.deref-15.ensures.value ∙ c.in_ok-colours.ensures.each ∙ ap length c.deref-13.ensures.value ∙ c.in_ok-inside.ensures.each in
    values ∙ c.len.ensures.count ∙ sym keys

pub narrowed-requires : goal.narrowed-requires
narrowed-requires c =
    let keys : length c.deref-15.result.now ≡ length c.args.conflicts.now = ap length c.deref-15.ensures.value ∙ c.in_ok-colours.ensures.each ∙ ap length c.deref-13.ensures.value ∙ c.in_ok-inside.ensures.each in
    let few : length c.deref-15.result.now < 4294967296 = less_cells c.len.result (length c.deref-15.result.now) 4294967295 (c.len.ensures.count ∙ sym keys) c.len.ensures.few in
    subst (λ (xs : List ℕ). All (λ s. s < 4294967296) xs) (sym c.deref-17.ensures.value)
    (starts_few c.deref-15.result.now c.in_ok-order.order.starts.items c.above-count.result 4294967296 c.in_ok-order.ensures.length c.in_ok-order.ensures.starts few)

pub returns : goal.returns
returns c =
    let cells : List (List ℕ) = c.args.conflicts.now in
    let zones : List ℕ = c.in_ok-zones.zones.items in
    let inside : List ℕ = c.in_ok-inside.inside.items in
    let colours : List ℕ = c.in_ok-colours.colours.items in
    let shift : ℕ = c.top_even-shift.result in
    let n : ℕ = c.above-count.result in
    let in_zones : AreInZones cells zones inside = subst (λ (xs : List ℕ). AreInZones cells xs inside) c.deref-8.ensures.value c.in_ok-inside.ensures.inner in
    let is_shift : IsShift zones inside shift =
    subst (λ (xs : List ℕ). IsShift xs inside shift) c.deref-10.ensures.value (subst (λ (xs : List ℕ). IsShift c.deref-10.result.now xs shift) c.deref-11.ensures.value c.top_even-shift.ensures) in
    let each : length c.deref-13.result.now ≡ length cells = ap length c.deref-13.ensures.value ∙ c.in_ok-inside.ensures.each in
    let keys : length c.deref-15.result.now ≡ length cells = ap length c.deref-15.ensures.value ∙ c.in_ok-colours.ensures.each ∙ each in
    let joined : (k : ℕ) → k < length cells → slice_index colours k ≡ whole shift (slice_index zones k) (slice_index inside k) = λ k lt.
    c.in_ok-colours.ensures.values k (omega arith) ∙ ap (λ xs. whole shift (slice_index xs k) (slice_index c.deref-13.result.now k)) c.deref-12.ensures.value
    ∙ ap (λ xs. whole shift (slice_index zones k) (slice_index xs k)) c.deref-13.ensures.value in
    let numbered : c.deref-16.result.now ≡ range_with_len 0 (length c.deref-15.result.now) = c.deref-16.ensures.value ∙ c.in_ok-numbers.ensures ∙ ap (range_with_len 0) (c.len.ensures.count ∙ sym keys) in
    let order : c.in_ok-order.order.cells.items ≡ order_of colours n =
    c.in_ok-order.ensures.cells ∙ order_plain c.deref-15.result.now c.deref-16.result.now n numbered ∙ ap (λ xs. order_of xs n) c.deref-15.ensures.value in
    let same : c.in_ok-starts.starts.items ≡ c.in_ok-order.order.starts.items = c.in_ok-starts.ensures ∙ c.deref-17.ensures.value in
    is_coloring cells zones inside colours c.in_ok-order.order.cells.items c.in_ok-starts.starts.items shift n c.in_ok-zones.ensures in_zones is_shift (c.in_ok-colours.ensures.each ∙ each) joined
    (subst (λ (xs : List ℕ). All (λ k. k < n) xs) c.deref-14.ensures.value c.above-count.ensures.above)
    (λ k e. ap (λ xs. has xs k) (sym c.deref-14.ensures.value) ∙ c.above-count.ensures.top k e) order (ap length same ∙ c.in_ok-order.ensures.length)
    (λ k le. ap (λ xs. slice_index xs k) same ∙ c.in_ok-order.ensures.starts k le ∙ ap (λ xs. length (order_of xs k)) c.deref-15.ensures.value)
