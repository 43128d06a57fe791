-- Lists that lie one behind the other.
use Rattle.std.proofs.Common.{◌≡◌, ◌≢◌, ◌≤◌, ◌<◌, ◌+◌, ◌-◌, ◌++◌, ℕ, zero, suc, List, [], ◌∷◌, length, take, drop, refl, sym, ap, ap₂, ◌∙◌, arith, slice_index_or}
use Rattle.std.specs.List.{between}
use Rattle.std.proofs.lemmas.List.{take-append-le, drop-append-le, length-drop, length-take, length-append, get_or_default}
use Rattle.std.proofs.Math.Seq.{drop-append_seam, take-length}
use Rattle.compressed_lists.specs.Cuts.{cut, start_of, AreEnds}

pub ends_within : (total from : ℕ) (ends : List ℕ) → AreEnds total from ends → from ≤ total
ends_within total from [] h = omega (arith, h)
ends_within total from (end ∷ ends) h = omega (arith, h.0, ends_within total end ends h.1)

pub cut_length : {A : Type 0} (items : List A) (from : ℕ) (ends : List ℕ) → length (cut items from ends) ≡ length ends
cut_length items from [] = refl
cut_length items from (end ∷ ends) = ap (λ n. suc n) (cut_length items end ends)

pub cut_at : {A : Type 0} (items : List A) (from : ℕ) (ends : List ℕ) (k : ℕ) → k < length ends → slice_index_or (cut items from ends) k [] ≡ between (start_of from ends k) (slice_index_or ends k 0) items
cut_at items from [] k h = absurd (omega (arith, h))
cut_at items from (end ∷ ends) zero h = refl
cut_at items from (end ∷ ends) (suc zero) h = cut_at items end ends zero (omega (arith, h))
cut_at items from (end ∷ ends) (suc (suc k)) h = cut_at items end ends (suc k) (omega (arith, h))

pub start_below : (total from : ℕ) (ends : List ℕ) (k : ℕ) → AreEnds total from ends → k < length ends → (start_of from ends k ≤ slice_index_or ends k 0) × (slice_index_or ends k 0 ≤ total)
start_below total from [] k a h = absurd (omega (arith, h))
start_below total from (end ∷ ends) zero a h = (a.0, ends_within total end ends a.1)
start_below total from (end ∷ ends) (suc zero) a h = start_below total end ends zero a.1 (omega (arith, h))
start_below total from (end ∷ ends) (suc (suc k)) a h = start_below total end ends (suc k) a.1 (omega (arith, h))

pub ends_push : (total from more : ℕ) (ends : List ℕ) → AreEnds total from ends → AreEnds (total + more) from (ends ++ (total + more) ∷ [])
ends_push total from more [] h = (omega (arith, h), refl)
ends_push total from more (end ∷ ends) h = (h.0, ends_push total end more ends h.1)

between_kept : {A : Type 0} (items list : List A) (from end : ℕ) → from ≤ end → end ≤ length items → between from end (items ++ list) ≡ between from end items
between_kept items list from end low high =
    ap (take (end - from)) (drop-append-le from items list (omega (arith, low, high)))
    ∙ take-append-le (end - from) (drop from items) list (omega (arith, low, high, length-drop from items))

take_whole : {A : Type 0} (n : ℕ) (list : List A) → n ≡ length list → take n list ≡ list
take_whole n list e = ap (λ m. take m list) e ∙ take-length list

pub cut_push : {A : Type 0} (items list : List A) (from : ℕ) (ends : List ℕ) → AreEnds (length items) from ends →
    cut (items ++ list) from (ends ++ (length items + length list) ∷ []) ≡ cut items from ends ++ list ∷ []
cut_push items list from [] h =
    let seam : drop from (items ++ list) ≡ list = ap (λ n. drop n (items ++ list)) h ∙ drop-append_seam items list in
    let whole : take ((length items + length list) - from) (drop from (items ++ list)) ≡ list =
    ap (take ((length items + length list) - from)) seam ∙ take_whole ((length items + length list) - from) list (omega (arith, h)) in
    ap (λ xs. xs ∷ []) whole
cut_push items list from (end ∷ ends) h =
    let here = between_kept items list from end h.0 (ends_within (length items) end ends h.1) in
    rw here (ap (λ xs. between from end items ∷ xs) (cut_push items list end ends h.1))

pub start_is : (ends : List ℕ) (k v : ℕ) → k ≢ 0 → k - 1 < length ends → v ≡ slice_index_or ends (k - 1) v → start_of 0 ends k ≡ v
start_is ends zero v h inside e = absurd (h refl)
start_is ends (suc k) v h inside e =
    let one : suc k - 1 ≡ k = omega arith in
    let at : v ≡ slice_index_or ends k v = e ∙ ap (λ n. slice_index_or ends n v) one in
    get_or_default ends k 0 v (omega (arith, inside)) ∙ sym at

pub got : {A : Type 0} (items : List A) (ends : List ℕ) (lists : List (List A)) (k from to : ℕ) (read : List A) → cut items 0 ends ≡ lists → k < length lists → from ≡ start_of 0 ends k → to ≡ slice_index_or ends k to →
    read ≡ between from to items → read ≡ slice_index_or lists k []
got items ends lists k from to read view inside low high is =
    let some : k < length ends = omega (arith, inside, ap length view, cut_length items 0 ends) in
    let at : to ≡ slice_index_or ends k 0 = high ∙ get_or_default ends k to 0 some in
    is ∙ ap₂ (λ a b. between a b items) low at ∙ sym (cut_at items 0 ends k some) ∙ ap (λ ls. slice_index_or ls k []) view

pub got_bounds : {A : Type 0} (items : List A) (ends : List ℕ) (lists : List (List A)) (k from to : ℕ) → cut items 0 ends ≡ lists → AreEnds (length items) 0 ends → k < length lists → from ≡ start_of 0 ends k → to ≡ slice_index_or ends k to →
    (from ≤ to) × (to ≤ length items)
got_bounds items ends lists k from to view ends_are inside low high =
    let some : k < length ends = omega (arith, inside, ap length view, cut_length items 0 ends) in
    let at : to ≡ slice_index_or ends k 0 = high ∙ get_or_default ends k to 0 some in
    let bounds = start_below (length items) 0 ends k ends_are some in
    (omega (arith, low, at, bounds.0), omega (arith, at, bounds.1))

pub pushed_ends : {A : Type 0} (items list more : List A) (ends after : List ℕ) (end : ℕ) → more ≡ items ++ list → end ≡ length more → after ≡ ends ++ end ∷ [] → AreEnds (length items) 0 ends → AreEnds (length more) 0 after
pushed_ends items list more ends after end grown ended pushed h =
    let total : length more ≡ length items + length list = ap length grown ∙ length-append items list in
    rw (pushed, ended, total) (ends_push (length items) 0 (length list) ends h)

pub pushed_lists : {A : Type 0} (items list more : List A) (ends after : List ℕ) (end : ℕ) → more ≡ items ++ list → end ≡ length more → after ≡ ends ++ end ∷ [] → AreEnds (length items) 0 ends →
    cut more 0 after ≡ cut items 0 ends ++ list ∷ []
pushed_lists items list more ends after end grown ended pushed h =
    let total : length more ≡ length items + length list = ap length grown ∙ length-append items list in
    let e : end ≡ length items + length list = ended ∙ total in
    rw (pushed, e, grown) (cut_push items list 0 ends h)
