-- The room of a copy object as it is filled, one visit after another.
use Rattle.std.proofs.Common.{◌≡◌, ◌∙◌, sym, ap, ap₂, refl, subst, ℕ, zero, suc, ◌+◌, ◌<◌, ◌≤◌, true, false, List, [], ◌∷◌, ◌++◌, length, map, take, set, get_or, Ok, Err, Some, None, arith}
use Rattle.std.specs.List.{All}
use Rattle.std.specs.declared.option.Option.{Option}
use Rattle.std.specs.declared.result.Result.{Result}
use Rattle.std.proofs.lemmas.List.{take_more_set, take_more, take_all, map-append, length-take, get_or-map, get_or-take}
use Rattle.std.specs.Prelude.{is_some}
use Rattle.std.proofs.lemmas.List.Elements.{All-head, All-tail, All-nil, All-push}
use Rattle.fixed_q1.specs.declared.fault.LocalFault.{LocalFault}
use Rattle.mesh_visits.specs.declared.visit.Visit.{Visit}
use Rattle.cell_blocks.specs.declared.local.LocalSystem.{LocalSystem}
use Rattle.cell_blocks.specs.declared.systems.Systems.{Systems}
use Rattle.cell_blocks.specs.LocalBlocks.{LocalBlock, IsBlock}
use Rattle.cell_blocks.specs.Lending.{block_in, IsWhole}
use Rattle.cell_blocks.specs.Visited.{blocks_in}
use Rattle.cell_blocks.specs.Blocks.{Given, block_of, blocks_of, all_blocks, in_front}
use Rattle.cell_blocks.specs.Stored.{in_use, stored, IsStore, seen_copy}
use Rattle.cell_blocks.specs.Filling.{AreBlocksMade, IsFilled}

in_front_ok : (x : Result LocalBlock LocalFault) (r s : Result (List LocalBlock) LocalFault) (b : LocalBlock) (bs : List LocalBlock) → in_front x r ≡ Ok bs → ((cs : List LocalBlock) → r ≡ Ok cs → s ≡ Ok (cs ++ b ∷ [])) → in_front x s ≡ Ok (bs ++ b ∷ [])
in_front_ok (Ok block) (Ok cs) s b bs e h = rw (h cs refl) (let f : block ∷ cs ≡ bs = cc in ap Ok (ap (λ ys. ys ++ b ∷ []) f))
in_front_ok (Ok block) (Err fault) s b bs e h = cc
in_front_ok (Err fault) r s b bs e h = cc

-- one block more
pub more_ok : (xs : List (Result LocalBlock LocalFault)) (b : LocalBlock) (bs : List LocalBlock) → all_blocks xs ≡ Ok bs → all_blocks (xs ++ Ok b ∷ []) ≡ Ok (bs ++ b ∷ [])
more_ok [] b bs e = let f : [] ≡ bs = cc in ap (λ ys. Ok (ys ++ b ∷ [])) f
more_ok (x ∷ xs) b bs e = in_front_ok x (all_blocks xs) (all_blocks (xs ++ Ok b ∷ [])) b bs e (λ cs. more_ok xs b cs)

in_front_err : (x : Result LocalBlock LocalFault) (r s : Result (List LocalBlock) LocalFault) (bs : List LocalBlock) (fault : LocalFault) → in_front x r ≡ Ok bs → ((cs : List LocalBlock) → r ≡ Ok cs → s ≡ Err fault) → in_front x s ≡ Err fault
in_front_err (Ok block) (Ok cs) s bs fault e h = rw (h cs refl) refl
in_front_err (Ok block) (Err told) s bs fault e h = cc
in_front_err (Err told) r s bs fault e h = cc

-- the first fault decides
pub more_err : (xs ys : List (Result LocalBlock LocalFault)) (fault : LocalFault) (bs : List LocalBlock) → all_blocks xs ≡ Ok bs → all_blocks (xs ++ Err fault ∷ ys) ≡ Err fault
more_err [] ys fault bs e = refl
more_err (x ∷ xs) ys fault bs e = in_front_err x (all_blocks xs) (all_blocks (xs ++ Err fault ∷ ys)) bs fault e (λ cs. more_err xs ys fault cs)

split_at : {A : Type 0} (xs : List A) (k : ℕ) (d : A) → k < length xs → (ys : List A) × (xs ≡ take k xs ++ get_or xs k d ∷ ys)
split_at [] k d h = absurd (omega (arith, h))
split_at (x ∷ xs) zero d h = (xs, refl)
split_at (x ∷ xs) (suc k) d h = let r = split_at xs k d (omega (arith, h)) in (r.0, ap (λ zs. x ∷ zs) r.1)

-- one visit more
more_visits : (visits : List Visit) (k : ℕ) (visit : Visit) → k < length visits → visit ≡ get_or visits k visit → take (k + 1) visits ≡ take k visits ++ visit ∷ []
more_visits visits k visit h e = take_more visits k visit h ∙ ap (λ v. take k visits ++ v ∷ []) (sym e)

pub blocks_more : (given : Given) (cell : ℕ) (visits : List Visit) (k : ℕ) (visit : Visit) (blocks : List LocalBlock) (block : LocalBlock) → k < length visits → visit ≡ get_or visits k visit →
    blocks_of given cell (take k visits) ≡ Ok blocks → block_of given cell visit ≡ Ok block → blocks_of given cell (take (k + 1) visits) ≡ Ok (blocks ++ block ∷ [])
unfolding blocks_of
blocks_more given cell visits k visit blocks block h e first is =
    let list : map (block_of given cell) (take (k + 1) visits) ≡ map (block_of given cell) (take k visits) ++ Ok block ∷ [] =
    ap (map (block_of given cell)) (more_visits visits k visit h e) ∙ map-append (block_of given cell) (take k visits) (visit ∷ [])
    ∙ ap (λ b. map (block_of given cell) (take k visits) ++ b ∷ []) is in
    ap all_blocks list ∙ more_ok (map (block_of given cell) (take k visits)) block blocks first

pub blocks_failed : (given : Given) (cell : ℕ) (visits : List Visit) (k : ℕ) (visit : Visit) (blocks : List LocalBlock) (fault : LocalFault) → k < length visits → visit ≡ get_or visits k visit →
    blocks_of given cell (take k visits) ≡ Ok blocks → block_of given cell visit ≡ Err fault → blocks_of given cell visits ≡ Err fault
unfolding blocks_of
blocks_failed given cell visits k visit blocks fault h e first is =
    let parts = split_at visits k visit h in
    let list : map (block_of given cell) visits ≡ map (block_of given cell) (take k visits) ++ Err fault ∷ map (block_of given cell) parts.0 =
    ap (map (block_of given cell)) parts.1 ∙ map-append (block_of given cell) (take k visits) (get_or visits k visit ∷ parts.0)
    ∙ ap (λ v. map (block_of given cell) (take k visits) ++ block_of given cell v ∷ map (block_of given cell) parts.0) (sym e)
    ∙ ap (λ b. map (block_of given cell) (take k visits) ++ b ∷ map (block_of given cell) parts.0) is in
    ap all_blocks list ∙ more_err (map (block_of given cell) (take k visits)) (map (block_of given cell) parts.0) fault blocks first

-- nothing is filled yet
pub none_filled : (given : Given) (cell : ℕ) (visits : List Visit) (systems : Systems) → systems.used ≡ 0 → IsFilled given cell visits 0 systems
unfolding blocks_of
none_filled given cell visits systems used =
    let none : in_use systems ≡ [] = ap (λ n. take n systems.list.items) used in
    record {
      used = used;
      whole = subst (All IsWhole) (sym none) (All-nil IsWhole);
      made = ap (λ (list : List LocalSystem). Ok (map block_in list)) (sym none);
    }

-- the local system of one visit more stands behind the others
pub one_filled : (given : Given) (cell : ℕ) (visits : List Visit) (k : ℕ) (visit : Visit) (old now : Systems) (system : LocalSystem) → k < length visits → visit ≡ get_or visits k visit → k < 9 →
    now.list.items ≡ set old.list.items k system → now.used ≡ k + 1 → IsFilled given cell visits k old → block_of given cell visit ≡ Ok (block_in system) → IsWhole system → IsFilled given cell visits (k + 1) now
one_filled given cell visits k visit old now system h e room list used s is whole =
    let inside : k < length old.list.items = (let nine = old.room in omega (arith, nine, room)) in
    let all : in_use now ≡ in_use old ++ system ∷ [] =
    ap₂ (λ (n : ℕ) (xs : List LocalSystem). take n xs) used list ∙ take_more_set old.list.items k system inside
    ∙ ap (λ n. take n old.list.items ++ system ∷ []) (sym s.used) in
    let blocks : stored now ≡ stored old ++ block_in system ∷ [] = ap (map block_in) all ∙ map-append block_in (in_use old) (system ∷ []) in
    record {
      used = used;
      whole = subst (All IsWhole) (sym all) (All-push IsWhole (in_use old) system s.whole whole);
      made = blocks_more given cell visits k visit (stored old) (block_in system) h e s.made is ∙ ap Ok (sym blocks);
    }

-- all visits are made
pub all_filled : (given : Given) (cell : ℕ) (visits : List Visit) (k : ℕ) (systems : Systems) → length visits ≤ k → k ≤ 9 → IsFilled given cell visits k systems → AreBlocksMade (blocks_of given cell visits) systems None
all_filled given cell visits k systems h few s =
    (ap (blocks_of given cell) (sym (take_all k visits h)) ∙ s.made, record { few = (let e = s.used in omega (arith, e, few)); whole = s.whole })

-- a visit has a fault
pub fault_made : (given : Given) (cell : ℕ) (visits : List Visit) (k : ℕ) (visit : Visit) (old now : Systems) (fault : LocalFault) → k < length visits → visit ≡ get_or visits k visit → now.used ≡ 0 →
    IsFilled given cell visits k old → block_of given cell visit ≡ Err fault → AreBlocksMade (blocks_of given cell visits) now (Some fault)
fault_made given cell visits k visit old now fault h e used s is =
    let none : in_use now ≡ [] = ap (λ n. take n now.list.items) used in (
      blocks_failed given cell visits k visit (stored old) fault h e s.made is,
      record { few = omega (arith, used); whole = subst (All IsWhole) (sym none) (All-nil IsWhole) },
    )

-- what the copy object shows then
pub copy_shows : (wanted : Result (List LocalBlock) LocalFault) (systems : Systems) (fault : Option LocalFault) → AreBlocksMade wanted systems fault → seen_copy fault systems ≡ wanted
copy_shows wanted systems None h = sym h.0
copy_shows wanted systems (Some fault) h = sym h.0

pub store_made : (wanted : Result (List LocalBlock) LocalFault) (systems : Systems) (fault : Option LocalFault) → AreBlocksMade wanted systems fault → IsStore systems
store_made wanted systems None h = h.1
store_made wanted systems (Some fault) h = h.1

length-map : {A B : Type 0} (f : A → B) (xs : List A) → length (map f xs) ≡ length xs
length-map f [] = refl
length-map f (x ∷ xs) = ap suc (length-map f xs)

use_count : (systems : Systems) → systems.used ≤ 9 → length (in_use systems) ≡ systems.used
use_count systems few = let nine = systems.room in omega (arith, length-take systems.used systems.list.items, nine, few)

-- how many blocks there are
pub used_count : (fault : Option LocalFault) (systems : Systems) (shown : Result (List LocalBlock) LocalFault) → seen_copy fault systems ≡ shown → is_some fault ≡ false → systems.used ≤ 9 → systems.used ≡ length (blocks_in shown)
used_count None systems shown e n few =
    let count : length (stored systems) ≡ systems.used = length-map block_in (in_use systems) ∙ use_count systems few in
    sym (ap (λ (r : Result (List LocalBlock) LocalFault). length (blocks_in r)) (sym e) ∙ count)
used_count (Some fault) systems shown e n few = absurd (let no : true ≡ false = n in cc no)

-- the blocks of whole local systems are blocks
blocks_whole : (systems : List LocalSystem) → All IsWhole systems → All IsBlock (map block_in systems)
blocks_whole [] all = All-nil IsBlock
blocks_whole (s ∷ ss) all = All-cons (block_in s) (map block_in ss) (All-head IsWhole s ss all).block (blocks_whole ss (All-tail IsWhole s ss all))
  where
    All-cons : (b : LocalBlock) (bs : List LocalBlock) → IsBlock b → All IsBlock bs → All IsBlock (b ∷ bs)
    All-cons b bs h t zero d l = h
    All-cons b bs h t (suc k) d l = t k d (omega (arith, l))

pub shown_whole : (fault : Option LocalFault) (systems : Systems) (shown : Result (List LocalBlock) LocalFault) → seen_copy fault systems ≡ shown → IsStore systems → All IsBlock (blocks_in shown)
shown_whole None systems shown e store = let P : Result (List LocalBlock) LocalFault → Type 0 = λ r. All IsBlock (blocks_in r) in subst P e (blocks_whole (in_use systems) store.whole)
shown_whole (Some fault) systems shown e store = let P : Result (List LocalBlock) LocalFault → Type 0 = λ r. All IsBlock (blocks_in r) in subst P e (All-nil IsBlock)

-- a local system in use
pub used_above : (fault : Option LocalFault) (systems : Systems) (shown : Result (List LocalBlock) LocalFault) (k : ℕ) → seen_copy fault systems ≡ shown → systems.used ≤ 9 → k < length (blocks_in shown) → k < systems.used
used_above None systems shown k e few h = let n = used_count None systems shown e refl few in omega (arith, n, h)
used_above (Some fault) systems shown k e few h =
    let none : length (blocks_in shown) ≡ 0 = ap (λ (r : Result (List LocalBlock) LocalFault). length (blocks_in r)) (sym e) in
    absurd (omega (arith, none, h))

pub system_whole : (systems : Systems) (k : ℕ) (d : LocalSystem) → IsStore systems → k < systems.used → IsWhole (get_or systems.list.items k d)
system_whole systems k d store below =
    let count = use_count systems store.few in
    subst IsWhole (get_or-take systems.used systems.list.items k d below) (store.whole k d (omega (arith, below, count)))

pub block_shown : (fault : Option LocalFault) (systems : Systems) (shown : Result (List LocalBlock) LocalFault) (k : ℕ) (d : LocalSystem) (e : LocalBlock) → seen_copy fault systems ≡ shown → systems.used ≤ 9 → k < length (blocks_in shown) →
    block_in (get_or systems.list.items k d) ≡ get_or (blocks_in shown) k e
block_shown None systems shown k d b e few h =
    let below = used_above None systems shown k e few h in
    let count = use_count systems few in
    let inside : k < length (in_use systems) = omega (arith, below, count) in
    ap block_in (sym (get_or-take systems.used systems.list.items k d below)) ∙ sym (get_or-map block_in (in_use systems) k d b inside)
    ∙ ap (λ (r : Result (List LocalBlock) LocalFault). get_or (blocks_in r) k b) e
block_shown (Some fault) systems shown k d b e few h = let none = used_above (Some fault) systems shown k e few h in
    let empty : length (blocks_in shown) ≡ 0 = ap (λ (r : Result (List LocalBlock) LocalFault). length (blocks_in r)) (sym e) in
    absurd (omega (arith, empty, h))
