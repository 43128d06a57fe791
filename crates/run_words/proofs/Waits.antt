-- The search for what may wait.
use Rattle.std.proofs.Common.{◌≡◌, ◌∙◌, ap, sym, ℕ, List, [], ◌∷◌, ◌++◌, Bool, true, false, refl, inl, inr, length, ◌<◌, arith, take, drop, take-append-drop, map, ◌⊎◌}
use Rattle.std.specs.Prelude.{codes, ◌&&◌, ◌||◌, ◌↔◌, IsTrue, nat_eq}
use Rattle.std.specs.List.{starts_with}
use Rattle.std.specs.Str.{bytes_eq}
use Rattle.std.proofs.lemmas.Slice.Eq.{bytes_eq-Decides}
use Rattle.run_words.specs.Words.{StandInARow, NameOrdered, NameBatch, MayWait}
use Rattle.run_words.specs.Waits.{begins_with, names_ordered, names_batch, waits_at, waits}
use Rattle.run_words.proofs.Rules.{and_false}

-- behind one more word
later : (row words : List (List ℕ)) (word : List ℕ) → StandInARow row words → StandInARow row (word ∷ words)
later row words word stand = record { before = word ∷ stand.before; behind = stand.behind; words_are = ap (λ list. word ∷ list) stand.words_are }

later_waits : (words : List (List ℕ)) (word : List ℕ) → MayWait words → MayWait (word ∷ words)
later_waits words word (inl (inl two)) = inl (inl (later (codes "--mode" ∷ codes "ordered" ∷ []) words word two))
later_waits words word (inl (inr one)) = inl (inr (later (codes "--mode=ordered" ∷ []) words word one))
later_waits words word (inr (inl alone)) = inr (inl (later (codes "--batch" ∷ []) words word alone))
later_waits words word (inr (inr joined)) = inr (inr (joined.0, later ((codes "--batch=" ++ joined.0) ∷ []) words word joined.1))

pub equal : (word other : List ℕ) → bytes_eq word other ≡ true → word ≡ other
equal word other same = (bytes_eq-Decides word other).0 same

both_true : (b c : Bool) → (b && c) ≡ true → (b ≡ true) × (c ≡ true)
both_true true c is = (refl, is)
both_true false c is = cc

or_true : (b : Bool) → (b || true) ≡ true
or_true true = refl
or_true false = refl

one_true : (b c : Bool) → (b || c) ≡ true → (b ≡ true) ⊎ (c ≡ true)
one_true true c is = inl refl
one_true false c is = inr is

two_here : (word : List ℕ) (behind : List (List ℕ)) → (bytes_eq word (codes "--mode") && begins_with (codes "ordered") behind) ≡ true → NameOrdered (word ∷ behind)
two_here word [] is = let e = sym is ∙ and_false (bytes_eq word (codes "--mode")) in cc
two_here word (next ∷ behind) is =
    let both = both_true (bytes_eq word (codes "--mode")) (bytes_eq next (codes "ordered")) is in
    inl (record {
      before = [];
      behind = behind;
      words_are = ap (λ w. w ∷ next ∷ behind) (equal word (codes "--mode") both.0) ∙ ap (λ w. codes "--mode" ∷ w ∷ behind) (equal next (codes "ordered") both.1);
    })

-- the word itself is the row
alone_here : (word row : List ℕ) (behind : List (List ℕ)) → word ≡ row → StandInARow (row ∷ []) (word ∷ behind)
alone_here word row behind is = record { before = []; behind = behind; words_are = ap (λ w. w ∷ behind) is }

ordered_here : (word : List ℕ) (behind : List (List ℕ)) → names_ordered word behind ≡ true → NameOrdered (word ∷ behind)
unfolding names_ordered
ordered_here word behind is = elim (one_true (bytes_eq word (codes "--mode=ordered")) (bytes_eq word (codes "--mode") && begins_with (codes "ordered") behind) is) [
  | inl same ↦ inr (alone_here word (codes "--mode=ordered") behind (equal word (codes "--mode=ordered") same))
  | inr two ↦ two_here word behind two
]

with_front : (word front : List ℕ) → starts_with nat_eq word front ≡ true → word ≡ front ++ drop (length front) word
with_front word front is = sym (take-append-drop (length front) word) ∙ ap (λ list. list ++ drop (length front) word) (sym (equal front (take (length front) word) is))

batch_here : (word : List ℕ) (behind : List (List ℕ)) → names_batch word ≡ true → NameBatch (word ∷ behind)
unfolding names_batch
batch_here word behind is = elim (one_true (bytes_eq word (codes "--batch")) (starts_with nat_eq word (codes "--batch=")) is) [
  | inl same ↦ inl (alone_here word (codes "--batch") behind (equal word (codes "--batch") same))
  | inr front ↦ inr (drop (length (codes "--batch=")) word, alone_here word (codes "--batch=" ++ drop (length (codes "--batch=")) word) behind (with_front word (codes "--batch=") front))
]

waits_here : (word : List ℕ) (behind : List (List ℕ)) → waits_at word behind ≡ true → MayWait (word ∷ behind)
waits_here word behind is = elim (one_true (names_ordered word behind) (names_batch word) is) [
  | inl ordered ↦ inl (ordered_here word behind ordered)
  | inr batch ↦ inr (batch_here word behind batch)
]

found_waits : (words : List (List ℕ)) → waits words ≡ true → MayWait words
found_waits [] is = cc
found_waits (word ∷ behind) is = elim (one_true (waits_at word behind) (waits behind) is) [
  | inl here ↦ waits_here word behind here
  | inr later ↦ later_waits behind word (found_waits behind later)
]

found_before : (before words : List (List ℕ)) → waits words ≡ true → waits (before ++ words) ≡ true
found_before [] words is = is
found_before (word ∷ before) words is = rw (found_before before words is) (or_true (waits_at word (before ++ words)))

named_ordered : (words : List (List ℕ)) → NameOrdered words → waits words ≡ true
unfolding names_ordered
named_ordered words (inl two) = ap waits two.words_are ∙ found_before two.before (codes "--mode" ∷ codes "ordered" ∷ two.behind) refl
named_ordered words (inr one) = ap waits one.words_are ∙ found_before one.before (codes "--mode=ordered" ∷ one.behind) refl

-- a word that names a batch is found
found_batch : (word : List ℕ) (behind : List (List ℕ)) → names_batch word ≡ true → waits (word ∷ behind) ≡ true
found_batch word behind is = ap (λ b. (names_ordered word behind || b) || waits behind) is ∙ ap (λ b. b || waits behind) (or_true (names_ordered word behind))

names_joined : (value : List ℕ) → names_batch (codes "--batch=" ++ value) ≡ true
unfolding names_batch
names_joined value = refl

names_alone : names_batch (codes "--batch") ≡ true
unfolding names_batch
names_alone = refl

named_batch : (words : List (List ℕ)) → NameBatch words → waits words ≡ true
named_batch words (inl alone) = ap waits alone.words_are ∙ found_before alone.before (codes "--batch" ∷ alone.behind) (found_batch (codes "--batch") alone.behind names_alone)
named_batch words (inr joined) =
    ap waits joined.1.words_are
    ∙ found_before joined.1.before ((codes "--batch=" ++ joined.0) ∷ joined.1.behind) (found_batch (codes "--batch=" ++ joined.0) joined.1.behind (names_joined joined.0))

named_waits : (words : List (List ℕ)) → MayWait words → waits words ≡ true
named_waits words (inl ordered) = named_ordered words ordered
named_waits words (inr batch) = named_batch words batch

pub tells_waits : (words : List (List ℕ)) (answer : Bool) → waits words ≡ answer → IsTrue answer ↔ MayWait words
tells_waits words answer is = (λ yes_. found_waits words (is ∙ yes_), λ named. sym is ∙ named_waits words named)

pub none_waits : {X : Type 0} (f : X → List ℕ) (list : List X) → length list < 1 → waits (map f list) ≡ false
none_waits f [] short = refl
none_waits f (x ∷ list) short = absurd (omega (arith, short))
