-- Lists of texts, of which all are true to a store.
use Rattle.std.proofs.Common.{◌≡◌, ◌∙◌, ap, sym, subst, refl, ℕ, zero, suc, ◌+◌, ◌<◌, ◌≤◌, List, [], ◌∷◌, ◌++◌, length, Bool, true, false, cond, arith, All, append_assoc, append-nil, ◌||◌}
use Rattle.std.specs.Prelude.{Some, None, is_some}
use Rattle.std.specs.List.{list_any}
use Rattle.std.specs.Str.{bytes_eq}
use Rattle.std.proofs.lemmas.Option.{same_Some}
use Rattle.std.proofs.lemmas.Slice.Eq.{bytes_eq-Decides}
use Rattle.std.proofs.lemmas.List.Sums.{fold-append}
use Rattle.fem_text.specs.Outside.{Held}
use Rattle.fem_text.specs.Memory.{Named, held_of}
use Rattle.batch_texts.specs.declared.shelf.NameFault.{NameFault}
use Rattle.batch_texts.specs.declared.shelf.NameFault.TheVariants.{Absent, Size, Failed, NoMemory}
use Rattle.batch_texts.specs.Shelf.{size_limit, size_of, is_shelved, IsNameFault}
use Rattle.batch_texts.specs.Names.{names_of, with_name, with_names, StandsIn, AreTextsOf}

pub all_none : {A : Type 0} (P : A → Type 0) → All P []
all_none P k d lt = absurd (omega (arith, lt))

pub all_head : {A : Type 0} (P : A → Type 0) (x : A) (xs : List A) → All P (x ∷ xs) → P x
all_head P x xs all = all 0 x (omega arith)

pub all_tail : {A : Type 0} (P : A → Type 0) (x : A) (xs : List A) → All P (x ∷ xs) → All P xs
all_tail P x xs all k d lt = all (suc k) d (omega (arith, lt))

pub all_front : {A : Type 0} (P : A → Type 0) (front back : List A) → All P (front ++ back) → All P front
all_front P [] back all k d lt = absurd (omega (arith, lt))
all_front P (y ∷ ys) back all zero d lt = all_head P y (ys ++ back) all
all_front P (y ∷ ys) back all (suc k) d lt = all_front P ys back (all_tail P y (ys ++ back) all) k d (omega (arith, lt))

pub all_middle : {A : Type 0} (P : A → Type 0) (front : List A) (x : A) (back : List A) → All P (front ++ x ∷ back) → P x
all_middle P [] x back all = all_head P x back all
all_middle P (y ∷ ys) x back all = all_middle P ys x back (all_tail P y (ys ++ x ∷ back) all)

-- a name is among the names of texts exactly where it has one
pub named_there : (name : List ℕ) (texts : Named) → list_any (bytes_eq name) (names_of texts) ≡ is_shelved texts name
named_there name [] = refl
named_there name (text ∷ more) =
    elim (bytes_eq name text.0) as (λ b. (b || list_any (bytes_eq name) (names_of more)) ≡ is_some (cond b (Some text.1) (held_of more name))) [
      | true ↦ refl
      | false ↦ named_there name more
    ]

-- a name more, which isn't there yet, or which is
pub new_name : (texts : Named) (name : List ℕ) → is_shelved texts name ≡ false → with_name (names_of texts) name ≡ names_of texts ++ name ∷ []
new_name texts name none = ap (λ b. cond b (names_of texts) (names_of texts ++ name ∷ [])) (named_there name texts ∙ none)

pub old_name : (texts : Named) (name : List ℕ) → is_shelved texts name ≡ true → with_name (names_of texts) name ≡ names_of texts
old_name texts name there = ap (λ b. cond b (names_of texts) (names_of texts ++ name ∷ [])) (named_there name texts ∙ there)

-- names are only added behind
one_added : (names : List (List ℕ)) (name : List ℕ) (b : Bool) → (added : List (List ℕ)) × (cond b names (names ++ name ∷ []) ≡ names ++ added)
one_added names name true = ([], sym (append-nil names))
one_added names name false = (name ∷ [], refl)

pub names_grow : (more names : List (List ℕ)) → (added : List (List ℕ)) × (with_names names more ≡ names ++ added)
names_grow [] names = ([], sym (append-nil names))
names_grow (name ∷ more) names =
    let one = one_added names name (list_any (bytes_eq name) names) in
    let rest = names_grow more (with_name names name) in
    (one.0 ++ rest.0, rest.1 ∙ ap (λ list. list ++ rest.0) one.1 ∙ append_assoc names one.0 rest.0)

-- the place of a name among texts
record Cut (names : List (List ℕ)) (name : List ℕ) (texts : Named) : Type 0 where
  pub front : Named
  pub text : List ℕ
  pub back : Named
  pub texts_are : texts ≡ front ++ (name, text) ∷ back
  pub names_are : names_of front ≡ names

cut : (names : List (List ℕ)) (name : List ℕ) (added : List (List ℕ)) (texts : Named) → names_of texts ≡ names ++ name ∷ added → Cut names name texts
cut [] name added [] e = cc
cut [] name added (x ∷ xs) e = let here : x.0 ≡ name = cc in record { front = []; text = x.1; back = xs; texts_are = ap {B = Named} (λ n. (n, x.1) ∷ xs) here; names_are = refl }
cut (n ∷ ns) name added [] e = cc
cut (n ∷ ns) name added (x ∷ xs) e =
    let here : x.0 ≡ n = cc in
    let behind : names_of xs ≡ ns ++ name ∷ added = cc in
    let rest = cut ns name added xs behind in
    record { front = x ∷ rest.front; text = rest.text; back = rest.back; texts_are = ap (λ list. x ∷ list) rest.texts_are; names_are = ap (λ list. x.0 ∷ list) rest.names_are ∙ ap (λ m. m ∷ ns) here }

size_cut : (front : Named) (name text : List ℕ) (back : Named) → size_of (front ++ (name, text) ∷ back) ≡ size_of front + (length text + size_of back)
size_cut [] name text back = omega arith
size_cut (x ∷ xs) name text back = omega (arith, size_cut xs name text back)

-- a cause that is no want of memory and no fault of a read
abbrev pub IsReal : NameFault → Type 0
IsReal Absent = Unit {0}
IsReal Size = Unit {0}
IsReal Failed = ⊥
IsReal NoMemory = ⊥

module _ (held : Held) where
  abbrev Stands : List ℕ × List ℕ → Type 0
  Stands text = StandsIn (Some held) text

  -- texts of the same names are the same
  pub same_texts : (a b : Named) → names_of a ≡ names_of b → All Stands a → All Stands b → a ≡ b
  same_texts [] [] e h k = refl
  same_texts [] (y ∷ ys) e h k = cc
  same_texts (x ∷ xs) [] e h k = cc
  same_texts (x ∷ xs) (y ∷ ys) e h k =
      let name : x.0 ≡ y.0 = cc in
      let rest : names_of xs ≡ names_of ys = cc in
      let text : x.1 ≡ y.1 = same_Some x.1 y.1 (sym (all_head Stands x xs h) ∙ ap held name ∙ all_head Stands y ys k) in
      let first : x ≡ y = λ i. (name i, text i) in
      ap (λ t. t ∷ xs) first ∙ ap (λ list. y ∷ list) (same_texts xs ys rest (all_tail Stands x xs h) (all_tail Stands y ys k))

  pub one_list_of_texts : (names : List (List ℕ)) (a b : Named) → AreTextsOf (Some held) names a → AreTextsOf (Some held) names b → a ≡ b
  one_list_of_texts names a b h k = same_texts a b (h.names_are ∙ sym k.names_are) h.stand k.stand

  -- what is found among them is what the store holds
  pub found_stands : (texts : Named) (name text : List ℕ) → All Stands texts → held_of texts name ≡ Some text → held name ≡ Some text
  found_stands [] name text all is = cc
  found_stands (first ∷ texts) name text all is = by_first (bytes_eq name first.0) refl (found_stands texts name text (all_tail Stands first texts all)) is
    where
      by_first : (b : Bool) → bytes_eq name first.0 ≡ b → (held_of texts name ≡ Some text → held name ≡ Some text) → cond b (Some first.1) (held_of texts name) ≡ Some text → held name ≡ Some text
      by_first true e behind found = ap held ((bytes_eq-Decides name first.0).0 e) ∙ all_head Stands first texts all ∙ found
      by_first false e behind found = behind found

  pub no_texts : AreTextsOf (Some held) [] []
  no_texts = record { names_are = refl; stand = all_none Stands; few = omega arith }

  -- a name with a text among texts that are few enough
  record HasPlace (name : List ℕ) (before : Named) : Type 0 where
    pub text : List ℕ
    pub here : held name ≡ Some text
    pub few : size_of before + length text ≤ size_limit

  has_place : (front mid : List (List ℕ)) (name : List ℕ) (texts before : Named) → AreTextsOf (Some held) (front ++ name ∷ mid) texts → AreTextsOf (Some held) front before → is_shelved before name ≡ false → HasPlace name before
  has_place front mid name texts before all some none =
      let grown = names_grow mid (names_of before ++ name ∷ []) in
      let named : names_of texts ≡ names_of before ++ name ∷ grown.0 =
      all.names_are ∙ fold-append with_name [] front (name ∷ mid) ∙ ap (λ names. with_names (with_name names name) mid) (sym some.names_are)
      ∙ ap (λ names. with_names names mid) (new_name before name none) ∙ grown.1 ∙ append_assoc (names_of before) (name ∷ []) grown.0 in
      let place = cut (names_of before) name grown.0 texts named in
      let stand : All Stands (place.front ++ (name, place.text) ∷ place.back) = subst (All Stands) place.texts_are all.stand in
      let same : place.front ≡ before = same_texts place.front before place.names_are (all_front Stands place.front ((name, place.text) ∷ place.back) stand) some.stand in
      record {
        text = place.text;
        here = all_middle Stands place.front (name, place.text) place.back stand;
        few = short (size_of texts) (size_of place.front) (size_of before) (length place.text) (size_of place.back) all.few (ap size_of place.texts_are ∙ size_cut place.front name place.text place.back) (ap size_of same);
      }
    where
      short : (whole part size text back : ℕ) → whole ≤ size_limit → whole ≡ part + (text + back) → part ≡ size → size + text ≤ size_limit
      short whole part size text back few e f = omega (arith, few, e, f)

  -- so it isn't without one
  pub no_stop : (front mid : List (List ℕ)) (name : List ℕ) (texts before : Named) (fault : NameFault) → AreTextsOf (Some held) (front ++ name ∷ mid) texts → AreTextsOf (Some held) front before →
      IsNameFault (Some held) name before fault → IsReal fault → ⊥
  no_stop front mid name texts before Absent all some is real =
      let place = has_place front mid name texts before all some is.new in
      let e : Some place.text ≡ None = sym place.here ∙ is.cause in cc
  no_stop front mid name texts before Size all some is real =
      let place = has_place front mid name texts before all some is.new in
      too_many (size_of before) (length place.text) (length is.cause.0) place.few is.cause.2 (ap length (same_Some place.text is.cause.0 (sym place.here ∙ is.cause.1)))
    where
      too_many : (size text other : ℕ) → size + text ≤ size_limit → size_limit < size + other → text ≡ other → ⊥
      too_many size text other few much e = omega (arith, few, much, e)
  no_stop front mid name texts before Failed all some is real = absurd real
  no_stop front mid name texts before NoMemory all some is real = absurd real

  -- a name is without a text for one cause
  pub one_cause : (name : List ℕ) (before : Named) (fault other : NameFault) → IsNameFault (Some held) name before fault → IsNameFault (Some held) name before other → IsReal fault → IsReal other → fault ≡ other
  one_cause name before Absent Absent h k r s = refl
  one_cause name before Absent Size h k r s = let e : None ≡ Some k.cause.0 = sym h.cause ∙ k.cause.1 in cc
  one_cause name before Absent Failed h k r s = absurd s
  one_cause name before Absent NoMemory h k r s = absurd s
  one_cause name before Size Absent h k r s = let e : None ≡ Some h.cause.0 = sym k.cause ∙ h.cause.1 in cc
  one_cause name before Size Size h k r s = refl
  one_cause name before Size Failed h k r s = absurd s
  one_cause name before Size NoMemory h k r s = absurd s
  one_cause name before Failed other h k r s = absurd r
  one_cause name before NoMemory other h k r s = absurd r
