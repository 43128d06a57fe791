-- The texts of several names, one after another.
use Rattle.std.proofs.Common.{◌≡◌, ◌∙◌, ap, sym, subst, refl, ℕ, zero, suc, ◌+◌, ◌<◌, ◌≤◌, List, [], ◌∷◌, ◌++◌, map, length, take, drop, Bool, true, false, cond, arith, All, append_assoc, append-nil, ◌||◌}
use Rattle.std.specs.Prelude.{Some, None, Ok, Err, IsSome, is_some, slice_index_or}
use Rattle.std.specs.declared.option.Option.{Option}
use Rattle.std.specs.List.{list_any}
use Rattle.std.specs.Str.{bytes_eq}
use Rattle.std.proofs.lemmas.Grind.{common_steps}
use Rattle.std.proofs.lemmas.Slice.Eq.{bytes_eq-Decides}
use Rattle.std.proofs.lemmas.List.{map-append, length-append, take_more}
use Rattle.std.proofs.lemmas.List.Elements.{All-append}
use Rattle.std.proofs.lemmas.List.Sums.{fold_push}
use Rattle.fem_text.specs.declared.counts.Counts.{Counts}
use Rattle.fem_text.specs.Counts.{after_call, after_good}
use Rattle.fem_text.specs.Outside.{Held}
use Rattle.fem_text.specs.Memory.{Named, held_of}
use Rattle.batch_texts.specs.declared.shelf.NameFault.{NameFault}
use Rattle.batch_texts.specs.declared.gather.JobName.{JobName}
use Rattle.batch_texts.specs.Shelf.{size_limit, size_of, is_shelved, ShelvesText, stays, adds, AddsText, IsNameFault, after_name, is_failed}
use Rattle.batch_texts.specs.Names.{names_of, with_name, with_names, StandsIn, seen_name, read_names, ShelvesNames, StopsAtJob}
use Rattle.batch_texts.proofs.Shelves.{size_more}

-- a name is among the names of texts exactly where it has one
named_there : (name : List ℕ) (texts : Named) → list_any (bytes_eq name) (names_of texts) ≡ is_shelved texts name
named_there name [] = refl
named_there name (text ∷ more) =
    elim (bytes_eq name text.0) as (λ b. (b || list_any (bytes_eq name) (names_of more)) ≡ is_some (cond b (Some text.1) (held_of more name))) [
      | true ↦ refl
      | false ↦ named_there name more
    ]

all_none : {A : Type 0} (P : A → Type 0) → All P []
all_none P k d lt = absurd (omega (arith, lt))

all_one : {A : Type 0} (P : A → Type 0) (x : A) → P x → All P (x ∷ [])
all_one P x h zero d lt = h
all_one P x h (suc k) d lt = absurd (omega (arith, lt))

-- no names yet
pub no_names : (holds : Option Held) (texts : Named) (before : Counts) → ShelvesNames holds [] texts texts before before
no_names holds texts before = record {
  added = [];
  new_is = sym (append-nil texts);
  names_are = refl;
  stand = all_none (StandsIn holds);
  few = λ few. few;
  reads = refl;
}

module _ (holds : Option Held) (front : List (List ℕ)) (name : List ℕ) (old mid new : Named) (before reached now : Counts) (shelves : ShelvesNames holds front old mid before reached) where
  next_names : with_names (names_of old) (front ++ name ∷ []) ≡ with_name (names_of mid) name
  next_names = fold_push with_name (names_of old) front name ∙ ap (λ names. with_name names name) (sym shelves.names_are)

  no_more : (is : Bool) → is_shelved mid name ≡ is → is ≡ true → with_name (names_of mid) name ≡ names_of mid
  no_more is e there = ap (λ b. cond b (names_of mid) (names_of mid ++ name ∷ [])) (named_there name mid ∙ e ∙ there)

  one_more_name : is_shelved mid name ≡ false → with_name (names_of mid) name ≡ names_of mid ++ name ∷ []
  one_more_name none = ap (λ b. cond b (names_of mid) (names_of mid ++ name ∷ [])) (named_there name mid ∙ none)

  stayed : is_shelved mid name ≡ true → new ≡ mid → now ≡ reached → ShelvesNames holds (front ++ name ∷ []) old new before now
  stayed there same none = record {
    added = shelves.added;
    new_is = same ∙ shelves.new_is;
    names_are = ap names_of same ∙ sym (next_names ∙ no_more true there refl);
    stand = shelves.stand;
    few = λ few. subst (λ texts. size_of texts ≤ size_limit) (sym same) (shelves.few few);
    reads = none ∙ shelves.reads;
  }

  count_more : (added : Named) (text : List ℕ × List ℕ) → after_call false (after_good (length added) before) ≡ after_good (length (added ++ text ∷ [])) before
  count_more added text = let e : suc (length added) ≡ length (added ++ text ∷ []) = omega (arith, length-append added (text ∷ [])) in ap (λ n. after_good n before) e

  added_one : is_shelved mid name ≡ false → (add : AddsText holds name mid new) → now ≡ after_call false reached → ShelvesNames holds (front ++ name ∷ []) old new before now
  added_one none add read = record {
    added = shelves.added ++ (name, add.text) ∷ [];
    new_is = add.added ∙ ap (λ texts. texts ++ (name, add.text) ∷ []) shelves.new_is ∙ append_assoc old shelves.added ((name, add.text) ∷ []);
    names_are = ap names_of add.added ∙ map-append (λ (text : List ℕ × List ℕ). text.0) mid ((name, add.text) ∷ []) ∙ sym (next_names ∙ one_more_name none);
    stand = All-append (StandsIn holds) shelves.added ((name, add.text) ∷ []) shelves.stand (all_one (StandsIn holds) (name, add.text) add.stands);
    few = λ few. let e : size_of new ≡ size_of mid + length add.text = ap size_of add.added ∙ size_more mid (name, add.text) in subst (λ n. n ≤ size_limit) (sym e) add.few;
    reads = read ∙ ap (after_call false) shelves.reads ∙ count_more shelves.added (name, add.text);
  }

  -- the next name is shelved
  pub shelved_next : ShelvesText holds name mid new → now ≡ after_name mid name (Ok tt) reached → ShelvesNames holds (front ++ name ∷ []) old new before now
  shelved_next (stays there same) read = stayed there same (read ∙ ap (λ b. cond b reached (after_call false reached)) there)
  shelved_next (adds none add) read = added_one none add (read ∙ ap (λ b. cond b reached (after_call false reached)) none)

module _ (reads : List JobName) (at : ℕ) (d : JobName) (lt : at < length reads) where
  abbrev read : JobName
  read = slice_index_or reads at d

  taken_one : take (at + 1) reads ≡ take at reads ++ read ∷ []
  taken_one = take_more reads at d lt

  cut_at : reads ≡ take at reads ++ read ∷ drop (at + 1) reads
  cut_at = grind (arith, common_steps)

  names_taken : read_names (map seen_name (take (at + 1) reads)) ≡ read_names (map seen_name (take at reads)) ++ read.name.now ∷ []
  names_taken =
      ap (λ list. read_names (map seen_name list)) taken_one ∙ ap read_names (map-append seen_name (take at reads) (read ∷ [])) ∙ map-append (λ (r : ℕ × List ℕ). r.1) (map seen_name (take at reads)) (seen_name read ∷ [])

  reads_cut : map seen_name reads ≡ map seen_name (take at reads) ++ (read.job, read.name.now) ∷ map seen_name (drop (at + 1) reads)
  reads_cut = ap (map seen_name) cut_at ∙ map-append seen_name (take at reads) (read ∷ drop (at + 1) reads)

  module _ (holds holds_mid : Option Held) (old mid new : Named) (before reached now : Counts) (same : holds_mid ≡ holds) (shelves : ShelvesNames holds (read_names (map seen_name (take at reads))) old mid before reached) where
    -- the loop goes on
    pub names_more : ShelvesText holds_mid read.name.now mid new → now ≡ after_name mid read.name.now (Ok tt) reached → ShelvesNames holds (read_names (map seen_name (take (at + 1) reads))) old new before now
    names_more text call =
        subst (λ list. ShelvesNames holds list old new before now) (sym names_taken)
        (shelved_next holds (read_names (map seen_name (take at reads))) read.name.now old mid new before reached now shelves (subst (λ h. ShelvesText h read.name.now mid new) same text) call)

    -- a name is not shelved
    pub names_stop : (fault : NameFault) → IsNameFault holds_mid read.name.now mid fault → new ≡ mid → now ≡ after_name mid read.name.now (Err fault) reached →
        StopsAtJob holds (map seen_name reads) old new before now read.job fault
    names_stop fault cause kept call = record {
      front = map seen_name (take at reads);
      name = read.name.now;
      behind = map seen_name (drop (at + 1) reads);
      reads_are = reads_cut;
      reached = reached;
      shelves = subst (λ texts. ShelvesNames holds (read_names (map seen_name (take at reads))) old texts before reached) (sym kept) shelves;
      cause = subst (λ texts. IsNameFault holds read.name.now texts fault) (sym kept) (subst (λ h. IsNameFault h read.name.now mid fault) same cause);
      read = call ∙ ap (λ b. cond b reached (after_call (is_failed fault) reached)) cause.new;
    }

-- all names are shelved
pub names_done : (holds : Option Held) (reads : List JobName) (at : ℕ) (old new : Named) (before now : Counts) → length reads ≤ at → ShelvesNames holds (read_names (map seen_name (take at reads))) old new before now →
    ShelvesNames holds (read_names (map seen_name reads)) old new before now
names_done holds reads at old new before now end shelves =
    let whole : take at reads ≡ reads = grind (arith, common_steps) in
    subst (λ list. ShelvesNames holds (read_names (map seen_name list)) old new before now) whole shelves

-- ---- one name alone
pub one_name : (holds : Option Held) (name : List ℕ) (new : Named) (before now : Counts) → ShelvesText holds name [] new → now ≡ after_name [] name (Ok tt) before → ShelvesNames holds (name ∷ []) [] new before now
one_name holds name new before now text call = shelved_next holds [] name [] [] new before before now (no_names holds [] before) text call

found_alone : (name text : List ℕ) → held_of ((name, text) ∷ []) name ≡ Some text
found_alone name text = ap (λ b. cond b (Some text) None) ((bytes_eq-Decides name name).1 refl)

pub one_there : (holds : Option Held) (name : List ℕ) (new : Named) → ShelvesText holds name [] new → IsSome (held_of new name)
one_there holds name new (stays there same) = absurd (cc)
one_there holds name new (adds none add) = subst IsSome (sym (ap (λ texts. held_of texts name) add.added ∙ found_alone name add.text)) refl
