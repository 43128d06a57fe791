-- The front of a row.
use Rattle.std.proofs.Common.{◌≡◌, ◌∙◌, sym, ap, refl, ℕ, zero, suc, List, [], ◌∷◌, drop}
use Rattle.std.specs.Prelude.{Ok, Err, Some, None}
use Rattle.std.specs.declared.option.Option.{Option}
use Rattle.std.specs.Option.{ok_or}
use Rattle.std.specs.declared.result.Result.{Result}
use Rattle.std.specs.List.{slice_get}
use Rattle.fem_fixed.specs.Numbers.{id_of}
use Rattle.fem_text.specs.Words.{◌>>=◌, or_fault, id_at}
use Rattle.fem_text.proofs.Reading.{get_behind}
use Rattle.msh_read.specs.declared.fault.MshKind.{MshKind}
use Rattle.msh_read.specs.declared.fault.MshKind.TheVariants as kinds
use Rattle.msh_read.specs.declared.shape.Shape.{Shape}
use Rattle.msh_read.specs.Shapes.{shape_of}
use Rattle.msh_read.specs.Elements.{front_of}

drops : (n : ℕ) (words : List (List ℕ)) → drop 1 (drop n words) ≡ drop (suc n) words
drops zero [] = refl
drops zero (x ∷ xs) = refl
drops (suc n) [] = refl
drops (suc n) (x ∷ xs) = drops n xs

pub id_behind : (kind : MshKind) (words rest : List (List ℕ)) (place : ℕ) → rest ≡ drop place words → id_at kind rest 0 ≡ id_at kind words place
unfolding id_at
id_behind kind words rest place h =
    let found : slice_get rest 0 ≡ slice_get words place = ap (λ list. slice_get list 0) h ∙ get_behind words place in
    ap (λ word. or_fault kind word >>= (λ w. or_fault kind (id_of w))) found

same_fault : (kind : MshKind) (found : Option ℕ) → ok_or found kind ≡ or_fault kind found
same_fault kind (Some id) = refl
same_fault kind None = refl

-- the id of the first word
pub id_first : (kind : MshKind) (words rest : List (List ℕ)) (word : List ℕ) (found : Option ℕ) → words ≡ word ∷ rest → found ≡ id_of word → ok_or found kind ≡ id_at kind words 0
unfolding id_at
id_first kind words rest word found h f = ap (λ id. ok_or id kind) f ∙ same_fault kind (id_of word) ∙ ap (λ all. id_at kind all 0) (sym h)

pub no_id : (kind : MshKind) (words : List (List ℕ)) → words ≡ [] → Err kind ≡ id_at kind words 0
unfolding id_at
no_id kind words h = ap (λ all. id_at kind all 0) (sym h)

pub two_behind : (words first second : List (List ℕ)) → first ≡ drop 1 words → second ≡ drop 1 first → second ≡ drop 2 words
two_behind words first second f s = s ∙ ap (drop 1) f ∙ drops 1 words

pub three_behind : (words first second third : List (List ℕ)) → first ≡ drop 1 words → second ≡ drop 1 first → third ≡ drop 1 second → third ≡ drop 3 words
three_behind words first second third f s t = t ∙ ap (drop 1) (two_behind words first second f s) ∙ drops 2 words

pub no_type : (words first : List (List ℕ)) (number : ℕ) (kind : MshKind) → Ok number ≡ id_at kinds.ElementLine words 0 → first ≡ drop 1 words → Err kind ≡ id_at kinds.ElementLine first 0 →
    Err kind ≡ front_of words
unfolding front_of
no_type words first number kind n f t = rw (sym n, sym (id_behind kinds.ElementLine words first 1 f), sym t) refl

pub no_tags : (words first second : List (List ℕ)) (number type : ℕ) (kind : MshKind) → Ok number ≡ id_at kinds.ElementLine words 0 → first ≡ drop 1 words →
    Ok type ≡ id_at kinds.ElementLine first 0 → second ≡ drop 1 first → Err kind ≡ id_at kinds.ElementLine second 0 → Err kind ≡ front_of words
unfolding front_of
no_tags words first second number type kind n f t s g =
    rw (sym n, sym (id_behind kinds.ElementLine words first 1 f), sym t, sym (id_behind kinds.ElementLine words second 2 (two_behind words first second f s)), sym g) refl

pub front_given : (words first second : List (List ℕ)) (number type tags : ℕ) (shape : Result Shape MshKind) → Ok number ≡ id_at kinds.ElementLine words 0 → first ≡ drop 1 words →
    Ok type ≡ id_at kinds.ElementLine first 0 → second ≡ drop 1 first → Ok tags ≡ id_at kinds.ElementLine second 0 → shape ≡ shape_of type →
    (shape >>= (λ s. Ok (record { shape = s; tags = tags }))) ≡ front_of words
unfolding front_of
front_given words first second number type tags shape n f t s g is =
    rw (sym n, sym (id_behind kinds.ElementLine words first 1 f), sym t, sym (id_behind kinds.ElementLine words second 2 (two_behind words first second f s)), sym g, is) refl
