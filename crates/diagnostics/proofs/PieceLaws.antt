-- A line that is put in pieces.
use Rattle.std.proofs.Common.{◌≡◌, ◌∙◌, sym, ap, refl, ℕ, suc, ◌+◌, ◌≤◌, List, [], ◌∷◌, ◌++◌, length, take, arith, append_assoc, inl, inr, drop, ◌<◌, slice_index_or}
use Rattle.std.specs.List.{flat_map}
use Rattle.std.proofs.lemmas.Grind.{flat_map-append}
use Rattle.std.proofs.lemmas.List.{take_more, append-nil}
use Rattle.diagnostics.specs.declared.line.Piece.{Piece}
use Rattle.diagnostics.specs.Pieces.{piece_text, pieces_text}
use Rattle.std.specs.Prelude.{Some, None, Ok, Err, OnOk}
use Rattle.std.specs.declared.option.Option.{Option}
use Rattle.std.specs.declared.result.Result.{Result}
use Rattle.std.proofs.lemmas.Grind.{common_steps}
use Rattle.fem_text.specs.declared.sink.Failed.{Failed}
use Rattle.fem_text.specs.declared.counts.Counts.{Counts}
use Rattle.fem_text.specs.Counts.{HasCause}
use Rattle.fem_text.specs.Outside.{appended, TookPrefix}
use Rattle.diagnostics.specs.Lines.{TookLine}

-- all of a text is a prefix too
pub took_whole : (out now : Option (List ℕ)) (text : List ℕ) → now ≡ appended out text → TookPrefix out now text
took_whole out now text e =
    let whole : take (length text) text ≡ text = grind (arith, common_steps) in
    (length text, omega arith, rw whole e)

appended_both : (out : Option (List ℕ)) (front back : List ℕ) → appended (appended out front) back ≡ appended out (front ++ back)
appended_both None front back = refl
appended_both (Some before) front back = ap Some (append_assoc before front back)

-- the front, and all of the back
pub took_both : (out mid now : Option (List ℕ)) (front back : List ℕ) → mid ≡ appended out front → now ≡ appended mid back → now ≡ appended out (front ++ back)
took_both out mid now front back e f = f ∙ ap (λ taken. appended taken back) e ∙ appended_both out front back

-- the front, and a prefix of the next piece
pub took_into : (out mid now : Option (List ℕ)) (front piece rest : List ℕ) → mid ≡ appended out front → TookPrefix mid now piece → TookPrefix out now (front ++ piece ++ rest)
took_into out mid now front piece rest e (n, short, f) =
    (length front + n, longer n front piece rest short, took_both out mid now front (take n piece) e f ∙ ap (λ text. appended out text) (sym (part n front piece rest short)))
  where
    longer : (n : ℕ) (front piece rest : List ℕ) → n ≤ length piece → length front + n ≤ length (front ++ piece ++ rest)
    longer n front piece rest h = grind (arith, common_steps)

    inside : (n : ℕ) (piece rest : List ℕ) → n ≤ length piece → take n (piece ++ rest) ≡ take n piece
    inside n piece rest h = grind (arith, common_steps)

    part : (n : ℕ) (front piece rest : List ℕ) → n ≤ length piece → take (length front + n) (front ++ piece ++ rest) ≡ front ++ take n piece
    part n [] piece rest h = ap (λ m. take m (piece ++ rest)) (omega arith) ∙ inside n piece rest h
    part n (x ∷ front) piece rest h = ap (λ m. take m (x ∷ (front ++ piece ++ rest))) (counted n (length front)) ∙ ap (λ xs. x ∷ xs) (part n front piece rest h)
      where
        counted : (n m : ℕ) → suc m + n ≡ suc (m + n)
        counted n m = omega arith

-- what putting a line says, whether it failed or not
pub told_pieces : (out now : Option (List ℕ)) (counts counts_now : Counts) (line : List ℕ) (answer : Result (Unit {0}) Failed) → OnOk answer (now ≡ appended out line) →
    TookPrefix out now line → HasCause counts counts_now answer → TookLine out now counts counts_now line
told_pieces out now counts counts_now line (Ok u) ok part cause = inl (cause.kept, ok)
told_pieces out now counts counts_now line (Err e) ok part cause = inr (cause.failed, part)

-- no pieces yet
pub none_taken : (out : Option (List ℕ)) → out ≡ appended out (pieces_text [])
unfolding pieces_text
none_taken None = refl
none_taken (Some before) = ap Some (sym (append-nil before))

flat_more : {A B : Type 0} (f : A → List B) (xs : List A) (k : ℕ) (d : A) → k < length xs → flat_map f (take (k + 1) xs) ≡ flat_map f (take k xs) ++ f (slice_index_or xs k d)
flat_more f xs k d h =
    ap (flat_map f) (take_more xs k d h) ∙ flat_map-append f (take k xs) (slice_index_or xs k d ∷ []) ∙ ap (λ ys. flat_map f (take k xs) ++ ys) (append-nil (f (slice_index_or xs k d)))

-- one piece more
pub piece_more : (pieces : List Piece) (i : ℕ) (d : Piece) → i < length pieces → pieces_text (take (i + 1) pieces) ≡ pieces_text (take i pieces) ++ piece_text (slice_index_or pieces i d)
unfolding pieces_text
piece_more pieces i d h = flat_more piece_text pieces i d h

-- the pieces before one, this one, and the rest
pub pieces_around : (pieces : List Piece) (i : ℕ) (d : Piece) → i < length pieces →
    pieces_text pieces ≡ pieces_text (take i pieces) ++ piece_text (slice_index_or pieces i d) ++ pieces_text (drop (i + 1) pieces)
unfolding pieces_text
pieces_around pieces i d h =
    let cut : pieces ≡ take (i + 1) pieces ++ drop (i + 1) pieces = grind (arith, common_steps) in
    ap (flat_map piece_text) cut ∙ flat_map-append piece_text (take (i + 1) pieces) (drop (i + 1) pieces) ∙ ap (λ front. front ++ flat_map piece_text (drop (i + 1) pieces)) (flat_more piece_text pieces i d h)
