-- Steps of the readers.
use Rattle.std.proofs.Common.{◌≡◌, ◌∙◌, sym, ap, ℕ, ◌+◌, ◌<◌, List, [], ◌∷◌, ◌++◌, subst, inl, inr}
use Rattle.std.specs.Prelude.{Ok, None}
use Rattle.std.specs.declared.result.Result.{Result}
use Rattle.std.specs.List.{slice_get}
use Rattle.fem_text.specs.declared.fault.TextFault.{TextFault}
use Rattle.fem_text.specs.WordLines.{Lines, behind, behind_comments, text_lines}
use Rattle.fem_text.specs.Reading.{outcome, IsFault, ReadsAll, FailsFirst}
use Rattle.fem_text.proofs.Reading.{reads_more, fails_among, behind_more}
use Rattle.matrix_market.specs.declared.fault.MarketKind.{MarketKind}
use Rattle.matrix_market.specs.declared.fault.MarketKind.TheVariants.{TooFew}
use Rattle.matrix_market.specs.Market.{Form, HasBanner, HasSize, Says, Follows, FaultIn, in_entries, in_rest, from_size, from_entries, NoMemoryOr}

-- one entry more was read
pub entry_step : {X : Type 0} (reading : List (List ℕ) → Result X MarketKind) (lines rest now : Lines) (count : ℕ) (values more : List X) (value : X) →
    ReadsAll TooFew (λ before. reading) lines count values → rest ≡ behind count lines → outcome TooFew reading (slice_get rest.ahead 0) ≡ Ok value → now ≡ behind 1 rest →
    more ≡ values ++ value ∷ [] → ReadsAll TooFew (λ before. reading) lines (count + 1) more × (now ≡ behind (count + 1) lines)
entry_step reading lines rest now count values more value before at given next added = (
  reads_more TooFew (λ before. reading) lines count values more value before
      (ap (λ (lines : Lines). outcome TooFew reading (slice_get lines.ahead 0)) (sym at) ∙ given) added,
  next ∙ ap (behind 1) at ∙ behind_more lines count,
)

-- a fault of the next line is the first one
pub entry_fails : {X : Type 0} (reading : List (List ℕ) → Result X MarketKind) (lines rest : Lines) (place count : ℕ) (values : List X) (fault : TextFault MarketKind) →
    ReadsAll TooFew (λ before. reading) lines place values → rest ≡ behind place lines → place < count → IsFault TooFew reading rest 0 fault.kind fault.line →
    NoMemoryOr fault (FailsFirst TooFew (λ before. reading) lines count fault.kind fault.line)
entry_fails reading lines rest place count values fault before at within found =
    fails_among TooFew (λ before. reading) lines rest place count values fault.kind fault.line before at within (inr found)

-- the text was read up to the entry lines
pub record Sized {S X : Type 0} (form : Form S X) (text : List ℕ) (rest : Lines) (size : S) : Type 0 where
  pub has : HasSize form (text_lines None text) size
  pub at : rest ≡ from_entries (text_lines None text)

pub sized : {S X : Type 0} (form : Form S X) (text : List ℕ) (all behind_banner rest : Lines) (size : S) → all ≡ text_lines None text → HasBanner form.format all →
    behind_banner ≡ behind 1 all → outcome TooFew form.size (slice_get (behind_comments 37 behind_banner).ahead 0) ≡ Ok size →
    rest ≡ behind 1 (behind_comments 37 behind_banner) → Sized form text rest size
sized form text all behind_banner rest size new banner next size_is last =
    let at : behind_comments 37 behind_banner ≡ from_size (text_lines None text) = ap (behind_comments 37) (next ∙ ap (behind 1) new) in
    record {
      has = record {
        banner = subst (HasBanner form.format) new banner;
        first = ap (λ (lines : Lines). outcome TooFew form.size (slice_get lines.ahead 0)) (sym at) ∙ size_is;
      };
      at = last ∙ ap (behind 1) at;
    }

pub fails_in_entries : {S X : Type 0} (form : Form S X) (text : List ℕ) (rest : Lines) (size : S) (fault : TextFault MarketKind) → Sized form text rest size →
    NoMemoryOr fault (FailsFirst TooFew (λ before. form.entry size) rest (form.count size) fault.kind fault.line) →
    NoMemoryOr fault (FaultIn form (text_lines None text) fault.kind fault.line)
fails_in_entries form text rest size fault s found = elim found [
  | inl memory ↦ inl memory
  | inr fails ↦ (let P : Lines → Type 0 = λ lines. FailsFirst TooFew (λ before. form.entry size) lines (form.count size) fault.kind fault.line in
      inr (in_entries size s.has (subst P s.at fails)))
]

entries_in_text : {S X : Type 0} (form : Form S X) (text : List ℕ) (rest : Lines) (size : S) (entries : List X) → Sized form text rest size →
    ReadsAll TooFew (λ before. form.entry size) rest (form.count size) entries → ReadsAll TooFew (λ before. form.entry size) (from_entries (text_lines None text)) (form.count size) entries
entries_in_text form text rest size entries s reads =
    let P : Lines → Type 0 = λ lines. ReadsAll TooFew (λ before. form.entry size) lines (form.count size) entries in
    subst P s.at reads

pub fails_in_rest : {S X : Type 0} (form : Form S X) (text : List ℕ) (rest last : Lines) (size : S) (entries : List X) (fault : TextFault MarketKind) → Sized form text rest size →
    ReadsAll TooFew (λ before. form.entry size) rest (form.count size) entries → last ≡ behind (form.count size) rest → Follows last fault.kind fault.line →
    NoMemoryOr fault (FaultIn form (text_lines None text) fault.kind fault.line)
fails_in_rest form text rest last size entries fault s reads next extra =
    let P : Lines → Type 0 = λ lines. Follows lines fault.kind fault.line in
    inr (in_rest size entries (record { size_is = s.has; entries_are = entries_in_text form text rest size entries s reads })
    (subst P (next ∙ ap (behind (form.count size)) s.at) extra))

pub whole_text : {S X : Type 0} (form : Form S X) (text : List ℕ) (rest last : Lines) (size : S) (entries : List X) → Sized form text rest size →
    ReadsAll TooFew (λ before. form.entry size) rest (form.count size) entries → last ≡ behind (form.count size) rest → last.ahead ≡ [] →
    Says form (text_lines None text) size entries
whole_text form text rest last size entries s reads next none =
    let at : last ≡ behind (form.count size) (from_entries (text_lines None text)) = next ∙ ap (behind (form.count size)) s.at in
    record {
      has = record { size_is = s.has; entries_are = entries_in_text form text rest size entries s reads };
      ends = ap (λ (lines : Lines). lines.ahead) (sym at) ∙ none;
    }
