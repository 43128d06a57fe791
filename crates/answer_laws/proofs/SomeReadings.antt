-- A source has a mesh and a problem, or a refusal.
use Rattle.std.proofs.Common.{◌≡◌, ◌⊎◌, inl, inr, sym, ap, refl, subst, ℕ, ℤ, List, [], length}
use Rattle.std.specs.Prelude.{Some, None, Ok, Err}
use Rattle.std.specs.declared.option.Option.{Option}
use Rattle.std.proofs.lemmas.Bool.{cases_lt}
use Rattle.fem_fixed.specs.Mesh.{Mesh}
use Rattle.matrix_market.specs.declared.fault.MarketKind.{MarketKind}
use Rattle.matrix_market.specs.declared.fault.MarketKind.TheVariants as market
use Rattle.matrix_market.specs.Market.{VectorText, VectorFaultAt}
use Rattle.diagnostics.specs.declared.kinds.VectorTextKind.TheVariants as vector_texts
use Rattle.diagnostics.specs.declared.kinds.VectorFault.TheVariants.{Text as Faulty}
use Rattle.fem_text.specs.Outside.{Held}
use Rattle.fem_text.specs.declared.fault.TextFault.{TextFault}
use Rattle.ucd_read.specs.declared.fault.UcdKind.{UcdKind}
use Rattle.ucd_read.specs.declared.fault.UcdKind.TheVariants as ucd
use Rattle.ucd_read.specs.Faults.{UcdFault}
use Rattle.ucd_read.specs.Ucd.{Ucd, UcdFaultAt}
use Rattle.msh_read.specs.declared.fault.MshKind.{MshKind}
use Rattle.msh_read.specs.declared.fault.MshKind.TheVariants as msh
use Rattle.msh_read.specs.Faults.{MshFault}
use Rattle.msh_read.specs.Msh.{Msh, MshFaultAt}
use Rattle.run_words.specs.declared.options.Format.{Format}
use Rattle.run_words.specs.declared.options.Format.TheVariants as formats
use Rattle.problem_read.specs.declared.fault.ProblemKind.{ProblemKind}
use Rattle.problem_read.specs.declared.fault.ProblemKind.TheVariants as problems
use Rattle.problem_read.specs.Entries.{ProblemParts}
use Rattle.problem_read.specs.Problem.{ProblemText, ProblemFaultAt}
use Rattle.grid_texts.specs.Grid as grid
use Rattle.run_words.specs.Choice.{Source, texts, generated, source_format}
use Rattle.diagnostics.specs.declared.refusal.Refusal.{Refusal}
use Rattle.diagnostics.specs.declared.refusal.Refusal.TheVariants.{Absent, MeshText, Limit}
use Rattle.diagnostics.specs.declared.refusal.Refusal.TheVariants as refusals
use Rattle.diagnostics.specs.declared.kinds.LimitKind.TheVariants.{MeshCount, ProblemCount}
use Rattle.diagnostics.specs.declared.kinds.MeshTextKind.TheVariants as mesh_texts
use Rattle.diagnostics.specs.declared.kinds.ProblemTextKind.TheVariants as problem_texts
use Rattle.diagnostics.specs.declared.ending.Ending.TheVariants.{Refused}
use Rattle.diagnostics.specs.declared.ending.Role.{Role}
use Rattle.diagnostics.specs.declared.ending.Role.TheVariants as roles
use Rattle.run_texts.specs.Endings.{of_ucd, of_msh, of_problem_text, of_vector_text}
use Rattle.diagnostics.specs.Stages.{Then, stops, goes}
use Rattle.run_texts.specs.Texts.{Texts, text_limit, size_limit, StandsUnder, ProblemStands, AreTextsOf, TextFor, UcdMesh, MshMesh, MeshIn, ProblemIn, VectorIn, MeshOf, ProblemOf, ReadTexts}
use Rattle.run_texts.specs.Read.{SourceRead}
use Rattle.fem_text.proofs.OneReading.{ok_same, ok_err}
use Rattle.answer_laws.specs.Parts.{HaveAVector}
use Rattle.answer_laws.proofs.Steps.{HasAnOutcome, some_after}

-- what stands under a name, or the empty text over a store that tells nothing
text_under : (holds : Option Held) (name : List ℕ) → (known : Option (List ℕ)) × StandsUnder holds name known
text_under (Some held) name = (held name, refl)
text_under None name = (Some [], refl)

problem_under : (holds : Option Held) (name : Option (List ℕ)) → (known : Option (List ℕ)) × ProblemStands holds name known
problem_under holds (Some name) = text_under holds name
problem_under holds None = (Some [], refl)

some_texts : (holds : Option Held) (source : Source) → (known : Texts) × AreTextsOf holds source known
some_texts holds (texts mesh format problem) =
    let m = text_under holds mesh in
    let p = problem_under holds problem in
    (record { mesh = m.0; problem = p.0 }, (m.1, p.1))
some_texts holds (generated n seed) = (record { mesh = Some (grid.mesh_text n seed); problem = Some (grid.problem_text n) }, (refl, refl))

some_text : (role : Role) (known : Option (List ℕ)) → HasAnOutcome (TextFor role known)
some_text role None = (Err (Absent role), refl)
some_text role (Some text) = elim (cases_lt text_limit (length text)) [
  | inl long ↦ (Err (Limit (size_limit role)), (long, refl))
  | inr short ↦ (Ok text, (refl, short))
]

-- a fault that is not want of memory has a refusal
ucd_refusal : (kind : UcdKind) (line : ℕ) → (kind ≡ ucd.NoMemory → ⊥) → (refusal : Refusal) × (of_ucd kind line ≡ Refused refusal)
ucd_refusal ucd.Header line some = (MeshText mesh_texts.Header line, refl)
ucd_refusal ucd.NodeLine line some = (MeshText mesh_texts.NodeLine line, refl)
ucd_refusal ucd.CellLine line some = (MeshText mesh_texts.CellLine line, refl)
ucd_refusal ucd.Number line some = (MeshText mesh_texts.Number line, refl)
ucd_refusal ucd.DuplicateId line some = (MeshText mesh_texts.DuplicateId line, refl)
ucd_refusal ucd.UnknownNode line some = (MeshText mesh_texts.UnknownNode line, refl)
ucd_refusal ucd.UnsupportedType line some = (MeshText mesh_texts.UnsupportedType line, refl)
ucd_refusal ucd.TooFew line some = (MeshText mesh_texts.TooFew line, refl)
ucd_refusal ucd.Limit line some = (Limit (MeshCount line), refl)
ucd_refusal ucd.NoMemory line some = absurd (some refl)

msh_refusal : (kind : MshKind) (line : ℕ) → (kind ≡ msh.NoMemory → ⊥) → (refusal : Refusal) × (of_msh kind line ≡ Refused refusal)
msh_refusal msh.Format line some = (MeshText mesh_texts.Format line, refl)
msh_refusal msh.NodeLine line some = (MeshText mesh_texts.NodeLine line, refl)
msh_refusal msh.ElementLine line some = (MeshText mesh_texts.ElementLine line, refl)
msh_refusal msh.Number line some = (MeshText mesh_texts.Number line, refl)
msh_refusal msh.DuplicateId line some = (MeshText mesh_texts.DuplicateId line, refl)
msh_refusal msh.UnknownNode line some = (MeshText mesh_texts.UnknownNode line, refl)
msh_refusal msh.UnsupportedType line some = (MeshText mesh_texts.UnsupportedType line, refl)
msh_refusal msh.TooFew line some = (MeshText mesh_texts.TooFew line, refl)
msh_refusal msh.Section line some = (MeshText mesh_texts.Section line, refl)
msh_refusal msh.Limit line some = (Limit (MeshCount line), refl)
msh_refusal msh.NoMemory line some = absurd (some refl)

problem_refusal : (kind : ProblemKind) (line : ℕ) → (kind ≡ problems.NoMemory → ⊥) → (refusal : Refusal) × (of_problem_text kind line ≡ Refused refusal)
problem_refusal problems.Word line some = (refusals.ProblemText problem_texts.Word line, refl)
problem_refusal problems.Number line some = (refusals.ProblemText problem_texts.Number line, refl)
problem_refusal problems.Repeated line some = (refusals.ProblemText problem_texts.Repeated line, refl)
problem_refusal problems.Limit line some = (Limit (ProblemCount line), refl)
problem_refusal problems.NoMemory line some = absurd (some refl)

-- the mesh of a reading is that of a text
mesh_read : (format : Format) (known : Texts) (read : Mesh × ProblemParts) → ReadTexts format known (Ok read) → (text : List ℕ) × MeshIn format text (Ok read.0)
mesh_read format known read (stops refusal is e) = ok_err read refusal e
mesh_read format known read (goes mesh is (stops refusal none e)) = ok_err read refusal e
mesh_read format known read (goes mesh is (goes problem some e)) = mesh_in mesh is (ap (λ (pair : Mesh × ProblemParts). pair.0) (ok_same {K = Refusal} read (mesh, problem) e))
  where
    mesh_in : (mesh : Mesh) → MeshOf format known.mesh (Ok mesh) → read.0 ≡ mesh → (text : List ℕ) × MeshIn format text (Ok read.0)
    mesh_in mesh (stops refusal is e) same = ok_err mesh refusal e
    mesh_in mesh (goes text is has) same = (text, subst (λ m. MeshIn format text (Ok m)) (sym same) has)

pub source_mesh : (holds : Option Held) (source : Source) (read : Mesh × ProblemParts) → SourceRead holds source (Ok read) → (text : List ℕ) × MeshIn (source_format source) text (Ok read.0)
source_mesh holds source read is = mesh_read (source_format source) is.0 read is.2

-- Each text has a reading, as the laws of the readers say.
module _ (ucd_no_memory : (text : List ℕ) (line : ℕ) → UcdFaultAt text ucd.NoMemory line → ⊥)
    (ucd_or_fault : (text : List ℕ) → ((mesh : Mesh) × Ucd text mesh) ⊎ ((kind : UcdKind) × (line : ℕ) × UcdFaultAt text kind line))
    (msh_no_memory : (text : List ℕ) (line : ℕ) → MshFaultAt text msh.NoMemory line → ⊥)
    (msh_or_fault : (text : List ℕ) → ((mesh : Mesh) × Msh text mesh) ⊎ ((kind : MshKind) × (line : ℕ) × MshFaultAt text kind line))
    (problem_no_memory : (text : List ℕ) (line : ℕ) → ProblemFaultAt text problems.NoMemory line → ⊥)
    (problem_or_fault : (text : List ℕ) → ((parts : ProblemParts) × ProblemText text parts) ⊎ ((kind : ProblemKind) × (line : ℕ) × ProblemFaultAt text kind line)) where
  some_ucd_mesh : (text : List ℕ) → HasAnOutcome (UcdMesh text)
  some_ucd_mesh text = elim (ucd_or_fault text) [
    | inl has ↦ (Ok has.0, has.1)
    | inr fails ↦ (let said = ucd_refusal fails.0 fails.1 (λ none. ucd_no_memory text fails.1 (subst (λ (kind : UcdKind). UcdFaultAt text kind fails.1) none fails.2)) in
        let fault : UcdFault = record { kind = fails.0; line = fails.1 } in
        (Err said.0, (fault, fails.2, said.1)))
  ]

  some_msh_mesh : (text : List ℕ) → HasAnOutcome (MshMesh text)
  some_msh_mesh text = elim (msh_or_fault text) [
    | inl has ↦ (Ok has.0, has.1)
    | inr fails ↦ (let said = msh_refusal fails.0 fails.1 (λ none. msh_no_memory text fails.1 (subst (λ (kind : MshKind). MshFaultAt text kind fails.1) none fails.2)) in
        let fault : MshFault = record { kind = fails.0; line = fails.1 } in
        (Err said.0, (fault, fails.2, said.1)))
  ]

  some_mesh_in : (format : Format) (text : List ℕ) → HasAnOutcome (MeshIn format text)
  some_mesh_in formats.Ucd text = some_ucd_mesh text
  some_mesh_in formats.Msh text = some_msh_mesh text

  some_problem_in : (text : List ℕ) → HasAnOutcome (ProblemIn text)
  some_problem_in text = elim (problem_or_fault text) [
    | inl has ↦ (Ok has.0, has.1)
    | inr fails ↦ (let said = problem_refusal fails.0 fails.1 (λ none. problem_no_memory text fails.1 (subst (λ (kind : ProblemKind). ProblemFaultAt text kind fails.1) none fails.2)) in
        let fault : TextFault ProblemKind = record { kind = fails.0; line = fails.1 } in
        (Err said.0, (fault, fails.2, said.1)))
  ]

  some_mesh_of : (format : Format) (known : Option (List ℕ)) → HasAnOutcome (MeshOf format known)
  some_mesh_of format known = some_after (TextFor roles.Mesh known) (MeshIn format) (some_text roles.Mesh known) (λ text is. some_mesh_in format text)

  some_problem_of : (known : Option (List ℕ)) → HasAnOutcome (ProblemOf known)
  some_problem_of known = some_after (TextFor roles.Problem known) ProblemIn (some_text roles.Problem known) (λ text is. some_problem_in text)

  some_read_texts : (format : Format) (known : Texts) → HasAnOutcome (ReadTexts format known)
  some_read_texts format known =
      some_after (MeshOf format known.mesh) (λ mesh. Then (ProblemOf known.problem) (λ problem outcome. outcome ≡ Ok (mesh, problem))) (some_mesh_of format known.mesh)
      (λ mesh is. some_after (ProblemOf known.problem) (λ problem outcome. outcome ≡ Ok (mesh, problem)) (some_problem_of known.problem) (λ problem some. (Ok (mesh, problem), refl)))

  pub some_read : (holds : Option Held) (source : Source) → HasAnOutcome (SourceRead holds source)
  some_read holds source =
      let known = some_texts holds source in
      let read = some_read_texts (source_format source) known.0 in
      (read.0, (known.0, known.1, read.1))

vector_refusal : (kind : MarketKind) (line : ℕ) → (kind ≡ market.NoMemory → ⊥) → (refusal : Refusal) × (of_vector_text kind line ≡ Refused refusal)
vector_refusal market.Banner line some = (refusals.Vector (Faulty vector_texts.Banner line), refl)
vector_refusal market.Size line some = (refusals.Vector (Faulty vector_texts.Size line), refl)
vector_refusal market.Entry line some = (refusals.Vector (Faulty vector_texts.Entry line), refl)
vector_refusal market.TooFew line some = (refusals.Vector (Faulty vector_texts.TooFew line), refl)
vector_refusal market.NoMemory line some = absurd (some refl)

-- So has the text of a vector.
module _ (vector_no_memory : (text : List ℕ) (line : ℕ) → VectorFaultAt text market.NoMemory line → ⊥)
    (vector_or_fault : (text : List ℕ) → ((values : List ℤ) × VectorText text values) ⊎ ((kind : MarketKind) × (line : ℕ) × VectorFaultAt text kind line)) where
  some_vector_in : (text : List ℕ) → HasAnOutcome (VectorIn text)
  some_vector_in text = elim (vector_or_fault text) [
    | inl has ↦ (Ok has.0, has.1)
    | inr fails ↦ (let said = vector_refusal fails.0 fails.1 (λ none. vector_no_memory text fails.1 (subst (λ (kind : MarketKind). VectorFaultAt text kind fails.1) none fails.2)) in
        let fault : TextFault MarketKind = record { kind = fails.0; line = fails.1 } in
        (Err said.0, (fault, fails.2, said.1)))
  ]

  pub some_vector : HaveAVector
  some_vector holds name =
      let known = text_under holds name in
      let values = some_after (TextFor roles.Vector known.0) VectorIn (some_text roles.Vector known.0) (λ text is. some_vector_in text) in
      (values.0, (known.0, known.1, values.1))
