-- A source whose texts are known has one mesh and one problem.
use Rattle.std.proofs.Common.{◌≡◌, ◌∙◌, sym, ap, subst, ℕ, ℤ, ◌<◌, ◌≤◌, List, length, arith}
use Rattle.std.specs.Prelude.{Some, None, Ok, Err}
use Rattle.std.specs.declared.option.Option.{Option}
use Rattle.std.specs.declared.result.Result.{Result}
use Rattle.std.proofs.lemmas.Option.{same_Some}
use Rattle.fem_text.specs.declared.fault.TextFault.{TextFault}
use Rattle.fem_fixed.specs.Mesh.{Mesh}
use Rattle.matrix_market.specs.declared.fault.MarketKind.{MarketKind}
use Rattle.matrix_market.specs.Market.{VectorText, VectorFaultAt}
use Rattle.ucd_read.specs.declared.fault.UcdKind.{UcdKind}
use Rattle.ucd_read.specs.Faults.{UcdFault}
use Rattle.ucd_read.specs.Ucd.{Ucd, UcdFaultAt}
use Rattle.msh_read.specs.declared.fault.MshKind.{MshKind}
use Rattle.msh_read.specs.Faults.{MshFault}
use Rattle.msh_read.specs.Msh.{Msh, MshFaultAt}
use Rattle.run_words.specs.declared.options.Format.{Format}
use Rattle.run_words.specs.declared.options.Format.TheVariants as formats
use Rattle.run_words.specs.Choice.{source_format}
use Rattle.problem_read.specs.declared.fault.ProblemKind.{ProblemKind}
use Rattle.problem_read.specs.Entries.{ProblemParts}
use Rattle.problem_read.specs.Problem.{ProblemText, ProblemFaultAt}
use Rattle.diagnostics.specs.declared.refusal.Refusal.{Refusal}
use Rattle.diagnostics.specs.declared.ending.Role.{Role}
use Rattle.diagnostics.specs.declared.ending.Role.TheVariants as roles
use Rattle.run_texts.specs.Endings.{of_ucd, of_msh, of_problem_text, of_vector_text}
use Rattle.diagnostics.specs.Stages.{Then}
use Rattle.run_texts.specs.Texts.{Texts, text_limit, TextFor, UcdMesh, MshMesh, MeshIn, ProblemIn, VectorIn, MeshOf, ProblemOf, ReadTexts}
use Rattle.answer_laws.specs.Parts.{HaveOneMesh, HaveOneVector, HaveOneReading}
use Rattle.answer_laws.proofs.Steps.{Agree, one_after, one_said}

not_some : {A P : Type 0} (a : A) → ◌≡◌ {A = Option A} None (Some a) → P
not_some a h = cc

too_long : (text other : List ℕ) (limit : ℕ) → text ≡ other → length other ≤ limit → limit < length text → ⊥
too_long text other limit is short long = (let e : length text ≡ length other = ap length is in omega (arith, e, short, long))

one_text : (role : Role) (known : Option (List ℕ)) → Agree (TextFor role known) (TextFor role known)
one_text role known (Ok a) (Ok b) h k = ap Ok (same_Some a b (sym h.0 ∙ k.0))
one_text role None (Ok a) (Err q) h k = not_some a h.0
one_text role (Some text) (Ok a) (Err q) h k = absurd (too_long text a text_limit (same_Some text a h.0) h.1 k.0)
one_text role None (Err r) (Ok b) h k = not_some b k.0
one_text role (Some text) (Err r) (Ok b) h k = absurd (too_long text b text_limit (same_Some text b k.0) k.1 h.0)
one_text role None (Err r) (Err q) h k = ap Err (h ∙ sym k)
one_text role (Some text) (Err r) (Err q) h k = ap Err (h.1 ∙ sym k.1)

abbrev Pair : Type 0
Pair = Result (Mesh × ProblemParts) Refusal

-- Each text has one reading, as the laws of the readers say.
module _ (one_ucd : (text : List ℕ) (first second : Mesh) → Ucd text first → Ucd text second → first ≡ second)
    (ucd_fault : (text : List ℕ) (kind other : UcdKind) (line another : ℕ) → UcdFaultAt text kind line → UcdFaultAt text other another → (kind ≡ other) × (line ≡ another))
    (ucd_no_fault : (text : List ℕ) (mesh : Mesh) (kind : UcdKind) (line : ℕ) → Ucd text mesh → UcdFaultAt text kind line → ⊥)
    (one_msh : (text : List ℕ) (first second : Mesh) → Msh text first → Msh text second → first ≡ second)
    (msh_fault : (text : List ℕ) (kind other : MshKind) (line another : ℕ) → MshFaultAt text kind line → MshFaultAt text other another → (kind ≡ other) × (line ≡ another))
    (msh_no_fault : (text : List ℕ) (mesh : Mesh) (kind : MshKind) (line : ℕ) → Msh text mesh → MshFaultAt text kind line → ⊥) where
  same_ucd_end : (text : List ℕ) (f g : UcdFault) → UcdFaultAt text f.kind f.line → UcdFaultAt text g.kind g.line → of_ucd f.kind f.line ≡ of_ucd g.kind g.line
  same_ucd_end text f g h k = (let s = ucd_fault text f.kind g.kind f.line g.line h k in λ i. of_ucd (s.0 i) (s.1 i))

  one_ucd_mesh : (text : List ℕ) → Agree (UcdMesh text) (UcdMesh text)
  one_ucd_mesh text (Ok m) (Ok n) h k = ap Ok (one_ucd text m n h k)
  one_ucd_mesh text (Ok m) (Err q) h k = absurd (ucd_no_fault text m k.0.kind k.0.line h k.1)
  one_ucd_mesh text (Err r) (Ok n) h k = absurd (ucd_no_fault text n h.0.kind h.0.line k h.1)
  one_ucd_mesh text (Err r) (Err q) h k =
      ap Err (one_said (λ (f : UcdFault). of_ucd f.kind f.line) (λ (f : UcdFault). UcdFaultAt text f.kind f.line) (same_ucd_end text) r q h k)

  same_msh_end : (text : List ℕ) (f g : MshFault) → MshFaultAt text f.kind f.line → MshFaultAt text g.kind g.line → of_msh f.kind f.line ≡ of_msh g.kind g.line
  same_msh_end text f g h k = (let s = msh_fault text f.kind g.kind f.line g.line h k in λ i. of_msh (s.0 i) (s.1 i))

  one_msh_mesh : (text : List ℕ) → Agree (MshMesh text) (MshMesh text)
  one_msh_mesh text (Ok m) (Ok n) h k = ap Ok (one_msh text m n h k)
  one_msh_mesh text (Ok m) (Err q) h k = absurd (msh_no_fault text m k.0.kind k.0.line h k.1)
  one_msh_mesh text (Err r) (Ok n) h k = absurd (msh_no_fault text n h.0.kind h.0.line k h.1)
  one_msh_mesh text (Err r) (Err q) h k =
      ap Err (one_said (λ (f : MshFault). of_msh f.kind f.line) (λ (f : MshFault). MshFaultAt text f.kind f.line) (same_msh_end text) r q h k)

  one_mesh_in : (format : Format) (text : List ℕ) → Agree (MeshIn format text) (MeshIn format text)
  one_mesh_in formats.Ucd text = one_ucd_mesh text
  one_mesh_in formats.Msh text = one_msh_mesh text

  pub one_mesh_of : HaveOneMesh
  one_mesh_of format known = one_after (TextFor roles.Mesh known) (TextFor roles.Mesh known) (MeshIn format) (MeshIn format) (one_text roles.Mesh known) (λ text is. one_mesh_in format text)

-- So has each source whose texts are known.
module _ (one_mesh : HaveOneMesh)
    (one_problem : (text : List ℕ) (first second : ProblemParts) → ProblemText text first → ProblemText text second → first ≡ second)
    (problem_fault : (text : List ℕ) (kind other : ProblemKind) (line another : ℕ) →
    ProblemFaultAt text kind line → ProblemFaultAt text other another → (kind ≡ other) × (line ≡ another))
    (problem_no_fault : (text : List ℕ) (parts : ProblemParts) (kind : ProblemKind) (line : ℕ) → ProblemText text parts → ProblemFaultAt text kind line → ⊥) where
  same_problem_end : (text : List ℕ) (f g : TextFault ProblemKind) → ProblemFaultAt text f.kind f.line → ProblemFaultAt text g.kind g.line →
      of_problem_text f.kind f.line ≡ of_problem_text g.kind g.line
  same_problem_end text f g h k =
      (let s = problem_fault text f.kind g.kind f.line g.line h k in λ i. of_problem_text (s.0 i) (s.1 i))

  one_problem_in : (text : List ℕ) → Agree (ProblemIn text) (ProblemIn text)
  one_problem_in text (Ok p) (Ok q) h k = ap Ok (one_problem text p q h k)
  one_problem_in text (Ok p) (Err q) h k = absurd (problem_no_fault text p k.0.kind k.0.line h k.1)
  one_problem_in text (Err r) (Ok q) h k = absurd (problem_no_fault text q h.0.kind h.0.line k h.1)
  one_problem_in text (Err r) (Err q) h k =
      ap Err (one_said (λ (f : TextFault ProblemKind). of_problem_text f.kind f.line) (λ (f : TextFault ProblemKind). ProblemFaultAt text f.kind f.line) (same_problem_end text) r q h k)

  one_problem_of : (known : Option (List ℕ)) → Agree (ProblemOf known) (ProblemOf known)
  one_problem_of known = one_after (TextFor roles.Problem known) (TextFor roles.Problem known) ProblemIn ProblemIn (one_text roles.Problem known) (λ text is. one_problem_in text)

  one_read_texts : (format : Format) (known : Texts) → Agree (ReadTexts format known) (ReadTexts format known)
  one_read_texts format known =
      let next : Mesh → Pair → Type 0 = λ mesh. Then (ProblemOf known.problem) (λ problem outcome. outcome ≡ Ok (mesh, problem)) in
      one_after (MeshOf format known.mesh) (MeshOf format known.mesh) next next (one_mesh format known.mesh)
      (λ mesh is. let last : ProblemParts → Pair → Type 0 = λ problem outcome. outcome ≡ Ok (mesh, problem) in
      one_after (ProblemOf known.problem) (ProblemOf known.problem) last last (one_problem_of known.problem) (λ problem made a b h k. h ∙ sym k))

  pub one_read : HaveOneReading
  one_read holds source known a b h k =
      let P : Texts → Type 0 = λ both. ReadTexts (source_format source) both a in
      one_read_texts (source_format source) k.0 a b (subst P (known h.0 k.0 h.1 k.1) h.2) k.2

-- So has the text of a vector.
module _ (one_values : (text : List ℕ) (first second : List ℤ) → VectorText text first → VectorText text second → first ≡ second)
    (vector_fault : (text : List ℕ) (kind other : MarketKind) (line another : ℕ) → VectorFaultAt text kind line → VectorFaultAt text other another → (kind ≡ other) × (line ≡ another))
    (vector_no_fault : (text : List ℕ) (values : List ℤ) (kind : MarketKind) (line : ℕ) → VectorText text values → VectorFaultAt text kind line → ⊥) where
  same_vector_end : (text : List ℕ) (f g : TextFault MarketKind) → VectorFaultAt text f.kind f.line → VectorFaultAt text g.kind g.line → of_vector_text f.kind f.line ≡ of_vector_text g.kind g.line
  same_vector_end text f g h k = (let s = vector_fault text f.kind g.kind f.line g.line h k in λ i. of_vector_text (s.0 i) (s.1 i))

  one_vector_in : (text : List ℕ) → Agree (VectorIn text) (VectorIn text)
  one_vector_in text (Ok p) (Ok q) h k = ap Ok (one_values text p q h k)
  one_vector_in text (Ok p) (Err q) h k = absurd (vector_no_fault text p k.0.kind k.0.line h k.1)
  one_vector_in text (Err r) (Ok q) h k = absurd (vector_no_fault text q h.0.kind h.0.line k h.1)
  one_vector_in text (Err r) (Err q) h k =
      ap Err (one_said (λ (f : TextFault MarketKind). of_vector_text f.kind f.line) (λ (f : TextFault MarketKind). VectorFaultAt text f.kind f.line) (same_vector_end text) r q h k)

  pub one_vector_of : HaveOneVector
  one_vector_of known = one_after (TextFor roles.Vector known) (TextFor roles.Vector known) VectorIn VectorIn (one_text roles.Vector known) (λ text is. one_vector_in text)
