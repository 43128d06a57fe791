-- The faults of mesh texts and of the text of a vector end their reading.
use Rattle.std.proofs.Common.{◌≡◌, sym, refl, subst, ℕ, ◌≤◌, List, length, inl, inr}
use Rattle.std.specs.Prelude.{◌^◌}
use Rattle.fem_fixed.specs.Mesh.{Mesh}
use Rattle.ucd_read.specs.declared.fault.UcdKind.{UcdKind}
use Rattle.ucd_read.specs.declared.fault.UcdKind.TheVariants as ucd
use Rattle.ucd_read.specs.Faults as ucd_faults
use Rattle.ucd_read.specs.Faults.{UcdFault}
use Rattle.ucd_read.specs.Ucd.{UcdFaultAt}
use Rattle.ucd_read.specs.Bounds.{IsBounded}
use Rattle.msh_read.specs.declared.fault.MshKind.{MshKind}
use Rattle.msh_read.specs.declared.fault.MshKind.TheVariants as msh
use Rattle.msh_read.specs.Faults as msh_faults
use Rattle.msh_read.specs.Faults.{MshFault}
use Rattle.msh_read.specs.Msh.{MshFaultAt}
use Rattle.fem_text.specs.declared.fault.TextFault.{TextFault}
use Rattle.matrix_market.specs.declared.fault.MarketKind.{MarketKind}
use Rattle.matrix_market.specs.declared.fault.MarketKind.TheVariants as market
use Rattle.matrix_market.specs.Market.{VectorFaultAt}
use Rattle.matrix_market.specs.Market as markets
use Rattle.diagnostics.specs.declared.ending.Ending.{Ending}
use Rattle.diagnostics.specs.Stages.{EndsIn}
use Rattle.run_texts.specs.Endings.{of_ucd, of_msh, of_vector_text}
use Rattle.run_texts.specs.Texts.{UcdMesh, MshMesh, VectorIn}

ucd_kind_ends : (text : List ℕ) (kind : UcdKind) (line : ℕ) → UcdFaultAt text kind line → EndsIn (UcdMesh text) (of_ucd kind line)
ucd_kind_ends text ucd.Header line h = (record { kind = ucd.Header; line = line }, h, refl)
ucd_kind_ends text ucd.NodeLine line h = (record { kind = ucd.NodeLine; line = line }, h, refl)
ucd_kind_ends text ucd.CellLine line h = (record { kind = ucd.CellLine; line = line }, h, refl)
ucd_kind_ends text ucd.Number line h = (record { kind = ucd.Number; line = line }, h, refl)
ucd_kind_ends text ucd.DuplicateId line h = (record { kind = ucd.DuplicateId; line = line }, h, refl)
ucd_kind_ends text ucd.UnknownNode line h = (record { kind = ucd.UnknownNode; line = line }, h, refl)
ucd_kind_ends text ucd.UnsupportedType line h = (record { kind = ucd.UnsupportedType; line = line }, h, refl)
ucd_kind_ends text ucd.TooFew line h = (record { kind = ucd.TooFew; line = line }, h, refl)
ucd_kind_ends text ucd.Limit line h = (record { kind = ucd.Limit; line = line }, h, refl)
ucd_kind_ends text ucd.NoMemory line h = tt

ucd_said : (text : List ℕ) (fault : UcdFault) → ucd_faults.NoMemoryOr fault (UcdFaultAt text fault.kind fault.line) → EndsIn (UcdMesh text) (of_ucd fault.kind fault.line)
ucd_said text fault (inl e) = subst (λ (f : UcdFault). EndsIn (UcdMesh text) (of_ucd f.kind f.line)) (sym e) tt
ucd_said text fault (inr h) = ucd_kind_ends text fault.kind fault.line h

-- a fault of a text in UCD
pub ucd_ends : (text : List ℕ) (fault : UcdFault) (e : Ending) → e ≡ of_ucd fault.kind fault.line → ucd_faults.NoMemoryOr fault (UcdFaultAt text fault.kind fault.line) →
    EndsIn (UcdMesh text) e
ucd_ends text fault e is h = subst (EndsIn (UcdMesh text)) (sym is) (ucd_said text fault h)

msh_kind_ends : (text : List ℕ) (kind : MshKind) (line : ℕ) → MshFaultAt text kind line → EndsIn (MshMesh text) (of_msh kind line)
msh_kind_ends text msh.Format line h = (record { kind = msh.Format; line = line }, h, refl)
msh_kind_ends text msh.NodeLine line h = (record { kind = msh.NodeLine; line = line }, h, refl)
msh_kind_ends text msh.ElementLine line h = (record { kind = msh.ElementLine; line = line }, h, refl)
msh_kind_ends text msh.Number line h = (record { kind = msh.Number; line = line }, h, refl)
msh_kind_ends text msh.DuplicateId line h = (record { kind = msh.DuplicateId; line = line }, h, refl)
msh_kind_ends text msh.UnknownNode line h = (record { kind = msh.UnknownNode; line = line }, h, refl)
msh_kind_ends text msh.UnsupportedType line h = (record { kind = msh.UnsupportedType; line = line }, h, refl)
msh_kind_ends text msh.TooFew line h = (record { kind = msh.TooFew; line = line }, h, refl)
msh_kind_ends text msh.Limit line h = (record { kind = msh.Limit; line = line }, h, refl)
msh_kind_ends text msh.Section line h = (record { kind = msh.Section; line = line }, h, refl)
msh_kind_ends text msh.NoMemory line h = tt

msh_said : (text : List ℕ) (fault : MshFault) → msh_faults.NoMemoryOr fault (MshFaultAt text fault.kind fault.line) → EndsIn (MshMesh text) (of_msh fault.kind fault.line)
msh_said text fault (inl e) = subst (λ (f : MshFault). EndsIn (MshMesh text) (of_msh f.kind f.line)) (sym e) tt
msh_said text fault (inr h) = msh_kind_ends text fault.kind fault.line h

-- a fault of a text in MSH
pub msh_ends : (text : List ℕ) (fault : MshFault) (e : Ending) → e ≡ of_msh fault.kind fault.line → msh_faults.NoMemoryOr fault (MshFaultAt text fault.kind fault.line) →
    EndsIn (MshMesh text) e
msh_ends text fault e is h = subst (EndsIn (MshMesh text)) (sym is) (msh_said text fault h)

-- a mesh has as many ids as points
pub ids_few : (mesh : Mesh) → IsBounded mesh → length mesh.ids ≤ 2 ^ 20
ids_few mesh bounded = subst (λ n. n ≤ 2 ^ 20) (sym bounded.whole) bounded.points

vector_kind_ends : (text : List ℕ) (kind : MarketKind) (line : ℕ) → VectorFaultAt text kind line → EndsIn (VectorIn text) (of_vector_text kind line)
vector_kind_ends text market.Banner line h = (record { kind = market.Banner; line = line }, h, refl)
vector_kind_ends text market.Size line h = (record { kind = market.Size; line = line }, h, refl)
vector_kind_ends text market.Entry line h = (record { kind = market.Entry; line = line }, h, refl)
vector_kind_ends text market.TooFew line h = (record { kind = market.TooFew; line = line }, h, refl)
vector_kind_ends text market.NoMemory line h = tt

vector_said : (text : List ℕ) (fault : TextFault MarketKind) → markets.NoMemoryOr fault (VectorFaultAt text fault.kind fault.line) →
    EndsIn (VectorIn text) (of_vector_text fault.kind fault.line)
vector_said text fault (inl e) = subst (λ (f : TextFault MarketKind). EndsIn (VectorIn text) (of_vector_text f.kind f.line)) (sym e) tt
vector_said text fault (inr h) = vector_kind_ends text fault.kind fault.line h

-- a fault of the text of a vector
pub vector_ends : (text : List ℕ) (fault : TextFault MarketKind) (e : Ending) → e ≡ of_vector_text fault.kind fault.line →
    markets.NoMemoryOr fault (VectorFaultAt text fault.kind fault.line) → EndsIn (VectorIn text) e
vector_ends text fault e is h = subst (EndsIn (VectorIn text)) (sym is) (vector_said text fault h)
