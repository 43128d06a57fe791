-- Steps of the reader.
use Rattle.std.proofs.Common.{◌≡◌, ◌∙◌, sym, ap, refl, ℕ, List, [], subst, ◌⊎◌, inl, inr}
use Rattle.std.specs.Prelude.{Ok, None}
use Rattle.std.specs.List.{slice_get}
use Rattle.fem_fixed.specs.Mesh.{Mesh}
use Rattle.fem_text.specs.WordLines.{Lines, behind, text_lines}
use Rattle.fem_text.specs.Reading.{outcome, IsFault, ReadsAll, FailsFirst}
use Rattle.mesh_nodes.specs.declared.nodes.Nodes.{Nodes}
use Rattle.mesh_nodes.specs.NodeTable.{IsTable, node_list}
use Rattle.mesh_nodes.proofs.Table.{joined_ids, joined_points}
use Rattle.msh_read.specs.declared.fault.MshKind.{MshKind}
use Rattle.msh_read.specs.declared.fault.MshKind.TheVariants.{TooFew}
use Rattle.msh_read.specs.declared.elements.Elements.{Elements}
use Rattle.msh_read.specs.Faults.{MshFault, NoMemoryOr}
use Rattle.msh_read.specs.Others.{ending_of, behind_others}
use Rattle.msh_read.specs.Sections.{first_is, Section, from_head, from_rows, from_end, after_end, IsOpened, HasHead, HasRows, HasSection, FaultInSection, in_head, in_rows, in_end}
use Rattle.msh_read.specs.Msh.{format_section, in_format, nodes_section, elements_section, HasFormat, HasNodes, HasElements, Msh, MshFaultIn, MshFaultAt, in_nodes, in_elements, after_format}
use Rattle.msh_read.specs.Tables.{HasNodeSection, HasElementSection}

-- the line that opens a section was read
pub record Opened {X : Type 0} (section : Section X) (all rest : Lines) : Type 0 where
  pub opens : IsOpened section all
  pub at : rest ≡ from_head all

pub opened : {X : Type 0} (section : Section X) (all rest : Lines) → outcome TooFew (first_is section.opening) (slice_get (behind_others all).ahead 0) ≡ Ok tt →
    rest ≡ behind 1 (behind_others all) → Opened section all rest
opened section all rest is at = record { opens = record { opened = is }; at = at }

pub head_fails : {X : Type 0} (section : Section X) (all rest : Lines) (kind : MshKind) (line : ℕ) → Opened section all rest → IsFault TooFew section.head rest 0 kind line →
    FaultInSection section all kind line
head_fails section all rest kind line o fault =
    let P : Lines → Type 0 = λ lines. IsFault TooFew section.head lines 0 kind line in
    in_head o.opens (subst P o.at fault)

-- and the head line
pub record Headed {X : Type 0} (section : Section X) (all rest : Lines) (count : ℕ) : Type 0 where
  pub head : HasHead section all count
  pub at : rest ≡ from_rows all

pub headed : {X : Type 0} (section : Section X) (all rest now : Lines) (count : ℕ) → Opened section all rest → outcome TooFew section.head (slice_get rest.ahead 0) ≡ Ok count →
    now ≡ behind 1 rest → Headed section all now count
headed section all rest now count o is next = record {
  head = record { opens = o.opens; head_is = ap (λ (lines : Lines). outcome TooFew section.head (slice_get lines.ahead 0)) (sym o.at) ∙ is };
  at = next ∙ ap (behind 1) o.at;
}

pub rows_fail : {X M : Type 0} (section : Section X) (all rest : Lines) (count : ℕ) (kind : MshKind) (line : ℕ) → Headed section all rest count →
    M ⊎ FailsFirst TooFew section.row rest count kind line → M ⊎ FaultInSection section all kind line
rows_fail section all rest count kind line h found = elim found [
  | inl other ↦ inl other
  | inr fails ↦ (let P : Lines → Type 0 = λ lines. FailsFirst TooFew section.row lines count kind line in inr (in_rows count h.head (subst P h.at fails)))
]

-- and the rows
pub record Filled {X : Type 0} (section : Section X) (all rest : Lines) (count : ℕ) (rows : List X) : Type 0 where
  pub has : HasRows section all count rows
  pub at : rest ≡ from_end count all

pub filled : {X : Type 0} (section : Section X) (all rest now : Lines) (count : ℕ) (rows : List X) → Headed section all rest count → ReadsAll TooFew section.row rest count rows →
    now ≡ behind count rest → Filled section all now count rows
filled section all rest now count rows h reads next =
    let P : Lines → Type 0 = λ lines. ReadsAll TooFew section.row lines count rows in
    record { has = record { head = h.head; rows_are = subst P h.at reads }; at = next ∙ ap (behind count) h.at }

pub end_fails : {X : Type 0} (section : Section X) (all rest : Lines) (count : ℕ) (rows : List X) (kind : MshKind) (line : ℕ) → Filled section all rest count rows →
    IsFault TooFew (first_is (ending_of section.opening)) rest 0 kind line → FaultInSection section all kind line
end_fails section all rest count rows kind line f fault =
    let P : Lines → Type 0 = λ lines. IsFault TooFew (first_is (ending_of section.opening)) lines 0 kind line in
    in_end count rows f.has (subst P f.at fault)

pub section_ends : {X : Type 0} (section : Section X) (all rest : Lines) (count : ℕ) (rows : List X) → Filled section all rest count rows →
    outcome TooFew (first_is (ending_of section.opening)) (slice_get rest.ahead 0) ≡ Ok tt → HasSection section all count rows
section_ends section all rest count rows f is =
    record { has = f.has; ends = ap (λ (lines : Lines). outcome TooFew (first_is (ending_of section.opening)) (slice_get lines.ahead 0)) (sym f.at) ∙ is }

pub after_section : {X : Type 0} (section : Section X) (all rest now : Lines) (count : ℕ) (rows : List X) → Filled section all rest count rows → now ≡ behind 1 rest → now ≡ after_end count all
after_section section all rest now count rows f next = next ∙ ap (behind 1) f.at

-- a fault of the format is one of the text
pub format_fails : (text : List ℕ) (all : Lines) (fault : MshFault) → all ≡ text_lines None text → FaultInSection format_section all fault.kind fault.line → NoMemoryOr fault (MshFaultAt text fault.kind fault.line)
format_fails text all fault new found =
    let Q : Lines → Type 0 = λ lines. MshFaultIn lines fault.kind fault.line in
    inr (subst Q new (in_format found))

-- no rows are read
pub none_read : {X : Type 0} (section : Section X) (lines : Lines) → ReadsAll TooFew section.row lines 0 []
none_read section lines = record { reads = record { each = λ place value h. cc }; all = refl }

-- a fault of the nodes is one of the text
pub nodes_fail : (text : List ℕ) (all rest : Lines) (fault : MshFault) → all ≡ text_lines None text → HasFormat all → rest ≡ after_format all →
    NoMemoryOr fault (FaultInSection nodes_section rest fault.kind fault.line) → NoMemoryOr fault (MshFaultAt text fault.kind fault.line)
nodes_fail text all rest fault new has at found = elim found [
  | inl memory ↦ inl memory
  | inr fails ↦ (let P : Lines → Type 0 = λ lines. FaultInSection nodes_section lines fault.kind fault.line in
      let Q : Lines → Type 0 = λ lines. MshFaultIn lines fault.kind fault.line in
      inr (subst Q new (in_nodes has (subst P at fails))))
]

has_nodes : (all rest last : Lines) (nodes : Nodes) → HasFormat all → rest ≡ after_format all → (section : HasNodeSection rest nodes last) → HasNodes all section.count (node_list nodes)
has_nodes all rest last nodes has at section =
    let P : Lines → Type 0 = λ lines. HasSection nodes_section lines section.count (node_list nodes) in
    record { format = has; nodes_are = subst P at section.section }

-- a fault of the elements is one of the text
pub elements_fail : (text : List ℕ) (all rest last : Lines) (nodes : Nodes) (fault : MshFault) → all ≡ text_lines None text → HasFormat all → rest ≡ after_format all →
    HasNodeSection rest nodes last → NoMemoryOr fault (FaultInSection (elements_section (node_list nodes)) last fault.kind fault.line) → NoMemoryOr fault (MshFaultAt text fault.kind fault.line)
elements_fail text all rest last nodes fault new has at section found = elim found [
  | inl memory ↦ inl memory
  | inr fails ↦ (let P : Lines → Type 0 = λ lines. FaultInSection (elements_section (node_list nodes)) lines fault.kind fault.line in
      let Q : Lines → Type 0 = λ lines. MshFaultIn lines fault.kind fault.line in
      inr (subst Q new (in_elements section.count (node_list nodes) (has_nodes all rest last nodes has at section)
      (subst P (section.rest ∙ ap (after_end section.count) at) fails))))
]

-- the lists are those of a mesh of the text
pub whole_text : (text : List ℕ) (all rest last : Lines) (nodes : Nodes) (elements : Elements) (mesh : Mesh) → all ≡ text_lines None text → HasFormat all → rest ≡ after_format all →
    IsTable nodes → HasNodeSection rest nodes last → HasElementSection (node_list nodes) last elements →
    mesh ≡ record { ids = nodes.ids.items; points = nodes.points.items; quads = elements.quads.items; lines = elements.lines.items } → Msh text mesh
whole_text text all rest last nodes elements mesh new has at table section found is =
    let P : Lines → Type 0 = λ lines. HasSection (elements_section (node_list nodes)) lines found.count found.list in
    let Q : Lines → Type 0 = λ lines. HasElements lines (node_list nodes) found.list in
    let ids = joined_ids nodes.ids.items nodes.points.items table.whole in
    let points = joined_points nodes.ids.items nodes.points.items table.whole in
    record {
      nodes = node_list nodes;
      elements = found.list;
      reads = subst Q new (record {
        node_count = section.count;
        element_count = found.count;
        has = has_nodes all rest last nodes has at section;
        elements_are = subst P (section.rest ∙ ap (after_end section.count) at) found.section;
      });
      mesh_is = is ∙ (λ i. record { ids = sym ids i; points = sym points i; quads = found.holds.quads i; lines = found.holds.edges i });
    }
