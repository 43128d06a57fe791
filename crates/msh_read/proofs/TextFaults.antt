-- No line has the kind of fault that says that memory ran out.
use Rattle.std.proofs.Common.{◌≡◌, ℕ, ◌+◌, ◌^◌, List, [], ◌∷◌, length, drop, nat_lt, Bool, true, false}
use Rattle.std.specs.Prelude.{Ok, codes, nat_le, None, ◌==◌, if◌then◌else◌}
use Rattle.std.specs.declared.result.Result.{Result}
use Rattle.std.specs.Str.{bytes_eq}
use Rattle.fem_fixed.specs.Numbers.{id_of}
use Rattle.fem_text.specs.WordLines.{Lines, text_lines}
use Rattle.fem_text.proofs.NeverKind.{Never, good, bad, bind, of_option, of_test, of_exact, of_word, of_id, no_fault}
use Rattle.mesh_nodes.specs.Nodes.{place_of, ids_of}
use Rattle.mesh_nodes.proofs.NodeLines.{of_node_line}
use Rattle.msh_read.specs.declared.fault.MshKind.{MshKind}
use Rattle.msh_read.specs.declared.fault.MshKind.TheVariants as kinds
use Rattle.msh_read.specs.declared.elements.Element.TheVariants.{Quad}
use Rattle.msh_read.specs.declared.shape.Shape.{Shape}
use Rattle.msh_read.specs.declared.shape.Shape.TheVariants as shapes
use Rattle.fem_text.specs.Words.{this_word, all_of}
use Rattle.msh_read.specs.Others.{ending_of, behind_others}
use Rattle.msh_read.specs.Sections.{first_is, Section, FaultInSection, in_opening, in_head, in_rows, in_end, from_head, from_rows, from_end}
use Rattle.msh_read.specs.Format.{format_line, count_line}
use Rattle.msh_read.specs.Shapes.{shape_of, corner_count, quads_of}
use Rattle.msh_read.specs.Elements.{front_of, node_at, places_of, tag_of, element_of, placed_element, element_line}
use Rattle.msh_read.specs.Msh.{format_section, nodes_section, elements_section, MshFaultIn, MshFaultAt, in_format, in_nodes, in_elements, after_format, after_nodes}

-- it isn't that memory ran out
abbrev pub OfText : {A : Type 0} → Result A MshKind → Type 0
OfText r = Never kinds.NoMemory r

of_this_word : (kind : MshKind) (wanted : List ℕ) (words : List (List ℕ)) (place : ℕ) → (kind ≡ kinds.NoMemory → ⊥) → OfText (this_word kind wanted words place)
unfolding this_word
of_this_word kind wanted words place ne = bind _ _ _ (of_word _ kind words place ne) (λ word. of_test _ kind (bytes_eq word wanted) ne)

of_first : (wanted : List ℕ) (words : List (List ℕ)) → OfText (first_is wanted words)
of_first wanted words = of_this_word kinds.Section wanted words 0 (λ h. cc)

of_format : (words : List (List ℕ)) → OfText (format_line words)
unfolding format_line
of_format words =
    bind _ _ _ (of_exact _ 3 kinds.Format words (λ h. cc)) (λ three.
    bind _ _ _ (of_this_word kinds.Format (codes "2.2") words 0 (λ h. cc)) (λ version.
    bind _ _ _ (of_this_word kinds.Format (codes "0") words 1 (λ h. cc)) (λ text.
    bind _ _ _ (of_id _ kinds.Format words 2 (λ h. cc)) (λ size. good _ 0))))

of_count : (limit : ℕ) (words : List (List ℕ)) → OfText (count_line limit words)
unfolding count_line
of_count limit words =
    bind _ _ _ (of_exact _ 1 kinds.Section words (λ h. cc)) (λ one.
    bind _ _ _ (of_id _ kinds.Section words 0 (λ h. cc)) (λ count.
    bind _ _ _ (of_test _ kinds.Limit (nat_le count limit) (λ h. cc)) (λ few. good _ count)))

of_choice : {A : Type 0} (test : Bool) (x : A) (r : Result A MshKind) → OfText r → OfText (if test then Ok x else r)
of_choice true x r rest = good _ x
of_choice false x r rest = rest

of_shape : (number : ℕ) → OfText (shape_of number)
of_shape number =
    of_choice (number == 1) shapes.Line _ (of_choice (number == 3) shapes.Quad _ (of_choice (number == 15) shapes.Point _ (bad _ _ (λ h. cc))))

of_front : (words : List (List ℕ)) → OfText (front_of words)
unfolding front_of
of_front words =
    bind _ _ _ (of_id _ kinds.ElementLine words 0 (λ h. cc)) (λ number.
    bind _ _ _ (of_id _ kinds.ElementLine words 1 (λ h. cc)) (λ type.
    bind _ _ _ (of_id _ kinds.ElementLine words 2 (λ h. cc)) (λ tags.
    bind _ _ _ (of_shape type) (λ shape. good _ (record { shape = shape; tags = tags })))))

of_node : (ids : List ℕ) (id : ℕ) → OfText (node_at ids id)
of_node ids id = of_option _ kinds.UnknownNode (place_of ids id) (λ h. cc)

of_places : (ids corners : List ℕ) → OfText (places_of ids corners)
of_places ids [] = good _ []
of_places ids (corner ∷ corners) = bind _ _ _ (of_node ids corner) (λ place. bind _ _ _ (of_places ids corners) (λ places. good _ (place ∷ places)))

of_element : (shape : Shape) (tag quads : ℕ) (places : List ℕ) → OfText (element_of shape tag quads places)
of_element shapes.Quad tag quads places =
    bind _ _ _ (of_test _ kinds.Limit (nat_lt quads (2 ^ 20)) (λ h. cc)) (λ few. good _ (Quad (record { material = tag; corners = places })))
of_element shapes.Line tag quads places = good _ _
of_element shapes.Point tag quads places = good _ _

of_placed : (ids : List ℕ) (shape : Shape) (tag quads : ℕ) (corners : List ℕ) → OfText (placed_element ids shape tag quads corners)
unfolding placed_element
of_placed ids shape tag quads corners = bind _ _ _ (of_places ids corners) (λ places. of_element shape tag quads places)

of_element_line : (ids : List ℕ) (quads : ℕ) (words : List (List ℕ)) → OfText (element_line ids quads words)
unfolding element_line
of_element_line ids quads words =
    bind _ _ _ (of_front words) (λ front.
    bind _ _ _ (of_option _ kinds.ElementLine (all_of id_of (drop 3 words)) (λ h. cc)) (λ numbers.
    bind _ _ _ (of_test _ kinds.ElementLine (length numbers == front.tags + corner_count front.shape) (λ h. cc)) (λ whole.
    of_placed ids front.shape (tag_of front.tags numbers) quads (drop front.tags numbers))))

fault_in_section : {X : Type 0} (section : Section X) (lines : Lines) (line : ℕ) → ((words : List (List ℕ)) → OfText (section.head words)) →
    ((before : List X) (words : List (List ℕ)) → OfText (section.row before words)) → FaultInSection section lines kinds.NoMemory line → ⊥
fault_in_section section lines line head row (in_opening fault) =
    no_fault kinds.NoMemory kinds.TooFew (first_is section.opening) (behind_others lines) 0 line (λ h. cc) (of_first section.opening) fault
fault_in_section section lines line head row (in_head opens fault) = no_fault kinds.NoMemory kinds.TooFew section.head (from_head lines) 0 line (λ h. cc) head fault
fault_in_section section lines line head row (in_rows count has fails) =
    no_fault kinds.NoMemory kinds.TooFew (section.row fails.before) (from_rows lines) (length fails.before) line (λ h. cc) (row fails.before) fails.fault
fault_in_section section lines line head row (in_end count rows has fault) =
    no_fault kinds.NoMemory kinds.TooFew (first_is (ending_of section.opening)) (from_end count lines) 0 line (λ h. cc) (of_first (ending_of section.opening)) fault

fault_of_text : (lines : Lines) (line : ℕ) → MshFaultIn lines kinds.NoMemory line → ⊥
fault_of_text lines line (in_format fault) = fault_in_section format_section lines line of_format (λ before words. bad _ _ (λ h. cc)) fault
fault_of_text lines line (in_nodes has fault) =
    fault_in_section nodes_section (after_format lines) line (of_count (2 ^ 20))
    (λ before words. of_node_line kinds.NoMemory kinds.NodeLine kinds.Number kinds.DuplicateId before words (λ h. cc) (λ h. cc) (λ h. cc)) fault
fault_of_text lines line (in_elements count nodes has fault) =
    fault_in_section (elements_section nodes) (after_nodes count lines) line (of_count (2 ^ 21))
    (λ before words. of_element_line (ids_of nodes) (length (quads_of before)) words) fault

-- what is wrong with a text is never that memory ran out
pub never_memory : (text : List ℕ) (line : ℕ) → MshFaultAt text kinds.NoMemory line → ⊥
never_memory text line fault = fault_of_text (text_lines None text) line fault
