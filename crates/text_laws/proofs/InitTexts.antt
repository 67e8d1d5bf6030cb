-- The text of an initializer, by its kind.
use Rattle.std.proofs.Common.{◌≡◌, ℕ, List, ◌++◌, codes, map, ap, sym, ◌∙◌}
use Rattle.ir_core.specs.declared.types.Ty.{Ty}
use Rattle.ir_core.specs.declared.module.Init.{Init, fold-roll-Init}
use Rattle.ir_core.specs.declared.module.Init.TheOpen.{Init-F}
use Rattle.ir_core.specs.declared.module.Init.TheVariants.{Zero, Int, Null, Addr, Bytes, Square, Braces, rolls-Zero, rolls-Int, rolls-Null, rolls-Addr, rolls-Bytes, rolls-Square, rolls-Braces}
use Rattle.ir_core.specs.declared.module.Element.{Element, fold-Element, fold_out-Element}
use Rattle.text_laws.specs.Elements.{element_text}
use Rattle.ir_core.specs.Text.{number_text, global_name_text, init_text, init_layer, element_layer, quoted, in_spaces}

pub zero_text : (ty : Ty) → init_text ty Zero ≡ codes "zeroinitializer"
zero_text ty = ap (init_text ty) (sym rolls-Zero) ∙ ap (λ (f : Ty → List ℕ). f ty) (fold-roll-Init (Ty → List ℕ) (List ℕ) init_layer element_layer Init-F.Zero)

pub number_init_text : (ty : Ty) (n : ℕ) → init_text ty (Int n) ≡ number_text ty n
number_init_text ty n = ap (init_text ty) (sym (rolls-Int n)) ∙ ap (λ (f : Ty → List ℕ). f ty) (fold-roll-Init (Ty → List ℕ) (List ℕ) init_layer element_layer (Init-F.Int n))

pub null_text : (ty : Ty) → init_text ty Null ≡ codes "null"
null_text ty = ap (init_text ty) (sym rolls-Null) ∙ ap (λ (f : Ty → List ℕ). f ty) (fold-roll-Init (Ty → List ℕ) (List ℕ) init_layer element_layer Init-F.Null)

pub address_text : (ty : Ty) (x : List ℕ) → init_text ty (Addr x) ≡ global_name_text x
address_text ty x = ap (init_text ty) (sym (rolls-Addr x)) ∙ ap (λ (f : Ty → List ℕ). f ty) (fold-roll-Init (Ty → List ℕ) (List ℕ) init_layer element_layer (Init-F.Addr x))

pub bytes_text : (ty : Ty) (bytes : List ℕ) → init_text ty (Bytes bytes) ≡ codes "c" ++ quoted bytes
bytes_text ty bytes = ap (init_text ty) (sym (rolls-Bytes bytes)) ∙ ap (λ (f : Ty → List ℕ). f ty) (fold-roll-Init (Ty → List ℕ) (List ℕ) init_layer element_layer (Init-F.Bytes bytes))

each_element : (e : Element) → fold-Element (Ty → List ℕ) (List ℕ) init_layer element_layer e ≡ element_text e
each_element e = fold_out-Element (Ty → List ℕ) (List ℕ) init_layer element_layer e

pub square_text : (ty : Ty) (elements : List Element) → init_text ty (Square elements) ≡ codes "[" ++ in_spaces (codes ", ") (map element_text elements) ++ codes "]"
square_text ty elements =
    ap (init_text ty) (sym (rolls-Square elements))
    ∙ ap (λ (f : Ty → List ℕ). f ty) (fold-roll-Init (Ty → List ℕ) (List ℕ) init_layer element_layer (Init-F.Square elements))
    ∙ ap (λ (f : Element → List ℕ). codes "[" ++ in_spaces (codes ", ") (map f elements) ++ codes "]") (λ i e. each_element e i)

pub braces_text : (ty : Ty) (elements : List Element) → init_text ty (Braces elements) ≡ codes "{" ++ in_spaces (codes ", ") (map element_text elements) ++ codes "}"
braces_text ty elements =
    ap (init_text ty) (sym (rolls-Braces elements))
    ∙ ap (λ (f : Ty → List ℕ). f ty) (fold-roll-Init (Ty → List ℕ) (List ℕ) init_layer element_layer (Init-F.Braces elements))
    ∙ ap (λ (f : Element → List ℕ). codes "{" ++ in_spaces (codes ", ") (map f elements) ++ codes "}") (λ i e. each_element e i)

-- the same of a value that is known to be of the kind
pub is_zero_text : (ty : Ty) (init : Init) → init ≡ Zero → init_text ty init ≡ codes "zeroinitializer"
is_zero_text ty init e = ap (init_text ty) e ∙ zero_text ty

pub is_bytes_text : (ty : Ty) (init : Init) (bytes : List ℕ) → init ≡ Bytes bytes → init_text ty init ≡ codes "c" ++ quoted bytes
is_bytes_text ty init bytes e = ap (init_text ty) e ∙ bytes_text ty bytes

pub is_square_text : (ty : Ty) (init : Init) (elements : List Element) → init ≡ Square elements → init_text ty init ≡ codes "[" ++ in_spaces (codes ", ") (map element_text elements) ++ codes "]"
is_square_text ty init elements e = ap (init_text ty) e ∙ square_text ty elements

pub is_braces_text : (ty : Ty) (init : Init) (elements : List Element) → init ≡ Braces elements → init_text ty init ≡ codes "{" ++ in_spaces (codes ", ") (map element_text elements) ++ codes "}"
is_braces_text ty init elements e = ap (init_text ty) e ∙ braces_text ty elements
