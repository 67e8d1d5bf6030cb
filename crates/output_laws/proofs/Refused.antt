-- Nothing is refused of the names and types of a module whose instructions are replaced by others that keep names and rules.
use Rattle.std.proofs.Common.{◌≡◌, ℕ, zero, suc, List, [], ◌∷◌, ◌++◌, map, Bool, true, false, if◌then◌else◌, Option, Some, None, ◌&&◌, refl, sym, ap, ◌∙◌}
use Rattle.std.specs.Prelude.{slice_get}
use Rattle.std.specs.List.{flat_map}
use Rattle.ir_core.specs.declared.types.Ty.{Ty}
use Rattle.ir_core.specs.declared.instructions.Kind.{Kind}
use Rattle.ir_core.specs.declared.instructions.Kind.TheVariants.{Phi}
use Rattle.ir_core.specs.declared.instructions.Inst.{Inst}
use Rattle.ir_core.specs.declared.module.Module.{Module}
use Rattle.ir_core.specs.declared.module.Function.{Function}
use Rattle.ir_core.specs.declared.module.Block.{Block}
use Rattle.ir_core.specs.declared.module.Global.{Global}
use Rattle.ir_core.specs.declared.module.Init.{Init, fold-Init}
use Rattle.ir_core.specs.declared.module.Init.TheOpen.{Init-F}
use Rattle.ir_core.specs.declared.refusal.Construct.{Construct}
use Rattle.ir_core.specs.EntryPoints.{is_entry_point}
use Rattle.ir_core.specs.Places.{Name}
use Rattle.ir_core.specs.Given.{local_names}
use Rattle.ir_core.specs.Typing.{Scope, scope_of, in_inst, expects, in_type}
use Rattle.ir_core.specs.NameRefusals.{at, is_result, in_param, if_entry_point, repeated, Part, init_layer, element_layer, in_contents, of_global, in_declaration, in_heading, is_phi, in_order, of_insts, of_block, of_function, repeated_by_line, global_names, of_type, name_refusals}
use Rattle.accepted_laws.proofs.Nothing.{front_none, back_none, nothing_at}
use Rattle.formed_parts.specs.Edits.{block_edited, function_edited, module_edited}
use Rattle.output_laws.specs.Names.{KeepsNames, KeepsRules}
use Rattle.output_laws.proofs.Agree.{inst_same}
use Rattle.output_laws.proofs.Given.{value_edited, local_names_edited, scope_edited}

-- ---- lists of which no part has anything

both_none : {A : Type 0} (xs ys : List A) → xs ≡ [] → ys ≡ [] → xs ++ ys ≡ []
both_none xs ys e f = λ k. e k ++ f k

parts_none : {A X Y : Type 0} (f : X → List A) (g : Y → List A) (h : X → Y) (xs : List X) → ((at : ℕ) (x : X) → slice_get xs at ≡ Some x → f x ≡ [] → g (h x) ≡ []) → flat_map f xs ≡ [] → flat_map g (map h xs) ≡ []
parts_none f g h [] law e = refl
parts_none f g h (x ∷ xs) law e =
    both_none (g (h x)) (flat_map g (map h xs))
    (law zero x refl (front_none (f x) (flat_map f xs) e))
    (parts_none f g h xs (λ at y is. law (suc at) y is) (back_none (f x) (flat_map f xs) e))

-- ---- instructions and blocks

order_same : (only_phis : Bool) (k l : Kind) → is_phi k ≡ is_phi l → in_order only_phis k ≡ in_order only_phis l
order_same only_phis k l e = by_phi k ∙ ap (λ b. if b then expects only_phis else []) e ∙ sym (by_phi l)
  where
    by_phi : (k : Kind) → in_order only_phis k ≡ (if is_phi k then expects only_phis else [])
    by_phi (Phi ty edges) = refl
    by_phi _ = refl

insts_edited : (edit : Inst → Inst) → KeepsNames edit → (s t : Scope) (b : Name) (only_phis : Bool) (is : List Inst) → ((at : ℕ) (i : Inst) → slice_get is at ≡ Some i → in_inst s b i ≡ [] → in_inst t b (edit i) ≡ []) → of_insts s b only_phis is ≡ [] → of_insts t b only_phis (map edit is) ≡ []
insts_edited edit keeps s t b only_phis [] law e = refl
insts_edited edit keeps s t b only_phis (i ∷ is) law e =
    let rest = of_insts s b (only_phis && is_phi i.kind) is in
    let here = nothing_at i.line (in_inst s b i ++ in_order only_phis i.kind) (front_none (at i.line (in_inst s b i ++ in_order only_phis i.kind)) rest e) in
    let rules = law zero i refl (front_none (in_inst s b i) (in_order only_phis i.kind) here) in
    let order = order_same only_phis (edit i).kind i.kind (keeps.phi i) ∙ back_none (in_inst s b i) (in_order only_phis i.kind) here in
    let more = insts_edited edit keeps s t b (only_phis && is_phi i.kind) is (λ at j get. law (suc at) j get) (back_none (at i.line (in_inst s b i ++ in_order only_phis i.kind)) rest e) in
    let more2 : of_insts t b (only_phis && is_phi (edit i).kind) (map edit is) ≡ [] = ap (λ p. of_insts t b (only_phis && p) (map edit is)) (keeps.phi i) ∙ more in
    λ k. at (edit i).line (rules k ++ order k) ++ more2 k

-- ---- headings

-- whether a function has blocks stays the same
declared_edited : (edit : Inst → Inst) (f : Function) (bs : List Block) → in_declaration (function_edited edit f) (map (block_edited edit) bs) ≡ in_declaration f bs
declared_edited edit f [] = refl
declared_edited edit f (b ∷ bs) = refl

heading_edited : (edit : Inst → Inst) (m : Module) (f : Function) → in_heading (module_edited edit m) (function_edited edit f) ≡ in_heading m f
heading_edited edit m f = ap (λ cs. in_type m f.ret ++ expects (is_result f.ret) ++ flat_map (in_param m) f.params ++ (if is_entry_point f.name then cs else [])) (declared_edited edit f f.blocks)

-- ---- functions

function_fine : (edit : Inst → Inst) → KeepsNames edit → (m : Module) → KeepsRules edit m → (place : ℕ) (f : Function) → slice_get m.functions place ≡ Some f → of_function m f ≡ [] → of_function (module_edited edit m) (function_edited edit f) ≡ []
function_fine edit keeps m rules place f is e =
    let s = scope_of m f in
    let t = scope_of (module_edited edit m) (function_edited edit f) in
    let agrees = scope_edited edit keeps m f in
    let heading = at f.line (in_heading m f) in
    let names = repeated [] (map (λ n. (n.name, n.line)) (local_names f)) in
    let blocks = flat_map (of_block s) f.blocks in
    let heading_none = front_none heading names (front_none (heading ++ names) blocks e) in
    let names_none = back_none heading names (front_none (heading ++ names) blocks e) in
    let blocks_none = parts_none (of_block s) (of_block t) (block_edited edit) f.blocks (λ block b get none. insts_edited edit keeps s t b.name true b.insts (λ index i got fine. inst_same agrees b.name (edit i) ∙ rules (record { function = place; block = block; index = index }) f b i is get got fine) none) (back_none (heading ++ names) blocks e) in
    let a = ap (at f.line) (heading_edited edit m f) ∙ heading_none in
    let n = ap (λ names. repeated [] (map (λ n. (n.name, n.line)) names)) (local_names_edited edit keeps f) ∙ names_none in
    λ k. a k ++ n k ++ blocks_none k

-- ---- globals

layer_same : (edit : Inst → Inst) (m : Module) (l : Init-F (Ty → List Construct) Part) (ty : Ty) → init_layer (module_edited edit m) l ty ≡ init_layer m l ty
layer_same edit m Init-F.Zero ty = refl
layer_same edit m (Init-F.Int n) ty = refl
layer_same edit m Init-F.Null ty = refl
layer_same edit m (Init-F.Addr x) ty = value_edited edit m false ty x
layer_same edit m (Init-F.Bytes bytes) ty = refl
layer_same edit m (Init-F.Square parts) ty = refl
layer_same edit m (Init-F.Braces parts) ty = refl

contents_same : (edit : Inst → Inst) (m : Module) (ty : Ty) (init : Option Init) → in_contents (module_edited edit m) ty init ≡ in_contents m ty init
contents_same edit m ty None = refl
contents_same edit m ty (Some init) = λ k. fold-Init (Ty → List Construct) Part (λ l u. layer_same edit m l u k) (element_layer m) init ty

global_same : (edit : Inst → Inst) (m : Module) (g : Global) → of_global (module_edited edit m) g ≡ of_global m g
global_same edit m g = ap (λ cs. at g.line (in_type m g.ty ++ cs ++ if_entry_point g.name)) (contents_same edit m g.ty g.init)

-- ---- the whole

abbrev name_entry : Function → Name × ℕ
name_entry f = (f.name, f.line)

names_same : (edit : Inst → Inst) (fs : List Function) → map name_entry (map (function_edited edit) fs) ≡ map name_entry fs
names_same edit [] = refl
names_same edit (f ∷ fs) = ap (λ ns. name_entry f ∷ ns) (names_same edit fs)

pub edits_keep_names : (edit : Inst → Inst) → KeepsNames edit → (m : Module) → KeepsRules edit m → name_refusals m ≡ [] → name_refusals (module_edited edit m) ≡ []
edits_keep_names edit keeps m rules e =
    let types = repeated [] (map (λ d. (d.name, d.line)) m.types) ++ flat_map (of_type m) m.types in
    let names = repeated_by_line [] (global_names m) in
    let globals = flat_map (of_global m) m.globals in
    let functions = flat_map (of_function m) m.functions in
    let front = front_none (types ++ names ++ globals) functions e in
    let fine = parts_none (of_function m) (of_function (module_edited edit m)) (function_edited edit) m.functions (function_fine edit keeps m rules) (back_none (types ++ names ++ globals) functions e) in
    let same : types ++ repeated_by_line [] (global_names (module_edited edit m)) ++ flat_map (of_global (module_edited edit m)) m.globals ≡ types ++ names ++ globals =
    λ k. types ++ repeated_by_line [] (map (λ g. (g.name, g.line)) m.globals ++ names_same edit m.functions k) ++ flat_map (λ g. global_same edit m g k) m.globals in
    both_none _ _ (same ∙ front) fine
