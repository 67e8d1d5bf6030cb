-- The types of a module that a text can spell, and of one that differs from it in lines alone, have parts with sizes.
use Rattle.std.proofs.Common.{◌≡◌, ℕ, List, [], ◌∷◌, map, Bool, true, ◌&&◌, refl, sym, ap, ◌∙◌, inl, inr, ◌⊎◌}
use Rattle.std.specs.List.{flat_map, list_all}
use Rattle.std.proofs.lemmas.List.Folds.{list_all-append, list_all-map}
use Rattle.ir_core.specs.declared.instructions.Inst.{Inst}
use Rattle.ir_core.specs.declared.module.Block.{Block}
use Rattle.ir_core.specs.declared.module.Function.{Function}
use Rattle.ir_core.specs.declared.module.Module.{Module}
use Rattle.ir_core.specs.declared.module.TypeDef.{TypeDef}
use Rattle.ir_core.specs.Tokens.{Lexeme}
use Rattle.ir_core.specs.Instructions.{block}
use Rattle.ir_core.specs.Language.{first_block, blocks, definition, declaration, type_def, Item, TypeItem, VariableItem, FunctionItem, LineItem, item, item_types, item_functions, module_to_end}
use Rattle.ir_core.specs.Lines.{inst_unlined, block_unlined, function_unlined, type_unlined}
use Rattle.ir_core.specs.Formed.{Formed}
use Rattle.accepted_laws.specs.Sized.{are_parts_sized}
use Rattle.accepted_laws.proofs.Nothing.{both_hold}
use Rattle.accepted_laws.proofs.SizedTypes.{Passes, all_many, type_sized}
use Rattle.accepted_laws.proofs.SizedInsts.{inst_sized, block_sized, function_sized, body_sized, one_block_sized}

abbrev pub def_sized : TypeDef → Bool
def_sized d = are_parts_sized d.body

pub record SizedModule (m : Module) : Type 0 where
  pub types : list_all def_sized m.types ≡ true
  pub functions : list_all function_sized m.functions ≡ true

-- ---- functions and types

first_sized : (number : List ℕ) → Passes block_sized (first_block number)
first_sized number ts b (inl h) = one_block_sized ts b h
first_sized number ts b (inr h) = body_sized (number, h.0) ts b h.1

blocks_sized : (number : List ℕ) → Passes (list_all block_sized) (blocks number)
blocks_sized number ts bs h =
    let a = h.4 in
    let b = a.4 in
    ap (list_all block_sized) b.4.4.1 ∙ both_hold (block_sized a.0) (list_all block_sized b.0) (first_sized number a.1 a.0 a.3) (all_many block_sized block one_block_sized b.1 b.0 b.3)

definition_sized : Passes function_sized definition
definition_sized ts f h = let b = h.4.4.4.4 in ap function_sized b.4.1 ∙ blocks_sized _ b.1 b.0 b.3

declaration_sized : Passes function_sized declaration
declaration_sized ts f h = ap function_sized h.4.4.4.4.1

type_def_sized : Passes def_sized type_def
type_def_sized ts d h = let b = h.4.4.4 in ap def_sized b.4.1 ∙ type_sized b.1 b.0 b.3

-- ---- items

types_sized : (i : Item) (ts : List Lexeme) → item ts i → list_all def_sized (item_types i) ≡ true
types_sized (TypeItem d) ts h = both_hold (def_sized d) true (type_def_sized ts d h) refl
types_sized (VariableItem g) ts h = refl
types_sized (FunctionItem f) ts h = refl
types_sized (LineItem line) ts h = refl

either_sized : (f : Function) (ts : List Lexeme) → definition ts f ⊎ declaration ts f → function_sized f ≡ true
either_sized f ts (inl h) = definition_sized ts f h
either_sized f ts (inr h) = declaration_sized ts f h

functions_sized : (i : Item) (ts : List Lexeme) → item ts i → list_all function_sized (item_functions i) ≡ true
functions_sized (TypeItem d) ts h = refl
functions_sized (VariableItem g) ts h = refl
functions_sized (FunctionItem f) ts h = both_hold (function_sized f) true (either_sized f ts h) refl
functions_sized (LineItem line) ts h = refl

all_parts : {A B : Type 0} (test : B → Bool) (f : A → List B) (as_ : List A) → list_all (λ a. list_all test (f a)) as_ ≡ list_all test (flat_map f as_)
all_parts test f [] = refl
all_parts test f (a ∷ as_) = ap (λ b. list_all test (f a) && b) (all_parts test f as_) ∙ sym (list_all-append test (f a) (flat_map f as_))

module_sized : (ts : List Lexeme) (m : Module) → module_to_end ts m → SizedModule m
module_sized ts m h = record {
  types = ap (λ (n : Module). list_all def_sized n.types) h.4.1 ∙ sym (all_parts def_sized item_types h.0) ∙ all_many (λ i. list_all def_sized (item_types i)) item (λ us i k. types_sized i us k) h.1 h.0 h.3;
  functions = ap (λ (n : Module). list_all function_sized n.functions) h.4.1 ∙ sym (all_parts function_sized item_functions h.0) ∙ all_many (λ i. list_all function_sized (item_functions i)) item (λ us i k. functions_sized i us k) h.1 h.0 h.3;
}

-- ---- but for lines

insts_same : (is : List Inst) → list_all inst_sized (map inst_unlined is) ≡ list_all inst_sized is
insts_same is = list_all-map inst_sized inst_unlined is

blocks_same : (bs : List Block) → list_all block_sized (map block_unlined bs) ≡ list_all block_sized bs
blocks_same [] = refl
blocks_same (b ∷ bs) = ap (λ c. c && list_all block_sized (map block_unlined bs)) (insts_same b.insts) ∙ ap (λ c. block_sized b && c) (blocks_same bs)

functions_same : (fs : List Function) → list_all function_sized (map function_unlined fs) ≡ list_all function_sized fs
functions_same [] = refl
functions_same (f ∷ fs) = ap (λ c. c && list_all function_sized (map function_unlined fs)) (blocks_same f.blocks) ∙ ap (λ c. function_sized f && c) (functions_same fs)

types_same : (ds : List TypeDef) → list_all def_sized (map type_unlined ds) ≡ list_all def_sized ds
types_same ds = list_all-map def_sized type_unlined ds

pub formed_sized : (m : Module) → Formed m → SizedModule m
formed_sized m f =
    let s = module_sized _ f.spelled f.spells in
    record {
      types = sym (types_same m.types) ∙ ap (λ (n : Module). list_all def_sized n.types) f.same ∙ types_same f.spelled.types ∙ s.types;
      functions = sym (functions_same m.functions) ∙ ap (λ (n : Module). list_all function_sized n.functions) f.same ∙ functions_same f.spelled.functions ∙ s.functions;
    }
