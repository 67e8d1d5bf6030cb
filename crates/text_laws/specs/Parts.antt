-- The parts of a module that some text of bytes spells: what each of them is, whatever the others are. Lines count for nothing.
use Rattle.std.specs.Prelude.{◌≡◌, ℕ, List, [], ◌∷◌, ◌++◌, map, All, None, Bool, true, false}
use Rattle.ir_core.specs.declared.instructions.Inst.{Inst}
use Rattle.ir_core.specs.declared.module.Module.{Module}
use Rattle.ir_core.specs.declared.module.TypeDef.{TypeDef}
use Rattle.ir_core.specs.declared.module.Global.{Global}
use Rattle.ir_core.specs.declared.module.Function.{Function}
use Rattle.ir_core.specs.declared.module.Param.{Param}
use Rattle.ir_core.specs.declared.module.Block.{Block}
use Rattle.ir_core.specs.Tokens.{IsPassive}
use Rattle.ir_core.specs.Forms.{maybe, type_, result_type, begins_with_llvm}
use Rattle.ir_core.specs.Instructions.{plain, last, is_kept, next_alignment}
use Rattle.ir_core.specs.Language.{Unnumbered, params_behind, kept_words, groups, some_init, is_prelude_line}
use Rattle.text_laws.specs.Spelling.{AreBytes, IsSpelled}

-- ---- blocks

-- an instruction that ends no block, and is kept
pub record FormedInst (i : Inst) : Type 0 where
  pub kept : is_kept i ≡ true
  pub spelled : IsSpelled plain i

-- plain instructions, and one that ends the block
pub record FormedInsts (is : List Inst) : Type 0 where
  pub front : List Inst
  pub end : Inst
  pub whole : is ≡ front ++ end ∷ []
  pub plain : All FormedInst front
  pub last : IsSpelled last end

pub record FormedBlock (b : Block) : Type 0 where
  pub name : AreBytes b.name
  pub insts : FormedInsts b.insts

-- ---- functions

pub record FormedParam (p : Param) : Type 0 where
  pub name : AreBytes p.name
  pub ty : IsSpelled type_ p.ty

-- the parameter without its name
abbrev pub unnamed : Param → Unnumbered
unnamed p = (p.ty, None)

-- a function without blocks is a declaration, whose parameters have numbers for names
pub record FormedFunction (f : Function) : Type 0 where
  pub words : IsSpelled kept_words f.words
  pub result : IsSpelled result_type f.ret
  pub name : AreBytes f.name
  pub params : All FormedParam f.params
  pub groups : IsSpelled groups f.groups
  pub blocks : All FormedBlock f.blocks
  pub numbered : f.blocks ≡ [] → params_behind [] (map unnamed f.params) ≡ f.params

-- ---- other items

pub record FormedType (t : TypeDef) : Type 0 where
  pub name : AreBytes t.name
  pub body : IsSpelled type_ t.body

pub record FormedGlobal (g : Global) : Type 0 where
  pub name : AreBytes g.name
  pub not_llvm : begins_with_llvm g.name ≡ false
  pub words : IsSpelled kept_words g.words
  pub ty : IsSpelled type_ g.ty
  pub init : IsSpelled (maybe None (some_init g.ty)) g.init
  pub align : IsSpelled next_alignment g.align

-- a line that is kept whole, before the other items or behind them
pub record FormedLine (before : Bool) (line : List ℕ) : Type 0 where
  pub bytes : AreBytes line
  pub passive : IsPassive line
  pub place : is_prelude_line line ≡ before

-- ---- modules

pub record FormedParts (m : Module) : Type 0 where
  pub prelude : All (FormedLine true) m.prelude
  pub types : All FormedType m.types
  pub globals : All FormedGlobal m.globals
  pub functions : All FormedFunction m.functions
  pub tail : All (FormedLine false) m.tail
