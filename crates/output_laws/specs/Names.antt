-- Edits of instructions that change no names, and of which nothing is refused.
use Rattle.std.specs.Prelude.{◌≡◌, [], Some, slice_get}
use Rattle.ir_core.specs.declared.instructions.Inst.{Inst}
use Rattle.ir_core.specs.declared.module.Module.{Module}
use Rattle.ir_core.specs.declared.module.Function.{Function}
use Rattle.ir_core.specs.declared.module.Block.{Block}
use Rattle.ir_core.specs.Places.{Place}
use Rattle.ir_core.specs.Given.{result_type}
use Rattle.ir_core.specs.Typing.{scope_of, targets_of, in_inst}
use Rattle.ir_core.specs.NameRefusals.{is_phi}

-- the new instruction gives the register that the old one gave, goes where it went, and is a phi where it was one
pub record KeepsNames (edit : Inst → Inst) : Type 0 where
  pub line : (i : Inst) → (edit i).line ≡ i.line
  pub result : (i : Inst) → (edit i).result ≡ i.result
  pub ty : (i : Inst) → result_type (edit i).kind ≡ result_type i.kind
  pub targets : (i : Inst) → targets_of (edit i).kind ≡ targets_of i.kind
  pub phi : (i : Inst) → is_phi (edit i).kind ≡ is_phi i.kind

-- where nothing is refused of an instruction of the module, nothing is refused of the new one in its place
abbrev pub KeepsRules : (Inst → Inst) → Module → Type 0
KeepsRules edit m = (p : Place) (f : Function) (b : Block) (i : Inst) → slice_get m.functions p.function ≡ Some f → slice_get f.blocks p.block ≡ Some b → slice_get b.insts p.index ≡ Some i → in_inst (scope_of m f) b.name i ≡ [] → in_inst (scope_of m f) b.name (edit i) ≡ []
