-- What holds of every module that the optimiser may give.
use Rattle.std.proofs.Common.{◌≡◌, ℕ, ◌≤◌, length, Option, Some, None, option_map, refl, ap, ◌∙◌, slice_get}
use Rattle.std.proofs.lemmas.Option.{slice_get-map}
use Rattle.ir_core.specs.declared.types.Ty.{Ty}
use Rattle.ir_core.specs.declared.instructions.Inst.{Inst}
use Rattle.ir_core.specs.declared.module.Block.{Block}
use Rattle.ir_core.specs.declared.module.Function.{Function}
use Rattle.ir_core.specs.declared.module.Module.{Module}
use Rattle.ir_core.specs.Layout.{WellFormed}
use Rattle.ir_core.specs.MachineOff.{inst_off, block_off, function_off, machine_off}
use Rattle.ir_core.specs.Places.{Place, block_in, inst_in, inst_at}
use Rattle.shapes.specs.Facts.{insts_in}
use Rattle.shapes.specs.Limits.{kind_types, instruction_limit}
use Rattle.accepted_laws.proofs.Few.{instructions_are_few}
use Rattle.accepted_laws.proofs.Sizes.{types_have_sizes}
use Rattle.out_modules.specs.Outputs.{IsOutput}

-- ---- few instructions

pub output_few : (m : Module) → IsOutput m → length (insts_in m) ≤ instruction_limit
output_few m h = instructions_are_few m h.limits

-- ---- types that have sizes

-- the type of a new block of the stack has a size, and so has the one that a getelementptr goes through
abbrev pub TypesAreSized : Module → Type 0
TypesAreSized m = (p : Place) (i : Inst) (place : ℕ) (ty : Ty) → inst_at m p ≡ Some i → slice_get (kind_types i.kind) place ≡ Some ty → WellFormed m.types ty

pub output_sized : (m : Module) → IsOutput m → TypesAreSized m
output_sized m h = λ p i place ty is has. types_have_sizes m h.formed h.names p i place ty is has

-- ---- the machines switched off

block_off_in : (o : Option Function) (at : ℕ) → block_in (option_map function_off o) at ≡ option_map block_off (block_in o at)
block_off_in None at = refl
block_off_in (Some f) at = slice_get-map block_off f.blocks at

inst_off_in : (o : Option Block) (at : ℕ) → inst_in (option_map block_off o) at ≡ option_map inst_off (inst_in o at)
inst_off_in None at = refl
inst_off_in (Some b) at = slice_get-map inst_off b.insts at

-- an instruction of the module with its machines off is one of the module
pub inst_off_at : (m : Module) (p : Place) → inst_at (machine_off m) p ≡ option_map inst_off (inst_at m p)
inst_off_at m p =
    ap (λ f. inst_in (block_in f p.block) p.index) (slice_get-map function_off m.functions p.function)
    ∙ ap (λ b. inst_in b p.index) (block_off_in (slice_get m.functions p.function) p.block)
    ∙ inst_off_in (block_in (slice_get m.functions p.function) p.block) p.index
