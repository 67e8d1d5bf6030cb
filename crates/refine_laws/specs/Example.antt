-- A short kernel, which stores 7 in its buffer, and a launch of it with one region thread.
use Rattle.std.specs.Prelude.{ℕ, ◌-◌, ◌^◌, List, [], ◌∷◌, codes, Bool, true, false, Option, Some, None}
use Rattle.ir_core.specs.declared.types.Ty.TheVariants.{Void, Int as IntTy, Ptr}
use Rattle.ir_core.specs.declared.instructions.Value.TheVariants.{Int as IntValue, Null, Local as Register, Global as GlobalValue}
use Rattle.ir_core.specs.declared.instructions.Typed.{Typed}
use Rattle.ir_core.specs.declared.instructions.Pred.TheVariants.{Eq}
use Rattle.ir_core.specs.declared.instructions.TailWord.TheVariants.{Absent}
use Rattle.ir_core.specs.declared.instructions.Kind.{Kind}
use Rattle.ir_core.specs.declared.instructions.Kind.TheVariants.{ICmp, Store, Call, CondBr, Ret}
use Rattle.ir_core.specs.declared.instructions.Inst.{Inst}
use Rattle.ir_core.specs.declared.module.Module.{Module}
use Rattle.ir_core.specs.declared.module.Function.{Function}
use Rattle.ir_core.specs.declared.module.Block.{Block}
use Rattle.ir_core.specs.EntryPoints.{target_init, target_deinit}
use Rattle.mem_model.specs.declared.launch.Launch.{Launch}
use Rattle.mem_model.specs.declared.launch.Arg.TheVariants.{Buffer}
use Rattle.mem_model.specs.Launching.{Outcome}

abbrev pub number : ℕ → ℕ → Typed
number width n = record { ty = IntTy width; value = IntValue n }

abbrev pub null_ptr : Typed
null_ptr = record { ty = Ptr; value = Null }

abbrev pub step_at : ℕ → Option (List ℕ) → Kind → Inst
step_at line x kind = record { result = x; kind = kind; line = line }

abbrev pub flag_number : Bool → ℕ
flag_number true = 1
flag_number false = 0

abbrev pub entry : Bool → Block
entry flag = record {
  name = codes "entry";
  insts =
      step_at 3 (Some (codes "i")) (Call Absent (IntTy 32) (GlobalValue target_init) (null_ptr ∷ number 8 1 ∷ number 1 (flag_number flag) ∷ []))
      ∷ step_at 4 (Some (codes "m")) (ICmp Eq (IntTy 32) (Register (codes "i")) (IntValue (2 ^ 32 - 1)))
      ∷ step_at 5 None (CondBr (record { ty = IntTy 1; value = Register (codes "m") }) (codes "user") (codes "exit"))
      ∷ [];
  line = 2;
}

abbrev pub user : Block
user = record {
  name = codes "user";
  insts =
      step_at 7 None (Store (number 32 7) (record { ty = Ptr; value = Register (codes "p") }) None 0)
      ∷ step_at 8 None (Call Absent Void (GlobalValue target_deinit) (null_ptr ∷ number 8 1 ∷ []))
      ∷ step_at 9 None (Ret None)
      ∷ [];
  line = 6;
}

abbrev pub exit : Block
exit = record { name = codes "exit"; insts = step_at 11 None (Ret None) ∷ []; line = 10 }

abbrev pub kernel : Bool → Function
kernel flag = record { name = codes "k"; words = []; ret = Void; params = record { name = codes "p"; ty = Ptr } ∷ []; groups = []; blocks = entry flag ∷ user ∷ exit ∷ []; line = 1 }

-- the module, whose init call has this flag
abbrev pub example : Bool → Module
example flag = record { prelude = []; types = []; globals = []; functions = kernel flag ∷ []; tail = [] }

-- one region thread, and a buffer of four zero bytes
abbrev pub launch : Launch
launch = record { kernel = codes "k"; threads = 1; steps = 100000; args = Buffer (0 ∷ 0 ∷ 0 ∷ 0 ∷ []) ∷ [] }

-- the buffer holds 7, and nothing is printed
abbrev pub result_of_run : Outcome
result_of_run = record { prints = []; blocks = (Some 7 ∷ Some 0 ∷ Some 0 ∷ Some 0 ∷ []) ∷ [] }
