-- What the instructions of a module keep where its unused state machine is switched off.
use Rattle.std.proofs.Common.{◌≡◌, ℕ, zero, suc, List, [], ◌∷◌, ◌++◌, map, Bool, true, false, ◌==◌, refl, sym, ap, ◌∙◌, if◌then◌else◌}
use Rattle.std.specs.Prelude.{slice_get}
use Rattle.std.specs.List.{flat_map}
use Rattle.std.specs.Str.{bytes_eq}
use Rattle.std.proofs.lemmas.List.{map-append}
use Rattle.std.proofs.lemmas.Slice.Eq.{bytes_eq-Decides}
use Rattle.ir_core.specs.declared.types.Ty.{Ty}
use Rattle.ir_core.specs.declared.instructions.Value.TheVariants.{Int as IntValue, Null, Local as LocalValue, Global as GlobalValue}
use Rattle.ir_core.specs.declared.instructions.Typed.{Typed}
use Rattle.ir_core.specs.declared.instructions.TailWord.{TailWord}
use Rattle.ir_core.specs.declared.instructions.Kind.{Kind}
use Rattle.ir_core.specs.declared.instructions.Kind.TheVariants.{Call}
use Rattle.ir_core.specs.declared.instructions.Inst.{Inst}
use Rattle.ir_core.specs.declared.module.Module.{Module}
use Rattle.ir_core.specs.declared.module.Function.{Function}
use Rattle.ir_core.specs.declared.module.Block.{Block}
use Rattle.ir_core.specs.declared.rtl.Rtl.{Rtl}
use Rattle.ir_core.specs.EntryPoints.{target_init, entry_name}
use Rattle.ir_core.specs.MachineOff.{calls_init, operands_off, kind_off, inst_off, block_off, function_off, machine_off}
use Rattle.ir_core.specs.Places.{Name}
use Rattle.shapes.specs.Insts.{block_insts}
use Rattle.shapes.specs.Facts.{insts_of, insts_in, calls, is_call_of, operands_of, operand_of}
use Rattle.accepted_laws.proofs.Nothing.{not_both}

-- ---- lists of instructions

-- what is said of each item is said of the list
pub flat_same : {X Y Z : Type 0} (f : X → List Z) (g : Y → List Z) (h : X → Y) → ((x : X) → g (h x) ≡ f x) → (xs : List X) → flat_map g (map h xs) ≡ flat_map f xs
flat_same f g h same [] = refl
flat_same f g h same (x ∷ xs) = let more = flat_same f g h same xs in λ k. same x k ++ more k

blocks_off : (bs : List Block) → flat_map block_insts (map block_off bs) ≡ map inst_off (flat_map block_insts bs)
blocks_off [] = refl
blocks_off (b ∷ bs) = ap (λ is. map inst_off b.insts ++ is) (blocks_off bs) ∙ sym (map-append inst_off b.insts (flat_map block_insts bs))

pub insts_of_off : (f : Function) → insts_of (function_off f) ≡ map inst_off (insts_of f)
insts_of_off f = blocks_off f.blocks

functions_off : (fs : List Function) → flat_map insts_of (map function_off fs) ≡ map inst_off (flat_map insts_of fs)
functions_off [] = refl
functions_off (f ∷ fs) = (λ k. insts_of_off f k ++ functions_off fs k) ∙ sym (map-append inst_off (insts_of f) (flat_map insts_of fs))

pub insts_in_off : (m : Module) → insts_in (machine_off m) ≡ map inst_off (insts_in m)
insts_in_off m = functions_off m.functions

-- ---- calls

pub calls_off : (r : Rtl) (k : Kind) → calls r (kind_off k) ≡ calls r k
calls_off r (Call tail_word ret callee operands) = refl
calls_off r _ = refl

pub is_call_off : (r : Rtl) (i : Inst) → is_call_of r (inst_off i) ≡ is_call_of r i
is_call_off r i = calls_off r i.kind

-- a call of another entry point stays as it is
called_other : (tail_word : TailWord) (ret : Ty) (x y : Name) (operands : List Typed) → bytes_eq target_init y ≡ false → bytes_eq x y ≡ true → kind_off (Call tail_word ret (GlobalValue x) operands) ≡ Call tail_word ret (GlobalValue x) operands
called_other tail_word ret x y operands apart same = by (bytes_eq x target_init) refl
  where
    by : (init : Bool) → bytes_eq x target_init ≡ init → Call tail_word ret (GlobalValue x) (if init then operands_off operands else operands) ≡ Call tail_word ret (GlobalValue x) operands
    by true e = not_both (bytes_eq x y) same (ap (λ z. bytes_eq z y) ((bytes_eq-Decides x target_init).0 e) ∙ apart)
    by false e = refl

pub other_call : (r : Rtl) → bytes_eq target_init (entry_name r) ≡ false → (k : Kind) → calls r k ≡ true → kind_off k ≡ k
other_call r apart (Call tail_word ret (GlobalValue x) operands) e = called_other tail_word ret x (entry_name r) operands apart e
other_call r apart (Call tail_word ret (LocalValue x) operands) e = refl
other_call r apart (Call tail_word ret (IntValue n) operands) e = refl
other_call r apart (Call tail_word ret Null operands) e = refl
other_call r apart _ e = refl

-- ---- operands

-- of three operands only the last is changed
operands_at : (vs : List Typed) (n : ℕ) → (n == 2) ≡ false → slice_get (operands_off vs) n ≡ slice_get vs n
operands_at [] n e = refl
operands_at (a ∷ []) n e = refl
operands_at (a ∷ b ∷ []) n e = refl
operands_at (a ∷ b ∷ c ∷ []) zero e = refl
operands_at (a ∷ b ∷ c ∷ []) (suc zero) e = refl
operands_at (a ∷ b ∷ c ∷ []) (suc (suc zero)) e = not_both true refl e
operands_at (a ∷ b ∷ c ∷ []) (suc (suc (suc n))) e = refl
operands_at (a ∷ b ∷ c ∷ d ∷ vs) n e = refl

pub kind_operand : (k : Kind) (n : ℕ) → (n == 2) ≡ false → slice_get (operands_of (kind_off k)) n ≡ slice_get (operands_of k) n
kind_operand (Call tail_word ret callee operands) n e = by (calls_init callee)
  where
    by : (init : Bool) → slice_get (if init then operands_off operands else operands) n ≡ slice_get operands n
    by true = operands_at operands n e
    by false = refl
kind_operand _ n e = refl

pub operand_off : (i : Inst) (n : ℕ) → (n == 2) ≡ false → operand_of (inst_off i) n ≡ operand_of i n
operand_off i n e = kind_operand i.kind n e
