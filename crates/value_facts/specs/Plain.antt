-- Allocations whose result is used in plain ways alone, so that a block of the stack can take its place.
use Rattle.std.specs.Prelude.{◌≡◌, ◌⊎◌, ℕ, List, [], true, false, Some, slice_get}
use Rattle.reach.specs.Chains.{Leads}
use Rattle.ir_core.specs.declared.instructions.Value.{Value}
use Rattle.ir_core.specs.declared.instructions.Value.TheVariants.{Local as LocalValue, Int as IntValue}
use Rattle.ir_core.specs.declared.instructions.Typed.{Typed}
use Rattle.ir_core.specs.declared.instructions.Kind.{Kind}
use Rattle.ir_core.specs.declared.instructions.Kind.TheVariants.{Bin, ICmp, Cast, Select, Phi, Load, Store, Rmw, Gep, Call, CondBr, Switch, Ret}
use Rattle.ir_core.specs.declared.instructions.Inst.{Inst}
use Rattle.ir_core.specs.declared.module.Module.{Module}
use Rattle.ir_core.specs.declared.rtl.Rtl.TheVariants.{AllocShared, FreeShared}
use Rattle.ir_core.specs.Places.{Name, Place, inst_at}
use Rattle.shapes.specs.Facts.{is_call_of, operand_of}
use Rattle.value_facts.specs.Pointers.{StandsIn, Gives}

-- ---- the values that an instruction uses

abbrev pub Among : List Typed → Value → Type 0
Among operands v = (place : ℕ) × (o : Typed) × (slice_get operands place ≡ Some o) × (o.value ≡ v)

-- an instruction uses a value otherwise than as the pointer of an access or of a getelementptr
abbrev pub UsesOtherwise : Kind → Value → Type 0
UsesOtherwise (Bin op flags ty a b) v = (a ≡ v) ⊎ (b ≡ v)
UsesOtherwise (ICmp pred ty a b) v = (a ≡ v) ⊎ (b ≡ v)
UsesOtherwise (Cast op from to) v = from.value ≡ v
UsesOtherwise (Select c a b) v = (c.value ≡ v) ⊎ (a.value ≡ v) ⊎ (b.value ≡ v)
UsesOtherwise (Phi ty edges) v = (place : ℕ) × (e : _) × (slice_get edges place ≡ Some e) × (e.value ≡ v)
UsesOtherwise (Store value at order align) v = value.value ≡ v
UsesOtherwise (Rmw op at value order align) v = value.value ≡ v
UsesOtherwise (Gep inbounds ty base path) v = Among path v
UsesOtherwise (Call tail_word ret callee operands) v = (callee ≡ v) ⊎ Among operands v
UsesOtherwise (CondBr c then_to else_to) v = c.value ≡ v
UsesOtherwise (Switch on other cases) v = on.value ≡ v
UsesOtherwise (Ret (Some value)) v = value.value ≡ v
UsesOtherwise _ v = ⊥

-- ---- plain uses

-- a getelementptr goes from one register to another
abbrev pub GoesOn : Module → ℕ → Name → Name → Type 0
GoesOn m at from to = (inbounds : _) × (ty : _) × (base : Typed) × (path : List Typed) × Gives m at to (Gep inbounds ty base path) × (base.value ≡ LocalValue from)

-- a release of so many bytes of a register
abbrev pub Releases : ℕ → Name → Inst → Type 0
Releases n x i = (at size : Typed) × (is_call_of FreeShared i ≡ true) × (operand_of i 0 ≡ Some at) × (operand_of i 1 ≡ Some size) × (at.value ≡ LocalValue x) × (size.value ≡ IntValue n)

-- each use of the register, directly or through getelementptr alone, is the pointer of an access or of a getelementptr, or a release of
-- the same size that uses it directly
abbrev pub IsUsedPlainly : Module → ℕ → Name → Value → Type 0
IsUsedPlainly m at x size =
    (y : Name) (i : Inst) → Leads (GoesOn m at) x y → StandsIn m at i → UsesOtherwise i.kind (LocalValue y) → (n : ℕ) × (size ≡ IntValue n) × (y ≡ x) × Releases n x i

-- at the place stands an allocation with a result that is used plainly
abbrev pub Plain : Module → Place → Type 0
Plain m p =
    (i : Inst) × (x : Name) × (size : Typed) × (inst_at m p ≡ Some i) × (is_call_of AllocShared i ≡ true) × (i.result ≡ Some x) × (operand_of i 0 ≡ Some size)
    × IsUsedPlainly m p.function x size.value
