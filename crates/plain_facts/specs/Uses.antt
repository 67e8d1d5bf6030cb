-- The uses of registers otherwise than as the pointer of an access or of a getelementptr, in the order of the text, and what they say of
-- each register.
use Rattle.std.specs.Prelude.{◌≡◌, ◌==◌, ◌<◌, ℕ, List, [], ◌∷◌, ◌++◌, length, Option, Some, None, slice_get, if◌then◌else◌}
use Rattle.std.specs.List.{flat_map}
use Rattle.ir_core.specs.declared.instructions.Value.{Value}
use Rattle.ir_core.specs.declared.instructions.Value.TheVariants.{Local as LocalValue, Int as IntValue}
use Rattle.ir_core.specs.declared.instructions.Typed.{Typed}
use Rattle.ir_core.specs.declared.instructions.Edge.{Edge}
use Rattle.ir_core.specs.declared.instructions.Kind.{Kind}
use Rattle.ir_core.specs.declared.instructions.Kind.TheVariants.{Bin, ICmp, Cast, Select, Phi, Store, Rmw, Gep, Call, CondBr, Switch, Ret}
use Rattle.ir_core.specs.declared.instructions.Inst.{Inst}
use Rattle.ir_core.specs.declared.module.Module.{Module}
use Rattle.ir_core.specs.declared.module.Function.{Function}
use Rattle.ir_core.specs.declared.rtl.Rtl.TheVariants.{FreeShared}
use Rattle.shapes.specs.Facts.{insts_of, is_call_of, operand_of}
use Rattle.register_numbers.specs.Numbers.{number_of}
use Rattle.register_hops.specs.Placed.{by_place}
use Rattle.register_hops.specs.Numbered.{Stands}
use Rattle.plain_facts.specs.declared.uses.Use.{Use}
use Rattle.plain_facts.specs.declared.uses.Release.{Release}
use Rattle.plain_facts.specs.declared.own.Own.{Own}
use Rattle.plain_facts.specs.declared.own.Own.TheVariants.{Unused, Released, Otherwise}

-- the number of a register, if the value is one that is given
abbrev pub value_number : Module → ℕ → Value → Option ℕ
value_number m at (LocalValue x) = number_of m at x
value_number m at _ = None

-- ---- releases

abbrev pub release_by : Option ℕ → Value → Option Release
release_by None size = None
release_by (Some n) (IntValue size) = Some (record { register = n; size = size })
release_by (Some n) _ = None

abbrev pub release_of_operands : Module → ℕ → Option Typed → Option Typed → Option Release
release_of_operands m at None size = None
release_of_operands m at (Some pointer) None = None
release_of_operands m at (Some pointer) (Some size) = release_by (value_number m at pointer.value) size.value

-- the register and the constant size of a release
abbrev pub release_of : Module → ℕ → Inst → Option Release
release_of m at i = if is_call_of FreeShared i then release_of_operands m at (operand_of i 0) (operand_of i 1) else None

-- the size that is released of a register
abbrev pub size_released : Option Release → ℕ → Option ℕ
size_released None n = None
size_released (Some r) n = if r.register == n then Some r.size else None

-- ---- uses

abbrev pub use_by : Option Release → Option ℕ → List Use
use_by r None = []
use_by r (Some n) = record { register = n; released = size_released r n } ∷ []

abbrev pub use_of : Module → ℕ → Option Release → Value → List Use
use_of m at r v = use_by r (value_number m at v)

abbrev pub edge_uses : Module → ℕ → Option Release → Edge → List Use
edge_uses m at r e = use_of m at r e.value

abbrev pub operand_uses : Module → ℕ → Option Release → Typed → List Use
operand_uses m at r v = use_of m at r v.value

abbrev pub kind_uses : Module → ℕ → Option Release → Kind → List Use
kind_uses m at r (Bin op flags ty a b) = use_of m at r a ++ use_of m at r b
kind_uses m at r (ICmp pred ty a b) = use_of m at r a ++ use_of m at r b
kind_uses m at r (Cast op from to) = use_of m at r from.value
kind_uses m at r (Select c a b) = use_of m at r c.value ++ (use_of m at r a.value ++ use_of m at r b.value)
kind_uses m at r (Phi ty edges) = flat_map (edge_uses m at r) edges
kind_uses m at r (Store value to order align) = use_of m at r value.value
kind_uses m at r (Rmw op to value order align) = use_of m at r value.value
kind_uses m at r (Gep inbounds ty base path) = flat_map (operand_uses m at r) path
kind_uses m at r (Call tail_word ret callee operands) = use_of m at r callee ++ flat_map (operand_uses m at r) operands
kind_uses m at r (CondBr c then_to else_to) = use_of m at r c.value
kind_uses m at r (Switch on other cases) = use_of m at r on.value
kind_uses m at r (Ret (Some value)) = use_of m at r value.value
kind_uses m at r _ = []

abbrev pub inst_uses : Module → ℕ → Inst → List Use
inst_uses m at i = kind_uses m at (release_of m at i) i.kind

abbrev pub function_uses : Module → ℕ → Function → List Use
function_uses m at f = flat_map (inst_uses m at) (insts_of f)

abbrev pub all_uses : Module → List Use
all_uses m = by_place (function_uses m) 0 m.functions

-- each use is of a register of the module
abbrev pub AreWithin : ℕ → List Use → Type 0
AreWithin count uses = (u : Use) → Stands uses u → u.register < count

-- ---- what the uses say of a register

abbrev pub both : ℕ → ℕ → Own
both n size = if n == size then Released n else Otherwise

-- with one more use
abbrev pub joined : Own → Option ℕ → Own
joined own None = Otherwise
joined Unused (Some size) = Released size
joined (Released n) (Some size) = both n size
joined Otherwise (Some size) = Otherwise

abbrev pub with_use : ℕ → Own → Use → Own
with_use n own u = if u.register == n then joined own u.released else own

abbrev pub own_behind : ℕ → Own → List Use → Own
own_behind n own [] = own
own_behind n own (u ∷ us) = own_behind n (with_use n own u) us

-- how a register is used otherwise
abbrev pub own_of : List Use → ℕ → Own
own_of uses n = own_behind n Unused uses

-- the row has it for each register
abbrev pub AreOwn : ℕ → List Use → List Own → Type 0
AreOwn count uses row = (length row ≡ count) × ((n : ℕ) → n < count → slice_get row n ≡ Some (own_of uses n))
