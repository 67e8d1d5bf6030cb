-- Which pointers may point into a stack, and which may point elsewhere: each is a finite chain of hops from where such a pointer comes from.
use Rattle.std.specs.Prelude.{◌≡◌, ◌⊎◌, ◌<◌, ◌≤◌, ℕ, List, true, Option, Some, slice_get}
use Rattle.reach.specs.Chains.{Leads}
use Rattle.ir_core.specs.declared.types.Ty.{Ty}
use Rattle.ir_core.specs.declared.types.Ty.TheVariants.{Ptr}
use Rattle.ir_core.specs.declared.instructions.Value.{Value}
use Rattle.ir_core.specs.declared.instructions.Value.TheVariants.{Null, Local as LocalValue, Global as GlobalValue}
use Rattle.ir_core.specs.declared.instructions.Typed.{Typed}
use Rattle.ir_core.specs.declared.instructions.Edge.{Edge}
use Rattle.ir_core.specs.declared.instructions.Order.{Order}
use Rattle.ir_core.specs.declared.instructions.TailWord.{TailWord}
use Rattle.ir_core.specs.declared.instructions.CastOp.TheVariants.{IntToPtr}
use Rattle.ir_core.specs.declared.instructions.Kind.{Kind}
use Rattle.ir_core.specs.declared.instructions.Kind.TheVariants.{Select, Phi, Alloca, Load, Store, Gep, Cast, Call, Ret}
use Rattle.ir_core.specs.declared.instructions.Inst.{Inst}
use Rattle.ir_core.specs.declared.module.Module.{Module}
use Rattle.ir_core.specs.declared.module.Function.{Function}
use Rattle.ir_core.specs.declared.module.Param.{Param}
use Rattle.ir_core.specs.declared.rtl.Rtl.TheVariants.{AllocShared}
use Rattle.ir_core.specs.FirstForm.{is_ptr}
use Rattle.ir_core.specs.Places.{Name, function_place}
use Rattle.shapes.specs.Facts.{insts_of, is_call_of}
use Rattle.shapes.specs.KernelShape.{is_kernel}
use Rattle.shapes.specs.Wrappers.{is_defined}
use Rattle.value_facts.specs.Sides.{ShareSide, IsRegionFunction}

-- a value where it stands: in the function at a place
pub record Spot : Type 0 where
  pub function : ℕ
  pub value : Value

abbrev pub register : ℕ → Name → Spot
register at x = record { function = at; value = LocalValue x }

abbrev pub spot : ℕ → Value → Spot
spot at v = record { function = at; value = v }

-- an instruction of the function at a place
abbrev pub StandsIn : Module → ℕ → Inst → Type 0
StandsIn m at i = (f : Function) × (place : ℕ) × (slice_get m.functions at ≡ Some f) × (slice_get (insts_of f) place ≡ Some i)

-- an instruction of the function at a place, with its result
abbrev pub Gives : Module → ℕ → Name → Kind → Type 0
Gives m at x kind = (i : Inst) × StandsIn m at i × (i.result ≡ Some x) × (i.kind ≡ kind)

-- ---- copy hops

-- an instruction of this kind copies the value
abbrev pub Copies : Kind → Value → Type 0
Copies (Gep inbounds ty base path) v = base.value ≡ v
Copies (Select c a b) v = (a.value ≡ v) ⊎ (b.value ≡ v)
Copies (Phi ty edges) v = (place : ℕ) × (e : Edge) × (slice_get edges place ≡ Some e) × (e.value ≡ v)
Copies _ v = ⊥

abbrev pub CopiesWithin : Module → Spot → Spot → Type 0
CopiesWithin m from to = (x : Name) × (kind : Kind) × Gives m from.function x kind × Copies kind from.value × (to ≡ register from.function x)

-- a call, in the function at one place, of the defined function at another
pub record CallsFunction (m : Module) (at to : ℕ) (i : Inst) (operands : List Typed) : Type 0 where
  pub stands : StandsIn m at i
  pub tail_word : TailWord
  pub ret : Ty
  pub callee : Name
  pub is : i.kind ≡ Call tail_word ret (GlobalValue callee) operands
  pub named : function_place m callee ≡ Some to
  pub function : Function
  pub there : slice_get m.functions to ≡ Some function
  pub defined : is_defined function ≡ true

-- from an argument to its parameter
abbrev pub GoesIntoCall : Module → Spot → Spot → Type 0
GoesIntoCall m from to =
    (i : Inst) × (operands : List Typed) × (c : CallsFunction m from.function to.function i operands) × (place : ℕ) × (v : Typed) × (p : Param)
    × (slice_get operands place ≡ Some v) × (slice_get c.function.params place ≡ Some p) × (v.value ≡ from.value) × (to.value ≡ LocalValue p.name)

-- from what a function returns to the result of its call
abbrev pub ComesFromCall : Module → Spot → Spot → Type 0
ComesFromCall m from to =
    (i leave : Inst) × (operands : List Typed) × CallsFunction m to.function from.function i operands × (x : Name) × (v : Typed)
    × (i.result ≡ Some x) × (to.value ≡ LocalValue x) × StandsIn m from.function leave × (leave.kind ≡ Ret (Some v)) × (v.value ≡ from.value)

abbrev pub CopyHop : Module → Spot → Spot → Type 0
CopyHop m from to = CopiesWithin m from to ⊎ GoesIntoCall m from to ⊎ ComesFromCall m from to

-- ---- hops through memory

-- a pointer is stored in the function at the place
abbrev pub IsStored : Module → Spot → Type 0
IsStored m from =
    (i : Inst) × (v at : Typed) × (order : Option Order) × (align : ℕ)
    × StandsIn m from.function i × (i.kind ≡ Store v at order align) × (is_ptr v.ty ≡ true) × (v.value ≡ from.value)

-- a pointer is loaded there
abbrev pub IsLoaded : Module → Spot → Type 0
IsLoaded m to = (x : Name) × (at : Typed) × (order : Option Order) × (align : ℕ) × Gives m to.function x (Load Ptr at order align) × (to.value ≡ LocalValue x)

abbrev pub MemoryHop : Module → Spot → Spot → Type 0
MemoryHop m from to = IsStored m from × IsLoaded m to × ShareSide m from.function to.function

-- ---- where pointers come from

-- a parameter of the function at the place, by its place among them
abbrev pub IsParameter : Module → Spot → Function → ℕ → Param → Type 0
IsParameter m s f place p = (slice_get m.functions s.function ≡ Some f) × (slice_get f.params place ≡ Some p) × (s.value ≡ LocalValue p.name)

abbrev pub IsMade : Module → Spot → Kind → Type 0
IsMade m s kind = (x : Name) × Gives m s.function x kind × (s.value ≡ LocalValue x)

-- the result of an alloca, or one of the first two parameters of a region function
abbrev pub IsFromStack : Module → Spot → Type 0
IsFromStack m s =
    ((ty : Ty) × (align : ℕ) × IsMade m s (Alloca ty align))
    ⊎ ((f : Function) × (place : ℕ) × (p : Param) × IsParameter m s f place p × IsRegionFunction m f × (place < 2))

-- a pointer that is a kernel's parameter or a capture of a region function
abbrev pub IsGivenFromOutside : Module → Spot → Type 0
IsGivenFromOutside m s =
    (f : Function) × (place : ℕ) × (p : Param) × IsParameter m s f place p × (is_ptr p.ty ≡ true)
    × ((is_kernel f ≡ true) ⊎ (IsRegionFunction m f × (2 ≤ place)))

-- the result of an allocation
abbrev pub IsAllocated : Module → Spot → Type 0
IsAllocated m s = (i : Inst) × (x : Name) × StandsIn m s.function i × (is_call_of AllocShared i ≡ true) × (i.result ≡ Some x) × (s.value ≡ LocalValue x)

-- a kernel's parameter, a capture, a load, an inttoptr, null, a global or an allocation
abbrev pub IsFromElsewhere : Module → Spot → Type 0
IsFromElsewhere m s =
    IsGivenFromOutside m s ⊎ IsLoaded m s ⊎ ((from : Typed) × (to : Ty) × IsMade m s (Cast IntToPtr from to))
    ⊎ (s.value ≡ Null) ⊎ ((x : Name) × (s.value ≡ GlobalValue x)) ⊎ IsAllocated m s

-- ---- the facts

-- a finite chain of hops leads to it from a stack
abbrev pub MayBeStack : Module → Spot → Type 0
MayBeStack m s = (from : Spot) × IsFromStack m from × Leads (λ a b. CopyHop m a b ⊎ MemoryHop m a b) from s

-- a finite chain of copies leads to it from elsewhere
abbrev pub MayBeOther : Module → Spot → Type 0
MayBeOther m s = (from : Spot) × IsFromElsewhere m from × Leads (CopyHop m) from s
