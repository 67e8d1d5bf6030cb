-- The call paths of a module are the same where its unused state machine is switched off.
use Rattle.std.proofs.Common.{◌≡◌, ℕ, List, [], ◌∷◌, map, Bool, true, false, ◌||◌, Option, Some, None, option_map, refl, sym, ap, ◌∙◌, subst, if◌then◌else◌}
use Rattle.std.specs.Prelude.{slice_get, ◌↔◌}
use Rattle.std.specs.List.{flat_map, list_any}
use Rattle.std.specs.Str.{bytes_eq}
use Rattle.std.proofs.lemmas.Option.{none-some, same_Some, slice_get-map}
use Rattle.reach.specs.Chains.{Leads}
use Rattle.reach.proofs.ChainLaws.{leads_as}
use Rattle.ir_core.specs.declared.instructions.Value.{Value}
use Rattle.ir_core.specs.declared.instructions.Value.TheVariants.{Int as IntValue, Null, Local as LocalValue, Global as GlobalValue}
use Rattle.ir_core.specs.declared.instructions.Typed.{Typed}
use Rattle.ir_core.specs.declared.instructions.Kind.{Kind}
use Rattle.ir_core.specs.declared.instructions.Kind.TheVariants.{Call}
use Rattle.ir_core.specs.declared.instructions.Inst.{Inst}
use Rattle.ir_core.specs.declared.module.Module.{Module}
use Rattle.ir_core.specs.declared.module.Function.{Function}
use Rattle.ir_core.specs.declared.module.Block.{Block}
use Rattle.ir_core.specs.declared.refusal.Refusal.{Refusal}
use Rattle.ir_core.specs.declared.refusal.Construct.TheVariants.{NestedParallel}
use Rattle.ir_core.specs.declared.rtl.Rtl.TheVariants.{TargetInit, Parallel}
use Rattle.ir_core.specs.EntryPoints.{target_init}
use Rattle.ir_core.specs.MachineOff.{calls_init, operands_off, kind_off, inst_off, block_off, function_off, machine_off}
use Rattle.ir_core.specs.Places.{Name, function_name, function_place, place_in}
use Rattle.ir_core.specs.Wrappers.{kind_callees, inst_callees, block_callees, callees, parallel, wrapper_operand, forked_by, kind_wrappers, inst_wrappers, block_wrappers, function_wrappers, forked, get_shared_variables, is_in, is_wrapper}
use Rattle.shapes.specs.Facts.{insts_of, is_call_of}
use Rattle.shapes.specs.Uses.{typed_names, fork_names}
use Rattle.shapes.specs.KernelShape.{is_kernel}
use Rattle.shapes.specs.Wrappers.{is_defined}
use Rattle.shapes.specs.CallPaths.{IsOnPaths, Calls, IsKernelAt, IsOnMainSide, Forks, IsOnRegionSide, IsNested}
use Rattle.output_laws.proofs.SwitchedOff.{flat_same, insts_of_off, is_call_off, operand_off}

-- ---- calls

callees_kind_off : (k : Kind) → kind_callees (kind_off k) ≡ kind_callees k
callees_kind_off (Call tail_word ret callee operands) = refl
callees_kind_off _ = refl

callees_block_off : (b : Block) → block_callees (block_off b) ≡ block_callees b
callees_block_off b = flat_same inst_callees inst_callees inst_off (λ i. callees_kind_off i.kind) b.insts

pub callees_off : (f : Function) → callees (function_off f) ≡ callees f
callees_off f = flat_same block_callees block_callees block_off callees_block_off f.blocks

-- ---- forks

wrapper_operand_off : (operands : List Typed) → wrapper_operand (operands_off operands) ≡ wrapper_operand operands
wrapper_operand_off [] = refl
wrapper_operand_off (a ∷ []) = refl
wrapper_operand_off (a ∷ b ∷ []) = refl
wrapper_operand_off (a ∷ b ∷ c ∷ []) = refl
wrapper_operand_off (a ∷ b ∷ c ∷ d ∷ more) = refl

either_operand_off : (init : Bool) (operands : List Typed) → wrapper_operand (if init then operands_off operands else operands) ≡ wrapper_operand operands
either_operand_off true operands = wrapper_operand_off operands
either_operand_off false operands = refl

forked_by_off : (callee : Value) (operands : List Typed) → forked_by callee (if calls_init callee then operands_off operands else operands) ≡ forked_by callee operands
forked_by_off (GlobalValue x) operands = ap (λ names. if bytes_eq x parallel then names else []) (either_operand_off (bytes_eq x target_init) operands)
forked_by_off (LocalValue x) operands = refl
forked_by_off (IntValue n) operands = refl
forked_by_off Null operands = refl

wrappers_kind_off : (k : Kind) → kind_wrappers (kind_off k) ≡ kind_wrappers k
wrappers_kind_off (Call tail_word ret callee operands) = forked_by_off callee operands
wrappers_kind_off _ = refl

wrappers_block_off : (b : Block) → block_wrappers (block_off b) ≡ block_wrappers b
wrappers_block_off b = flat_same inst_wrappers inst_wrappers inst_off (λ i. wrappers_kind_off i.kind) b.insts

wrappers_function_off : (f : Function) → function_wrappers (function_off f) ≡ function_wrappers f
wrappers_function_off f = flat_same block_wrappers block_wrappers block_off wrappers_block_off f.blocks

forked_off : (m : Module) → forked (machine_off m) ≡ forked m
forked_off m = flat_same function_wrappers function_wrappers function_off wrappers_function_off m.functions

pub is_wrapper_off : (m : Module) (f : Function) → is_wrapper (machine_off m) (function_off f) ≡ is_wrapper m f
is_wrapper_off m f =
    let names = forked_off m in
    let called = callees_off f in
    λ k. if is_in (names k) f.name then true else is_in (called k) get_shared_variables

pub fork_names_off : (i : Inst) → fork_names (inst_off i) ≡ fork_names i
fork_names_off i =
    let call = is_call_off Parallel i in
    let region = operand_off i 5 refl in
    λ k. if call k then typed_names (region k) else []

function_forks_off : (f : Function) → flat_map fork_names (insts_of (function_off f)) ≡ flat_map fork_names (insts_of f)
function_forks_off f = ap (flat_map fork_names) (insts_of_off f) ∙ flat_same fork_names fork_names inst_off fork_names_off (insts_of f)

-- ---- functions

is_defined_blocks : (f : Function) (bs : List Block) → is_defined (record f { blocks = map block_off bs }) ≡ is_defined (record f { blocks = bs })
is_defined_blocks f [] = refl
is_defined_blocks f (b ∷ bs) = refl

pub is_defined_off : (f : Function) → is_defined (function_off f) ≡ is_defined f
is_defined_off f = is_defined_blocks f f.blocks

any_same : {X : Type 0} (test : X → Bool) (h : X → X) → ((x : X) → test (h x) ≡ test x) → (xs : List X) → list_any test (map h xs) ≡ list_any test xs
any_same test h same [] = refl
any_same test h same (x ∷ xs) = let more = any_same test h same xs in λ k. same x k || more k

pub is_kernel_off : (f : Function) → is_kernel (function_off f) ≡ is_kernel f
is_kernel_off f = ap (list_any (is_call_of TargetInit)) (insts_of_off f) ∙ any_same (is_call_of TargetInit) inst_off (is_call_off TargetInit) (insts_of f)

names_off : (fs : List Function) → map function_name (map function_off fs) ≡ map function_name fs
names_off [] = refl
names_off (f ∷ fs) = ap (λ names. f.name ∷ names) (names_off fs)

pub function_place_off : (m : Module) (x : Name) → function_place (machine_off m) x ≡ function_place m x
function_place_off m x = ap (λ names. place_in names x) (names_off m.functions)

-- ---- modules with the same paths

record AlikeInst (i : Inst) (o : Option Inst) : Type 0 where
  inst : Inst
  there : o ≡ Some inst
  fork : is_call_of Parallel inst ≡ is_call_of Parallel i
  line : inst.line ≡ i.line

record AlikeFunction (m n : Module) (f : Function) (o : Option Function) : Type 0 where
  function : Function
  there : o ≡ Some function
  defined : is_defined function ≡ is_defined f
  wrapper : is_wrapper n function ≡ is_wrapper m f
  kernel : is_kernel function ≡ is_kernel f
  called : callees function ≡ callees f
  forks : flat_map fork_names (insts_of function) ≡ flat_map fork_names (insts_of f)
  insts : (place : ℕ) (i : Inst) → slice_get (insts_of f) place ≡ Some i → AlikeInst i (slice_get (insts_of function) place)

-- what the paths are made of is in the second module as in the first
record Alike (m n : Module) : Type 0 where
  functions : (at : ℕ) (f : Function) → slice_get m.functions at ≡ Some f → AlikeFunction m n f (slice_get n.functions at)
  place : (x : Name) → function_place n x ≡ function_place m x

module _ (m n : Module) (a : Alike m n) where
  on_paths : (at : ℕ) (f : Function) (p : IsOnPaths m at f) → IsOnPaths n at (a.functions at f p.0).function
  on_paths at f p = let g = a.functions at f p.0 in (g.there, g.defined ∙ p.1, g.wrapper ∙ p.2)

  calls_alike : (from to : ℕ) → Calls m from to → Calls n from to
  calls_alike from to (f, g, x, p, q, is, place) =
      let h = a.functions from f p.0 in
      let o = a.functions to g q.0 in
      (h.function, o.function, x, on_paths from f p, on_paths to g q, ap (λ names. is_in names x) h.called ∙ is, a.place x ∙ place)

  paths_alike : (from to : ℕ) → Leads (Calls m) from to → Leads (Calls n) from to
  paths_alike = leads_as (Calls m) (Calls n) calls_alike

  kernel_alike : (at : ℕ) → IsKernelAt m at → IsKernelAt n at
  kernel_alike at (f, is, kernel) = let g = a.functions at f is in (g.function, g.there, g.kernel ∙ kernel)

  main_alike : (at : ℕ) → IsOnMainSide m at → IsOnMainSide n at
  main_alike at (kernel, from) = (kernel, (kernel_alike kernel from.0, paths_alike kernel at from.1))

  forks_alike : (at region : ℕ) → Forks m at region → Forks n at region
  forks_alike at region (f, x, is, named, place) =
      let g = a.functions at f is in (g.function, x, g.there, ap (λ names. is_in names x) g.forks ∙ named, a.place x ∙ place)

  region_alike : (at : ℕ) → IsOnRegionSide m at → IsOnRegionSide n at
  region_alike at (forking, region, main, fork, path) = (forking, region, main_alike forking main, forks_alike forking region fork, paths_alike region at path)

  nested_alike : (r : Refusal) → IsNested m r → IsNested n r
  nested_alike r h =
      let g = a.functions h.at h.function h.there in
      let i = g.insts h.place h.fork h.stands in
      record {
        at = h.at;
        side = region_alike h.at h.side;
        function = g.function;
        there = g.there;
        place = h.place;
        fork = i.inst;
        stands = i.there;
        forks = i.fork ∙ h.forks;
        refused = h.refused ∙ (λ k. record { construct = NestedParallel; line = sym i.line k });
      }

-- ---- the machine switched off

inst_there : (f : Function) (place : ℕ) → slice_get (insts_of (function_off f)) place ≡ option_map inst_off (slice_get (insts_of f) place)
inst_there f place = ap (λ is. slice_get is place) (insts_of_off f) ∙ slice_get-map inst_off (insts_of f) place

off_alike : (m : Module) → Alike m (machine_off m)
off_alike m = record {
  functions = λ at f is. record {
    function = function_off f;
    there = slice_get-map function_off m.functions at ∙ ap (option_map function_off) is;
    defined = is_defined_off f;
    wrapper = is_wrapper_off m f;
    kernel = is_kernel_off f;
    called = callees_off f;
    forks = function_forks_off f;
    insts = λ place i get. record { inst = inst_off i; there = inst_there f place ∙ ap (option_map inst_off) get; fork = is_call_off Parallel i; line = refl };
  };
  place = function_place_off m;
}

-- the item from which another was made
made_from : {X Y : Type 0} (h : X → Y) (o : Option X) (y : Y) → option_map h o ≡ Some y → (x : X) × (o ≡ Some x) × (h x ≡ y)
made_from h None y e = absurd (none-some y e)
made_from h (Some x) y e = (x, refl, same_Some (h x) y e)

inst_alike_back : (f : Function) (place : ℕ) (j : Inst) → slice_get (insts_of (function_off f)) place ≡ Some j → AlikeInst j (slice_get (insts_of f) place)
inst_alike_back f place j get =
    let from = made_from inst_off (slice_get (insts_of f) place) j (sym (inst_there f place) ∙ get) in
    record {
      inst = from.0;
      there = from.1;
      fork = sym (is_call_off Parallel from.0) ∙ ap (is_call_of Parallel) from.2;
      line = ap (λ (i : Inst). i.line) from.2;
    }

function_alike_back : (m : Module) (f : Function) (o : Option Function) → o ≡ Some f → AlikeFunction (machine_off m) m (function_off f) o
function_alike_back m f o is = record {
  function = f;
  there = is;
  defined = sym (is_defined_off f);
  wrapper = sym (is_wrapper_off m f);
  kernel = sym (is_kernel_off f);
  called = sym (callees_off f);
  forks = sym (function_forks_off f);
  insts = inst_alike_back f;
}

off_alike_back : (m : Module) → Alike (machine_off m) m
off_alike_back m = record {
  functions = λ at g is.
      let from = made_from function_off (slice_get m.functions at) g (sym (slice_get-map function_off m.functions at) ∙ is) in
      subst (λ h. AlikeFunction (machine_off m) m h (slice_get m.functions at)) from.2 (function_alike_back m from.0 (slice_get m.functions at) from.1);
  place = λ x. sym (function_place_off m x);
}

pub off_keeps_nested : (m : Module) (r : Refusal) → IsNested (machine_off m) r ↔ IsNested m r
off_keeps_nested m r = (nested_alike (machine_off m) m (off_alike_back m) r, nested_alike m (machine_off m) (off_alike m) r)
