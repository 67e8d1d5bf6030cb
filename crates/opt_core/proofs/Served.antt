-- The optimised module of a module whose calls can all be run is served.
use Rattle.std.proofs.Common.{◌≡◌, ℕ, List, [], ◌∷◌, ◌++◌, Bool, true, false, ◌&&◌, ◌||◌, not, zero, suc, Option, Some, None, option_map, refl, sym, ap, ◌∙◌, subst, slice_get, ◌==◌, if◌then◌else◌}
use Rattle.std.specs.List.{flat_map, find, list_any}
use Rattle.std.specs.Str.{bytes_eq}
use Rattle.std.proofs.lemmas.Option.{none-some, same_Some, slice_get-map}
use Rattle.std.proofs.lemmas.Slice.Eq.{bytes_eq-Decides}
use Rattle.ir_core.specs.declared.types.Ty.{Ty}
use Rattle.ir_core.specs.declared.instructions.Value.{Value}
use Rattle.ir_core.specs.declared.instructions.Value.TheVariants.{Int as IntValue, Null, Local as Register, Global as GlobalValue}
use Rattle.ir_core.specs.declared.instructions.Typed.{Typed}
use Rattle.ir_core.specs.declared.instructions.Kind.{Kind}
use Rattle.ir_core.specs.declared.instructions.Kind.TheVariants.{Alloca, Gep, Call}
use Rattle.ir_core.specs.declared.instructions.Inst.{Inst}
use Rattle.ir_core.specs.declared.module.Block.{Block}
use Rattle.ir_core.specs.declared.module.Param.{Param}
use Rattle.ir_core.specs.declared.module.Function.{Function}
use Rattle.ir_core.specs.declared.module.Module.{Module}
use Rattle.ir_core.specs.declared.rtl.Rtl.{Rtl}
use Rattle.ir_core.specs.declared.rtl.Rtl.TheVariants.{TargetInit, TargetDeinit}
use Rattle.ir_core.specs.EntryPoints.{target_init, entry_name, entry_points}
use Rattle.ir_core.specs.FirstForm.{is_function}
use Rattle.ir_core.specs.Layout.{WellFormed}
use Rattle.ir_core.specs.MachineOff.{calls_init, operands_off, kind_off, inst_off, machine_off}
use Rattle.ir_core.specs.Places.{Place, Name, block_in, inst_in, inst_at, function_place}
use Rattle.shapes.specs.Facts.{insts_of, insts_in, calls, is_call_of}
use Rattle.shapes.specs.Insts.{block_insts}
use Rattle.shapes.specs.Limits.{kind_types}
use Rattle.shapes.specs.Refusals.{is_built, is_unbuilt, refused_unbuilt, unbuilt}
use Rattle.mem_model.specs.Entries.{first_named}
use Rattle.shapes.specs.Facts.{is_constant}
use Rattle.thread_state.specs.Seen.{IsSpmdCall, IsSpmdKind}
use Rattle.opt_core.proofs.Modes.{output_generic}
use Rattle.mem_model.specs.Next.{Callee, CallsEntry, CallsFunction, CallsOther, entry_of, entry_or, with_body, defined_as, defined_at, callee_of}
use Rattle.out_modules.specs.Outputs.{IsOutput}
use Rattle.out_modules.proofs.Outputs.{inst_off_at, output_sized}
use Rattle.interp_local.specs.Steps.{IsRun, IsServed, AreServed}
use Rattle.interp_local.proofs.EntryNames.{is_named}

-- ---- no instruction of the module is a call that can't be run

nothing_found : (xs : List Inst) → refused_unbuilt (find is_unbuilt xs) ≡ None → find is_unbuilt xs ≡ None
nothing_found xs e = by (find is_unbuilt xs) e
  where
    by : (o : Option Inst) → refused_unbuilt o ≡ None → o ≡ None
    by None e = refl
    by (Some i) e = absurd (none-some _ (sym e))

-- where nothing is found in a list, nothing is in each of its items and in each of its parts
found_first : {A : Type 0} (q : A → Bool) (xs ys : List A) → find q (xs ++ ys) ≡ None → (find q xs ≡ None) × (find q ys ≡ None)
found_first q [] ys e = (refl, e)
found_first q (x ∷ xs) ys e = by (q x) e (found_first q xs ys)
  where
    by : (b : Bool) → (if b then Some x else find q (xs ++ ys)) ≡ None → (find q (xs ++ ys) ≡ None → (find q xs ≡ None) × (find q ys ≡ None)) → ((if b then Some x else find q xs) ≡ None) × (find q ys ≡ None)
    by true e rest = absurd (none-some x (sym e))
    by false e rest = rest e

none_in : {A : Type 0} (q : A → Bool) (xs : List A) (place : ℕ) (x : A) → find q xs ≡ None → slice_get xs place ≡ Some x → q x ≡ false
none_in q [] place x e is = absurd (none-some x is)
none_in q (y ∷ ys) place x e is = by (q y) refl e place is (none_in q ys)
  where
    by : (b : Bool) → q y ≡ b → (if b then Some y else find q ys) ≡ None → (place : ℕ) → slice_get (y ∷ ys) place ≡ Some x → ((place : ℕ) (x : _) → find q ys ≡ None → slice_get ys place ≡ Some x → q x ≡ false) → q x ≡ false
    by true t e place is rest = absurd (none-some y (sym e))
    by false t e zero is rest = ap q (sym (same_Some y x is)) ∙ t
    by false t e (suc place) is rest = rest place x e is

none_flat : {A B : Type 0} (q : B → Bool) (f : A → List B) (xs : List A) (place : ℕ) (x : A) → find q (flat_map f xs) ≡ None → slice_get xs place ≡ Some x → find q (f x) ≡ None
none_flat q f [] place x e is = absurd (none-some x is)
none_flat q f (y ∷ ys) zero x e is = ap (λ z. find q (f z)) (sym (same_Some y x is)) ∙ (found_first q (f y) (flat_map f ys) e).0
none_flat q f (y ∷ ys) (suc place) x e is = none_flat q f ys place x (found_first q (f y) (flat_map f ys) e).1 is

is_not_unbuilt : (m : Module) → unbuilt m ≡ None → (p : Place) (i : Inst) → inst_at m p ≡ Some i → is_unbuilt i ≡ false
is_not_unbuilt m none p i is = by_function (slice_get m.functions p.function) refl is
  where
    by_block : (f : Function) → find is_unbuilt (insts_of f) ≡ None → (o : Option Block) → slice_get f.blocks p.block ≡ o → inst_in o p.index ≡ Some i → is_unbuilt i ≡ false
    by_block f all None e h = absurd (none-some i h)
    by_block f all (Some b) e h = none_in is_unbuilt b.insts p.index i (none_flat is_unbuilt block_insts f.blocks p.block b all e) h

    by_function : (o : Option Function) → slice_get m.functions p.function ≡ o → inst_in (block_in o p.block) p.index ≡ Some i → is_unbuilt i ≡ false
    by_function None e h = absurd (none-some i h)
    by_function (Some f) e h = by_block f (none_flat is_unbuilt insts_of m.functions p.function f (nothing_found (insts_in m) none) e) (slice_get f.blocks p.block) refl h

-- ---- the entry points that are called can be run

if_built : (called built : Bool) → called ≡ true → (called && not built) ≡ false → built ≡ true
if_built true true c e = refl
if_built true false c e = let f : ⊥ = cc in absurd f
if_built false built c e = let f : ⊥ = cc in absurd f

first_fails : (q : Rtl → Bool) (rs : List Rtl) (x : Name) (r : Rtl) → list_any q rs ≡ false → first_named rs x ≡ Some r → q r ≡ false
first_fails q [] x r none e = absurd (none-some r e)
first_fails q (s ∷ rs) x r none e = by (bytes_eq x (entry_name s)) e
    (first_part (q s) (list_any q rs) none) (first_fails q rs x r (second_part (q s) (list_any q rs) none))
  where
    first_part : (a b : Bool) → (a || b) ≡ false → a ≡ false
    first_part false b h = refl
    first_part true b h = h

    second_part : (a b : Bool) → (a || b) ≡ false → b ≡ false
    second_part false b h = h
    second_part true b h = let f : ⊥ = cc in absurd f

    by : (b : Bool) → (if b then Some s else first_named rs x) ≡ Some r → q s ≡ false → (first_named rs x ≡ Some r → q r ≡ false) → q r ≡ false
    by true h here rest = ap q (sym (same_Some s r h)) ∙ here
    by false h here rest = rest h

not_true : (b : Bool) → (b ≡ true → ⊥) → b ≡ false
not_true true never = absurd (never refl)
not_true false never = refl

-- init calls that aren't in SPMD mode, and deinit
entry_runs : (operands : List Typed) (x : Name) (r : Rtl) → entry_name r ≡ x → is_built r ≡ true → (IsSpmdCall operands (CallsEntry r) → ⊥) → IsRun operands (CallsEntry r)
entry_runs operands x TargetInit e built generic = not_true (is_constant 2 (slice_get operands 1)) generic
entry_runs operands x TargetDeinit e built generic = tt
entry_runs operands x _ e built generic = let f : ⊥ = cc in absurd f

body_runs : (operands : List Typed) (k : ℕ) (ps : List Param) (bs : List Block) → IsRun operands (with_body k ps bs)
body_runs operands k ps [] = tt
body_runs operands k ps (b ∷ bs) = tt

defined_runs : (operands : List Typed) (m : Module) (o : Option ℕ) → IsRun operands (defined_at m o)
defined_runs operands m None = tt
defined_runs operands m (Some k) = by (slice_get m.functions k)
  where
    by : (o : Option Function) → IsRun operands (defined_as k o)
    by None = tt
    by (Some f) = body_runs operands k f.params f.blocks

named_runs : (m : Module) (operands : List Typed) (x : Name) (j : Inst) → is_unbuilt j ≡ false → ((r : Rtl) → entry_name r ≡ x → is_call_of r j ≡ true) → (o : Option Rtl) → entry_of x ≡ o →
    (IsSpmdCall operands (entry_or o (defined_at m (function_place m x))) → ⊥) → IsRun operands (entry_or o (defined_at m (function_place m x)))
named_runs m operands x j built calls None e generic = defined_runs operands m (function_place m x)
named_runs m operands x j built calls (Some r) e generic =
    let name = is_named entry_points x r e in
    entry_runs operands x r name (if_built (is_call_of r j) (is_built r) (calls r name) (first_fails (λ s. is_call_of s j && not (is_built s)) entry_points x r built e)) generic

call_runs : (m : Module) (operands : List Typed) (v : Value) (j : Inst) → is_unbuilt j ≡ false → ((r : Rtl) → is_call_of r j ≡ is_function (entry_name r) v) → (IsSpmdCall operands (callee_of m v) → ⊥) → IsRun operands (callee_of m v)
call_runs m operands (GlobalValue x) j built calls generic = named_runs m operands x j built (λ r e. calls r ∙ (bytes_eq-Decides x (entry_name r)).1 (sym e)) (entry_of x) refl generic
call_runs m operands (IntValue n) j built calls generic = tt
call_runs m operands Null j built calls generic = tt
call_runs m operands (Register x) j built calls generic = tt

-- ---- each instruction is served

kind_served : (m : Module) (j : Inst) (k : Kind) → j.kind ≡ k → is_unbuilt j ≡ false → ((place : ℕ) (ty : Ty) → slice_get (kind_types (kind_off k)) place ≡ Some ty → WellFormed m.types ty) → (IsSpmdKind m (kind_off k) → ⊥) → IsServed m (kind_off k)
kind_served m j (Alloca ty align) e built h generic = h 0 ty refl
kind_served m j (Gep inbounds ty base path) e built h generic = h 0 ty refl
kind_served m j (Call tail_word ret callee operands) e built h generic = call_runs m (if calls_init callee then operands_off operands else operands) callee j built (λ r. ap (calls r) e) generic
kind_served m j _ e built h generic = tt

off_served : (m : Module) → IsOutput (machine_off m) → unbuilt m ≡ None → AreServed (machine_off m)
off_served m out none = record { kinds = λ p i is. by p i (inst_at m p) refl (sym (inst_off_at m p) ∙ is) (λ place ty. output_sized (machine_off m) out p i place ty is) (output_generic (machine_off m) out.kernels p i is) }
  where
    by : (p : Place) (i : Inst) (o : Option Inst) → inst_at m p ≡ o → option_map inst_off o ≡ Some i → ((place : ℕ) (ty : Ty) → slice_get (kind_types i.kind) place ≡ Some ty → WellFormed m.types ty) → (IsSpmdKind (machine_off m) i.kind → ⊥) → IsServed (machine_off m) i.kind
    by p i None e f h generic = absurd (none-some i f)
    by p i (Some j) e f h generic =
        let same = same_Some (inst_off j) i f in
        subst (λ (n : Inst). IsServed (machine_off m) n.kind) same
        (kind_served (machine_off m) j j.kind refl (is_not_unbuilt m none p j e) (subst (λ (n : Inst). (place : ℕ) (ty : Ty) → slice_get (kind_types n.kind) place ≡ Some ty → WellFormed m.types ty) (sym same) h) (subst (λ (n : Inst). IsSpmdKind (machine_off m) n.kind → ⊥) (sym same) generic))

pub are_served : (m out : Module) → out ≡ machine_off m → IsOutput out → unbuilt m ≡ None → AreServed out
are_served m out is output none = subst AreServed (sym is) (off_served m (subst IsOutput is output) none)
