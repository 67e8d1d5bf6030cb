-- The walk over a wrapper finds the same where the machine is switched off and the flags of the init calls are numbers.
use Rattle.std.proofs.Common.{◌≡◌, ℕ, List, [], ◌∷◌, ◌++◌, map, Bool, true, false, ◌&&◌, Option, Some, None, option_map, refl, sym, ap, ◌∙◌, if◌then◌else◌}
use Rattle.std.specs.Prelude.{slice_get, option_and_then}
use Rattle.std.specs.List.{flat_map, list_all}
use Rattle.std.specs.Str.{bytes_eq}
use Rattle.std.proofs.lemmas.Bool.{and_parts}
use Rattle.std.proofs.lemmas.List.{map-append}
use Rattle.ir_core.specs.declared.instructions.Value.{Value}
use Rattle.ir_core.specs.declared.instructions.Value.TheVariants.{Int as IntValue, Null, Local as LocalValue, Global as GlobalValue}
use Rattle.ir_core.specs.declared.instructions.Typed.{Typed}
use Rattle.ir_core.specs.declared.instructions.Kind.{Kind}
use Rattle.ir_core.specs.declared.instructions.Kind.TheVariants.{Load, Store, Call, Ret}
use Rattle.ir_core.specs.declared.instructions.Inst.{Inst}
use Rattle.ir_core.specs.declared.module.Module.{Module}
use Rattle.ir_core.specs.declared.module.Function.{Function}
use Rattle.ir_core.specs.declared.module.Block.{Block}
use Rattle.ir_core.specs.declared.refusal.Refusal.{Refusal}
use Rattle.ir_core.specs.EntryPoints.{target_init}
use Rattle.ir_core.specs.FirstForm.{is_number, is_function}
use Rattle.ir_core.specs.MachineOff.{operands_off, kind_off, inst_off, block_off, function_off, machine_off}
use Rattle.ir_core.specs.Places.{Name}
use Rattle.ir_core.specs.Wrappers.{callees, get_shared_variables, with_blocks, defined, first_of, region_function, captures_of, captures}
use Rattle.shapes.specs.Facts.{insts_of, is_constant}
use Rattle.shapes.specs.Walk.{Form, Thread, Number, Known, Walk, known_of, is_slot_with, form_at, forms_from, passes, calls_region, asks, called, step_kind, step, first_walk, or_refused, failing, of_walk}
use Rattle.accepted_laws.proofs.Nothing.{not_both}
use Rattle.output_laws.proofs.NumberFlags.{has_flag, is_flagged, are_flagged}
use Rattle.output_laws.proofs.OffPaths.{callees_off}
use Rattle.output_laws.proofs.SwitchedOff.{insts_of_off}

-- ---- region functions

with_blocks_off : (f : Function) (bs : List Block) → with_blocks (function_off f) (map block_off bs) ≡ map function_off (with_blocks f bs)
with_blocks_off f [] = refl
with_blocks_off f (b ∷ bs) = refl

defined_off : (fs : List Function) (x : Name) → defined (map function_off fs) x ≡ map function_off (defined fs x)
defined_off [] x = refl
defined_off (f ∷ fs) x = by (bytes_eq f.name x) (defined_off fs x)
  where
    by : (b : Bool) → defined (map function_off fs) x ≡ map function_off (defined fs x) → (if b then with_blocks (function_off f) (map block_off f.blocks) else defined (map function_off fs) x) ≡ map function_off (if b then with_blocks f f.blocks else defined fs x)
    by true more = with_blocks_off f f.blocks
    by false more = more

-- the defined functions of these names
all_defined : (fs : List Function) (xs : List Name) → flat_map (defined (map function_off fs)) xs ≡ map function_off (flat_map (defined fs) xs)
all_defined fs [] = refl
all_defined fs (x ∷ xs) =
    let here = defined_off fs x in
    let more = all_defined fs xs in
    (λ k. here k ++ more k) ∙ sym (map-append function_off (defined fs x) (flat_map (defined fs) xs))

first_off : (fs : List Function) → first_of (map function_off fs) ≡ option_map function_off (first_of fs)
first_off [] = refl
first_off (f ∷ fs) = refl

pub region_off : (m : Module) (f : Function) → region_function (machine_off m) (function_off f) ≡ option_map function_off (region_function m f)
region_off m f =
    ap (λ names. first_of (flat_map (defined (map function_off m.functions)) names)) (callees_off f)
    ∙ ap first_of (all_defined m.functions (callees f))
    ∙ first_off (flat_map (defined m.functions) (callees f))

captures_same : (o : Option Function) → captures_of (option_map function_off o) ≡ captures_of o
captures_same None = refl
captures_same (Some f) = refl

pub captures_off : (m : Module) (f : Function) → captures (machine_off m) (function_off f) ≡ captures m f
captures_off m f = ap captures_of (region_off m f) ∙ captures_same (region_function m f)

-- ---- calls

-- a number is no register
number_unknown : (w : Walk) (v : Value) → is_number 1 v ≡ true → known_of w v ≡ None
number_unknown w (IntValue n) e = refl
number_unknown w Null e = refl
number_unknown w (LocalValue x) e = not_both false e refl
number_unknown w (GlobalValue x) e = refl

-- so a region function takes no flag, whatever its number is
passes_off : (w : Walk) (vs : List Typed) → is_constant 1 (slice_get vs 2) ≡ true → passes w (operands_off vs) ≡ passes w vs
passes_off w [] e = refl
passes_off w (a ∷ []) e = refl
passes_off w (a ∷ b ∷ []) e = refl
passes_off w (a ∷ b ∷ c ∷ []) e = ap (λ (o : Option Known). if is_slot_with Thread (known_of w a.value) && is_slot_with (Number 0) (known_of w b.value) then option_and_then (λ f. option_map (λ fs. f ∷ fs) (forms_from w 1 [])) (form_at 0 o) else None) (sym (number_unknown w c.value e))
passes_off w (a ∷ b ∷ c ∷ d ∷ vs) e = refl

calls_region_off : (w : Walk) (p : Option (List Form)) (vs : List Typed) → is_constant 1 (slice_get vs 2) ≡ true → calls_region w p (operands_off vs) ≡ calls_region w p vs
calls_region_off w None vs e = ap (option_map (λ fs. record w { passed = Some fs })) (passes_off w vs e)
calls_region_off w (Some fs) vs e = refl

asks_off : (w : Walk) (vs : List Typed) → asks w (operands_off vs) ≡ asks w vs
asks_off w [] = refl
asks_off w (a ∷ []) = refl
asks_off w (a ∷ b ∷ []) = refl
asks_off w (a ∷ b ∷ c ∷ []) = refl
asks_off w (a ∷ b ∷ c ∷ d ∷ vs) = refl

-- a call whose operands say the same
called_alike : (r : Option Function) (w : Walk) (callee : Value) (us vs : List Typed) → asks w us ≡ asks w vs → calls_region w w.passed us ≡ calls_region w w.passed vs → called (option_map function_off r) w callee us ≡ called r w callee vs
called_alike None w callee us vs a c = ap (λ (o : Option Walk). if is_function get_shared_variables callee then o else None) a
called_alike (Some f) w callee us vs a c = λ k. if is_function get_shared_variables callee then a k else (if is_function f.name callee then c k else None)

init_called : (init : Bool) (r : Option Function) (w : Walk) (x : Name) (vs : List Typed) → (if init then is_constant 1 (slice_get vs 2) else true) ≡ true → called (option_map function_off r) w (GlobalValue x) (if init then operands_off vs else vs) ≡ called r w (GlobalValue x) vs
init_called true r w x vs e = called_alike r w (GlobalValue x) (operands_off vs) vs (asks_off w vs) (calls_region_off w w.passed vs e)
init_called false r w x vs e = called_alike r w (GlobalValue x) vs vs refl refl

called_off : (r : Option Function) (w : Walk) (callee : Value) (vs : List Typed) → called (option_map function_off r) w callee vs ≡ called r w callee vs
called_off r w callee vs = called_alike r w callee vs vs refl refl

-- ---- the walk

kind_step : (n : ℕ) (r : Option Function) (w : Walk) (x : Option Name) (k : Kind) → has_flag k ≡ true → step_kind n (option_map function_off r) w x (kind_off k) ≡ step_kind n r w x k
kind_step n r w x (Call tail_word ret (GlobalValue y) operands) e = init_called (bytes_eq y target_init) r w y operands e
kind_step n r w x (Call tail_word ret (LocalValue y) operands) e = called_off r w (LocalValue y) operands
kind_step n r w x (Call tail_word ret (IntValue y) operands) e = called_off r w (IntValue y) operands
kind_step n r w x (Call tail_word ret Null operands) e = called_off r w Null operands
kind_step n r w x (Store v at None align) e = refl
kind_step n r w x (Store v at (Some order) align) e = refl
kind_step n r w x (Load ty at None align) e = refl
kind_step n r w x (Load ty at (Some order) align) e = refl
kind_step n r w x (Ret None) e = refl
kind_step n r w x (Ret (Some v)) e = refl
kind_step n r w x _ e = refl

step_off : (m : Module) (f : Function) (w : Walk) (i : Inst) → is_flagged i ≡ true → step (machine_off m) (function_off f) w (inst_off i) ≡ step m f w i
step_off m f w i e =
    let region = region_off m f in
    let captured = captures_off m f in
    (λ k. step_kind (captured k) (region k) w i.result (kind_off i.kind)) ∙ kind_step (captures m f) (region_function m f) w i.result i.kind e

goes_on : (line : ℕ) (o : Option Walk) (g h : Walk → List Refusal) → ((w : Walk) → g w ≡ h w) → or_refused line o g ≡ or_refused line o h
goes_on line None g h same = refl
goes_on line (Some w) g h same = same w

failing_off : (m : Module) (f : Function) (is : List Inst) → list_all is_flagged is ≡ true → (w : Walk) → failing (step (machine_off m) (function_off f)) (map inst_off is) w ≡ failing (step m f) is w
failing_off m f [] e w = refl
failing_off m f (i ∷ is) e w =
    let parts = and_parts (is_flagged i) (list_all is_flagged is) e in
    ap (λ (o : Option Walk). or_refused i.line o (failing (step (machine_off m) (function_off f)) (map inst_off is))) (step_off m f w i parts.0)
    ∙ goes_on i.line (step m f w i) (failing (step (machine_off m) (function_off f)) (map inst_off is)) (failing (step m f) is) (failing_off m f is parts.1)

pub walk_off : (m : Module) (f : Function) → are_flagged f ≡ true → of_walk (machine_off m) (function_off f) ≡ of_walk m f
walk_off m f e =
    ap (λ is. failing (step (machine_off m) (function_off f)) is (first_walk f.params)) (insts_of_off f)
    ∙ failing_off m f (insts_of f) e (first_walk f.params)
