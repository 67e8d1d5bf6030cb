-- A launched kernel in SPMD mode has an init call that says so.
use Rattle.std.proofs.Common.{◌≡◌, ◌⊎◌, inl, inr, ℕ, zero, suc, Bool, true, false, List, [], ◌∷◌, ◌++◌, flat_map, slice_get, Option, Some, None, refl, sym, ap, ◌∙◌, subst}
use Rattle.std.specs.Prelude.{◌==◌, if◌then◌else◌}
use Rattle.std.proofs.lemmas.Slice.Eq.{bytes_eq-Decides}
use Rattle.ir_core.specs.declared.instructions.Value.{Value}
use Rattle.ir_core.specs.declared.instructions.Value.TheVariants.{Int as IntValue, Global as GlobalValue}
use Rattle.ir_core.specs.declared.instructions.Typed.{Typed}
use Rattle.ir_core.specs.declared.instructions.Kind.{Kind}
use Rattle.ir_core.specs.declared.instructions.Kind.TheVariants.{Call}
use Rattle.ir_core.specs.declared.instructions.Inst.{Inst}
use Rattle.ir_core.specs.declared.module.Module.{Module}
use Rattle.ir_core.specs.declared.module.Function.{Function}
use Rattle.ir_core.specs.declared.module.Block.{Block}
use Rattle.ir_core.specs.declared.rtl.Rtl.TheVariants.{TargetInit}
use Rattle.ir_core.specs.FirstForm.{is_number}
use Rattle.ir_core.specs.EntryPoints.{target_init}
use Rattle.ir_core.specs.MachineOff.{calls_init}
use Rattle.shapes.specs.Facts.{is_constant}
use Rattle.ir_core.specs.Places.{Name, Place, inst_at, inst_in, block_in, function_place}
use Rattle.mem_model.specs.declared.launch.Launch.{Launch}
use Rattle.mem_model.specs.Next.{CallsEntry, callee_of, entry_or, defined_at}
use Rattle.team_model.specs.Team.{mode_number, mode_operand, kind_modes, inst_modes, block_modes, is_spmd_mode, is_spmd_function, function_at, is_spmd}
use Rattle.thread_state.specs.Seen.{IsSpmdCall, IsSpmdKind, HasSpmdKernel}
use Rattle.interp_local.proofs.EntryNames.{entry_found}

-- ---- the item of a list that gives the first of what all give

record Gives {X Y : Type 0} (g : X → List Y) (xs : List X) (y : Y) : Type 0 where
  at : ℕ
  item : X
  there : slice_get xs at ≡ Some item
  more : List Y
  gives : g item ≡ y ∷ more

given_first : {X Y : Type 0} (g : X → List Y) (x : X) (xs : List X) (y : Y) (ys zs : List Y) → g x ≡ zs → zs ++ flat_map g xs ≡ y ∷ ys → (flat_map g xs ≡ y ∷ ys → Gives g xs y) → Gives g (x ∷ xs) y
given_first g x xs y ys [] is e later = let h = later e in record { at = suc h.at; item = h.item; there = h.there; more = h.more; gives = h.gives }
given_first g x xs y ys (z ∷ zs) is e later = let same : z ≡ y = cc in record { at = 0; item = x; there = refl; more = zs; gives = is ∙ ap (λ w. w ∷ zs) same }

first_given : {X Y : Type 0} (g : X → List Y) (xs : List X) (y : Y) (ys : List Y) → flat_map g xs ≡ y ∷ ys → Gives g xs y
first_given g [] y ys e = let f : ⊥ = cc in absurd f
first_given g (x ∷ xs) y ys e = given_first g x xs y ys (g x) refl e (first_given g xs y ys)

-- ---- an init call in SPMD mode

value_two : (v : Value) (n : ℕ) (more : List ℕ) → mode_number v ≡ n ∷ more → (n == 2) ≡ true → is_number 2 v ≡ true
value_two (IntValue k) n more e two = let same : k ≡ n = cc in ap (λ j. j == 2) same ∙ two
value_two _ n more e two = let f : ⊥ = cc in absurd f

operand_two : (operands : List Typed) (n : ℕ) (more : List ℕ) → mode_operand operands ≡ n ∷ more → (n == 2) ≡ true → is_constant 2 (slice_get operands 1) ≡ true
operand_two (place ∷ mode ∷ flag ∷ []) n more e two = value_two mode.value n more e two
operand_two [] n more e two = let f : ⊥ = cc in absurd f
operand_two (place ∷ []) n more e two = let f : ⊥ = cc in absurd f
operand_two (place ∷ mode ∷ []) n more e two = let f : ⊥ = cc in absurd f
operand_two (place ∷ mode ∷ flag ∷ other ∷ rest) n more e two = let f : ⊥ = cc in absurd f

init_called : (m : Module) (callee : Value) → calls_init callee ≡ true → callee_of m callee ≡ CallsEntry TargetInit
init_called m (GlobalValue x) e = ap (λ o. entry_or o (defined_at m (function_place m x))) (entry_found x (Some TargetInit) (sym ((bytes_eq-Decides x target_init).0 e)))
init_called m _ e = let f : ⊥ = cc in absurd f

call_spmd : (m : Module) (callee : Value) (operands : List Typed) (n : ℕ) (more : List ℕ) (b : Bool) → calls_init callee ≡ b → (if b then mode_operand operands else []) ≡ n ∷ more → (n == 2) ≡ true → IsSpmdCall operands (callee_of m callee)
call_spmd m callee operands n more true calls e two = subst (IsSpmdCall operands) (sym (init_called m callee calls)) (operand_two operands n more e two)
call_spmd m callee operands n more false calls e two = let f : ⊥ = cc in absurd f

kind_spmd : (m : Module) (k : Kind) (n : ℕ) (more : List ℕ) → kind_modes k ≡ n ∷ more → (n == 2) ≡ true → IsSpmdKind m k
kind_spmd m (Call tail_word ret callee operands) n more e two = call_spmd m callee operands n more (calls_init callee) refl e two
kind_spmd m _ n more e two = let f : ⊥ = cc in absurd f

-- ---- the kernel

two_first : (modes : List ℕ) → is_spmd_mode modes ≡ true → (n : ℕ) × (more : List ℕ) × (modes ≡ n ∷ more) × ((n == 2) ≡ true)
two_first [] e = let f : ⊥ = cc in absurd f
two_first (n ∷ more) e = (n, more, refl, e)

function_spmd : (m : Module) (k : ℕ) (f : Function) → slice_get m.functions k ≡ Some f → is_spmd_mode (flat_map block_modes f.blocks) ≡ true → HasSpmdKernel m
function_spmd m k f there e =
    let t = two_first (flat_map block_modes f.blocks) e in
    let b = first_given block_modes f.blocks t.0 t.1 t.2 in
    let i = first_given inst_modes b.item.insts t.0 b.more b.gives in
    let at : inst_at m (record { function = k; block = b.at; index = i.at }) ≡ Some i.item =
    ap (λ o. inst_in (block_in o b.at) i.at) there ∙ ap (λ o. inst_in o i.at) b.there ∙ i.there in
    (record { function = k; block = b.at; index = i.at }, i.item, at, kind_spmd m i.item.kind t.0 i.more i.gives t.3)

by_place : (m : Module) (o : Option ℕ) → is_spmd_function (function_at m o) ≡ true → HasSpmdKernel m
by_place m None e = let f : ⊥ = cc in absurd f
by_place m (Some k) e = by (slice_get m.functions k) refl e
  where
    by : (o : Option Function) → slice_get m.functions k ≡ o → is_spmd_function o ≡ true → HasSpmdKernel m
    by None is e = let f : ⊥ = cc in absurd f
    by (Some f) is e = function_spmd m k f is e

pub spmd_there : (m : Module) (l : Launch) → is_spmd m l ≡ true → HasSpmdKernel m
spmd_there m l e = by_place m (function_place m l.kernel) e
