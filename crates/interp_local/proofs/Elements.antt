-- The indices of a getelementptr, read and followed one after another.
use Rattle.std.proofs.Common.{◌≡◌, ℕ, ◌+◌, ℤ, List, [], ◌∷◌, ◌++◌, drop, Option, Some, None, Result, Ok, Err, refl, sym, ap, ◌∙◌, subst, slice_get, append_assoc}
use Rattle.ir_core.specs.declared.types.Ty.{Ty}
use Rattle.ir_core.specs.declared.instructions.Typed.{Typed}
use Rattle.ir_core.specs.declared.module.Module.{Module}
use Rattle.ir_core.specs.declared.module.TypeDef.{TypeDef}
use Rattle.ir_core.specs.Layout.{Offset}
use Rattle.ir_tables.specs.declared.offsets.Walk.{Walk}
use Rattle.ir_tables.specs.Walk.{StandsIn, WalksInto, offset_from}
use Rattle.mem_model.specs.declared.memory.Word.{Word}
use Rattle.mem_model.specs.declared.step.Trap.{Trap}
use Rattle.mem_model.specs.Thread.{Registers}
use Rattle.mem_model.specs.Values.{and_then, operand, index_of, path_of}
use Rattle.interp_local.specs.Addresses.{Reaches}
use Rattle.interp_local.proofs.Branches.{drop_get}

-- ---- one index further

goes_in : (types : List TypeDef) (ty : Ty) (front : List ℤ) (index : ℤ) (walk : Walk) (next : Option Walk) → Reaches types ty front (Some walk) → WalksInto types walk index next → Reaches types ty (front ++ index ∷ []) next
goes_in types ty front index walk None h into = λ rest. ap (Offset types ty) (append_assoc front (index ∷ []) rest) ∙ sym (h.1 (index ∷ rest)) ∙ into rest
goes_in types ty front index walk (Some next) h into = (into.0, λ rest. into.1 rest ∙ h.1 (index ∷ rest) ∙ ap (Offset types ty) (sym (append_assoc front (index ∷ []) rest)))

pub goes_some : (types : List TypeDef) (ty : Ty) (front : List ℤ) (index other : ℤ) (o : Option Walk) (walk : Walk) (result : Option Walk) → o ≡ Some walk → other ≡ index → (StandsIn types walk → WalksInto types walk other result) → Reaches types ty front o → Reaches types ty (front ++ index ∷ []) result
goes_some types ty front index other o walk result some same into h =
    let g = subst (Reaches types ty front) some h in goes_in types ty front index walk result g (subst (λ i. WalksInto types walk i result) same (into g.0))

-- ---- the indices

abbrev Before : List ℤ → Result (List ℤ) Trap → Result (List ℤ) Trap
Before front r = and_then r (λ path. Ok (front ++ path))

abbrev With : Result ℤ Trap → Result (List ℤ) Trap → Result (List ℤ) Trap
With i rest = and_then i (λ i. and_then rest (λ path. Ok (i ∷ path)))

regroup : (w : Result Word Trap) (to : Word → Result ℤ Trap) (rest : Result (List ℤ) Trap) → and_then w (λ word. and_then (to word) (λ i. and_then rest (λ path. Ok (i ∷ path)))) ≡ With (and_then w to) rest
regroup (Ok w) to rest = refl
regroup (Err e) to rest = refl

-- what a loop that follows a path knows
pub record Follows (m : Module) (r : Registers) (ty : Ty) (path : List Typed) (walk : Option Walk) (n : ℕ) : Type 0 where
  pub front : List ℤ
  pub indices : Before front (path_of m r (drop n path)) ≡ path_of m r path
  pub reaches : Reaches m.types ty front walk

pub follows_first : (m : Module) (r : Registers) (ty : Ty) (path : List Typed) (walk : Walk) → StandsIn m.types walk → ((rest : List ℤ) → offset_from m.types walk rest ≡ Offset m.types ty rest) → Follows m r ty path (Some walk) 0
follows_first m r ty path walk stands adds = record { front = []; indices = same (path_of m r path); reaches = (stands, adds) }
  where
    same : (r : Result (List ℤ) Trap) → Before [] r ≡ r
    same (Ok p) = refl
    same (Err e) = refl

module _ (m : Module) (r : Registers) (ty : Ty) (path : List Typed) (walk : Option Walk) (n : ℕ) (f : Follows m r ty path walk n) where
  module _ (v : Typed) (there : slice_get path n ≡ Some v) where
    abbrev Rest : Result (List ℤ) Trap
    Rest = path_of m r (drop (n + 1) path)

    here : Before f.front (With (and_then (operand m r v.ty v.value) (index_of v.ty)) Rest) ≡ path_of m r path
    here = ap (Before f.front) (sym (regroup (operand m r v.ty v.value) (index_of v.ty) Rest) ∙ ap (path_of m r) (sym (drop_get path n v there))) ∙ f.indices

    pub follows_trap : (e : Trap) → and_then (operand m r v.ty v.value) (index_of v.ty) ≡ Err e → ◌≡◌ {A = Result (Option ℤ) Trap} (Err e) (and_then (path_of m r path) (λ indices. Ok (Offset m.types ty indices)))
    follows_trap e trap = ap (λ x. and_then x (λ indices. Ok (Offset m.types ty indices))) (sym (sym here ∙ ap (λ i. Before f.front (With i Rest)) trap))

    one : (rest : Result (List ℤ) Trap) (i : ℤ) → Before (f.front ++ i ∷ []) rest ≡ Before f.front (With (Ok i) rest)
    one (Ok p) i = ap Ok (append_assoc f.front (i ∷ []) p)
    one (Err e) i = refl

    pub follows_on : (i : ℤ) (next : Option Walk) → and_then (operand m r v.ty v.value) (index_of v.ty) ≡ Ok i → Reaches m.types ty (f.front ++ i ∷ []) next → Follows m r ty path next (n + 1)
    follows_on i next is reaches = record {
      front = f.front ++ i ∷ [];
      indices = one Rest i ∙ sym (ap (λ x. Before f.front (With x Rest)) is) ∙ here;
      reaches = reaches;
    }
