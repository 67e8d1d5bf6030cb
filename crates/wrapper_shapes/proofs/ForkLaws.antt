-- The wrapper of a fork, and the region function of the function at a place.
use Rattle.std.proofs.Common.{◌≡◌, ℕ, zero, suc, ◌<◌, List, [], ◌∷◌, map, length, drop, get_or, Option, Some, None, arith, sym, ap, ◌∙◌}
use Rattle.std.specs.Borrow.{Bor}
use Rattle.std.specs.Prelude.{option_and_then, slice_get}
use Rattle.ir_core.specs.declared.instructions.Typed.{Typed}
use Rattle.ir_core.specs.declared.instructions.Value.TheVariants.{Global as GlobalValue}
use Rattle.ir_core.specs.declared.module.Function.{Function}
use Rattle.ir_core.specs.declared.module.Module.{Module}
use Rattle.ir_core.specs.Places.{Name}
use Rattle.shapes.specs.Facts.{function_given}
use Rattle.shapes.specs.Wrappers.{wrapper_given}
use Rattle.wrapper_shapes.specs.Seen.{region_seen, regions_seen}

pub wrapper_is : (m : Module) (o : Option Typed) (v : Typed) (x : Name) → o ≡ Some v → v.value ≡ GlobalValue x → function_given m x ≡ wrapper_given m o
wrapper_is m o v x given is = sym (ap (wrapper_given m) given ∙ ap (λ u. wrapper_given m (Some (record { ty = v.ty; value = u }))) is)

pub region_there : (region_of : Function → Option Function) (regions : List (Option (Bor Function))) (fs : List Function) (n : ℕ) (r : Option (Bor Function)) → n < length regions → r ≡ get_or regions n r → regions_seen regions ≡ map region_of fs →
    region_seen r ≡ option_and_then region_of (slice_get fs n)
region_there region_of [] fs n r low is same = let f : ⊥ = omega arith in absurd f
region_there region_of (q ∷ rs) [] n r low is same = let f : ⊥ = cc in absurd f
region_there region_of (q ∷ rs) (f ∷ fs) zero r low is same = ap region_seen is ∙ ap (λ xs. get_or xs 0 None) same
region_there region_of (q ∷ rs) (f ∷ fs) (suc n) r low is same = region_there region_of rs fs n r (omega arith) is (ap (λ xs. drop 1 xs) same)
