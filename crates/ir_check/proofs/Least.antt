-- Where no refusal is told there is none.
use Rattle.std.proofs.Common.{◌≡◌, List, [], ◌∷◌, Bool, true, false, Option, Some, None, refl, if◌then◌else◌}
use Rattle.ir_core.specs.declared.refusal.Refusal.{Refusal}
use Rattle.ir_core.specs.NameRefusals.{is_before, lesser, least}

one_is : (r s : Refusal) (b : Bool) → (if b then Some s else Some r) ≡ None → ⊥
one_is r s true e = let f : ⊥ = cc in f
one_is r s false e = let f : ⊥ = cc in f

some_is : (r : Refusal) (o : Option Refusal) → lesser r o ≡ None → ⊥
some_is r None e = let f : ⊥ = cc in f
some_is r (Some s) e = one_is r s (is_before s r) e

pub none_told : (rs : List Refusal) → least rs ≡ None → rs ≡ []
none_told [] e = refl
none_told (r ∷ rs) e = absurd (some_is r (least rs) e)
