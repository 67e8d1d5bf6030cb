-- Bytes that are padded behind others.
use Rattle.std.proofs.Common.{◌≡◌, ℕ, ◌-◌, List, ◌++◌, length, replicate, ap, ◌∙◌, append_assoc, arith, length-append}
use Rattle.ir_core.specs.Layout.{aligned}
use Rattle.mem_model.specs.declared.memory.Byte.{Byte}
use Rattle.mem_model.specs.declared.memory.Byte.TheVariants.{Num}
use Rattle.mem_model.specs.Globals.{padded}

-- what stands behind others is padded by itself
pub padded_behind : (front back : List Byte) (base size : ℕ) → base ≡ length front → (front ++ back) ++ replicate (size - (length (front ++ back) - base)) (Num 0) ≡ front ++ padded size back
padded_behind front back base size at =
    let both = length-append front back in
    let e : length (front ++ back) - base ≡ length back = omega arith in
    ap (λ n. (front ++ back) ++ replicate (size - n) (Num 0)) e ∙ append_assoc front back (replicate (size - length back) (Num 0))

-- a field behind the padded ones before it
pub field_behind : (front before field : List Byte) (base align : ℕ) → base ≡ length front →
    ((front ++ before) ++ replicate (aligned (length (front ++ before) - base) align - (length (front ++ before) - base)) (Num 0)) ++ field ≡ front ++ (padded (aligned (length before) align) before ++ field)
field_behind front before field base align at =
    let both = length-append front before in
    let e : length (front ++ before) - base ≡ length before = omega arith in
    ap (λ n. ((front ++ before) ++ replicate (aligned n align - (length (front ++ before) - base)) (Num 0)) ++ field) e
    ∙ ap (λ (bs : List Byte). bs ++ field) (padded_behind front before base (aligned (length before) align) at)
    ∙ append_assoc front (padded (aligned (length before) align) before) field
