-- The hops back from the result of a getelementptr to its pointer, and from where the registers are found that lead to others that are
-- used otherwise.
use Rattle.std.specs.Prelude.{ℕ, List, [], ◌∷◌, Bool, true, false, Option, Some, None, slice_get, if◌then◌else◌}
use Rattle.std.specs.List.{flat_map}
use Rattle.ir_core.specs.declared.instructions.Kind.{Kind}
use Rattle.ir_core.specs.declared.instructions.Kind.TheVariants.{Gep}
use Rattle.ir_core.specs.declared.instructions.Inst.{Inst}
use Rattle.ir_core.specs.declared.module.Module.{Module}
use Rattle.ir_core.specs.declared.module.Function.{Function}
use Rattle.ir_core.specs.Places.{Name}
use Rattle.shapes.specs.Facts.{insts_of}
use Rattle.register_numbers.specs.Numbers.{number_of}
use Rattle.register_hops.specs.declared.hops.Hop.{Hop}
use Rattle.register_hops.specs.declared.nodes.Node.{Node}
use Rattle.register_hops.specs.declared.nodes.Node.TheVariants.{Register}
use Rattle.register_hops.specs.Placed.{by_place}
use Rattle.plain_facts.specs.declared.own.Own.{Own}
use Rattle.plain_facts.specs.declared.own.Own.TheVariants.{Unused}
use Rattle.plain_facts.specs.Uses.{value_number}

abbrev pub result_number : Module → ℕ → Option Name → Option ℕ
result_number m at None = None
result_number m at (Some x) = number_of m at x

abbrev pub back_from : ℕ → Option ℕ → List Hop
back_from from None = []
back_from from (Some to) = record { from = Register from; to = Register to } ∷ []

-- between two registers, if there are both
abbrev pub back : Option ℕ → Option ℕ → List Hop
back None to = []
back (Some from) to = back_from from to

abbrev pub kind_backs : Module → ℕ → Option Name → Kind → List Hop
kind_backs m at result (Gep inbounds ty base path) = back (result_number m at result) (value_number m at base.value)
kind_backs m at result _ = []

abbrev pub inst_backs : Module → ℕ → Inst → List Hop
inst_backs m at i = kind_backs m at i.result i.kind

abbrev pub function_backs : Module → ℕ → Function → List Hop
function_backs m at f = flat_map (inst_backs m at) (insts_of f)

abbrev pub all_backs : Module → List Hop
all_backs m = by_place (function_backs m) 0 m.functions

-- ---- roots

abbrev pub is_used : Option Own → Bool
is_used None = false
is_used (Some Unused) = false
is_used (Some _) = true

abbrev pub is_used_at : List Own → Node → Bool
is_used_at own (Register n) = is_used (slice_get own n)
is_used_at own _ = false

-- a register of which a getelementptr makes one that is used otherwise
abbrev pub hop_roots : List Own → Hop → List Node
hop_roots own h = if is_used_at own h.from then h.to ∷ [] else []

abbrev pub all_roots : List Own → List Hop → List Node
all_roots own hops = flat_map (hop_roots own) hops
