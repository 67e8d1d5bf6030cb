-- What is refused of clauses and of sizes is the same where the machine is switched off.
use Rattle.std.proofs.Common.{◌≡◌, ℕ, ◌-◌, ◌^◌, List, [], ◌∷◌, ◌++◌, map, Bool, true, false, not, ◌&&◌, refl, ap, ◌∙◌, if◌then◌else◌}
use Rattle.std.specs.Prelude.{slice_get}
use Rattle.std.specs.List.{flat_map, list_any}
use Rattle.std.specs.Str.{bytes_eq}
use Rattle.ir_core.specs.declared.instructions.Kind.{Kind}
use Rattle.ir_core.specs.declared.instructions.Kind.TheVariants.{Call}
use Rattle.ir_core.specs.declared.instructions.Inst.{Inst}
use Rattle.ir_core.specs.declared.module.Module.{Module}
use Rattle.ir_core.specs.declared.module.Function.{Function}
use Rattle.ir_core.specs.declared.module.Block.{Block}
use Rattle.ir_core.specs.declared.refusal.Construct.TheVariants.{Limit, ClauseArgument}
use Rattle.ir_core.specs.declared.rtl.Rtl.{Rtl}
use Rattle.ir_core.specs.declared.rtl.Rtl.TheVariants.{Parallel, ForStaticInit}
use Rattle.ir_core.specs.EntryPoints.{target_init, entry_name}
use Rattle.ir_core.specs.MachineOff.{kind_off, inst_off, block_off, function_off, machine_off}
use Rattle.shapes.specs.Facts.{rule, insts_in, calls, operands_of, is_constant, is_local}
use Rattle.shapes.specs.Clauses.{located, has_location, has_fork_clauses, has_schedule, of_clauses, clause_refusals}
use Rattle.shapes.specs.Limits.{has_few, beyond, function_limit, block_limit, instruction_limit, of_counts, of_captures, of_size, of_inst, of_global, kind_types, limit_refusals}
use Rattle.output_laws.proofs.SwitchedOff.{flat_same, insts_in_off, calls_off, other_call, operand_off}

-- ---- clauses

-- a rule on the calls of another entry point
other_rule : (r : Rtl) → bytes_eq target_init (entry_name r) ≡ false → (test : Kind → Bool) (k : Kind) → (if calls r (kind_off k) then test (kind_off k) else true) ≡ (if calls r k then test k else true)
other_rule r apart test k = ap (λ c. if c then test (kind_off k) else true) (calls_off r k) ∙ by (calls r k) refl
  where
    by : (c : Bool) → calls r k ≡ c → (if c then test (kind_off k) else true) ≡ (if c then test k else true)
    by true e = ap test (other_call r apart k e)
    by false e = refl

location_off : (i : Inst) → has_location (inst_off i) ≡ has_location i
location_off i = let first = operand_off i 0 refl in λ k. if list_any (λ r. calls_off r i.kind k) located then not (is_local (first k)) else true

abbrev asks_no_more : Kind → Bool
asks_no_more k = is_constant 1 (slice_get (operands_of k) 2) && is_constant (2 ^ 32 - 1) (slice_get (operands_of k) 3)

fork_clauses_off : (i : Inst) → has_fork_clauses (inst_off i) ≡ has_fork_clauses i
fork_clauses_off i = other_rule Parallel refl asks_no_more i.kind

abbrev is_static : Kind → Bool
is_static k = if is_constant 33 (slice_get (operands_of k) 2) then true else is_constant 34 (slice_get (operands_of k) 2)

schedule_off : (i : Inst) → has_schedule (inst_off i) ≡ has_schedule i
schedule_off i = other_rule ForStaticInit refl is_static i.kind

clauses_off : (i : Inst) → of_clauses (inst_off i) ≡ of_clauses i
clauses_off i =
    let location = location_off i in
    let fork = fork_clauses_off i in
    let schedule = schedule_off i in
    λ k. rule ClauseArgument (location k && fork k && schedule k) i.line

pub off_keeps_clauses : (m : Module) → clause_refusals (machine_off m) ≡ clause_refusals m
off_keeps_clauses m = ap (flat_map of_clauses) (insts_in_off m) ∙ flat_same of_clauses of_clauses inst_off clauses_off (insts_in m)

-- ---- counts and sizes

lines_same : {X : Type 0} (line : X → ℕ) (h : X → X) → ((x : X) → line (h x) ≡ line x) → (xs : List X) → map line (map h xs) ≡ map line xs
lines_same line h same [] = refl
lines_same line h same (x ∷ xs) = let more = lines_same line h same xs in λ k. same x k ∷ more k

abbrev function_line : Function → ℕ
function_line f = f.line

abbrev block_line : Block → ℕ
block_line b = b.line

abbrev inst_line : Inst → ℕ
inst_line i = i.line

abbrev block_lines : Function → List ℕ
block_lines f = map block_line f.blocks

counts_off : (m : Module) → of_counts (machine_off m) ≡ of_counts m
counts_off m =
    let functions = lines_same function_line function_off (λ f. refl) m.functions in
    let blocks = flat_same block_lines block_lines function_off (λ f. lines_same block_line block_off (λ b. refl) f.blocks) m.functions in
    let insts = ap (map inst_line) (insts_in_off m) ∙ lines_same inst_line inst_off (λ i. refl) (insts_in m) in
    λ k. beyond function_limit (functions k) ++ beyond block_limit (blocks k) ++ beyond instruction_limit (insts k)

captures_off : (i : Inst) → of_captures (inst_off i) ≡ of_captures i
captures_off i =
    let call = calls_off Parallel i.kind in
    let count = operand_off i 8 refl in
    λ k. rule Limit (if call k then has_few (count k) else true) i.line

types_off : (k : Kind) → kind_types (kind_off k) ≡ kind_types k
types_off (Call tail_word ret callee operands) = refl
types_off _ = refl

inst_limits_off : (m : Module) (i : Inst) → of_inst (machine_off m) (inst_off i) ≡ of_inst m i
inst_limits_off m i =
    let captures = captures_off i in
    let types = types_off i.kind in
    λ k. captures k ++ flat_map (of_size m i.line) (types k)

pub off_keeps_limits : (m : Module) → limit_refusals (machine_off m) ≡ limit_refusals m
off_keeps_limits m =
    let counts = counts_off m in
    let insts = ap (flat_map (of_inst (machine_off m))) (insts_in_off m) ∙ flat_same (of_inst m) (of_inst (machine_off m)) inst_off (inst_limits_off m) (insts_in m) in
    λ k. counts k ++ flat_map (λ d. of_size m d.line d.body) m.types ++ flat_map (of_global m) m.globals ++ insts k
