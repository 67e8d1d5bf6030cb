use Rattle.std.proofs.Common.{◌≡◌, ℕ, ◌<◌, ◌≤◌, ◌^◌, List, length, map, Some, sym, arith, rules}
use Rattle.std.proofs.lemmas.List.{length-map}
use Rattle.ir_core.specs.Places.{Name, place_in, function_name, global_name}
use Rattle.thread_state.proofs.Assigned.{place_range}
use Rattle.interp_local.proofs.operands.address.Goals as goal

are_few : {A : Type 0} (name : A → Name) (xs : List A) (x : Name) (n : ℕ) → length xs ≤ 2 ^ 32 → place_in (map name xs) x ≡ Some n → n < 2 ^ 32
are_few name xs x n low is = let r = (place_range 0 (map name xs) x n is).1 in let same = length-map xs name in omega arith

pub overflow_cast-result : goal.overflow_cast-result
overflow_cast-result c = let low = are_few global_name c.args.m.now.globals c.args.name.now c.in-Some.place c.requires.globals (sym c.in-Some.ensures) in search rules

pub overflow_cast-result-in-Some-function : goal.overflow_cast-result-in-Some-function
overflow_cast-result-in-Some-function c =
    let low = are_few function_name c.args.m.now.functions c.args.name.now c.in-Some-function.place c.requires.functions (sym c.in-Some-function.ensures) in search rules
