-- What is not refused of a module and of its functions, part by part.
use Rattle.std.proofs.Common.{◌≡◌, ℕ, List, [], ◌++◌, map, Some}
use Rattle.std.specs.Prelude.{slice_get}
use Rattle.std.specs.List.{flat_map}
use Rattle.ir_core.specs.declared.module.Module.{Module}
use Rattle.ir_core.specs.declared.module.Function.{Function}
use Rattle.ir_core.specs.declared.module.TypeDef.{TypeDef}
use Rattle.ir_core.specs.Typing.{scope_of}
use Rattle.ir_core.specs.Given.{local_names}
use Rattle.ir_core.specs.NameRefusals.{at, repeated, of_type, repeated_by_line, global_names, of_global, of_function, in_heading, of_block, name_refusals}
use Rattle.accepted_laws.proofs.Nothing.{front_none, back_none, each_none, nothing_at}

abbrev pub type_entry : TypeDef → List ℕ × ℕ
type_entry d = (d.name, d.line)

pub record Clean (m : Module) : Type 0 where
  pub once : repeated [] (map type_entry m.types) ≡ []
  pub types : flat_map (of_type m) m.types ≡ []
  pub names : repeated_by_line [] (global_names m) ≡ []
  pub functions : flat_map (of_function m) m.functions ≡ []

pub clean : (m : Module) → name_refusals m ≡ [] → Clean m
clean m e =
    let a = repeated [] (map type_entry m.types) in
    let b = flat_map (of_type m) m.types in
    let c = repeated_by_line [] (global_names m) in
    let d = flat_map (of_global m) m.globals in
    let f = flat_map (of_function m) m.functions in
    let abcd = front_none (((a ++ b) ++ c) ++ d) f e in
    let abc = front_none ((a ++ b) ++ c) d abcd in
    let ab = front_none (a ++ b) c abc in
    record {
      once = front_none a b ab;
      types = back_none a b ab;
      names = back_none (a ++ b) c abc;
      functions = back_none (((a ++ b) ++ c) ++ d) f e;
    }

pub record CleanFunction (m : Module) (f : Function) : Type 0 where
  pub heading : in_heading m f ≡ []
  pub blocks : flat_map (of_block (scope_of m f)) f.blocks ≡ []

pub clean_function : (m : Module) → Clean m → (place : ℕ) (f : Function) → slice_get m.functions place ≡ Some f → CleanFunction m f
clean_function m c place f is =
    let e = each_none (of_function m) m.functions place f c.functions is in
    let a = at f.line (in_heading m f) in
    let b = repeated [] (map (λ n. (n.name, n.line)) (local_names f)) in
    let d = flat_map (of_block (scope_of m f)) f.blocks in
    record { heading = nothing_at f.line (in_heading m f) (front_none a b (front_none (a ++ b) d e)); blocks = back_none (a ++ b) d e }
