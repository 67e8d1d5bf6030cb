-- Parameters and results have numbers, and a node tells which value it is.
use Rattle.std.proofs.Common.{◌≡◌, ℕ, ◌+◌, List, map, Bool, true, Option, Some, None, option_map, refl, sym, ap, subst, ◌∙◌, slice_get}
use Rattle.std.specs.List.{flat_map}
use Rattle.std.specs.Option.{is_some}
use Rattle.std.proofs.lemmas.Option.{none-some, same_Some, slice_get-map}
use Rattle.ir_core.specs.declared.instructions.Value.{Value}
use Rattle.ir_core.specs.declared.instructions.Value.TheVariants.{Int as IntValue, Null, Local as LocalValue, Global as GlobalValue}
use Rattle.ir_core.specs.declared.instructions.Inst.{Inst}
use Rattle.ir_core.specs.declared.module.Module.{Module}
use Rattle.ir_core.specs.declared.module.Function.{Function}
use Rattle.ir_core.specs.declared.module.Param.{Param}
use Rattle.ir_core.specs.Places.{Name, place_in, param_name, result_names, inst_results, block_results, register_names_of, register_names}
use Rattle.shapes.specs.Insts.{block_insts}
use Rattle.call_graph.proofs.ListLaws.{Among, in_front, behind, within_joined, joined_has}
use Rattle.call_graph.proofs.NameLaws.{is_among}
use Rattle.name_uses.proofs.UseLaws.{placed}
use Rattle.register_numbers.specs.Numbers.{number_of}
use Rattle.register_numbers.proofs.Apart.{has_number, one_register}
use Rattle.register_hops.specs.declared.nodes.Node.{Node}
use Rattle.register_hops.specs.declared.nodes.Node.TheVariants.{Register, Elsewhere}
use Rattle.register_hops.specs.Nodes.{register_node, value_node, result_node}
use Rattle.value_facts.specs.Pointers.{Spot, register, spot, StandsIn}

some_is : {A : Type 0} (o : Option A) → is_some o ≡ true → (x : A) × (o ≡ Some x)
some_is None e = let f : ⊥ = cc in absurd f
some_is (Some x) e = (x, refl)

abbrev pub HasNumber : Module → ℕ → Name → Type 0
HasNumber m at x = (n : ℕ) × (number_of m at x ≡ Some n)

-- the value is a register that has a number
abbrev pub IsRegister : Module → Spot → Type 0
IsRegister m s = (x : Name) × (s.value ≡ LocalValue x) × HasNumber m s.function x

abbrev pub node_at : Module → Spot → Option Node
node_at m s = value_node m s.function s.value

module _ (m : Module) where
  among_has : (at : ℕ) (x : Name) → Among (register_names m at) x → HasNumber m at x
  among_has at x h =
      let found = some_is (place_in (register_names m at) x) (placed (register_names m at) x ∙ is_among (register_names m at) x h) in
      (_, has_number m at x found.0 found.1)

  in_function : (at : ℕ) (f : Function) (x : Name) → slice_get m.functions at ≡ Some f → Among (register_names_of (Some f)) x → HasNumber m at x
  in_function at f x there h = let P : Option Function → Type 0 = λ o. Among (register_names_of o) x in among_has at x (subst P (sym there) h)

  -- ---- what is given has a number

  pub param_has : (at : ℕ) (f : Function) (place : ℕ) (p : Param) → slice_get m.functions at ≡ Some f → slice_get f.params place ≡ Some p → HasNumber m at p.name
  param_has at f place p there e =
      let named = slice_get-map param_name f.params place ∙ ap (option_map param_name) e in
      in_function at f p.name there (in_front (map param_name f.params) (flat_map block_results f.blocks) p.name (place, named))

  pub result_has : (at : ℕ) (i : Inst) (x : Name) → StandsIn m at i → i.result ≡ Some x → HasNumber m at x
  result_has at i x stands e =
      let f = stands.0 in
      let w = within_joined block_insts f.blocks i (stands.1, stands.3) in
      let P : Option Name → Type 0 = λ o. Among (result_names o) x in
      let here : Among (inst_results i) x = subst P (sym e) (0, refl) in
      let in_block = joined_has inst_results w.0.insts i x w.2 here in
      in_function at f x stands.2 (behind (map param_name f.params) (flat_map block_results f.blocks) x (joined_has block_results f.blocks w.0 x w.1 in_block))

  -- ---- nodes

  pub node_of_number : (at : ℕ) (x : Name) (n : ℕ) → number_of m at x ≡ Some n → register_node m at x ≡ Some (Register n)
  node_of_number at x n e = ap (option_map Register) e

  -- the node of a register is that of its number
  pub number_of_node : (at : ℕ) (x : Name) (y : Node) → register_node m at x ≡ Some y → (n : ℕ) × (number_of m at x ≡ Some n) × (y ≡ Register n)
  number_of_node at x y e = of (number_of m at x) refl e where
    of : (o : Option ℕ) → number_of m at x ≡ o → option_map Register o ≡ Some y → (n : ℕ) × (number_of m at x ≡ Some n) × (y ≡ Register n)
    of None found f = absurd (none-some y f)
    of (Some n) found f = (n, found, sym (same_Some (Register n) y f))

  -- an instruction's result is a register
  pub result_is : (at : ℕ) (o : Option Name) (y : Node) → result_node m at o ≡ Some y → (x : Name) × (o ≡ Some x) × (register_node m at x ≡ Some y)
  result_is at None y e = absurd (none-some y e)
  result_is at (Some x) y e = (x, refl, e)

  pub result_of : (at : ℕ) (o : Option Name) (x : Name) (y : Node) → o ≡ Some x → register_node m at x ≡ Some y → result_node m at o ≡ Some y
  result_of at o x y e f = ap (result_node m at) e ∙ f

  pub result_node_is : (at : ℕ) (o : Option Name) (x : Name) (n : ℕ) → o ≡ Some x → number_of m at x ≡ Some n → result_node m at o ≡ Some (Register n)
  result_node_is at o x n e f = result_of at o x (Register n) e (node_of_number at x n f)

  pub register_node_at : (s : Spot) (x : Name) (n : ℕ) → s.value ≡ LocalValue x → number_of m s.function x ≡ Some n → node_at m s ≡ Some (Register n)
  register_node_at s x n e f = ap (value_node m s.function) e ∙ node_of_number s.function x n f

  -- the node of a number is that of one value alone
  pub same_value : (at : ℕ) (x : Name) (n : ℕ) → number_of m at x ≡ Some n → (to : ℕ) (v : Value) → value_node m to v ≡ Some (Register n) → spot to v ≡ register at x
  same_value at x n e to (IntValue k) f = absurd (none-some (Register n) f)
  same_value at x n e to Null f = let g : ⊥ = cc in absurd g
  same_value at x n e to (GlobalValue y) f = let g : ⊥ = cc in absurd g
  same_value at x n e to (LocalValue y) f =
      let r = number_of_node to y (Register n) f in
      let is = r.2 in
      let number : r.0 ≡ n = cc in
      let same = one_register m to at y x n (r.1 ∙ ap Some number) e in
      ap (λ k. register k y) same.0 ∙ ap (register at) same.1
