-- Which instruction makes a hop, and which function has a root.
use Rattle.std.proofs.Common.{◌≡◌, ℕ, zero, suc, ◌+◌, List, [], ◌∷◌, Bool, true, Option, Some, None, inl, inr, refl, sym, subst, slice_get, arith}
use Rattle.std.proofs.lemmas.Option.{none-some, same_Some}
use Rattle.ir_core.specs.declared.instructions.Typed.{Typed}
use Rattle.ir_core.specs.declared.instructions.Inst.{Inst}
use Rattle.ir_core.specs.declared.module.Module.{Module}
use Rattle.ir_core.specs.declared.module.Function.{Function}
use Rattle.ir_core.specs.declared.module.Param.{Param}
use Rattle.shapes.specs.Facts.{insts_of}
use Rattle.call_graph.proofs.ListLaws.{none_among, in_front, behind, in_either, within_joined, joined_has}
use Rattle.register_hops.specs.declared.hops.Hop.{Hop}
use Rattle.register_hops.specs.declared.nodes.Node.{Node}
use Rattle.register_hops.specs.declared.roots.Origin.{Origin}
use Rattle.register_hops.specs.Nodes.{register_node, value_node}
use Rattle.register_hops.specs.Hops.{hop, operand_hops, inst_hops, function_hops, all_hops}
use Rattle.register_hops.specs.Roots.{root_if, function_roots, all_roots}
use Rattle.register_hops.specs.Numbered.{Stands}
use Rattle.register_hops.proofs.PlacedLaws.{given_at, is_given_at}

-- between two nodes there is the hop from the one to the other
pub makes_hop : (from to : Option Node) (h : Hop) → from ≡ Some h.from → to ≡ Some h.to → Stands (hop from to) h
makes_hop None to h p q = absurd (none-some h.from p)
makes_hop (Some x) None h p q = absurd (none-some h.to q)
makes_hop (Some x) (Some y) h p q =
    let Between : Node → Node → Type 0 = λ a b. Stands (hop (Some a) (Some b)) h in
    let P : Node → Type 0 = λ a. Between a y in
    let Q : Node → Type 0 = λ b. Between h.from b in
    subst P (sym (same_Some x h.from p)) (subst Q (sym (same_Some y h.to q)) (0, refl))

pub makes_root : (test : Bool) (o : Option Node) (x : Node) → test ≡ true → o ≡ Some x → Stands (root_if test o) x
makes_root test None x p q = absurd (none-some x q)
makes_root test (Some y) x p q =
    let P : Bool → Type 0 = λ b. Stands (root_if b (Some y)) x in
    subst P (sym p) (0, q)

-- ---- instructions

-- an instruction of the function at a place makes the hop
pub record IsMadeBy (m : Module) (h : Hop) : Type 0 where
  pub at : ℕ
  pub function : Function
  pub there : slice_get m.functions at ≡ Some function
  pub inst : Inst
  pub stands : Stands (insts_of function) inst
  pub made : Stands (inst_hops m at inst) h

pub is_made_by : (m : Module) (h : Hop) → Stands (all_hops m) h → IsMadeBy m h
is_made_by m h s =
    let g = given_at (function_hops m) m.functions 0 h s in
    let w = within_joined (inst_hops m (0 + g.place)) (insts_of g.item) h g.given in
    let same : 0 + g.place ≡ g.place = omega arith in
    let P : ℕ → Type 0 = λ at. Stands (inst_hops m at w.0) h in
    record { at = g.place; function = g.item; there = g.there; inst = w.0; stands = w.1; made = subst P same w.2 }

pub is_among_all : (m : Module) (h : Hop) → IsMadeBy m h → Stands (all_hops m) h
is_among_all m h r =
    let same : r.at ≡ 0 + r.at = omega arith in
    let P : ℕ → Type 0 = λ at. Stands (function_hops m at r.function) h in
    is_given_at (function_hops m) m.functions 0 r.at r.function h r.there (subst P same (joined_has (inst_hops m r.at) (insts_of r.function) r.inst h r.stands r.made))

-- ---- operands

-- the operand at a place hops to the parameter there
pub record IsOperandHop (m : Module) (at to : ℕ) (vs : List Typed) (ps : List Param) (h : Hop) : Type 0 where
  pub place : ℕ
  pub operand : Typed
  pub param : Param
  pub has_operand : slice_get vs place ≡ Some operand
  pub has_param : slice_get ps place ≡ Some param
  pub made : Stands (hop (value_node m at operand.value) (register_node m to param.name)) h

module _ (m : Module) (at to : ℕ) where
  pub is_operand_hop : (vs : List Typed) (ps : List Param) (h : Hop) → Stands (operand_hops m at to vs ps) h → IsOperandHop m at to vs ps h
  is_operand_hop [] ps h s = absurd (none_among h s)
  is_operand_hop (v ∷ vs) [] h s = absurd (none_among h s)
  is_operand_hop (v ∷ vs) (p ∷ ps) h s =
      elim (in_either (hop (value_node m at v.value) (register_node m to p.name)) (operand_hops m at to vs ps) h s) [
        | inl a ↦ record { place = 0; operand = v; param = p; has_operand = refl; has_param = refl; made = a }
        | inr b ↦
            let r = is_operand_hop vs ps h b in
            record { place = suc r.place; operand = r.operand; param = r.param; has_operand = r.has_operand; has_param = r.has_param; made = r.made }
      ]

  pub operand_hop_stands : (vs : List Typed) (ps : List Param) (place : ℕ) (v : Typed) (p : Param) (h : Hop) → slice_get vs place ≡ Some v → slice_get ps place ≡ Some p
      → Stands (hop (value_node m at v.value) (register_node m to p.name)) h → Stands (operand_hops m at to vs ps) h
  operand_hop_stands [] ps place v p h e f s = absurd (none-some v e)
  operand_hop_stands (w ∷ vs) [] place v p h e f s = absurd (none-some p f)
  operand_hop_stands (w ∷ vs) (q ∷ ps) zero v p h e f s =
      let P : Typed → Type 0 = λ x. Stands (hop (value_node m at x.value) (register_node m to p.name)) h in
      let Q : Param → Type 0 = λ x. Stands (hop (value_node m at w.value) (register_node m to x.name)) h in
      in_front (hop (value_node m at w.value) (register_node m to q.name)) (operand_hops m at to vs ps) h (subst Q (sym (same_Some q p f)) (subst P (sym (same_Some w v e)) s))
  operand_hop_stands (w ∷ vs) (q ∷ ps) (suc place) v p h e f s = behind (hop (value_node m at w.value) (register_node m to q.name)) (operand_hops m at to vs ps) h (operand_hop_stands vs ps place v p h e f s)

-- ---- roots

-- the function at a place has the root
pub record HasRoot (m : Module) (origin : Origin) (x : Node) : Type 0 where
  pub at : ℕ
  pub function : Function
  pub there : slice_get m.functions at ≡ Some function
  pub root : Stands (function_roots m origin at function) x

pub has_root : (m : Module) (origin : Origin) (x : Node) → Stands (all_roots m origin) x → HasRoot m origin x
has_root m origin x s =
    let g = given_at (function_roots m origin) m.functions 0 x s in
    let same : 0 + g.place ≡ g.place = omega arith in
    let P : ℕ → Type 0 = λ at. Stands (function_roots m origin at g.item) x in
    record { at = g.place; function = g.item; there = g.there; root = subst P same g.given }

pub is_root : (m : Module) (origin : Origin) (x : Node) → HasRoot m origin x → Stands (all_roots m origin) x
is_root m origin x r =
    let same : r.at ≡ 0 + r.at = omega arith in
    let P : ℕ → Type 0 = λ at. Stands (function_roots m origin at r.function) x in
    is_given_at (function_roots m origin) m.functions 0 r.at r.function x r.there (subst P same r.root)
