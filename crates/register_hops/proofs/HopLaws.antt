-- The hops of a call, one operand further.
use Rattle.std.proofs.Common.{◌≡◌, ℕ, zero, suc, ◌+◌, ◌<◌, ◌≤◌, List, [], ◌∷◌, ◌++◌, length, take, get_or, Some, None, refl, sym, ap, ◌∙◌, slice_get, add-one}
use Rattle.std.proofs.lemmas.List.{append-nil, append_assoc}
use Rattle.std.proofs.lemmas.Option.{none-some, same_Some, slice_get-get_or, slice_get_past}
use Rattle.ir_core.specs.declared.instructions.Typed.{Typed}
use Rattle.ir_core.specs.declared.module.Module.{Module}
use Rattle.ir_core.specs.declared.module.Param.{Param}
use Rattle.register_hops.specs.declared.hops.Hop.{Hop}
use Rattle.register_hops.specs.Hops.{hop, operand_hops}
use Rattle.register_hops.specs.Nodes.{register_node, value_node}

module _ (m : Module) (at to : ℕ) where
  abbrev operand_hop : Typed → Param → List Hop
  operand_hop v p = hop (value_node m at v.value) (register_node m to p.name)

  further : (vs : List Typed) (ps : List Param) (n : ℕ) (v : Typed) (p : Param) → slice_get vs n ≡ Some v → slice_get ps n ≡ Some p
      → operand_hops m at to (take (suc n) vs) ps ≡ operand_hops m at to (take n vs) ps ++ operand_hop v p
  further [] ps n v p e f = absurd (none-some v e)
  further (w ∷ vs) [] n v p e f = absurd (none-some p f)
  further (w ∷ vs) (q ∷ ps) zero v p e f =
      append-nil (operand_hop w q)
      ∙ ap (λ x. operand_hop x q) (same_Some w v e)
      ∙ ap (operand_hop v) (same_Some q p f)
  further (w ∷ vs) (q ∷ ps) (suc n) v p e f =
      ap (λ hs. operand_hop w q ++ hs) (further vs ps n v p e f)
      ∙ sym (append_assoc (operand_hop w q) (operand_hops m at to (take n vs) ps) (operand_hop v p))

  past : (vs : List Typed) (ps : List Param) (n : ℕ) → slice_get ps n ≡ None → operand_hops m at to (take (suc n) vs) ps ≡ operand_hops m at to (take n vs) ps
  past [] ps zero f = refl
  past [] ps (suc n) f = refl
  past (w ∷ vs) [] zero f = refl
  past (w ∷ vs) [] (suc n) f = refl
  past (w ∷ vs) (q ∷ ps) zero f = absurd (none-some q (sym f))
  past (w ∷ vs) (q ∷ ps) (suc n) f = ap (λ hs. operand_hop w q ++ hs) (past vs ps n f)

  module _ (vs : List Typed) (ps : List Param) (n : ℕ) (old new : List Hop) where
    abbrev passed : ℕ → List Hop
    passed k = operand_hops m at to (take k vs) ps

    pub operand_more : (mid : List Hop) (v : Typed) (p : Param) → n < length vs → v ≡ get_or vs n v → n < length ps → p ≡ get_or ps n p → mid ≡ old ++ passed n → new ≡ mid ++ operand_hop v p → new ≡ old ++ passed (n + 1)
    operand_more mid v p low is within param before e =
        let there : slice_get vs n ≡ Some v = slice_get-get_or vs n v low ∙ ap Some (sym is) in
        let f : slice_get ps n ≡ Some p = slice_get-get_or ps n p within ∙ ap Some (sym param) in
        e
        ∙ ap (λ hs. hs ++ operand_hop v p) before
        ∙ append_assoc old (passed n) (operand_hop v p)
        ∙ ap (λ hs. old ++ hs) (sym (further vs ps n v p there f))
        ∙ ap (λ k. old ++ passed k) (sym (add-one n))

    pub operand_past : length ps ≤ n → new ≡ old ++ passed n → new ≡ old ++ passed (n + 1)
    operand_past low before = before ∙ ap (λ hs. old ++ hs) (sym (past vs ps n (slice_get_past ps n low))) ∙ ap (λ k. old ++ passed k) (sym (add-one n))
