-- Nodes have numbers of their own, and the graph over these numbers tells which nodes are reached.
use Rattle.std.proofs.Common.{◌≡◌, ℕ, zero, suc, ◌+◌, ◌*◌, ◌<◌, List, [], ◌∷◌, ◌++◌, length, take, map, get_or, Bool, true, false, Some, ◌==◌, if◌then◌else◌, ◌⊎◌, inl, inr, refl, sym, ap, subst, ◌∙◌, slice_get, arith}
use Rattle.std.specs.List.{All}
use Rattle.std.proofs.lemmas.List.{take_more, length-set}
use Rattle.std.proofs.lemmas.List.Elements.{All-from_get_or}
use Rattle.std.proofs.lemmas.Option.{none-some, same_Some, slice_get-get_or}
use Rattle.ir_core.specs.declared.module.Module.{Module}
use Rattle.reach.specs.Chains.{Leads}
use Rattle.reach.specs.Marks.{HopsTo, Marks, hop_added}
use Rattle.reach.proofs.Added.{hops_added}
use Rattle.reach.proofs.ChainLaws.{leads_itself, leads_on, leads_least}
use Rattle.call_graph.specs.Graphs.{IsGraphOf}
use Rattle.call_graph.proofs.ListLaws.{in_front, in_either, among_last, last_is}
use Rattle.register_numbers.specs.Numbers.{register_count}
use Rattle.register_hops.specs.declared.hops.Hop.{Hop}
use Rattle.register_hops.specs.declared.nodes.Node.{Node}
use Rattle.register_hops.specs.declared.nodes.Node.TheVariants.{Register, Elsewhere, Region, Returned, Stored, Loaded, Main}
use Rattle.register_hops.specs.Numbered.{part, named, node_number, node_count, IsNode, Stands, AreNodes, JoinNodes, HopsOver, IsReachedBy, AreReached, AreReachedRegisters, HopsBetween}

-- ---- a node by its part and its name

abbrev node_of : ℕ → ℕ → Node
node_of p n =
    if p == 6 then Register n else if p == 5 then Main n else if p == 4 then Loaded n else if p == 3 then Stored n else if p == 2 then Returned n else if p == 1 then Region else Elsewhere

rebuilt : (x : Node) → node_of (part x) (named x) ≡ x
rebuilt Elsewhere = refl
rebuilt Region = refl
rebuilt (Returned f) = refl
rebuilt (Stored f) = refl
rebuilt (Loaded f) = refl
rebuilt (Main f) = refl
rebuilt (Register n) = refl

of_function : (x : Node) → (part x == 6) ≡ false → part x < 6
of_function Elsewhere e = omega arith
of_function Region e = omega arith
of_function (Returned f) e = omega arith
of_function (Stored f) e = omega arith
of_function (Loaded f) e = omega arith
of_function (Main f) e = omega arith
of_function (Register n) e = let f : ⊥ = cc in absurd f

module _ (m : Module) where
  of_register : (x : Node) → (part x == 6) ≡ true → IsNode m x → (part x ≡ 6) × (named x < register_count m)
  of_register Elsewhere e h = let f : ⊥ = cc in absurd f
  of_register Region e h = let f : ⊥ = cc in absurd f
  of_register (Returned k) e h = let f : ⊥ = cc in absurd f
  of_register (Stored k) e h = let f : ⊥ = cc in absurd f
  of_register (Loaded k) e h = let f : ⊥ = cc in absurd f
  of_register (Main k) e h = let f : ⊥ = cc in absurd f
  of_register (Register n) e h = (refl, h)

  abbrev by_test : Node → Bool → ℕ
  by_test x test = if test then named x else register_count m + 6 * named x + part x

  same_parts : (x y : Node) (a b : Bool) → (part x == 6) ≡ a → (part y == 6) ≡ b → IsNode m x → IsNode m y → by_test x a ≡ by_test y b → (part x ≡ part y) × (named x ≡ named y)
  same_parts x y true true p q h k e =
      let one = of_register x p h in
      let other = of_register y q k in
      (one.0 ∙ sym other.0, e)
  same_parts x y true false p q h k e = let one = of_register x p h in let low = one.1 in let f : ⊥ = omega (arith, low, e) in absurd f
  same_parts x y false true p q h k e = let other = of_register y q k in let low = other.1 in let f : ⊥ = omega (arith, low, e) in absurd f
  same_parts x y false false p q h k e =
      let one = of_function x p in
      let other = of_function y q in
      (omega (arith, one, other, e), omega (arith, one, other, e))

  same_node : (x y : Node) → IsNode m x → IsNode m y → node_number m x ≡ node_number m y → x ≡ y
  same_node x y h k e =
      let same = same_parts x y (part x == 6) (part y == 6) refl refl h k e in
      sym (rebuilt x) ∙ ap (λ p. node_of p (named x)) same.0 ∙ ap (node_of (part y)) same.1 ∙ rebuilt y

  pub number_below : (x : Node) → IsNode m x → node_number m x < node_count m
  number_below Elsewhere h = omega arith
  number_below Region h = omega arith
  number_below (Returned f) h = omega (arith, h)
  number_below (Stored f) h = omega (arith, h)
  number_below (Loaded f) h = omega (arith, h)
  number_below (Main f) h = omega (arith, h)
  number_below (Register n) h = omega (arith, h)

-- ---- one more hop

abbrev pub no_hop : Hop
no_hop = record { from = Register 0; to = Register 0 }

pub stands_at : (hops : List Hop) (n : ℕ) → n < length hops → Stands hops (get_or hops n no_hop)
stands_at hops n low = (n, slice_get-get_or hops n no_hop low)

module _ (m : Module) (hops : List Hop) (n : ℕ) (low : n < length hops) where
  abbrev last : Hop
  last = get_or hops n no_hop

  more : take (n + 1) hops ≡ take n hops ++ last ∷ []
  more = take_more hops n no_hop low

  module _ (count : ℕ) (old : List (List ℕ)) (from to : ℕ) (below : from < length old) (is_from : from ≡ node_number m last.from) (is_to : to ≡ node_number m last.to) (g : IsGraphOf (HopsBetween m (take n hops)) count old) where
    one_more : (a b : ℕ) → HopsTo old a b ⊎ ((a ≡ from) × (b ≡ to)) → HopsBetween m (take n hops ++ last ∷ []) a b
    one_more a b (inl h) = let r = (g.same a b).0 h in (r.0, in_front (take n hops) (last ∷ []) r.0 r.1, r.2, r.3)
    one_more a b (inr e) = (last, among_last (take n hops) last last refl, e.0 ∙ is_from, e.1 ∙ is_to)

    of_last : (a b : ℕ) (h : Hop) → Stands (take n hops) h ⊎ Stands (last ∷ []) h → a ≡ node_number m h.from → b ≡ node_number m h.to → HopsTo old a b ⊎ ((a ≡ from) × (b ≡ to))
    of_last a b h (inl s) p q = inl ((g.same a b).1 (h, s, p, q))
    of_last a b h (inr s) p q =
        let same = last_is last h s in
        inr (p ∙ ap (λ (k : Hop). node_number m k.from) same ∙ sym is_from, q ∙ ap (λ (k : Hop). node_number m k.to) same ∙ sym is_to)

    pub graph_more : (new : List (List ℕ)) → new ≡ hop_added old from to → IsGraphOf (HopsBetween m (take (n + 1) hops)) count new
    graph_more new e =
        let P : List (List ℕ) → Type 0 = λ k. IsGraphOf (HopsBetween m (take (n + 1) hops)) count k in
        let Q : List Hop → Type 0 = λ hs. IsGraphOf (HopsBetween m hs) count (hop_added old from to) in
        subst P (sym e) (subst Q (sym more) (record {
          size = length-set old from _ ∙ g.size;
          same = λ a b. (
            λ h. one_more a b ((hops_added old from to below a b).0 h),
            λ r. (hops_added old from to below a b).1 (of_last a b r.0 (in_either (take n hops) (last ∷ []) r.0 r.1) r.2 r.3),
          );
        }))

-- ---- numbers of nodes

mapped : {A B : Type 0} (f : A → B) (xs : List A) (place : ℕ) (y : B) → slice_get (map f xs) place ≡ Some y → (x : A) × (slice_get xs place ≡ Some x) × (y ≡ f x)
mapped f [] place y e = absurd (none-some y e)
mapped f (x ∷ xs) zero y e = (x, refl, sym (same_Some (f x) y e))
mapped f (x ∷ xs) (suc place) y e = mapped f xs place y e

is_mapped : {A B : Type 0} (f : A → B) (xs : List A) (place : ℕ) (x : A) → slice_get xs place ≡ Some x → slice_get (map f xs) place ≡ Some (f x)
is_mapped f [] place x e = absurd (none-some x e)
is_mapped f (y ∷ xs) zero x e = ap (λ z. Some (f z)) (same_Some y x e)
is_mapped f (y ∷ xs) (suc place) x e = is_mapped f xs place x e

module _ (m : Module) (hops : List Hop) (roots : List Node) (joined : JoinNodes m hops) (are : AreNodes m roots) (count : ℕ) (is : count ≡ node_count m)
    (graph : List (List ℕ)) (g : IsGraphOf (HopsBetween m hops) count graph) (numbers given : List ℕ) (all : numbers ≡ map (node_number m) roots) (same : given ≡ numbers) where
  root_at : (place number : ℕ) → slice_get given place ≡ Some number → (x : Node) × (slice_get roots place ≡ Some x) × (number ≡ node_number m x)
  root_at place number e = mapped (node_number m) roots place number (ap (λ ns. slice_get ns place) (sym (same ∙ all)) ∙ e)

  pub roots_within : All (λ root. root < length graph) given
  roots_within = All-from_get_or (λ root. root < length graph) given 0 (λ i below. within i below) where
    within : (i : ℕ) → i < length given → get_or given i 0 < length graph
    within i below =
        let r = root_at i (get_or given i 0) (slice_get-get_or given i 0 below) in
        let low = number_below m r.0 (are r.0 (i, r.1)) in
        let number = r.2 in
        let size = g.size in
        omega (arith, low, number, size, is)

  -- each node of a number that is reached is reached
  abbrev Reached : ℕ → Type 0
  Reached n = (y : Node) → IsNode m y → node_number m y ≡ n → IsReachedBy hops roots y

  reached_there : (x y : Node) → IsNode m x → IsNode m y → node_number m y ≡ node_number m x → IsReachedBy hops roots x → IsReachedBy hops roots y
  reached_there x y h k e r = let P : Node → Type 0 = λ z. IsReachedBy hops roots z in subst P (sym (same_node m y x k h e)) r

  from_root : (place number : ℕ) → slice_get given place ≡ Some number → Reached number
  from_root place number e y k f =
      let r = root_at place number e in
      reached_there r.0 y (are r.0 (place, r.1)) k (f ∙ r.2) (r.0, (place, r.1), leads_itself (HopsOver hops) r.0)

  by_hop : (a b : ℕ) → Reached a → HopsTo graph a b → Reached b
  by_hop a b there hop y k f =
      let r = (g.same a b).0 hop in
      let ends = joined r.0 r.1 in
      let before = there r.0.from ends.0 (sym r.2) in
      reached_there r.0.to y ends.1 k (f ∙ r.3) (before.0, before.1, leads_on (HopsOver hops) before.0 r.0.from r.0.to before.2 (r.0, r.1, refl, refl))

  over_numbers : (root x : Node) → Leads (HopsOver hops) root x → Leads (HopsTo graph) (node_number m root) (node_number m x)
  over_numbers root x chain =
      leads_least (HopsOver hops) (λ y. Leads (HopsTo graph) (node_number m root) (node_number m y))
      (λ a b c h. leads_on (HopsTo graph) (node_number m root) (node_number m a) (node_number m b) c
      ((g.same (node_number m a) (node_number m b)).1 (h.0, h.1, ap (node_number m) (sym h.2), ap (node_number m) (sym h.3))))
      root x (leads_itself (HopsTo graph) (node_number m root)) chain

  pub are_reached : (marks : List Bool) → Marks graph given marks → AreReached m hops roots marks
  are_reached marks found x node = (
    λ h. let r = found.reached (node_number m x) h in leads_least (HopsTo graph) Reached by_hop r.0 (node_number m x) (from_root r.1 r.0 r.2) r.3 x node refl,
    λ h. found.whole (node_number m x) (node_number m h.0, h.1.0, ap (λ ns. slice_get ns h.1.0) (same ∙ all) ∙ is_mapped (node_number m) roots h.1.0 h.0 h.1.1, over_numbers h.0 x h.2),
  )

-- ---- the marks of the registers alone

of_front : {A : Type 0} (xs : List A) (c n : ℕ) (x : A) → slice_get (take c xs) n ≡ Some x → (n < c) × (slice_get xs n ≡ Some x)
of_front [] zero n x e = absurd (none-some x e)
of_front [] (suc c) n x e = absurd (none-some x e)
of_front (y ∷ ys) zero n x e = absurd (none-some x e)
of_front (y ∷ ys) (suc c) zero x e = (omega arith, e)
of_front (y ∷ ys) (suc c) (suc n) x e = let r = of_front ys c n x e in let low = r.0 in (omega (arith, low), r.1)

in_front_of : {A : Type 0} (xs : List A) (c n : ℕ) (x : A) → n < c → slice_get xs n ≡ Some x → slice_get (take c xs) n ≡ Some x
in_front_of [] c n x low e = absurd (none-some x e)
in_front_of (y ∷ ys) zero n x low e = let f : ⊥ = omega (arith, low) in absurd f
in_front_of (y ∷ ys) (suc c) zero x low e = e
in_front_of (y ∷ ys) (suc c) (suc n) x low e = in_front_of ys c n x (omega (arith, low)) e

pub registers_are : (m : Module) (hops : List Hop) (roots : List Node) (marks row : List Bool) → AreReached m hops roots marks → row ≡ take (register_count m) marks → AreReachedRegisters m hops roots row
registers_are m hops roots marks row are is =
    let P : List Bool → Type 0 = λ r. AreReachedRegisters m hops roots r in
    subst P (sym is) (λ n. (
      λ e. let r = of_front marks (register_count m) n true e in (r.0, (are (Register n) r.0).0 r.1),
      λ h. in_front_of marks (register_count m) n true h.0 ((are (Register n) h.0).1 h.1),
    ))
