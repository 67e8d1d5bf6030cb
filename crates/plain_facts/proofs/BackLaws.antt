-- Which registers getelementptr leads from to others that are used otherwise.
use Rattle.std.proofs.Common.{◌≡◌, ◌+◌, ℕ, List, [], ◌∷◌, map, Bool, true, false, Option, Some, None, refl, sym, ap, subst, ◌∙◌, slice_get, if◌then◌else◌, arith}
use Rattle.std.specs.List.{flat_map}
use Rattle.std.specs.Option.{is_some}
use Rattle.std.proofs.lemmas.Option.{none-some}
use Rattle.ir_core.specs.declared.instructions.Value.TheVariants.{Local as LocalValue}
use Rattle.ir_core.specs.declared.instructions.Kind.{Kind}
use Rattle.ir_core.specs.declared.instructions.Kind.TheVariants.{Gep}
use Rattle.ir_core.specs.declared.instructions.Inst.{Inst}
use Rattle.ir_core.specs.declared.module.Module.{Module}
use Rattle.ir_core.specs.declared.module.Function.{Function}
use Rattle.ir_core.specs.Places.{Name, place_in, param_name, result_names, inst_results, block_results, register_names_of, register_names}
use Rattle.shapes.specs.Facts.{insts_of}
use Rattle.shapes.specs.Insts.{block_insts}
use Rattle.reach.specs.Chains.{Leads}
use Rattle.reach.proofs.ChainLaws.{leads_itself, leads_through, leads_by_hop, leads_least}
use Rattle.call_graph.proofs.ListLaws.{Among, none_among, behind, last_is, within_joined, joined_has}
use Rattle.call_graph.proofs.NameLaws.{is_among}
use Rattle.name_uses.proofs.UseLaws.{placed}
use Rattle.register_numbers.specs.Numbers.{number_of, register_count}
use Rattle.register_numbers.proofs.Apart.{has_number, number_within, one_register}
use Rattle.register_hops.specs.declared.hops.Hop.{Hop}
use Rattle.register_hops.specs.declared.nodes.Node.{Node}
use Rattle.register_hops.specs.declared.nodes.Node.TheVariants.{Register}
use Rattle.register_hops.specs.Numbered.{Stands, IsNode, AreNodes, JoinNodes, HopsOver, IsReachedBy}
use Rattle.register_hops.proofs.PlacedLaws.{given_at, is_given_at}
use Rattle.value_facts.specs.Pointers.{StandsIn}
use Rattle.value_facts.specs.Plain.{UsesOtherwise, GoesOn}
use Rattle.plain_facts.specs.declared.own.Own.{Own}
use Rattle.plain_facts.specs.declared.own.Own.TheVariants.{Unused}
use Rattle.plain_facts.specs.Uses.{value_number, all_uses, own_of, AreOwn}
use Rattle.plain_facts.specs.Backs.{result_number, back, kind_backs, inst_backs, function_backs, all_backs, is_used, is_used_at, hop_roots, all_roots}
use Rattle.plain_facts.proofs.OwnLaws.{used_of, used_by}
use Rattle.plain_facts.proofs.UseLaws.{value_is, is_use, use_stands}

abbrev between : ℕ → ℕ → Hop
between a b = record { from = Register a; to = Register b }

register_same : (a b : ℕ) → ◌≡◌ {A = Node} (Register a) (Register b) → a ≡ b
register_same a b e = cc

some_is : {A : Type 0} (o : Option A) → is_some o ≡ true → (x : A) × (o ≡ Some x)
some_is None e = let f : ⊥ = cc in absurd f
some_is (Some x) e = (x, refl)

-- ---- hops

back_is : (from to : Option ℕ) (h : Hop) → Stands (back from to) h → (a b : ℕ) × (from ≡ Some a) × (to ≡ Some b) × (h ≡ between a b)
back_is None to h s = absurd (none_among h s)
back_is (Some a) None h s = absurd (none_among h s)
back_is (Some a) (Some b) h s = (a, b, refl, refl, last_is (between a b) h s)

back_made : (from to : Option ℕ) (a b : ℕ) → from ≡ Some a → to ≡ Some b → Stands (back from to) (between a b)
back_made from to a b p q =
    let P : Option ℕ → Type 0 = λ o. Stands (back o to) (between a b) in
    let Q : Option ℕ → Type 0 = λ o. Stands (back (Some a) o) (between a b) in
    subst P (sym p) (subst Q (sym q) (0, refl))

module _ (m : Module) where
  -- a getelementptr makes the hop
  pub record IsBack (h : Hop) : Type 0 where
    pub at : ℕ
    pub start : Name
    pub end : Name
    pub goes : GoesOn m at start end
    pub from : ℕ
    pub to : ℕ
    pub end_number : number_of m at end ≡ Some from
    pub start_number : number_of m at start ≡ Some to
    pub is : h ≡ between from to

  result_is : (at : ℕ) (o : Option Name) (n : ℕ) → result_number m at o ≡ Some n → (x : Name) × (o ≡ Some x) × (number_of m at x ≡ Some n)
  result_is at None n e = absurd (none-some n e)
  result_is at (Some x) n e = (x, refl, e)

  kind_back : (at : ℕ) (i : Inst) (h : Hop) → StandsIn m at i → (kind : Kind) → i.kind ≡ kind → Stands (kind_backs m at i.result kind) h → IsBack h
  kind_back at i h stands (Gep inbounds ty base path) is s =
      let r = back_is (result_number m at i.result) (value_number m at base.value) h s in
      let to = result_is at i.result r.0 r.2 in
      let from = value_is m at base.value r.1 r.3 in
      record {
        at = at;
        start = from.0;
        end = to.0;
        goes = (inbounds, ty, base, path, (i, stands, to.1, is), from.1);
        from = r.0;
        to = r.1;
        end_number = to.2;
        start_number = from.2;
        is = r.4;
      }
  kind_back at i h stands _ is s = absurd (none_among h s)

  pub is_back : (h : Hop) → Stands (all_backs m) h → IsBack h
  is_back h s =
      let g = given_at (function_backs m) m.functions 0 h s in
      let same : 0 + g.place ≡ g.place = omega arith in
      let P : ℕ → Type 0 = λ at. Stands (function_backs m at g.item) h in
      let w = within_joined (inst_backs m g.place) (insts_of g.item) h (subst P same g.given) in
      kind_back g.place w.0 h (g.item, w.1.0, g.there, w.1.1) w.0.kind refl w.2

  back_stands : (at : ℕ) (x y : Name) (a b : ℕ) → GoesOn m at x y → number_of m at y ≡ Some a → number_of m at x ≡ Some b → Stands (all_backs m) (between a b)
  back_stands at x y a b g p q =
      let gives = g.4 in
      let i = gives.0 in
      let f = gives.1.0 in
      let made = back_made (result_number m at i.result) (value_number m at g.2.value) a b (ap (result_number m at) gives.2 ∙ p) (ap (value_number m at) g.5 ∙ q) in
      let P : Kind → Type 0 = λ kind. Stands (kind_backs m at i.result kind) (between a b) in
      let here : Stands (inst_backs m at i) (between a b) = subst P (sym gives.3) made in
      let same : at ≡ 0 + at = omega arith in
      let Q : ℕ → Type 0 = λ k. Stands (function_backs m k f) (between a b) in
      is_given_at (function_backs m) m.functions 0 at f (between a b) gives.1.2 (subst Q same (joined_has (inst_backs m at) (insts_of f) i (between a b) (gives.1.1, gives.1.3) here))

  pub backs_join : JoinNodes m (all_backs m)
  backs_join h s =
      let r = is_back h s in
      let P : Hop → Type 0 = λ k. IsNode m k.from × IsNode m k.to in
      subst P (sym r.is) (number_within m r.at r.end r.from r.end_number, number_within m r.at r.start r.to r.start_number)

  root_is : (h : Hop) (y : Node) (b : Bool) → Stands (if b then h.to ∷ [] else []) y → y ≡ h.to
  root_is h y true s = last_is h.to y s
  root_is h y false s = absurd (none_among y s)

  pub roots_are : (own : List Own) → AreNodes m (all_roots own (all_backs m))
  roots_are own y s =
      let w = within_joined (hop_roots own) (all_backs m) y s in
      let P : Node → Type 0 = λ z. IsNode m z in
      subst P (sym (root_is w.0 y (is_used_at own w.0.from) w.2)) (backs_join w.0 w.1).1

  -- ---- what is given has a number

  pub result_has : (at : ℕ) (i : Inst) (x : Name) → StandsIn m at i → i.result ≡ Some x → (n : ℕ) × (number_of m at x ≡ Some n)
  result_has at i x stands e =
      let f = stands.0 in
      let w = within_joined block_insts f.blocks i (stands.1, stands.3) in
      let P : Option Name → Type 0 = λ o. Among (result_names o) x in
      let here : Among (inst_results i) x = subst P (sym e) (0, refl) in
      let in_block = joined_has inst_results w.0.insts i x w.2 here in
      let whole = behind (map param_name f.params) (flat_map block_results f.blocks) x (joined_has block_results f.blocks w.0 x w.1 in_block) in
      let Q : Option Function → Type 0 = λ o. Among (register_names_of o) x in
      let among : Among (register_names m at) x = subst Q (sym stands.2) whole in
      let found = some_is (place_in (register_names m at) x) (placed (register_names m at) x ∙ is_among (register_names m at) x among) in
      (_, has_number m at x found.0 found.1)

  -- ---- what is beyond

  abbrev pub IsUsed : ℕ → Name → Type 0
  IsUsed at y = (i : Inst) × StandsIn m at i × UsesOtherwise i.kind (LocalValue y)

  -- from the register of the number getelementptr leads, once or more, to one that is used otherwise
  pub record Beyond (n : ℕ) : Type 0 where
    pub at : ℕ
    pub start : Name
    pub number : number_of m at start ≡ Some n
    pub last : Name
    pub leads : Leads (GoesOn m at) start last
    pub end : Name
    pub goes : GoesOn m at last end
    pub used : IsUsed at end

  module _ (own : List Own) (are : AreOwn (register_count m) (all_uses m) own) where
    own_at : (at : ℕ) (x : Name) (n : ℕ) → number_of m at x ≡ Some n → slice_get own n ≡ Some (own_of (all_uses m) n)
    own_at at x n e = are.1 n (number_within m at x n e)

    register_used : (at : ℕ) (x : Name) (n : ℕ) → number_of m at x ≡ Some n → is_used (slice_get own n) ≡ true → IsUsed at x
    register_used at x n number e =
        let r = used_by n (all_uses m) (ap is_used (sym (own_at at x n number)) ∙ e) in
        let u = is_use m r.0 r.1 in
        let same = one_register m u.at at u.name x n (u.number ∙ ap Some r.2) number in
        let P : ℕ → Type 0 = λ k. IsUsed k x in
        let Q : Name → Type 0 = λ y. IsUsed u.at y in
        subst P same.0 (subst Q same.1 (u.inst, u.stands, u.uses))

    used_register : (at : ℕ) (x : Name) (n : ℕ) → number_of m at x ≡ Some n → IsUsed at x → is_used (slice_get own n) ≡ true
    used_register at x n number h =
        let s = use_stands m at h.0 x n h.1 h.2 number in
        ap is_used (own_at at x n number) ∙ used_of n Unused (all_uses m) _ s.0 s.1 refl

    abbrev Known : Node → Type 0
    Known y = (n : ℕ) × (y ≡ Register n) × Beyond n

    of_root : (h : Hop) (y : Node) → IsBack h → (b : Bool) → is_used_at own h.from ≡ b → Stands (if b then h.to ∷ [] else []) y → Known y
    of_root h y r false e s = absurd (none_among y s)
    of_root h y r true e s =
        let test : is_used (slice_get own r.from) ≡ true = ap (λ (k : Hop). is_used_at own k.from) (sym r.is) ∙ e in (
          r.to,
          last_is h.to y s ∙ ap (λ (k : Hop). k.to) r.is,
          record {
            at = r.at;
            start = r.start;
            number = r.start_number;
            last = r.start;
            leads = leads_itself (GoesOn m r.at) r.start;
            end = r.end;
            goes = r.goes;
            used = register_used r.at r.end r.from r.end_number test;
          },
        )

    root_known : (y : Node) → Stands (all_roots own (all_backs m)) y → Known y
    root_known y s = let w = within_joined (hop_roots own) (all_backs m) y s in of_root w.0 y (is_back w.0 w.1) (is_used_at own w.0.from) refl w.2

    further : (h : Hop) (n : ℕ) → (r : IsBack h) → Beyond n → r.from ≡ n → Beyond r.to
    further h n r b e =
        let same = one_register m b.at r.at b.start r.end n b.number (r.end_number ∙ ap Some e) in
        let P : ℕ → Type 0 = λ at. Leads (GoesOn m at) b.start b.last in
        let Q : ℕ → Type 0 = λ at. GoesOn m at b.last b.end in
        let R : ℕ → Type 0 = λ at. IsUsed at b.end in
        let S : Name → Type 0 = λ x. Leads (GoesOn m r.at) x b.last in
        let rest = subst S same.1 (subst P same.0 b.leads) in
        record {
          at = r.at;
          start = r.start;
          number = r.start_number;
          last = b.last;
          leads = leads_through (GoesOn m r.at) r.start r.end b.last (leads_by_hop (GoesOn m r.at) r.start r.end r.goes) rest;
          end = b.end;
          goes = subst Q same.0 b.goes;
          used = subst R same.0 b.used;
        }

    by_hop : (x y : Node) → Known x → HopsOver (all_backs m) x y → Known y
    by_hop x y k hop =
        let r = is_back hop.0 hop.1 in
        let same = register_same r.from k.0 (ap (λ (h : Hop). h.from) (sym r.is) ∙ hop.2 ∙ k.1) in
        (r.to, sym hop.3 ∙ ap (λ (h : Hop). h.to) r.is, further hop.0 k.0 r k.2 same)

    pub beyond_is : (n : ℕ) → IsReachedBy (all_backs m) (all_roots own (all_backs m)) (Register n) → Beyond n
    beyond_is n h =
        let k = leads_least (HopsOver (all_backs m)) Known by_hop h.0 (Register n) (root_known h.0 h.1) h.2 in
        subst Beyond (sym (register_same n k.0 k.1)) k.2

    -- ---- the other way

    abbrev Back : ℕ → ℕ → Name → Type 0
    Back n at w = (j : ℕ) × (number_of m at w ≡ Some j) × Leads (HopsOver (all_backs m)) (Register j) (Register n)

    one_back : (n at : ℕ) (x y : Name) → Back n at x → GoesOn m at x y → Back n at y
    one_back n at x y b g =
        let gives = g.4 in
        let j = result_has at gives.0 y gives.1 gives.2 in
        let s = back_stands at x y j.0 b.0 g j.1 b.1 in
        let hop = leads_by_hop (HopsOver (all_backs m)) (Register j.0) (Register b.0) (between j.0 b.0, s, refl, refl) in
        (j.0, j.1, leads_through (HopsOver (all_backs m)) (Register j.0) (Register b.0) (Register n) hop b.2)

    pub beyond_reached : (n : ℕ) → Beyond n → IsReachedBy (all_backs m) (all_roots own (all_backs m)) (Register n)
    beyond_reached n b =
        let last = leads_least (GoesOn m b.at) (Back n b.at) (λ x y k g. one_back n b.at x y k g) b.start b.last (n, b.number, leads_itself (HopsOver (all_backs m)) (Register n)) b.leads in
        let gives = b.goes.4 in
        let end = result_has b.at gives.0 b.end gives.1 gives.2 in
        let s = back_stands b.at b.last b.end end.0 last.0 b.goes end.1 last.1 in
        let test = used_register b.at b.end end.0 end.1 b.used in
        let P : Bool → Type 0 = λ t. Stands (if t then Register last.0 ∷ [] else []) (Register last.0) in
        let root = joined_has (hop_roots own) (all_backs m) (between end.0 last.0) (Register last.0) s (subst P (sym test) (0, refl)) in
        (Register last.0, root, last.2)
