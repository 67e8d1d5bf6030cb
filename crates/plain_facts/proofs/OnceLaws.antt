-- A register is the result of one instruction alone.
use Rattle.std.proofs.Common.{◌≡◌, ℕ, zero, suc, ◌+◌, List, [], ◌∷◌, ◌++◌, map, Bool, true, false, Option, Some, None, refl, sym, ap, subst, ◌∙◌, slice_get, if◌then◌else◌}
use Rattle.std.specs.List.{flat_map}
use Rattle.std.proofs.lemmas.Option.{none-some, same_Some}
use Rattle.ir_core.specs.declared.refusal.Construct.TheVariants.{DuplicateName}
use Rattle.ir_core.specs.declared.instructions.Inst.{Inst}
use Rattle.ir_core.specs.declared.module.Block.{Block}
use Rattle.ir_core.specs.declared.module.Param.{Param}
use Rattle.ir_core.specs.declared.module.Module.{Module}
use Rattle.ir_core.specs.declared.module.Function.{Function}
use Rattle.ir_core.specs.Given.{LocalName, local_names, block_names, inst_names, result_name, param_name}
use Rattle.ir_core.specs.NameRefusals.{at as at_line, repeated, name_refusals, of_function, in_heading, of_block}
use Rattle.ir_core.specs.Typing.{scope_of}
use Rattle.ir_core.specs.Places.{Name}
use Rattle.ir_core.specs.Wrappers.{is_in}
use Rattle.shapes.specs.Facts.{insts_of}
use Rattle.shapes.specs.Insts.{block_insts}
use Rattle.accepted_laws.proofs.Nothing.{not_both, something, front_none, back_none, each_none}
use Rattle.accepted_laws.proofs.Clean.{clean}
use Rattle.accepted_laws.proofs.Distinct.{in_first, in_more}
use Rattle.call_graph.proofs.ListLaws.{Among, in_front, behind, within_joined, joined_has}
use Rattle.value_facts.specs.Pointers.{StandsIn}

abbrev Entry : Type 0
Entry = Name × ℕ

-- ---- names that are given once

not_before : (before : List Name) (n : Entry) (ns : List Entry) → repeated before (n ∷ ns) ≡ [] → is_in before n.0 ≡ false
not_before before n ns e = by (is_in before n.0) (front_none (if is_in before n.0 then at_line n.1 (DuplicateName ∷ []) else []) (repeated (n.0 ∷ before) ns) e) where
  by : (b : Bool) → (if b then at_line n.1 (DuplicateName ∷ []) else []) ≡ [] → b ≡ false
  by true h = something _ _ h
  by false h = refl

others : (before : List Name) (n : Entry) (ns : List Entry) → repeated before (n ∷ ns) ≡ [] → repeated (n.0 ∷ before) ns ≡ []
others before n ns e = back_none (if is_in before n.0 then at_line n.1 (DuplicateName ∷ []) else []) (repeated (n.0 ∷ before) ns) e

not_again : (before : List Name) (ns : List Entry) (x : Name) (k : ℕ) (n : Entry) → repeated before ns ≡ [] → is_in before x ≡ true → slice_get ns k ≡ Some n → n.0 ≡ x → ⊥
not_again before [] x k n e h s same = none-some n s
not_again before (l ∷ ls) x zero n e h s same = not_both (is_in before l.0) (ap (is_in before) (ap (λ (q : Entry). q.0) (same_Some l n s) ∙ same) ∙ h) (not_before before l ls e)
not_again before (l ∷ ls) x (suc k) n e h s same = not_again (l.0 ∷ before) ls x k n (others before l ls e) (in_more l.0 before x h) s same

once_at : (before : List Name) (ns : List Entry) (a b : ℕ) (n k : Entry) → repeated before ns ≡ [] → slice_get ns a ≡ Some n → slice_get ns b ≡ Some k → n.0 ≡ k.0 → a ≡ b
once_at before [] a b n k e p q same = absurd (none-some n p)
once_at before (l ∷ ls) zero zero n k e p q same = refl
once_at before (l ∷ ls) zero (suc b) n k e p q same =
    absurd (not_again (l.0 ∷ before) ls l.0 b k (others before l ls e) (in_first l.0 before) q (sym same ∙ ap (λ (r : Entry). r.0) (sym (same_Some l n p))))
once_at before (l ∷ ls) (suc a) zero n k e p q same =
    absurd (not_again (l.0 ∷ before) ls l.0 a n (others before l ls e) (in_first l.0 before) p (same ∙ ap (λ (r : Entry). r.0) (sym (same_Some l k q))))
once_at before (l ∷ ls) (suc a) (suc b) n k e p q same = ap suc (once_at (l.0 ∷ before) ls a b n k (others before l ls e) p q same)

-- ---- names with the instructions that give them

abbrev Tagged : Type 0
Tagged = Entry × Option Inst

abbrev entry : LocalName → Entry
entry n = (n.name, n.line)

abbrev untagged : Tagged → Entry
untagged t = t.0

abbrev tag_result : Inst → Option Name → List Tagged
tag_result i None = []
tag_result i (Some x) = ((x, i.line), Some i) ∷ []

abbrev inst_tags : Inst → List Tagged
inst_tags i = tag_result i i.result

abbrev block_tags : List Block → List Tagged
block_tags [] = []
block_tags (b ∷ bs) = ((b.name, b.line), None) ∷ flat_map inst_tags b.insts ++ block_tags bs

abbrev param_tag : ℕ → Param → Tagged
param_tag line p = ((p.name, line), None)

abbrev tags : Function → List Tagged
tags f = map (param_tag f.line) f.params ++ block_tags f.blocks

joined_map : {A B : Type 0} (g : A → B) (xs ys : List A) → map g (xs ++ ys) ≡ map g xs ++ map g ys
joined_map g [] ys = refl
joined_map g (x ∷ xs) ys = ap (λ zs. g x ∷ zs) (joined_map g xs ys)

result_same : (i : Inst) (o : Option Name) → map untagged (tag_result i o) ≡ map entry (result_name i o)
result_same i None = refl
result_same i (Some x) = refl

insts_same : (is : List Inst) → map untagged (flat_map inst_tags is) ≡ map entry (flat_map inst_names is)
insts_same [] = refl
insts_same (i ∷ is) =
    joined_map untagged (inst_tags i) (flat_map inst_tags is)
    ∙ ap (λ zs. zs ++ map untagged (flat_map inst_tags is)) (result_same i i.result)
    ∙ ap (λ zs. map entry (inst_names i) ++ zs) (insts_same is)
    ∙ sym (joined_map entry (inst_names i) (flat_map inst_names is))

blocks_same : (at : ℕ) (bs : List Block) → map untagged (block_tags bs) ≡ map entry (block_names at bs)
blocks_same at [] = refl
blocks_same at (b ∷ bs) =
    ap (λ zs. (b.name, b.line) ∷ zs) (
    joined_map untagged (flat_map inst_tags b.insts) (block_tags bs)
    ∙ ap (λ zs. zs ++ map untagged (block_tags bs)) (insts_same b.insts)
    ∙ ap (λ zs. map entry (flat_map inst_names b.insts) ++ zs) (blocks_same (at + 1) bs)
    ∙ sym (joined_map entry (flat_map inst_names b.insts) (block_names (at + 1) bs))
    )

params_same : (line : ℕ) (ps : List Param) → map untagged (map (param_tag line) ps) ≡ map entry (map (param_name line) ps)
params_same line [] = refl
params_same line (p ∷ ps) = ap (λ zs. (p.name, line) ∷ zs) (params_same line ps)

tags_same : (f : Function) → map untagged (tags f) ≡ map entry (local_names f)
tags_same f =
    joined_map untagged (map (param_tag f.line) f.params) (block_tags f.blocks)
    ∙ ap (λ zs. zs ++ map untagged (block_tags f.blocks)) (params_same f.line f.params)
    ∙ ap (λ zs. map entry (map (param_name f.line) f.params) ++ zs) (blocks_same 0 f.blocks)
    ∙ sym (joined_map entry (map (param_name f.line) f.params) (block_names 0 f.blocks))

in_blocks : (bs : List Block) (place : ℕ) (b : Block) (t : Tagged) → slice_get bs place ≡ Some b → Among (flat_map inst_tags b.insts) t → Among (block_tags bs) t
in_blocks [] place b t e h = absurd (none-some b e)
in_blocks (c ∷ bs) zero b t e h =
    let P : Block → Type 0 = λ d. Among (flat_map inst_tags d.insts) t in
    let s = in_front (flat_map inst_tags c.insts) (block_tags bs) t (subst P (sym (same_Some c b e)) h) in
    (suc s.0, s.1)
in_blocks (c ∷ bs) (suc place) b t e h = let s = behind (flat_map inst_tags c.insts) (block_tags bs) t (in_blocks bs place b t e h) in (suc s.0, s.1)

tagged_in : (f : Function) (i : Inst) (x : Name) → Among (insts_of f) i → i.result ≡ Some x → Among (tags f) ((x, i.line), Some i)
tagged_in f i x h e =
    let t : Tagged = ((x, i.line), Some i) in
    let w = within_joined block_insts f.blocks i h in
    let P : Option Name → Type 0 = λ o. Among (tag_result i o) t in
    let here : Among (inst_tags i) t = subst P (sym e) (0, refl) in
    behind (map (param_tag f.line) f.params) (block_tags f.blocks) t (in_blocks f.blocks w.1.0 w.0 t w.1.1 (joined_has inst_tags w.0.insts i t w.2 here))

untagged_at : (ts : List Tagged) (k : ℕ) (t : Tagged) → slice_get ts k ≡ Some t → slice_get (map untagged ts) k ≡ Some (untagged t)
untagged_at [] k t e = absurd (none-some t e)
untagged_at (u ∷ ts) zero t e = ap (λ v. Some (untagged v)) (same_Some u t e)
untagged_at (u ∷ ts) (suc k) t e = untagged_at ts k t e

module _ (m : Module) (no : name_refusals m ≡ []) where
  locals_once : (place : ℕ) (f : Function) → slice_get m.functions place ≡ Some f → repeated [] (map entry (local_names f)) ≡ []
  locals_once place f is =
      let e = each_none (of_function m) m.functions place f (clean m no).functions is in
      let a = at_line f.line (in_heading m f) in
      let b = repeated [] (map entry (local_names f)) in
      let d = flat_map (of_block (scope_of m f)) f.blocks in
      back_none a b (front_none (a ++ b) d e)

  pub one_result : (at : ℕ) (i j : Inst) (x : Name) → StandsIn m at i → StandsIn m at j → i.result ≡ Some x → j.result ≡ Some x → i ≡ j
  one_result at i j x s r p q =
      let f = s.0 in
      let same : r.0 ≡ f = same_Some r.0 f (sym r.2 ∙ s.2) in
      let there : slice_get (insts_of f) r.1 ≡ Some j = ap (λ g. slice_get (insts_of g) r.1) (sym same) ∙ r.3 in
      let first = tagged_in f i x (s.1, s.3) p in
      let second = tagged_in f j x (r.1, there) q in
      let once = ap (repeated []) (tags_same f) ∙ locals_once at f s.2 in
      let places = once_at [] (map untagged (tags f)) first.0 second.0 (x, i.line) (x, j.line) once (untagged_at (tags f) first.0 _ first.1) (untagged_at (tags f) second.0 _ second.1) refl in
      let tag = same_Some _ _ (sym first.1 ∙ ap (slice_get (tags f)) places ∙ second.1) in
      same_Some i j (ap (λ (t : Tagged). t.1) tag)
