-- What the parts of a module are doesn't depend on lines.
use Rattle.std.proofs.Common.{◌≡◌, List, [], ◌∷◌, ◌++◌, map, true, false, All, refl, sym, ap, ◌∙◌, subst}
use Rattle.std.specs.List.{AllByRecursion}
use Rattle.std.proofs.lemmas.List.Elements.{All-from_recursion, recursion_from_All, All-nil, All-cons}
use Rattle.ir_core.specs.declared.instructions.Inst.{Inst}
use Rattle.ir_core.specs.declared.module.Module.{Module}
use Rattle.ir_core.specs.declared.module.TypeDef.{TypeDef}
use Rattle.ir_core.specs.declared.module.Global.{Global}
use Rattle.ir_core.specs.declared.module.Function.{Function}
use Rattle.ir_core.specs.declared.module.Block.{Block}
use Rattle.ir_core.specs.Instructions.{plain, last, is_kept}
use Rattle.ir_core.specs.Language.{params_behind, kept_words, groups}
use Rattle.ir_core.specs.Lines.{inst_unlined, block_unlined, type_unlined, global_unlined, function_unlined, SameButLines}
use Rattle.text_laws.specs.Spelling.{AreBytes, IsSpelled}
use Rattle.text_laws.specs.Parts.{FormedInst, FormedInsts, FormedBlock, unnamed, FormedFunction, FormedType, FormedGlobal, FormedParts, FormedParam, FormedLine}
use Rattle.ir_core.specs.Forms.{result_type}
use Rattle.text_laws.proofs.Edited.{KeepsKinds, plain_edited, last_edited}

-- ---- instructions

same_kinds : KeepsKinds (λ k. k)
same_kinds = record { assigned = λ k g. g; stored = λ k g. g; fenced = λ k g. g; called = λ tail_word k g. g; last = λ form k g. g }

-- instructions that differ in lines alone
on_its_line : (i j : Inst) → inst_unlined i ≡ inst_unlined j → i ≡ record j { line = i.line }
on_its_line i j e = λ k. record (e k) { line = i.line }

pub plain_same : (i j : Inst) → inst_unlined i ≡ inst_unlined j → FormedInst j → FormedInst i
plain_same i j e p = record { kept = ap is_kept e ∙ p.kept; spelled = subst (IsSpelled plain) (sym (on_its_line i j e)) (plain_edited same_kinds i.line j p.spelled) }

pub last_same : (i j : Inst) → inst_unlined i ≡ inst_unlined j → IsSpelled last j → IsSpelled last i
last_same i j e g = subst (IsSpelled last) (sym (on_its_line i j e)) (last_edited same_kinds i.line j g)

-- ---- lists

-- what holds of each holds of those that are the same to f
all_same : {X Y : Type 0} (f : X → Y) (P : X → Type 0) → ((x y : X) → f x ≡ f y → P y → P x) → (xs ys : List X) → map f xs ≡ map f ys → AllByRecursion P ys → AllByRecursion P xs
all_same f P law [] ys e h = tt
all_same {X} {Y} f P law (x ∷ xs) [] e h = absurd (let k : ◌≡◌ {A = List Y} (f x ∷ map f xs) [] = e in cc)
all_same {X} {Y} f P law (x ∷ xs) (y ∷ ys) e h =
    let k : ◌≡◌ {A = List Y} (f x ∷ map f xs) (f y ∷ map f ys) = e in
    let p : f x ≡ f y = cc in
    let q : map f xs ≡ map f ys = cc in
    (law x y p h.0, all_same f P law xs ys q h.1)

each_same : {X Y : Type 0} (f : X → Y) (P : X → Type 0) → ((x y : X) → f x ≡ f y → P y → P x) → (xs ys : List X) → map f xs ≡ map f ys → All P ys → All P xs
each_same f P law xs ys e h = All-from_recursion P xs (all_same f P law xs ys e (recursion_from_All P ys h))

pub none_same : {X Y : Type 0} (f : X → Y) (xs ys : List X) → map f xs ≡ map f ys → xs ≡ [] → ys ≡ []
none_same f xs [] e n = refl
none_same {X} {Y} f xs (y ∷ ys) e n = absurd (let k : ◌≡◌ {A = List Y} [] (f y ∷ map f ys) = ap (map f) (sym n) ∙ e in cc)

-- ---- blocks

insts_same : (is front : List Inst) (end : Inst) → map inst_unlined is ≡ map inst_unlined (front ++ end ∷ []) → AllByRecursion FormedInst front → IsSpelled last end → FormedInsts is
insts_same [] [] end e h g = absurd (let k : ◌≡◌ {A = List Inst} [] (inst_unlined end ∷ []) = e in cc)
insts_same [] (j ∷ front) end e h g = absurd (let k : ◌≡◌ {A = List Inst} [] (inst_unlined j ∷ map inst_unlined (front ++ end ∷ [])) = e in cc)
insts_same (i ∷ []) [] end e h g =
    let k : ◌≡◌ {A = List Inst} (inst_unlined i ∷ []) (inst_unlined end ∷ []) = e in
    let p : inst_unlined i ≡ inst_unlined end = cc in
    record { front = []; end = i; whole = refl; plain = All-nil FormedInst; last = last_same i end p g }
insts_same (i ∷ i2 ∷ is) [] end e h g = absurd (let k : ◌≡◌ {A = List Inst} (inst_unlined i ∷ inst_unlined i2 ∷ map inst_unlined is) (inst_unlined end ∷ []) = e in cc)
insts_same (i ∷ is) (j ∷ front) end e h g =
    let k : ◌≡◌ {A = List Inst} (inst_unlined i ∷ map inst_unlined is) (inst_unlined j ∷ map inst_unlined (front ++ end ∷ [])) = e in
    let p : inst_unlined i ≡ inst_unlined j = cc in
    let q : map inst_unlined is ≡ map inst_unlined (front ++ end ∷ []) = cc in
    let r = insts_same is front end q h.1 g in
    record { front = i ∷ r.front; end = r.end; whole = ap (λ l. i ∷ l) r.whole; plain = All-cons FormedInst i r.front (plain_same i j p h.0) r.plain; last = r.last }

block_same : (a b : Block) → block_unlined a ≡ block_unlined b → FormedBlock b → FormedBlock a
block_same a b e p =
    let q = p.insts in
    let k : map inst_unlined a.insts ≡ map inst_unlined b.insts = ap (λ (b : Block). b.insts) e in
    record { name = subst AreBytes (sym (ap (λ (b : Block). b.name) e)) p.name; insts = insts_same a.insts q.front q.end (k ∙ ap (map inst_unlined) q.whole) (recursion_from_All FormedInst q.front q.plain) q.last }

-- ---- items

function_same : (f g : Function) → function_unlined f ≡ function_unlined g → FormedFunction g → FormedFunction f
function_same f g e p =
    let params = ap (λ (f : Function). f.params) e in
    let blocks : map block_unlined f.blocks ≡ map block_unlined g.blocks = ap (λ (f : Function). f.blocks) e in
    record {
      words = subst (IsSpelled kept_words) (sym (ap (λ (f : Function). f.words) e)) p.words;
      result = subst (IsSpelled result_type) (sym (ap (λ (f : Function). f.ret) e)) p.result;
      name = subst AreBytes (sym (ap (λ (f : Function). f.name) e)) p.name;
      params = subst (All FormedParam) (sym params) p.params;
      groups = subst (IsSpelled groups) (sym (ap (λ (f : Function). f.groups) e)) p.groups;
      blocks = each_same block_unlined FormedBlock block_same f.blocks g.blocks blocks p.blocks;
      numbered = λ n. subst (λ ps. params_behind [] (map unnamed ps) ≡ ps) (sym params) (p.numbered (none_same block_unlined f.blocks g.blocks blocks n));
    }

type_same : (t u : TypeDef) → type_unlined t ≡ type_unlined u → FormedType u → FormedType t
type_same t u e p =
    let q : FormedType (type_unlined t) = subst FormedType (sym e) (record { name = p.name; body = p.body }) in
    record { name = q.name; body = q.body }

global_same : (g h : Global) → global_unlined g ≡ global_unlined h → FormedGlobal h → FormedGlobal g
global_same g h e p =
    let q : FormedGlobal (global_unlined g) = subst FormedGlobal (sym e) (record { name = p.name; not_llvm = p.not_llvm; words = p.words; ty = p.ty; init = p.init; align = p.align }) in
    record { name = q.name; not_llvm = q.not_llvm; words = q.words; ty = q.ty; init = q.init; align = q.align }

pub parts_same : (m n : Module) → SameButLines m n → FormedParts n → FormedParts m
parts_same m n e p = record {
  prelude = subst (All (FormedLine true)) (sym (ap (λ (m : Module). m.prelude) e)) p.prelude;
  types = each_same type_unlined FormedType type_same m.types n.types (ap (λ (m : Module). m.types) e) p.types;
  globals = each_same global_unlined FormedGlobal global_same m.globals n.globals (ap (λ (m : Module). m.globals) e) p.globals;
  functions = each_same function_unlined FormedFunction function_same m.functions n.functions (ap (λ (m : Module). m.functions) e) p.functions;
  tail = subst (All (FormedLine false)) (sym (ap (λ (m : Module). m.tail) e)) p.tail;
}
