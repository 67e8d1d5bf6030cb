-- Definitions and declarations: what spells one is spelled by its canonical text, but for lines.
use Rattle.std.proofs.Common.{◌≡◌, ℕ, List, [], ◌∷◌, ◌++◌, append_assoc, map, None, refl, sym, ap, subst, inl, inr, ◌⊎◌, codes, All}
use Rattle.std.specs.List.{flat_map, AllByRecursion}
use Rattle.std.proofs.lemmas.List.{append-nil}
use Rattle.std.proofs.lemmas.List.Elements.{All-from_recursion, recursion_from_All, All-nil}
use Rattle.ir_core.specs.declared.module.Block.{Block}
use Rattle.ir_core.specs.declared.module.Param.{Param}
use Rattle.ir_core.specs.declared.module.Function.{Function}
use Rattle.ir_core.specs.Tokens.{Word, Mark, Lexeme}
use Rattle.ir_core.specs.Spell.{any, list_to}
use Rattle.ir_core.specs.Forms.{attribute_form}
use Rattle.ir_core.specs.Instructions.{block}
use Rattle.ir_core.specs.Language.{next_number, name_or, Unnumbered, params_behind, param_name, groups, param, param_type, Heading, unlabelled, first_block, blocks, function_item, definition, declaration}
use Rattle.ir_core.specs.Text.{type_text, comma_list, param_text, param_type_text, block_text, function_text}
use Rattle.ir_core.specs.Lines.{block_unlined, function_unlined}
use Rattle.text_laws.specs.Spelling.{IsSpelled}
use Rattle.text_laws.specs.Parts.{FormedBlock, FormedParam, unnamed, FormedFunction}
use Rattle.text_laws.proofs.Rows.{Bare, bare, Lexed, Outer}
use Rattle.text_laws.proofs.Lexed.{space_lexed, line_lexed, open_lexed, close_lexed, outer_line, outer_word, no_passive_d}
use Rattle.text_laws.proofs.Joined.{Gives, Inner, OnLines, inner_then}
use Rattle.text_laws.proofs.Spelled.{Spelled, spelled_done, spelled_then, spelled_same, spelled_as, token_then, shows_word, shows_mark}
use Rattle.text_laws.proofs.Good.{good_then, good_done, good_either, good_many, good_list}
use Rattle.text_laws.proofs.Back.{Back, Says, AllSay, empty_dropped, says_closed}
use Rattle.text_laws.proofs.Types.{type_says}
use Rattle.text_laws.proofs.Blocks.{Like, AllLike, all_like, inner_like, block_back, block_parts, unlabelled_parts}
use Rattle.text_laws.proofs.Words.{groups_says}
use Rattle.text_laws.proofs.Functions.{heading_back, heading_whole, heading_gives, present, params_same, params_says, HeadingParts, heading_parts, UnnumberedParts, param_parts, params_parts}
use Rattle.text_laws.proofs.Each.{each_as}

-- ---- bodies

abbrev open_brace : Bare
open_brace = bare (Mark 123) (123 ∷ [])

abbrev close_brace : Bare
close_brace = bare (Mark 125) (125 ∷ [])

-- blocks that are spelled behind an open brace, whatever number the first one would take
record BodyBack (bs : List Block) : Type 0 where
  tokens : List Bare
  lexed : Inner (flat_map block_text bs) tokens
  spelled : (number : List ℕ) → Spelled (blocks number) (open_brace ∷ (tokens ++ close_brace ∷ [])) (λ ys. map block_unlined bs ≡ map block_unlined ys)

body_by : (b : Block) (bs : List Block) → Like Inner block_text block block_unlined b → AllLike Inner block_text block block_unlined bs → BodyBack (b ∷ bs)
body_by b bs s h =
    let t = inner_like block_text block block_unlined bs h in
    let end : List Bare = close_brace ∷ [] in
    let Q : List Block → Type 0 = λ ys. map block_unlined (b ∷ bs) ≡ map block_unlined ys in
    record {
      tokens = s.tokens ++ t.tokens;
      lexed = inner_then s.lexed t.lexed;
      spelled = λ number. token_then (shows_mark 123) (λ line u.
          spelled_as (sym (append_assoc s.tokens t.tokens end)) (spelled_then {S = first_block number} {ls = s.tokens} {ms = t.tokens ++ end} {Q = Q} (left number s) (λ first p.
          spelled_then {ls = t.tokens} {ms = end} {Q = Q} t.spelled (λ more q.
          token_then (shows_mark 125) (λ l v. spelled_done (first ∷ more) Q (λ i. p i ∷ q i))))));
    }
  where
    left : (number : List ℕ) (s : Like Inner block_text block block_unlined b) → Spelled (first_block number) s.tokens (λ y. block_unlined b ≡ block_unlined y)
    left number s = record { all = λ ts e. let a = s.spelled.all ts e in (a.0, inl a.1, a.2) }

-- ---- definitions

-- the text of a definition, by that of its heading and of its blocks
define_lines : (h b : List ℕ) (lh lb : List Bare) → Gives h lh → Inner b lb → OnLines (codes "define " ++ h ++ codes " {\n" ++ b ++ codes "}\n") (bare Word (codes "define") ∷ (lh ++ open_brace ∷ (lb ++ close_brace ∷ [])))
define_lines h b lh lb x y = record { before = λ rest ms o. lines rest ms o }
  where
    inside : (rest : List ℕ) (ms : List Bare) → Outer rest ms → Lexed 1 (b ++ 125 ∷ 10 ∷ rest) (lb ++ close_brace ∷ ms)
    inside rest ms o = y.before 0 (125 ∷ 10 ∷ rest) (close_brace ∷ ms) (close_lexed 0 (10 ∷ rest) ms (outer_line rest ms o))

    whole : (rest : List ℕ) (ms : List Bare) → Outer rest ms → Outer (codes "define " ++ (h ++ 32 ∷ 123 ∷ 10 ∷ (b ++ 125 ∷ 10 ∷ rest))) (bare Word (codes "define") ∷ (lh ++ open_brace ∷ (lb ++ close_brace ∷ ms)))
    whole rest ms o =
        let body = b ++ 125 ∷ 10 ∷ rest in
        let tokens = lb ++ close_brace ∷ ms in
        let braced = space_lexed 0 (123 ∷ 10 ∷ body) (open_brace ∷ tokens) (open_lexed 0 (10 ∷ body) tokens (line_lexed 0 body tokens (inside rest ms o))) in
        let line = space_lexed 0 (h ++ 32 ∷ 123 ∷ 10 ∷ body) (lh ++ open_brace ∷ tokens) (x.before 0 (32 ∷ 123 ∷ 10 ∷ body) (open_brace ∷ tokens) refl braced) in
        outer_word (codes "define") (32 ∷ (h ++ 32 ∷ 123 ∷ 10 ∷ body)) (lh ++ open_brace ∷ tokens) refl refl (no_passive_d (codes "efine" ++ 32 ∷ (h ++ 32 ∷ 123 ∷ 10 ∷ body))) line

    lines : (rest : List ℕ) (ms : List Bare) → Outer rest ms → Outer ((codes "define " ++ h ++ codes " {\n" ++ b ++ codes "}\n") ++ rest) ((bare Word (codes "define") ∷ (lh ++ open_brace ∷ (lb ++ close_brace ∷ []))) ++ ms)
    lines rest ms o = simp append_assoc (whole rest ms o)

abbrev pub FunctionLike : Function → (List Lexeme → Function → Type 0) → Type 0
FunctionLike f S = Back OnLines (function_text f) S (λ n. function_unlined f ≡ function_unlined n)

-- a row of three parts
three_parts : (a b c d : List Bare) → (a ++ (b ++ c)) ++ d ≡ a ++ (b ++ (c ++ d))
three_parts a b c d = simp append_assoc

define_by : (line : ℕ) (h : Heading) (ps : List Param) (gs : List (List ℕ)) (b : Block) (bs : List Block) → HeadingParts h → AllByRecursion FormedParam ps → IsSpelled groups gs → BodyBack (b ∷ bs) → FunctionLike (function_item line h ps gs (b ∷ bs)) definition
define_by line h ps gs b bs gh gp gg body =
    let x = heading_back h gh in
    let y = params_says ps gp in
    let z = groups_says gs gg in
    let f = function_item line h ps gs (b ∷ bs) in
    let lb : List Bare = open_brace ∷ (body.tokens ++ close_brace ∷ []) in
    let Q : Function → Type 0 = λ n. function_unlined f ≡ function_unlined n in
    record {
      tokens = bare Word (codes "define") ∷ ((x.tokens ++ (y.tokens ++ z.tokens)) ++ lb);
      lexed = define_lines (heading_whole h (map param_text ps) gs) (flat_map block_text (b ∷ bs)) (x.tokens ++ (y.tokens ++ z.tokens)) body.tokens (heading_gives h (map param_text ps) gs x.tokens y.tokens z.tokens x.lexed y.lexed z.lexed) body.lexed;
      spelled = token_then (shows_word (codes "define")) (λ l u. spelled_as (sym (three_parts x.tokens y.tokens z.tokens lb))
          (spelled_same {ls = x.tokens} {ms = y.tokens ++ (z.tokens ++ lb)} {v = h} {Q = Q} x.spelled
          (spelled_same {ls = y.tokens} {ms = z.tokens ++ lb} {v = map present ps} {Q = Q} y.spelled
          (spelled_same {ls = z.tokens} {ms = lb} {v = gs} {Q = Q} z.spelled
          (spelled_as (append-nil lb) (spelled_then {ls = lb} {ms = []} {Q = Q} (body.spelled (next_number (map param_name (params_behind [] (map present ps))))) (λ ys q.
          spelled_done (function_item l h (params_behind [] (map present ps)) gs ys) Q
          (λ i. record { name = h.name; words = h.words; ret = h.result; params = sym (params_same [] ps) i; groups = gs; blocks = q i; line = 0 }))))))));
    }

first_parts : (n : List (List ℕ)) (b : Block) → IsSpelled (first_block (next_number n)) b → FormedBlock b
first_parts n b g = by (good_either block (unlabelled (next_number n)) g)
  where
    by : IsSpelled block b ⊎ IsSpelled (unlabelled (next_number n)) b → FormedBlock b
    by (inl h) = block_parts b h
    by (inr h) = unlabelled_parts _ h.is.0 b (record { tokens = h.tokens; fine = h.fine; is = h.is.1 })

-- at least one block
record BlocksParts (bs : List Block) : Type 0 where
  each : AllByRecursion FormedBlock bs
  some : bs ≡ [] → ⊥

blocks_parts : (n : List (List ℕ)) (bs : List Block) → IsSpelled (blocks (next_number n)) bs → BlocksParts bs
blocks_parts n bs g =
    let a = good_then (good_then g).rest in
    let b = good_then a.rest in
    subst BlocksParts (sym (good_done (good_then b.rest).rest)) (record { each = (first_parts n a.value a.front, each_as block_parts b.value (good_many block b.value b.front)); some = λ e. cc })

pub definition_parts : (f : Function) → IsSpelled definition f → FormedFunction f
definition_parts f g =
    let a = good_then g in
    let b = good_then a.rest in
    let c = good_then b.rest in
    let d = good_then c.rest in
    let e = good_then d.rest in
    let h = heading_parts b.value b.front in
    let ps = params_behind [] c.value in
    let s = blocks_parts (map param_name ps) e.value e.front in
    subst FormedFunction (sym (good_done e.rest)) (record {
      words = h.words;
      result = h.result;
      name = h.name;
      params = All-from_recursion FormedParam ps (params_parts [] c.value (each_as param_parts c.value (good_list 41 param c.value c.front)));
      groups = d.front;
      blocks = All-from_recursion FormedBlock e.value s.each;
      numbered = λ n. absurd (s.some n);
    })

-- ---- declarations

param_type_says : (p : Param) → FormedParam p → Says (param_type_text p) param_type (unnamed p)
param_type_says p g =
    let t = type_says p.ty g.ty in
    let v = unnamed p in
    let Q : Unnumbered → Type 0 = λ w. w ≡ v in
    record {
      tokens = t.tokens;
      lexed = t.lexed;
      spelled = spelled_same {ls = []} {ms = t.tokens} {v = tt} {Q = Q} (empty_dropped (any attribute_form))
          (spelled_as (append-nil t.tokens) (spelled_same {ls = t.tokens} {ms = []} {v = p.ty} {Q = Q} t.spelled
          (spelled_same {ls = []} {ms = []} {v = tt} {Q = Q} (empty_dropped (any attribute_form)) (spelled_done v Q refl))));
    }

abbrev unnamed_text : Unnumbered → List ℕ
unnamed_text u = type_text u.0

types_say : (ps : List Param) → AllByRecursion FormedParam ps → AllSay unnamed_text param_type (map unnamed ps)
types_say [] g = tt
types_say (p ∷ ps) g = (param_type_says p g.0, types_say ps g.1)

types_same : (ps : List Param) → map unnamed_text (map unnamed ps) ≡ map param_type_text ps
types_same [] = refl
types_same (p ∷ ps) = ap (λ l. type_text p.ty ∷ l) (types_same ps)

declare_lines : (h : List ℕ) (lh : List Bare) → Gives h lh → OnLines (codes "declare " ++ h ++ codes "\n") (bare Word (codes "declare") ∷ lh)
declare_lines h lh x = record { before = λ rest ms o. simp append_assoc (whole rest ms o) }
  where
    whole : (rest : List ℕ) (ms : List Bare) → Outer rest ms → Outer (codes "declare " ++ (h ++ 10 ∷ rest)) (bare Word (codes "declare") ∷ (lh ++ ms))
    whole rest ms o =
        let line = space_lexed 0 (h ++ 10 ∷ rest) (lh ++ ms) (x.before 0 (10 ∷ rest) ms refl (outer_line rest ms o)) in
        outer_word (codes "declare") (32 ∷ (h ++ 10 ∷ rest)) (lh ++ ms) refl refl (no_passive_d (codes "eclare" ++ 32 ∷ (h ++ 10 ∷ rest))) line

declare_by : (line : ℕ) (h : Heading) (ps : List Param) (gs : List (List ℕ)) → HeadingParts h → AllByRecursion FormedParam ps → params_behind [] (map unnamed ps) ≡ ps → IsSpelled groups gs → FunctionLike (function_item line h ps gs []) declaration
declare_by line h ps gs gh gp numbered gg =
    let x = heading_back h gh in
    let us = map unnamed ps in
    let y : Says (comma_list (map param_type_text ps) ++ codes ")") (list_to 41 param_type) us = subst (λ l. Says (comma_list l ++ codes ")") (list_to 41 param_type) us) (types_same ps) (says_closed unnamed_text param_type us (types_say ps gp)) in
    let z = groups_says gs gg in
    let f = function_item line h ps gs [] in
    let Q : Function → Type 0 = λ n. function_unlined f ≡ function_unlined n in
    record {
      tokens = bare Word (codes "declare") ∷ (x.tokens ++ (y.tokens ++ z.tokens));
      lexed = declare_lines (heading_whole h (map param_type_text ps) gs) (x.tokens ++ (y.tokens ++ z.tokens)) (heading_gives h (map param_type_text ps) gs x.tokens y.tokens z.tokens x.lexed y.lexed z.lexed);
      spelled = token_then (shows_word (codes "declare")) (λ l u.
          spelled_same {ls = x.tokens} {ms = y.tokens ++ z.tokens} {v = h} {Q = Q} x.spelled
          (spelled_same {ls = y.tokens} {ms = z.tokens} {v = us} {Q = Q} y.spelled
          (spelled_as (append-nil z.tokens) (spelled_same {ls = z.tokens} {ms = []} {v = gs} {Q = Q} z.spelled
          (spelled_done (function_item l h (params_behind [] us) gs []) Q
          (λ i. record { name = h.name; words = h.words; ret = h.result; params = sym numbered i; groups = gs; blocks = []; line = 0 }))))));
    }

-- a parameter without a name
record UnnamedParts (u : Unnumbered) : Type 0 where
  parts : UnnumberedParts u
  none : u.1 ≡ None

param_type_parts : (u : Unnumbered) → IsSpelled param_type u → UnnamedParts u
param_type_parts u g =
    let a = good_then (good_then g).rest in
    let b = good_then a.rest in
    subst UnnamedParts (sym (good_done b.rest)) (record { parts = record { ty = a.front; name = λ number h. h }; none = refl })

unnamed_same : (names : List (List ℕ)) (us : List Unnumbered) → AllByRecursion UnnamedParts us → map unnamed (params_behind names us) ≡ us
unnamed_same names [] h = refl
unnamed_same names (u ∷ us) h =
    let r = unnamed_same (names ++ name_or u.1 (next_number names) ∷ []) us h.1 in
    let n = h.0.none in
    λ i. (u.0, sym n i) ∷ r i

pub declaration_parts : (f : Function) → IsSpelled declaration f → FormedFunction f
declaration_parts f g =
    let a = good_then g in
    let b = good_then a.rest in
    let c = good_then b.rest in
    let d = good_then c.rest in
    let h = heading_parts b.value b.front in
    let us = each_as param_type_parts c.value (good_list 41 param_type c.value c.front) in
    subst FormedFunction (sym (good_done d.rest)) (record {
      words = h.words;
      result = h.result;
      name = h.name;
      params = All-from_recursion FormedParam (params_behind [] c.value) (params_parts [] c.value (each_as (λ u p. p.parts) c.value us));
      groups = d.front;
      blocks = All-nil FormedBlock;
      numbered = λ n. ap (params_behind []) (unnamed_same [] c.value us);
    })

-- ---- functions

heading_of : (f : Function) → FormedFunction f → HeadingParts (record { words = f.words; result = f.ret; name = f.name })
heading_of f p = record { words = p.words; result = p.result; name = p.name }

pub function_back : (f : Function) → FormedFunction f → FunctionLike f definition ⊎ FunctionLike f declaration
function_back f p = by f.blocks refl
  where
    by : (bs : List Block) → f.blocks ≡ bs → FunctionLike f definition ⊎ FunctionLike f declaration
    by [] e = inr (subst (λ bs. FunctionLike (record f { blocks = bs }) declaration) (sym e) (declare_by f.line _ f.params f.groups (heading_of f p) (recursion_from_All FormedParam f.params p.params) (p.numbered e) p.groups))
    by (b ∷ bs) e =
        let h = recursion_from_All FormedBlock (b ∷ bs) (subst (All FormedBlock) e p.blocks) in
        let body = body_by b bs (block_back b h.0) (all_like Inner block_text block block_unlined FormedBlock block_back bs h.1) in
        inl (subst (λ bs. FunctionLike (record f { blocks = bs }) definition) (sym e) (define_by f.line _ f.params f.groups b bs (heading_of f p) (recursion_from_All FormedParam f.params p.params) p.groups body))
