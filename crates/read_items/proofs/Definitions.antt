-- Definitions and declarations are read as they are spelled.
use Rattle.std.proofs.Common.{◌≡◌, ℕ, List, [], ◌∷◌, ◌++◌, codes, map, Option, Some, None, Bool, true, false, cond, Ok, Err, refl, sym, ap, ◌∙◌}
use Rattle.ir_core.specs.declared.types.Ty.{Ty}
use Rattle.ir_core.specs.declared.module.Block.{Block}
use Rattle.ir_core.specs.Tokens.{Lexeme, TokenKind, Local, Global, Label, Mark}
use Rattle.ir_core.specs.Spell.{SameNext, any, many, one, IsWord, IsWordIn, InTable, mark, word, with_line, list_to}
use Rattle.ir_core.specs.Spell as spell
use Rattle.ir_core.specs.Forms.{IsGlobal, type_, result_type}
use Rattle.ir_core.specs.Instructions.{conventions, body_of, block, plain, last_words, Assigns}
use Rattle.ir_core.specs.Language.{params_behind, param_name, next_number, item_words, heading, unlabelled, first_block, blocks, function_item, definition, declaration}
use Rattle.read_forms.specs.Read.{head, goes, as_one_of, all_for, as_table, is_word, is_local, is_label, is_mark, at_mark}
use Rattle.read_forms.specs.Forms.{space_goes, attribute_goes, attribute_words, void_types}
use Rattle.read_forms.proofs.Readers.{Reads, Taken, Halted, Free, Begins, done_reads, then_reads, then_reads_where, one_begins, then_begins, same_head, same_front}
use Rattle.read_forms.proofs.Many.{Stops, many_then_reads, dropped_begins, begins_stops, many_begins}
use Rattle.read_forms.proofs.Choices.{either_begins}
use Rattle.read_forms.proofs.TokenTests.{not_in, no_word, no_word_spelled, label_kind, apart}
use Rattle.read_forms.proofs.Lists.{mark_reads}
use Rattle.read_forms.proofs.Laws.{word_reads, global_reads, made_reads, type_begins, type_words, type_no_attribute, result_type_reads, attributes_reads}
use Rattle.read_ends.specs.Ends.{goes_on}
use Rattle.read_body.specs.Body.{body_at, label_goes, block_at, plain_goes, plain_words}
use Rattle.read_body.proofs.Laws.{body_reads, block_reads, block_first, blocks_reads, label_follows, other_no_end, plain_first}
use Rattle.read_items.specs.Globals.{item_word_by, item_word_goes}
use Rattle.read_items.specs.Functions.{function_word_goes, heading_at, first_line, unlabelled_at, first_block_at, blocks_at, definition_at, declaration_at}
use Rattle.read_items.proofs.WordLaws.{kept_words_reads}
use Rattle.read_items.proofs.Otherwise.{else_reads}
use Rattle.read_items.proofs.FunctionLaws.{Behind, groups_reads, params_reads, param_types_reads, attribute_first, mark_no_word}

-- ---- the heading

no_item_word : (t : Lexeme) → as_one_of item_words t ≡ None → as_one_of conventions t ≡ None → item_word_goes (Some t) ≡ false
no_item_word t a b = ap (λ (o : Option (Unit {0})). goes (item_word_by o (as_one_of conventions t) t.bytes)) a ∙ ap (λ (o : Option (Unit {0})). goes (item_word_by None o t.bytes)) b

table_no_item : {V : Type 0} (es : List (List ℕ × V)) → apart es (all_for (tt {0}) item_words) ≡ true → apart es (all_for (tt {0}) conventions) ≡ true → (t : Lexeme) (v : V) → IsWordIn es t v → item_word_goes (Some t) ≡ false
table_no_item es a b t v h = no_item_word t (not_in es (all_for (tt {0}) item_words) a t v h) (not_in es (all_for (tt {0}) conventions) b t v h)

kind_no_item : (t : Lexeme) (k : TokenKind) → t.kind ≡ k → is_word k ≡ false → item_word_goes (Some t) ≡ false
kind_no_item t k e w = no_item_word t (no_word (all_for (tt {0}) item_words) t k e w) (no_word (all_for (tt {0}) conventions) t k e w)

void_first : (P : Lexeme → Type 0) → ((t : Lexeme) (ty : Ty) → IsWordIn void_types t ty → P t) → Begins (one (IsWordIn void_types)) P
void_first P all = one_begins _ _ all

result_begins : (P : Lexeme → Type 0) → Begins type_ P → ((t : Lexeme) (ty : Ty) → IsWordIn void_types t ty → P t) → Begins result_type P
result_begins P b v = either_begins type_ (one (IsWordIn void_types)) P b (void_first P v)

result_no_item : Begins result_type (λ t. item_word_goes (Some t) ≡ false)
result_no_item =
    result_begins _ (type_begins _ (λ t k. kind_no_item t Local k refl) (λ t h. table_no_item type_words refl refl t tt h) (λ t k. kind_no_item t (Mark 91) k refl) (λ t k. kind_no_item t (Mark 123) k refl))
    (table_no_item void_types refl refl)

result_no_attribute : Begins result_type (λ t. attribute_goes (Some t) ≡ false)
result_no_attribute = result_begins _ type_no_attribute (λ t ty h. ap goes (not_in void_types attribute_words refl t ty h))

heading_reads : Reads heading_at heading Free
unfolding heading_at
heading_reads =
    many_then_reads item_word_goes kept_words_reads (λ words.
    many_then_reads attribute_goes attributes_reads (λ before.
    many_then_reads space_goes result_type_reads (λ result.
    then_reads global_reads (λ name.
    then_reads (mark_reads 40) (λ open_.
    done_reads (record { words = words; result = result; name = name }))))
    (λ result. then_begins _ _ _ (one_begins IsGlobal _ (λ t x h. no_word_spelled (codes "addrspace") t Global h.0 refl))))
    (λ before. then_begins _ _ _ result_no_attribute))
    (λ words. dropped_begins _ _ _ (attribute_first _ (table_no_item attribute_words refl refl)) (then_begins _ _ _ result_no_item))

-- ---- the first block

plain_no_label : (t : Lexeme) → plain_goes (Some t) ≡ true → label_goes (Some t) ≡ false
plain_no_label t e = by_test (is_label t.kind) refl
  where
    by_test : (b : Bool) → is_label t.kind ≡ b → b ≡ false
    by_test false h = refl
    by_test true h =
        let k = label_kind t.kind h in
        let none : plain_goes (Some t) ≡ false = ap (λ (j : TokenKind). goes (cond (is_local j) (Some Assigns) (as_table plain_words t))) k ∙ ap goes (no_word plain_words t Label k refl) in
        let f : true ≡ false = sym e ∙ none in absurd (cc)

-- a body begins with an instruction
body_first : (label : List ℕ × ℕ) → Begins (body_of label) (λ t. label_goes (Some t) ≡ false)
body_first label =
    many_begins plain _ _ (λ front x s. let u = plain_first front x s in (u.0, u.1, plain_no_label u.0 u.2, u.3))
    (λ insts. then_begins _ _ _ (then_begins _ _ _ (one_begins (with_line (IsWordIn last_words)) _ (λ t x h. ap is_label h.0.0))))

-- the same with another line
relined : (number : List ℕ) (l k : ℕ) (front : List Lexeme) (b : Block) → body_of (number, l) front b → body_of (number, k) front (record b { line = k })
relined number l k front b (insts, f, r, m, (end, g, q, h, (e, v), i), j) = (insts, f, r, m, (end, g, q, h, (e, ap (λ (c : Block). record c { line = k }) v), i), j)

abbrev lined : Block → ℕ → Block
lined b k = record b { line = k }

-- a text with the line of its first token
at_its_line : (number : List ℕ) (l : ℕ) (front : List Lexeme) (b : Block) → body_of (number, l) front b → unlabelled number front (lined b (first_line (head front)))
at_its_line number l front b s = (first_line (head front), relined number l (first_line (head front)) front b s, λ t rest e. sym (ap (λ (ts : List Lexeme). first_line (head ts)) e))

unlabelled_takes : (number : List ℕ) (ts : List Lexeme) (b : Block) (rest : List Lexeme) → unlabelled_at number ts ≡ Ok (b, rest) → Taken (unlabelled_at number) (unlabelled number) ts b rest
unfolding unlabelled_at
unlabelled_takes number ts b rest e =
    let line = first_line (head ts) in
    let u = (body_reads (number, line)).takes ts b rest e in
    record {
      front = u.front;
      is = u.is;
      spelled = (line, u.spelled, λ t more k. sym (ap (λ (l : List Lexeme). first_line (head l)) (u.is ∙ ap (λ (l : List Lexeme). l ++ rest) k)));
      same = λ other s.
          ap (λ (n : ℕ). body_at (number, n) (u.front ++ other)) (ap first_line (sym (ap head u.is ∙ same_head (u.front ++ rest) (u.front ++ other) (same_front u.front rest other s))))
          ∙ u.same other s;
    }

unlabelled_halts : (number : List ℕ) (ts : List Lexeme) (n : ℕ) → unlabelled_at number ts ≡ Err n → Halted (unlabelled_at number) (unlabelled number) ts n
unfolding unlabelled_at
unlabelled_halts number ts n e =
    let line = first_line (head ts) in
    let u = (body_reads (number, line)).halts ts n e in
    record {
      front = u.front;
      rest = u.rest;
      is = u.is;
      left = u.left;
      more = u.more;
      value = lined u.value (first_line (head (u.front ++ u.more)));
      goes_on = at_its_line number line (u.front ++ u.more) u.value u.goes_on;
      same = λ other s.
          ap (λ (n : ℕ). body_at (number, n) (u.front ++ other)) (ap first_line (sym (ap head u.is ∙ same_head (u.front ++ u.rest) (u.front ++ other) (same_front u.front u.rest other s))))
          ∙ u.same other s;
    }

unlabelled_only : (number : List ℕ) (front rest : List Lexeme) (b : Block) → unlabelled number front b → Stops goes_on rest → unlabelled_at number (front ++ rest) ≡ Ok (b, rest)
unfolding unlabelled_at
unlabelled_only number front rest b (line, s, k) w =
    let u = body_first (number, line) front b s in
    ap (λ (n : ℕ). body_at (number, n) (front ++ rest)) (ap (λ (l : List Lexeme). first_line (head (l ++ rest))) u.3 ∙ k u.0 u.1 u.3)
    ∙ (body_reads (number, line)).only front rest b s w

unlabelled_reads : (number : List ℕ) → Reads (unlabelled_at number) (unlabelled number) (Stops goes_on)
unlabelled_reads number =
    let r = body_reads (number, 1) in
    record {
      takes = unlabelled_takes number;
      halts = unlabelled_halts number;
      only = unlabelled_only number;
      some = r.some;
      value = lined r.value (first_line (head r.some));
      spelled = at_its_line number 1 r.some r.value r.spelled;
    }

unlabelled_first : (number : List ℕ) → Begins (unlabelled number) (λ t. label_goes (Some t) ≡ false)
unlabelled_first number front b (line, s, k) = body_first (number, line) front b s

first_block_reads : (number : List ℕ) → Reads (first_block_at number) (first_block number) (Stops goes_on)
first_block_reads number =
    else_reads label_goes block_at (unlabelled_at number) block (unlabelled number) (Stops goes_on) block_reads (unlabelled_reads number) block_first
    (λ front rest b s w. begins_stops (unlabelled number) label_goes (unlabelled_first number) front rest b s)

-- ---- blocks, definitions and declarations

block_no_end : Begins block (λ t. goes_on (Some t) ≡ false)
block_no_end front b s = let u = block_first front b s in (u.0, u.1, label_follows (u.0 ∷ []) u.2, u.3)

close_no_end : {Y : Type 0} (m : ℕ) (T : ℕ → List Lexeme → Y → Type 0) → is_mark 44 (Mark m) ≡ false → Begins (spell.◌>>=◌ (mark m) T) (λ t. goes_on (Some t) ≡ false)
close_no_end m T c = then_begins _ _ _ (one_begins _ _ (λ t line h. other_no_end t (Mark m) h.0 refl c refl))

close_no_label : {Y : Type 0} (m : ℕ) (T : ℕ → List Lexeme → Y → Type 0) → Begins (spell.◌>>=◌ (mark m) T) (λ t. label_goes (Some t) ≡ false)
close_no_label m T = then_begins _ _ _ (one_begins _ _ (λ t line h. ap is_label h.0))

blocks_all_reads : (number : List ℕ) → Reads (blocks_at number) (blocks number) Free
unfolding blocks_at
blocks_all_reads number =
    then_reads (mark_reads 123) (λ open_.
    many_then_reads goes_on (first_block_reads number) (λ first.
    then_reads_where _ _ (λ ts. Stops label_goes ts × Stops goes_on ts) _ _ Free blocks_reads (λ more.
    then_reads (mark_reads 125) (λ close.
    done_reads (first ∷ more)))
    (λ more front rest y s w. (
      begins_stops _ label_goes (close_no_label 125 (λ close. spell.done (first ∷ more))) front rest y s,
      begins_stops _ goes_on (close_no_end 125 (λ close. spell.done (first ∷ more)) refl) front rest y s,
    )))
    (λ first. many_begins block _ _ block_no_end (λ more. close_no_end 125 (λ close. spell.done (first ∷ more)) refl)))

blocks_first : {number : List ℕ} → Begins (blocks number) (λ t. t.kind ≡ Mark 123)
blocks_first = then_begins _ _ _ (one_begins _ _ (λ t line k. k.0))

behind_brace : (front rest : List Lexeme) (t : Lexeme) (more : List Lexeme) → t.kind ≡ Mark 123 → front ≡ t ∷ more → Behind (front ++ rest)
behind_brace front rest t more k e = (
  ap (λ (l : List Lexeme). function_word_goes (head (l ++ rest))) e ∙ mark_no_word t 123 k,
  (ap (λ (l : List Lexeme). at_mark 61 (head (l ++ rest))) e ∙ ap (is_mark 61) k, ap (λ (l : List Lexeme). at_mark 40 (head (l ++ rest))) e ∙ ap (is_mark 40) k),
)

pub definition_reads : Reads definition_at definition Free
unfolding definition_at
definition_reads =
    then_reads (word_reads (codes "define")) (λ line.
    then_reads heading_reads (λ h.
    then_reads params_reads (λ ps.
    then_reads_where _ _ Behind _ _ Free groups_reads (λ gs.
    then_reads (blocks_all_reads (next_number (map param_name (params_behind [] ps)))) (λ bs.
    done_reads (function_item line h (params_behind [] ps) gs bs)))
    (λ gs front rest y s w. let u = then_begins (blocks (next_number (map param_name (params_behind [] ps)))) (λ bs. spell.done (function_item line h (params_behind [] ps) gs bs)) _ blocks_first front y s in behind_brace front rest u.0 u.1 u.2 u.3))))

pub declaration_reads : Reads declaration_at declaration Behind
unfolding declaration_at
declaration_reads =
    then_reads (word_reads (codes "declare")) (λ line.
    then_reads heading_reads (λ h.
    then_reads param_types_reads (λ ps.
    made_reads (λ gs. function_item line h (params_behind [] ps) gs []) groups_reads)))
