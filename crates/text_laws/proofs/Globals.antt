-- Initializers, globals and type definitions: what spells one is spelled by its canonical text, but for lines.
use Rattle.std.proofs.Common.{◌≡◌, ℕ, zero, suc, ◌<◌, List, [], ◌∷◌, ◌++◌, append_assoc, length, drop, Option, Some, None, Bool, true, false, refl, sym, ap, ◌∙◌, subst, inl, inr, ◌⊎◌, arith, codes}
use Rattle.std.proofs.lemmas.List.{append-nil}
use Rattle.ir_core.specs.declared.types.Ty.{Ty}
use Rattle.ir_core.specs.declared.instructions.Value.TheVariants.{Int as IntValue}
use Rattle.ir_core.specs.declared.module.TypeDef.{TypeDef}
use Rattle.ir_core.specs.declared.module.Global.{Global as GlobalItem}
use Rattle.ir_core.specs.declared.module.Init.{Init}
use Rattle.ir_core.specs.declared.module.Init.TheVariants.{Zero, Int as IntInit, Null as NullInit, Addr, Bytes, Square, Braces}
use Rattle.ir_core.specs.declared.module.Element.{Element}
use Rattle.ir_core.specs.Escapes.{quoted_bytes}
use Rattle.ir_core.specs.Tokens.{TokenKind, Word, Mark, Local, Global, CText, Bad, Lexeme}
use Rattle.ir_core.specs.Scan.{passive_size}
use Rattle.ir_core.specs.Spell.{done, one, IsWordIn}
use Rattle.ir_core.specs.Forms.{maybe, next, IsItemName, IsValue, nesting_limit, begins_with_llvm}
use Rattle.ir_core.specs.Language.{IsPlainInit, InitForm, PlainInit, SquareInit, BracesInit, element_of, init_form, init_in, some_init, constness, section_word, comdat_word, global, type_def}
use Rattle.ir_core.specs.Text.{name_text, quoted, type_text, number_text, local_text, global_name_text, init_text, initial_text, spaced_words, constness_text, align_text, global_text, type_def_text}
use Rattle.ir_core.specs.Lines.{type_unlined, global_unlined}
use Rattle.text_laws.specs.Spelling.{AreBytes, IsSpelled}
use Rattle.text_laws.specs.Parts.{FormedType, FormedGlobal}
use Rattle.text_laws.proofs.Rows.{Bare, bare, Outer, NoBrace}
use Rattle.text_laws.proofs.Endings.{Ends}
use Rattle.text_laws.proofs.Lexed.{outer_line}
use Rattle.text_laws.proofs.Joined.{Gives, OnLines, closes_gives, gives_then, closes_space, closes_mark, gives_word}
use Rattle.text_laws.proofs.Spelled.{Shows, spelled_done, spelled_same, spelled_as, token_then, shows_word, shows_mark, shows_line}
use Rattle.text_laws.proofs.Escaped.{quoted_back, quoted_text_bytes, name_text_bytes, quoted_are_bytes, stem_bytes}
use Rattle.text_laws.proofs.Quoted.{Begins, begins_gives, begins_outer, local_begins, global_begins, c_text_begins}
use Rattle.text_laws.proofs.LineFronts.{local_no_passive, global_no_passive}
use Rattle.text_laws.proofs.Good.{good_then, good_done, good_one, good_any, good_maybe, good_list, one_spelled}
use Rattle.text_laws.proofs.Back.{Back, Says, Ended, flat, says_as, says_at, says_of, says_done, says_then, says_last, empty_maybe, says_space, says_any, says_left, says_right, all_say, says_squared, says_braced}
use Rattle.text_laws.proofs.Names.{drop_bytes, local_bytes, global_bytes, local_bare, global_bare, shows_local, shows_global, gives_global, says_token, table_says}
use Rattle.text_laws.proofs.Types.{IsSized, type_says, type_sized}
use Rattle.text_laws.proofs.Values.{number_says, number_small}
use Rattle.text_laws.proofs.Orders.{ended_then, align_ended, align_says}
use Rattle.text_laws.proofs.Words.{words_back}
use Rattle.text_laws.specs.Elements.{element_text}
use Rattle.text_laws.proofs.InitTexts.{zero_text, number_init_text, null_text, address_text, bytes_text, square_text, braces_text}

-- ---- initializers of one token

number_init : (ty : Ty) (n : ℕ) → Says (number_text ty n) (one (IsValue ty)) (IntValue n) → Says (number_text ty n) (one (IsPlainInit ty)) (IntInit n)
number_init ty n s = record {
  tokens = s.tokens;
  lexed = s.lexed;
  spelled = record { all = λ ts e. let a = s.spelled.all ts e in (IntInit n, (a.1.0, inr (inr (inl (n, subst (IsValue ty a.1.0) a.2 a.1.1, refl))), a.1.2), refl) };
}

bytes_init : (ty : Ty) (x : List ℕ) → AreBytes x → Says (codes "c" ++ quoted x) (one (IsPlainInit ty)) (Bytes x)
bytes_init ty x h = says_token (begins_gives CText (99 ∷ quoted x) (λ s. refl) (quoted_text_bytes x h) (omega arith) (λ f. cc) (c_text_begins x h)) (λ t e.
    (Bytes (quoted_bytes (drop 1 t.bytes)), inr (inr (inr (inr (ap (λ (b : Bare). b.kind) e, refl)))), ap Bytes (ap (λ (b : Bare). quoted_bytes (drop 1 b.bytes)) e ∙ quoted_back x h)))

plain_init : (ty : Ty) → IsSized ty → (init : Init) → IsSpelled (one (IsPlainInit ty)) init → Says (init_text ty init) (one (IsPlainInit ty)) init
plain_init ty s init g = let t = good_one g in by t.token t.fine.bytes t.is
  where
    by : (t : Lexeme) → AreBytes t.bytes → IsPlainInit ty t init → Says (init_text ty init) (one (IsPlainInit ty)) init
    by t b (inl h) = says_of (init_text ty) (one (IsPlainInit ty)) h.1 (zero_text ty) (says_token (gives_word (codes "zeroinitializer") refl) (λ u e. (Zero, inl ((ap (λ (b : Bare). b.kind) e, ap (λ (b : Bare). b.bytes) e, refl), refl), refl)))
    by t b (inr (inl h)) = says_of (init_text ty) (one (IsPlainInit ty)) h.1 (null_text ty) (says_token (gives_word (codes "null") refl) (λ u e. (NullInit, inr (inl ((ap (λ (b : Bare). b.kind) e, ap (λ (b : Bare). b.bytes) e, refl), refl)), refl)))
    by t b (inr (inr (inl h))) = says_of (init_text ty) (one (IsPlainInit ty)) h.2 (number_init_text ty h.0) (number_init ty h.0 (number_says ty h.0 s (number_small ty t h.0 s h.1)))
    by t b (inr (inr (inr (inl h)))) =
        let n = subst AreBytes h.1.1 (stem_bytes (drop 1 t.bytes) (drop_bytes t.bytes b)) in
        says_of (init_text ty) (one (IsPlainInit ty)) h.2 (address_text ty h.0) (says_token (gives_global h.0 n) (λ u e. let r = shows_global h.0 n u e in (Addr r.0, inr (inr (inr (inl (r.0, r.1, refl)))), ap Addr r.2)))
    by t b (inr (inr (inr (inr h)))) = says_of (init_text ty) (one (IsPlainInit ty)) h.1 (bytes_text ty (quoted_bytes (drop 1 t.bytes))) (bytes_init ty (quoted_bytes (drop 1 t.bytes)) (quoted_are_bytes (drop 1 t.bytes) (drop_bytes t.bytes b)))

-- ---- initializers

element_says : (I : Ty → List Lexeme → Init → Type 0) → ((ty : Ty) → IsSized ty → (init : Init) → IsSpelled (I ty) init → Says (init_text ty init) (I ty) init) → (e : Element) → IsSpelled (element_of I) e → Says (element_text e) (element_of I) e
element_says I law e g =
    let a = good_then g in
    let b = good_then a.rest in
    says_at element_text (element_of I) (good_done b.rest)
    (says_as (element_of I) (record { ty = a.value; init = b.value }) (sym (flat (type_text a.value) (codes " ") (init_text a.value b.value ∷ [])))
    (says_then a (type_says a.value a.front) (λ rest e. refl) (says_space (says_last (λ x. record { ty = a.value; init = x }) (law a.value (type_sized a.value a.front) b.value b.front)))))

form_says : (E : List Lexeme → Element → Type 0) → ((e : Element) → IsSpelled E e → Says (element_text e) E e) → (ty : Ty) → IsSized ty → (form : InitForm) (init : Init) → IsSpelled (init_form E ty form) init → Says (init_text ty init) (init_form E ty form) init
form_says E law ty s PlainInit init g = plain_init ty s init g
form_says E law ty s SquareInit init g =
    let a = good_then (good_then g).rest in
    says_of (init_text ty) (init_form E ty SquareInit) (good_done a.rest) (square_text ty a.value) (says_squared element_text E Square a.value (all_say element_text E law a.value (good_list 93 E a.value a.front)))
form_says E law ty s BracesInit init g =
    let a = good_then (good_then g).rest in
    says_of (init_text ty) (init_form E ty BracesInit) (good_done a.rest) (braces_text ty a.value) (says_braced element_text E Braces a.value (all_say element_text E law a.value (good_list 125 E a.value a.front)))

in_says : (depth : ℕ) (ty : Ty) → IsSized ty → (init : Init) → IsSpelled (init_in depth ty) init → Says (init_text ty init) (init_in depth ty) init
in_says zero ty s init g = plain_init ty s init g
in_says (suc depth) ty s init g = let f = good_any g in says_any f.0 (form_says (element_of (init_in depth)) (element_says (init_in depth) (in_says depth)) ty s f.0 init f.1)

initial_says : (ty : Ty) → IsSized ty → (init : Option Init) → IsSpelled (maybe None (some_init ty)) init → Says (initial_text ty init) (maybe None (some_init ty)) init
initial_says ty s init g = by (good_maybe None (some_init ty) g)
  where
    by : (init ≡ None) ⊎ IsSpelled (some_init ty) init → Says (initial_text ty init) (maybe None (some_init ty)) init
    by (inl e) = says_at (initial_text ty) (maybe None (some_init ty)) e (says_left (some_init ty) (says_done None))
    by (inr h) = let a = good_then h in says_at (initial_text ty) (maybe None (some_init ty)) (good_done a.rest) (says_right (done None) (says_space (says_last Some (in_says nesting_limit ty s a.value a.front))))

initial_ended : (ty : Ty) (init : Option Init) → Ended (initial_text ty init)
initial_ended ty None = λ rest e. e
initial_ended ty (Some init) = λ rest e. refl

-- ---- lines that begin with a name

named_lines : (kind : TokenKind) (front b : List ℕ) (lb : List Bare) → NoBrace kind front → AreBytes front → 0 < length front → (Some kind ≡ Some Bad → ⊥) → Begins kind front → ((rest : List ℕ) → Ends rest → passive_size (front ++ rest) ≡ 0) → Gives (32 ∷ b) lb → OnLines (front ++ ((32 ∷ b) ++ codes "\n")) (bare kind front ∷ lb)
named_lines kind front b lb n a l g h z x = record {
  before = λ rest ms o.
      subst (λ t. Outer t (bare kind front ∷ (lb ++ ms))) (sym (append_assoc front ((32 ∷ b) ++ codes "\n") rest ∙ ap (λ t. front ++ t) (append_assoc (32 ∷ b) (codes "\n") rest)))
      (begins_outer kind front ((32 ∷ b) ++ 10 ∷ rest) (lb ++ ms) n a l g h refl (z ((32 ∷ b) ++ 10 ∷ rest) refl) (x.before 0 (10 ∷ rest) ms refl (outer_line rest ms o)));
}

-- ---- type definitions

abbrev pub TypeLike : TypeDef → Type 0
TypeLike d = Back OnLines (type_def_text d) type_def (λ n. type_unlined d ≡ type_unlined n)

pub type_back : (d : TypeDef) → FormedType d → TypeLike d
type_back d p =
    let x = d.name in
    let body = d.body in
    let n = p.name in
    let t = type_says body p.body in
    let Q : TypeDef → Type 0 = λ n. type_unlined d ≡ type_unlined n in
    let ls : List Bare = bare (Mark 61) (61 ∷ []) ∷ bare Word (codes "type") ∷ t.tokens in
    record {
      tokens = local_bare x ∷ ls;
      lexed = subst (λ w. OnLines w (local_bare x ∷ ls)) (type_row (local_text x) (type_text body)) (named_lines Local (local_text x) (codes "= type " ++ type_text body) ls (λ s. refl) (name_text_bytes x n) (omega arith) (λ f. cc) (local_begins x n) (λ rest e. local_no_passive (name_text x ++ rest))
          (closes_gives closes_space (closes_gives (closes_mark 61 refl refl) (closes_gives closes_space (gives_then (gives_word (codes "type") refl) (closes_gives closes_space t.lexed) (λ rest e. refl))))));
      spelled = token_then (shows_line (shows_local x n)) (λ y p. token_then (shows_mark 61) (λ l u. token_then (shows_word (codes "type")) (λ k v.
          spelled_as (append-nil t.tokens) (spelled_same {ls = t.tokens} {ms = []} {v = body} {Q = Q} t.spelled (spelled_done (record { name = y.0; body = body; line = y.1 }) Q (λ i. record { name = sym p i; body = body; line = 0 }))))));
    }
  where
    type_row : (a b : List ℕ) → a ++ ((32 ∷ (codes "= type " ++ b)) ++ codes "\n") ≡ a ++ codes " = type " ++ b ++ codes "\n"
    type_row a b = simp append_assoc

pub type_parts : (d : TypeDef) → IsSpelled type_def d → FormedType d
type_parts d g =
    let a = good_then g in
    let b = good_then (good_then (good_then a.rest).rest).rest in
    let t = good_one a.front in
    subst FormedType (sym (good_done b.rest)) (record { name = local_bytes (record { token = t.token; fine = t.fine; is = t.is.0 }); body = b.front })

-- ---- globals

abbrev pub GlobalLike : GlobalItem → Type 0
GlobalLike d = Back OnLines (global_text d) global (λ n. global_unlined d ≡ global_unlined n)

shows_item : (x : List ℕ) → AreBytes x → begins_with_llvm x ≡ false → Shows IsItemName (global_bare x) (λ y. y ≡ x)
shows_item x b n t e = let r = shows_global x b t e in (r.0, (r.1, ap begins_with_llvm r.2 ∙ n), r.2)

global_row : (a s c t i l : List ℕ) → a ++ ((32 ∷ 61 ∷ 32 ∷ (s ++ (c ++ (32 ∷ (t ++ (i ++ l)))))) ++ codes "\n") ≡ a ++ codes " = " ++ s ++ c ++ codes " " ++ t ++ i ++ l ++ codes "\n"
global_row a s c t i l = simp append_assoc

-- both words are spelled
constant_spelled : (constant : Bool) → IsSpelled (one (IsWordIn constness)) constant
constant_spelled false = one_spelled (record { token = record { kind = Word; bytes = codes "global"; line = 0 }; fine = record { bytes = refl; shape = tt }; is = (refl, inl (refl, refl)) })
constant_spelled true = one_spelled (record { token = record { kind = Word; bytes = codes "constant"; line = 0 }; fine = record { bytes = refl; shape = tt }; is = (refl, inr (inl (refl, refl))) })

pub global_back : (d : GlobalItem) → FormedGlobal d → GlobalLike d
global_back d p =
    let x = d.name in
    let words = d.words in
    let constant = d.constant in
    let ty = d.ty in
    let init = d.init in
    let align = d.align in
    let n = p.name in
    let m = p.not_llvm in
    let w = words_back words p.words in
    let c = table_says constness_text constness (refl, refl, (refl, refl, tt)) constant (constant_spelled constant) in
    let t = type_says ty p.ty in
    let i = initial_says ty (type_sized ty p.ty) init p.init in
    let a = align_says align p.align in
    let Q : GlobalItem → Type 0 = λ n. global_unlined d ≡ global_unlined n in
    let l4 : List Bare = i.tokens ++ a.tokens in
    let l3 : List Bare = t.tokens ++ l4 in
    let l2 : List Bare = c.tokens ++ l3 in
    let ls : List Bare = bare (Mark 61) (61 ∷ []) ∷ (w.tokens ++ l2) in
    record {
      tokens = global_bare x ∷ ls;
      lexed = subst (λ t. OnLines t (global_bare x ∷ ls)) (global_row (global_name_text x) (spaced_words words) (constness_text constant) (type_text ty) (initial_text ty init) (align_text align))
          (named_lines Global (global_name_text x) (61 ∷ 32 ∷ (spaced_words words ++ (constness_text constant ++ (32 ∷ (type_text ty ++ (initial_text ty init ++ align_text align)))))) ls (λ s. refl) (name_text_bytes x n) (omega arith) (λ f. cc) (global_begins x n) (λ rest e. global_no_passive x rest m e)
          (closes_gives closes_space (closes_gives (closes_mark 61 refl refl) (closes_gives closes_space (closes_gives w.lexed (gives_then c.lexed (closes_gives closes_space (gives_then t.lexed (gives_then i.lexed a.lexed (align_ended align)) (ended_then (initial_text ty init) (align_text align) (initial_ended ty init) (align_ended align)))) (λ rest e. refl)))))));
      spelled = token_then (shows_line (shows_item x n m)) (λ y p. token_then (shows_mark 61) (λ l u.
          spelled_same {ls = w.tokens} {ms = l2} {v = words} {Q = Q} w.spelled
          (spelled_same {ls = c.tokens} {ms = l3} {v = constant} {Q = Q} c.spelled
          (spelled_same {ls = t.tokens} {ms = l4} {v = ty} {Q = Q} t.spelled
          (spelled_same {ls = i.tokens} {ms = a.tokens} {v = init} {Q = Q} i.spelled
          (spelled_same {ls = []} {ms = a.tokens} {v = tt} {Q = Q} (empty_maybe tt (next section_word))
          (spelled_same {ls = []} {ms = a.tokens} {v = tt} {Q = Q} (empty_maybe tt (next comdat_word))
          (spelled_as (append-nil a.tokens) (spelled_same {ls = a.tokens} {ms = []} {v = align} {Q = Q} a.spelled
          (spelled_done (record { name = y.0; words = words; constant = constant; ty = ty; init = init; align = align; line = y.1 }) Q (λ k. record { name = sym p k; words = words; constant = constant; ty = ty; init = init; align = align; line = 0 })))))))))));
    }

pub global_parts : (d : GlobalItem) → IsSpelled global d → FormedGlobal d
global_parts d g =
    let a = good_then g in
    let w = good_then (good_then a.rest).rest in
    let c = good_then w.rest in
    let t = good_then c.rest in
    let i = good_then t.rest in
    let s = good_then i.rest in
    let r = good_then s.rest in
    let l = good_then r.rest in
    let name = good_one a.front in
    subst FormedGlobal (sym (good_done l.rest)) (record {
      name = global_bytes (record { token = name.token; fine = name.fine; is = name.is.0.0 });
      not_llvm = name.is.0.1;
      words = w.front;
      ty = t.front;
      init = i.front;
      align = l.front;
    })
