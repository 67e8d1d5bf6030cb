-- Initializers are read as they are spelled.
use Rattle.std.proofs.Common.{◌≡◌, ℕ, zero, suc, List, [], codes, drop, Option, Some, None, Bool, false, cond, refl, sym, ap, ◌∙◌, inl, inr}
use Rattle.ir_core.specs.declared.types.Ty.{Ty}
use Rattle.ir_core.specs.declared.module.Init.{Init}
use Rattle.ir_core.specs.declared.module.Init.TheVariants.{Zero, Int as IntInit, Null as NullInit, Addr, Bytes, Square, Braces}
use Rattle.ir_core.specs.declared.module.Element.{Element}
use Rattle.ir_core.specs.declared.instructions.Value.TheVariants.{Int as IntValue}
use Rattle.ir_core.specs.Tokens.{Lexeme, TokenKind, Word, Global, Number, CText, Mark}
use Rattle.ir_core.specs.Spell.{any, IsWordIn, InTable}
use Rattle.ir_core.specs.Spell as spell
use Rattle.ir_core.specs.Numbers.{is_number_in_range, kept_at}
use Rattle.ir_core.specs.Escapes.{stem_name, quoted_bytes}
use Rattle.ir_core.specs.Forms.{IsValue, truth_words, nesting_limit}
use Rattle.ir_core.specs.Language.{IsPlainInit, InitForm, PlainInit, SquareInit, BracesInit, init_form, init_in, element_of}
use Rattle.read_forms.specs.Read.{Shrinks, is_mark}
use Rattle.read_forms.specs.Forms.{space_goes}
use Rattle.read_forms.proofs.Readers.{Reads, Free, Begins, Tests, one_reads, done_reads, then_reads, pick_reads, one_begins, then_begins, any_begins}
use Rattle.read_forms.proofs.Many.{shrinks_by, many_then_reads}
use Rattle.read_forms.proofs.TokenTests.{chosen_some, some_is, look_found, look_only, no_word_spelled, not_spelled}
use Rattle.read_forms.proofs.Lists.{mark_reads, list_reads}
use Rattle.read_forms.proofs.Laws.{type_reads, type_in_no_mark}
use Rattle.read_items.specs.Inits.{init_words, number_init, plain_by, as_plain_init, element_at, square_at, braces_at, init_at_form, init_ahead, init_in_at, init_at}

-- ---- one token

word_is : (ty : Ty) (t : Lexeme) (init : Init) → t.kind ≡ Word → InTable init_words t.bytes init → IsPlainInit ty t init
word_is ty t init k (inl p) = inl ((k, p.0, refl), p.1)
word_is ty t init k (inr (inl p)) = inr (inl ((k, p.0, refl), p.1))
word_is ty t init k (inr (inr (inl p))) = inr (inr (inl (1, inr (k, inl (p.0, refl)), p.1)))
word_is ty t init k (inr (inr (inr (inl p)))) = inr (inr (inl (0, inr (k, inr (inl (p.0, refl))), p.1)))
word_is ty t init k (inr (inr (inr (inr p)))) = absurd p

number_is : (ty : Ty) (t : Lexeme) (init : Init) → t.kind ≡ Number → number_init ty t.bytes ≡ Some init → IsPlainInit ty t init
number_is ty t init k e =
    let c = chosen_some (is_number_in_range t.bytes) (Some (IntInit (kept_at ty t.bytes))) init e in
    inr (inr (inl (kept_at ty t.bytes, inl (k, c.0, refl), sym (some_is (IntInit (kept_at ty t.bytes)) init c.1))))

pub found_by : (ty : Ty) (t : Lexeme) (init : Init) (kind : TokenKind) → t.kind ≡ kind → plain_by ty t.bytes kind ≡ Some init → IsPlainInit ty t init
found_by ty t init Number k e = number_is ty t init k e
found_by ty t init Word k e = word_is ty t init k (look_found init_words t.bytes init e)
found_by ty t init Global k e = inr (inr (inr (inl (stem_name (drop 1 t.bytes), (k, refl), sym (some_is (Addr (stem_name (drop 1 t.bytes))) init e)))))
found_by ty t init CText k e = inr (inr (inr (inr (k, sym (some_is (Bytes (quoted_bytes (drop 1 t.bytes))) init e)))))
found_by ty t init _ k e = absurd (let f : ◌≡◌ {A = Option Init} None (Some init) = e in cc)

pub by_kind : (ty : Ty) (t : Lexeme) (kind : TokenKind) → t.kind ≡ kind → as_plain_init ty t ≡ plain_by ty t.bytes kind
by_kind ty t kind k = ap (plain_by ty t.bytes) k

truth_in : (word : List ℕ) (n : ℕ) → InTable truth_words word n → InTable init_words word (IntInit n)
truth_in word n (inl p) = inr (inr (inl (p.0, ap IntInit p.1)))
truth_in word n (inr (inl p)) = inr (inr (inr (inl (p.0, ap IntInit p.1))))
truth_in word n (inr (inr p)) = absurd p

number_only : (ty : Ty) (t : Lexeme) (n : ℕ) → IsValue ty t (IntValue n) → as_plain_init ty t ≡ Some (IntInit n)
number_only ty t n (inl h) = by_kind ty t Number h.0 ∙ ap (λ c. cond c (Some (IntInit (kept_at ty t.bytes))) None) h.1 ∙ ap (λ (m : ℕ). Some (IntInit m)) h.2
number_only ty t n (inr h) = by_kind ty t Word h.0 ∙ look_only init_words t.bytes (IntInit n) refl (truth_in t.bytes n h.1)

pub plain_only : (ty : Ty) (t : Lexeme) (init : Init) → IsPlainInit ty t init → as_plain_init ty t ≡ Some init
plain_only ty t init (inl h) = by_kind ty t Word h.0.0 ∙ look_only init_words t.bytes Zero refl (inl (h.0.1, refl)) ∙ ap Some (sym h.1)
plain_only ty t init (inr (inl h)) = by_kind ty t Word h.0.0 ∙ look_only init_words t.bytes NullInit refl (inr (inl (h.0.1, refl))) ∙ ap Some (sym h.1)
plain_only ty t init (inr (inr (inl h))) = number_only ty t h.0 h.1 ∙ ap Some (sym h.2)
plain_only ty t init (inr (inr (inr (inl h)))) = by_kind ty t Global h.1.0 ∙ ap (λ (x : List ℕ). Some (Addr x)) h.1.1 ∙ ap Some (sym h.2)
plain_only ty t init (inr (inr (inr (inr h)))) = by_kind ty t CText h.0 ∙ ap Some (sym h.1)

plain_tests : (ty : Ty) → Tests (as_plain_init ty) (IsPlainInit ty)
plain_tests ty = record {
  found = λ t init e. found_by ty t init t.kind refl e;
  only = plain_only ty;
  some = record { kind = Global; bytes = []; line = 0 };
  value = Addr [];
  holds = inr (inr (inr (inl ([], (refl, refl), refl))));
}

-- what a token that is an initializer can be
pub plain_first : (ty : Ty) (P : Lexeme → Type 0) → ((t : Lexeme) → t.kind ≡ Number → P t) → ((t : Lexeme) (init : Init) → IsWordIn init_words t init → P t) → ((t : Lexeme) → t.kind ≡ Global → P t) → ((t : Lexeme) → t.kind ≡ CText → P t) → (t : Lexeme) (init : Init) → IsPlainInit ty t init → P t
plain_first ty P number word name text t init (inl h) = word t Zero (h.0.0, inl (h.0.1, refl))
plain_first ty P number word name text t init (inr (inl h)) = word t NullInit (h.0.0, inr (inl (h.0.1, refl)))
plain_first ty P number word name text t init (inr (inr (inl (n, inl h, e)))) = number t h.0
plain_first ty P number word name text t init (inr (inr (inl (n, inr h, e)))) = word t (IntInit n) (h.0, truth_in t.bytes n h.1)
plain_first ty P number word name text t init (inr (inr (inr (inl h)))) = name t h.1.0
plain_first ty P number word name text t init (inr (inr (inr (inr h)))) = text t h.0

-- what an initializer begins with
module _ (P : Lexeme → Type 0) (number : (t : Lexeme) → t.kind ≡ Number → P t) (word : (t : Lexeme) (init : Init) → IsWordIn init_words t init → P t) (name : (t : Lexeme) → t.kind ≡ Global → P t) (text : (t : Lexeme) → t.kind ≡ CText → P t) (square : (t : Lexeme) → t.kind ≡ Mark 91 → P t) (brace : (t : Lexeme) → t.kind ≡ Mark 123 → P t) where
  pub form_first : (E : spell.Spell Element) (ty : Ty) (form : InitForm) → Begins (init_form E ty form) P
  form_first E ty PlainInit = one_begins _ _ (plain_first ty P number word name text)
  form_first E ty SquareInit = then_begins _ _ _ (one_begins _ _ (λ t line h. square t h.0))
  form_first E ty BracesInit = then_begins _ _ _ (one_begins _ _ (λ t line h. brace t h.0))

  pub init_begins : (depth : ℕ) (ty : Ty) → Begins (init_in depth ty) P
  init_begins zero ty = one_begins _ _ (plain_first ty P number word name text)
  init_begins (suc depth) ty = any_begins (init_form (element_of (init_in depth)) ty) P (form_first (element_of (init_in depth)) ty)

pub init_no_space : (depth : ℕ) (ty : Ty) → Begins (init_in depth ty) (λ t. space_goes (Some t) ≡ false)
init_no_space =
    init_begins _ (λ t k. no_word_spelled (codes "addrspace") t Number k refl) (λ t init h. not_spelled init_words (codes "addrspace") refl t init h) (λ t k. no_word_spelled (codes "addrspace") t Global k refl)
    (λ t k. no_word_spelled (codes "addrspace") t CText k refl) (λ t k. no_word_spelled (codes "addrspace") t (Mark 91) k refl) (λ t k. no_word_spelled (codes "addrspace") t (Mark 123) k refl)

-- ---- parts

module _ (depth : ℕ) (r : (ty : Ty) → Reads (init_in_at depth ty) (init_in depth ty) Free) where
  element_reads : Reads (element_at (init_in_at depth)) (element_of (init_in depth)) Free
  unfolding element_at
  element_reads =
      many_then_reads space_goes type_reads (λ ty.
      then_reads (r ty) (λ init.
      done_reads (record { ty = ty; init = init }))) (λ ty. then_begins _ _ _ (init_no_space depth ty))

  element_no_mark : (m : ℕ) → is_mark m (Mark 91) ≡ false → is_mark m (Mark 123) ≡ false → Begins (element_of (init_in depth)) (λ t. is_mark m t.kind ≡ false)
  element_no_mark m a b = then_begins _ _ _ (type_in_no_mark m a b nesting_limit)

  pub form_reads : (ty : Ty) (form : InitForm) → Reads (init_at_form (element_at (init_in_at depth)) ty form) (init_form (element_of (init_in depth)) ty form) Free
  unfolding square_at braces_at
  form_reads ty PlainInit = one_reads _ _ (plain_tests ty)
  form_reads ty SquareInit =
      then_reads (mark_reads 91) (λ open_.
      then_reads (list_reads (element_at (init_in_at depth)) (element_of (init_in depth)) element_reads 93 refl (element_no_mark 93 refl refl)) (λ elements.
      done_reads (Square elements)))
  form_reads ty BracesInit =
      then_reads (mark_reads 123) (λ open_.
      then_reads (list_reads (element_at (init_in_at depth)) (element_of (init_in depth)) element_reads 125 refl (element_no_mark 125 refl refl)) (λ elements.
      done_reads (Braces elements)))

abbrev pub of_marks : Bool → Bool → InitForm
of_marks a b = cond a SquareInit (cond b BracesInit PlainInit)

pub form_of_kind : (t : Lexeme) (kind : TokenKind) → t.kind ≡ kind → init_ahead (Some t) ≡ Some (of_marks (is_mark 91 kind) (is_mark 123 kind))
form_of_kind t kind k = ap (λ (j : TokenKind). Some (of_marks (is_mark 91 j) (is_mark 123 j))) k

pub form_begins : (E : spell.Spell Element) (ty : Ty) (form : InitForm) → Begins (init_form E ty form) (λ t. init_ahead (Some t) ≡ Some form)
form_begins E ty PlainInit = one_begins _ _ (plain_first ty _ (λ t k. form_of_kind t Number k) (λ t init h. form_of_kind t Word h.0) (λ t k. form_of_kind t Global k) (λ t k. form_of_kind t CText k))
form_begins E ty SquareInit = then_begins _ _ _ (one_begins _ _ (λ t line h. form_of_kind t (Mark 91) h.0))
form_begins E ty BracesInit = then_begins _ _ _ (one_begins _ _ (λ t line h. form_of_kind t (Mark 123) h.0))

pub init_in_reads : (depth : ℕ) (ty : Ty) → Reads (init_in_at depth ty) (init_in depth ty) Free
unfolding init_in_at
init_in_reads zero ty = one_reads _ _ (plain_tests ty)
init_in_reads (suc depth) ty =
    pick_reads init_ahead (init_at_form (element_at (init_in_at depth)) ty) (init_form (element_of (init_in depth)) ty) Free
    (form_reads depth (init_in_reads depth) ty) (form_begins (element_of (init_in depth)) ty) PlainInit

pub element_shrinks : (depth : ℕ) → Shrinks (element_at (init_in_at depth))
element_shrinks depth = shrinks_by _ _ Free _ (element_reads depth (init_in_reads depth)) (element_no_mark depth (init_in_reads depth) 93 refl refl)

pub init_reads : (ty : Ty) → Reads (init_at ty) (init_in nesting_limit ty) Free
unfolding init_at
init_reads ty = init_in_reads nesting_limit ty
