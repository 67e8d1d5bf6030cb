-- What a global holds, and whether the next one is begun behind it, is read as it is spelled.
use Rattle.std.proofs.Common.{◌≡◌, ℕ, List, [], ◌∷◌, ◌++◌, codes, Option, Some, None, Bool, true, false, cond, Ok, refl, sym, ap, ◌∙◌, inl, inr}
use Rattle.ir_core.specs.declared.types.Ty.{Ty}
use Rattle.ir_core.specs.declared.module.Init.{Init}
use Rattle.ir_core.specs.declared.module.Init.TheVariants.{Addr}
use Rattle.ir_core.specs.Tokens.{Lexeme, TokenKind, Word, Global, Number, CText, Mark}
use Rattle.ir_core.specs.Spell.{any, IsWordIn, IsMark, with_line, mark}
use Rattle.ir_core.specs.Spell as spell
use Rattle.ir_core.specs.Forms.{IsGlobal, begins_with_llvm}
use Rattle.ir_core.specs.Language.{IsPlainInit, InitForm, PlainInit, SquareInit, BracesInit, init_form, init_in, element_of}
use Rattle.read_forms.specs.Read.{head, goes, is_mark, is_word, is_global, at_mark}
use Rattle.read_forms.specs.Forms.{space_goes}
use Rattle.read_forms.proofs.Readers.{Reads, Free, Begins, Tests, one_reads, done_reads, then_reads, pick_reads, one_begins, then_begins, any_begins, reads_before}
use Rattle.read_forms.proofs.Many.{Stops}
use Rattle.read_forms.proofs.Choices.{either}
use Rattle.read_forms.proofs.TokenTests.{global_tests, lined_tests, table_only, no_word, no_word_spelled, not_spelled}
use Rattle.read_forms.proofs.Lists.{mark_reads}
use Rattle.read_forms.proofs.Laws.{made_reads}
use Rattle.read_items.specs.Inits.{init_words, plain_by, init_ahead}
use Rattle.read_items.specs.Globals.{Named, Contents, holding, address_at, next_begins_at, by_name_at, named_contents_at, other_by, as_other_init, inner_limit, other_init_at_form, other_contents_at, ContentsForm, NameFirst, OtherFirst, contents_at_form, contents_ahead, with_init_at, bare_at, init_starts_by, init_starts, init_goes, contents_at}
use Rattle.read_items.proofs.InitLaws.{found_by, plain_only, plain_first, form_of_kind, form_begins, form_reads, init_in_reads}
use Rattle.read_items.proofs.WordLaws.{Tail, Pieces, from_tail, tail_reads}
use Rattle.read_items.proofs.Otherwise.{else_reads, first_only, second_only}

-- ---- what stands behind commas begins with a comma, or is nothing

abbrev pub NoComma : (Option Lexeme → Bool) → Type 0
NoComma q = (t : Lexeme) → t.kind ≡ Mark 44 → q (Some t) ≡ false

pub tail_stops : (q : Option Lexeme → Bool) → NoComma q → (front rest : List Lexeme) (n : ℕ) → Tail front n → q (head rest) ≡ false → q (head (front ++ rest)) ≡ false
tail_stops q bars front rest n s h = by_pieces (from_tail front n s)
  where
    by_pieces : Pieces front n → q (head (front ++ rest)) ≡ false
    by_pieces (inl p) = ap (λ (l : List Lexeme). q (head (l ++ rest))) p.0 ∙ h
    by_pieces (inr p) = ap (λ (l : List Lexeme). q (head (l ++ rest))) (p.5 ∙ ap (λ (l : List Lexeme). l ++ p.2) p.3.2) ∙ bars p.3.0 p.3.1.0

-- ---- rests

abbrev pub Weak : List Lexeme → Type 0
Weak ts = Stops (at_mark 44) ts × Stops (at_mark 61) ts

abbrev pub Strong : List Lexeme → Type 0
Strong ts = Stops (at_mark 44) ts × Stops (at_mark 61) ts × Stops init_goes ts × Stops space_goes ts

-- ---- a name first

abbrev pub Address : Named → List Lexeme → Contents → Type 0
Address x = spell.◌>>=◌ Tail (λ align. spell.done (holding (Some (Addr x.0)) align))

abbrev pub NextBegins : Named → List Lexeme → Contents → Type 0
NextBegins x = spell.◌>>=◌ (mark 61) (λ equals. spell.done (record { init = None; align = 0; next = Some x }))

address_reads : (x : Named) → Reads (address_at x) (Address x) (Stops (at_mark 44))
unfolding address_at
address_reads x = made_reads (λ align. holding (Some (Addr x.0)) align) tail_reads

next_begins_reads : (x : Named) → Reads (next_begins_at x) (NextBegins x) Free
unfolding next_begins_at
next_begins_reads x = then_reads (mark_reads 61) (λ equals. done_reads (record { init = None; align = 0; next = Some x }))

-- a value made of a tail
made_stops : (q : Option Lexeme → Bool) → NoComma q → (make : ℕ → Contents) (front rest : List Lexeme) (c : Contents) → spell.◌>>=◌ Tail (λ align. spell.done (make align)) front c → q (head rest) ≡ false → q (head (front ++ rest)) ≡ false
made_stops q bars make front rest c s h =
    ap (λ (l : List Lexeme). q (head (l ++ rest))) (s.5 ∙ ap (λ (l : List Lexeme). s.1 ++ l) s.4.0)
    ∙ ap (λ (l : List Lexeme). q (head l)) (append_nil_behind s.1 rest)
    ∙ tail_stops q bars s.1 rest s.0 s.3 h
  where
    append_nil_behind : (a b : List Lexeme) → (a ++ []) ++ b ≡ a ++ b
    append_nil_behind [] b = refl
    append_nil_behind (t ∷ ts) b = ap (λ (l : List Lexeme). t ∷ l) (append_nil_behind ts b)

no_comma_mark : (m : ℕ) → is_mark m (Mark 44) ≡ false → NoComma (at_mark m)
no_comma_mark m e t k = ap (is_mark m) k ∙ e

abbrev pub ByName : Named → Bool → List Lexeme → Contents → Type 0
ByName x true = Address x
ByName x false = either (NextBegins x) (Address x)

by_name_reads : (x : Named) (b : Bool) → Reads (by_name_at x b) (ByName x b) Weak
by_name_reads x true = reads_before Weak (λ ts h. h.0) (address_reads x)
by_name_reads x false =
    else_reads (at_mark 61) (next_begins_at x) (address_at x) (NextBegins x) (Address x) Weak (reads_before Weak (λ ts h. tt) (next_begins_reads x)) (reads_before Weak (λ ts h. h.0) (address_reads x))
    (then_begins _ _ _ (one_begins _ _ (λ t line h. ap (is_mark 61) h.0)))
    (λ front rest c s w. made_stops (at_mark 61) (no_comma_mark 61 refl) (λ align. holding (Some (Addr x.0)) align) front rest c s w.1)

abbrev pub NamedContents : List Lexeme → Contents → Type 0
NamedContents = spell.◌>>=◌ (spell.one (with_line IsGlobal)) (λ x. ByName x (begins_with_llvm x.0))

named_contents_reads : Reads named_contents_at NamedContents Weak
unfolding named_contents_at
named_contents_reads = then_reads (one_reads _ _ (lined_tests _ _ global_tests)) (λ x. by_name_reads x (begins_with_llvm x.0))

-- ---- another initializer first

abbrev pub IsOtherInit : Ty → Lexeme → Init → Type 0
IsOtherInit ty t init = IsPlainInit ty t init × (t.kind ≡ Global → ⊥)

not_global : (t : Lexeme) (kind : TokenKind) → t.kind ≡ kind → (kind ≡ Global → ⊥) → t.kind ≡ Global → ⊥
not_global t kind k bars g = bars (sym k ∙ g)

other_found : (ty : Ty) (t : Lexeme) (init : Init) (kind : TokenKind) → t.kind ≡ kind → other_by ty t.bytes kind ≡ Some init → IsOtherInit ty t init
other_found ty t init Number k e = (found_by ty t init Number k e, not_global t Number k (λ g. let f : ⊥ = cc in f))
other_found ty t init Word k e = (found_by ty t init Word k e, not_global t Word k (λ g. let f : ⊥ = cc in f))
other_found ty t init CText k e = (found_by ty t init CText k e, not_global t CText k (λ g. let f : ⊥ = cc in f))
other_found ty t init Global k e = absurd (let f : ◌≡◌ {A = Option Init} None (Some init) = e in cc)
other_found ty t init _ k e = absurd (let f : ◌≡◌ {A = Option Init} None (Some init) = e in cc)

other_is : (ty : Ty) (t : Lexeme) (kind : TokenKind) → t.kind ≡ kind → (kind ≡ Global → ⊥) → other_by ty t.bytes kind ≡ plain_by ty t.bytes kind
other_is ty t Global k bars = absurd (bars refl)
other_is ty t _ k bars = refl

other_tests : (ty : Ty) → Tests (as_other_init ty) (IsOtherInit ty)
other_tests ty = record {
  found = λ t init e. other_found ty t init t.kind refl e;
  only = λ t init h. other_is ty t t.kind refl h.1 ∙ plain_only ty t init h.0;
  some = record { kind = CText; bytes = []; line = 0 };
  value = _;
  holds = (inr (inr (inr (inr (refl, refl)))), λ g. let f : ⊥ = cc in f);
}

abbrev pub OtherForm : Ty → InitForm → List Lexeme → Init → Type 0
OtherForm ty PlainInit = spell.one (IsOtherInit ty)
OtherForm ty SquareInit = init_form (element_of (init_in inner_limit)) ty SquareInit
OtherForm ty BracesInit = init_form (element_of (init_in inner_limit)) ty BracesInit

other_form_reads : (ty : Ty) (form : InitForm) → Reads (other_init_at_form ty form) (OtherForm ty form) Free
other_form_reads ty PlainInit = one_reads _ _ (other_tests ty)
other_form_reads ty SquareInit = form_reads inner_limit (init_in_reads inner_limit) ty SquareInit
other_form_reads ty BracesInit = form_reads inner_limit (init_in_reads inner_limit) ty BracesInit

-- what another initializer begins with
module _ (P : Lexeme → Type 0) (number : (t : Lexeme) → t.kind ≡ Number → P t) (word : (t : Lexeme) (init : Init) → IsWordIn init_words t init → P t) (text : (t : Lexeme) → t.kind ≡ CText → P t) (square : (t : Lexeme) → t.kind ≡ Mark 91 → P t) (brace : (t : Lexeme) → t.kind ≡ Mark 123 → P t) where
  other_form_first : (ty : Ty) (form : InitForm) → Begins (OtherForm ty form) P
  other_form_first ty PlainInit = one_begins _ _ (λ t init h. plain_first ty (λ u. (u.kind ≡ Global → ⊥) → P u) (λ u k bars. number u k) (λ u i w bars. word u i w) (λ u k bars. absurd (bars k)) (λ u k bars. text u k) t init h.0 h.1)
  other_form_first ty SquareInit = then_begins _ _ _ (one_begins _ _ (λ t line h. square t h.0))
  other_form_first ty BracesInit = then_begins _ _ _ (one_begins _ _ (λ t line h. brace t h.0))

  pub other_first : (ty : Ty) → Begins (any (OtherForm ty)) P
  other_first ty = any_begins (OtherForm ty) P (other_form_first ty)

other_form_begins : (ty : Ty) (form : InitForm) → Begins (OtherForm ty form) (λ t. init_ahead (Some t) ≡ Some form)
other_form_begins ty PlainInit = one_begins _ _ (λ t init h. plain_first ty (λ u. init_ahead (Some u) ≡ Some PlainInit) (λ u k. form_of_kind u Number k) (λ u i w. form_of_kind u Word w.0) (λ u k. form_of_kind u Global k) (λ u k. form_of_kind u CText k) t init h.0)
other_form_begins ty SquareInit = form_begins (element_of (init_in inner_limit)) ty SquareInit
other_form_begins ty BracesInit = form_begins (element_of (init_in inner_limit)) ty BracesInit

abbrev pub OtherContents : Ty → List Lexeme → Contents → Type 0
OtherContents ty = spell.◌>>=◌ (any (OtherForm ty)) (λ init. spell.◌>>=◌ Tail (λ align. spell.done (holding (Some init) align)))

other_contents_reads : (ty : Ty) → Reads (other_contents_at ty) (OtherContents ty) Weak
unfolding other_contents_at
other_contents_reads ty =
    reads_before Weak (λ ts h. h.0) (then_reads (pick_reads init_ahead (other_init_at_form ty) (OtherForm ty) Free (other_form_reads ty) (other_form_begins ty) PlainInit) (λ init. made_reads (λ align. holding (Some init) align) tail_reads))

-- ---- contents

abbrev pub WithForm : Ty → ContentsForm → List Lexeme → Contents → Type 0
WithForm ty NameFirst = NamedContents
WithForm ty OtherFirst = OtherContents ty

with_form_reads : (ty : Ty) (form : ContentsForm) → Reads (contents_at_form ty form) (WithForm ty form) Weak
with_form_reads ty NameFirst = named_contents_reads
with_form_reads ty OtherFirst = other_contents_reads ty

by_global : (t : Lexeme) (kind : TokenKind) → t.kind ≡ kind → contents_ahead (Some t) ≡ Some (cond (is_global kind) NameFirst OtherFirst)
by_global t kind k = ap (λ (j : TokenKind). Some (cond (is_global j) NameFirst OtherFirst)) k

with_form_begins : (ty : Ty) (form : ContentsForm) → Begins (WithForm ty form) (λ t. contents_ahead (Some t) ≡ Some form)
with_form_begins ty NameFirst = then_begins _ _ _ (one_begins _ _ (λ t x h. by_global t Global h.0.0))
with_form_begins ty OtherFirst = then_begins _ _ _ (other_first _ (λ t k. by_global t Number k) (λ t init h. by_global t Word h.0) (λ t k. by_global t CText k) (λ t k. by_global t (Mark 91) k) (λ t k. by_global t (Mark 123) k) ty)

abbrev pub WithInit : Ty → List Lexeme → Contents → Type 0
WithInit ty = any (WithForm ty)

pub with_init_reads : (ty : Ty) → Reads (with_init_at ty) (WithInit ty) Weak
with_init_reads ty = pick_reads contents_ahead (contents_at_form ty) (WithForm ty) Weak (with_form_reads ty) (with_form_begins ty) NameFirst

abbrev pub Bare : List Lexeme → Contents → Type 0
Bare = spell.◌>>=◌ Tail (λ align. spell.done (holding None align))

pub bare_reads : Reads bare_at Bare (Stops (at_mark 44))
unfolding bare_at
bare_reads = made_reads (λ align. holding None align) tail_reads

-- a token of a kind that isn't a word starts an initializer by its kind
pub by_kind_starts : (t : Lexeme) (kind : TokenKind) → t.kind ≡ kind → is_word kind ≡ false → init_starts t ≡ init_starts_by kind t.bytes
by_kind_starts t kind k w = ap (λ (o : Option Init). cond (goes o) true (init_starts_by t.kind t.bytes)) (no_word init_words t kind k w) ∙ ap (λ (j : TokenKind). init_starts_by j t.bytes) k

word_starts : (t : Lexeme) (init : Init) → IsWordIn init_words t init → init_starts t ≡ true
word_starts t init h = ap (λ (o : Option Init). cond (goes o) true (init_starts_by t.kind t.bytes)) (table_only init_words refl t init h)

with_init_starts : (ty : Ty) (form : ContentsForm) → Begins (WithForm ty form) (λ t. init_goes (Some t) ≡ true)
with_init_starts ty NameFirst = then_begins _ _ _ (one_begins _ _ (λ t x h. by_kind_starts t Global h.0.0 refl))
with_init_starts ty OtherFirst = then_begins _ _ _ (other_first _ (λ t k. by_kind_starts t Number k refl) word_starts (λ t k. by_kind_starts t CText k refl) (λ t k. by_kind_starts t (Mark 91) k refl) (λ t k. by_kind_starts t (Mark 123) k refl) ty)

pub with_init_first : (ty : Ty) → Begins (WithInit ty) (λ t. init_goes (Some t) ≡ true)
with_init_first ty = any_begins (WithForm ty) _ (with_init_starts ty)

pub comma_starts_none : NoComma init_goes
comma_starts_none t k = by_kind_starts t (Mark 44) k refl

pub bare_stops : (q : Option Lexeme → Bool) → NoComma q → (front rest : List Lexeme) (c : Contents) → Bare front c → q (head rest) ≡ false → q (head (front ++ rest)) ≡ false
bare_stops q bars front rest c s h = made_stops q bars (λ align. holding None align) front rest c s h

abbrev pub HoldsOf : Ty → List Lexeme → Contents → Type 0
HoldsOf ty = either (WithInit ty) Bare

pub contents_reads : (ty : Ty) → Reads (contents_at ty) (HoldsOf ty) Strong
contents_reads ty =
    else_reads init_goes (with_init_at ty) bare_at (WithInit ty) Bare Strong (reads_before Strong (λ ts h. (h.0, h.1)) (with_init_reads ty)) (reads_before Strong (λ ts h. h.0) bare_reads) (with_init_first ty)
    (λ front rest c s w. bare_stops init_goes comma_starts_none front rest c s w.2)

-- contents with an initializer, whatever follows but a comma or =
pub with_init_only : (ty : Ty) (front rest : List Lexeme) (c : Contents) → WithInit ty front c → Weak rest → contents_at ty (front ++ rest) ≡ Ok (c, rest)
with_init_only ty front rest c s w = first_only init_goes (with_init_at ty) bare_at (WithInit ty) Bare Strong (reads_before Strong (λ ts h. (h.0, h.1)) (with_init_reads ty)) (reads_before Strong (λ ts h. h.0) bare_reads) (with_init_first ty) (λ f r d t v. bare_stops init_goes comma_starts_none f r d t v.2) Weak (with_init_reads ty) front rest c s w

-- bare contents, where no initializer could begin
pub bare_only : (ty : Ty) (front rest : List Lexeme) (c : Contents) → Bare front c → Stops (at_mark 44) rest → init_goes (head (front ++ rest)) ≡ false → contents_at ty (front ++ rest) ≡ Ok (c, rest)
bare_only ty front rest c s w h = second_only init_goes (with_init_at ty) bare_at (WithInit ty) Bare Strong (reads_before Strong (λ ts h. (h.0, h.1)) (with_init_reads ty)) (reads_before Strong (λ ts h. h.0) bare_reads) (with_init_first ty) (λ f r d t v. bare_stops init_goes comma_starts_none f r d t v.2) (Stops (at_mark 44)) bare_reads front rest c s w h

-- no initializer begins with addrspace
with_init_no_space : (ty : Ty) (form : ContentsForm) → Begins (WithForm ty form) (λ t. space_goes (Some t) ≡ false)
with_init_no_space ty NameFirst = then_begins _ _ _ (one_begins _ _ (λ t x h. no_word_spelled (codes "addrspace") t Global h.0.0 refl))
with_init_no_space ty OtherFirst =
    then_begins _ _ _ (other_first _ (λ t k. no_word_spelled (codes "addrspace") t Number k refl) (λ t init h. not_spelled init_words (codes "addrspace") refl t init h)
    (λ t k. no_word_spelled (codes "addrspace") t CText k refl) (λ t k. no_word_spelled (codes "addrspace") t (Mark 91) k refl) (λ t k. no_word_spelled (codes "addrspace") t (Mark 123) k refl) ty)

pub holds_no_space : (ty : Ty) (front rest : List Lexeme) (c : Contents) → HoldsOf ty front c → Stops space_goes rest → Stops space_goes (front ++ rest)
holds_no_space ty front rest c (inl s) h = let u = any_begins (WithForm ty) _ (with_init_no_space ty) front c s in ap (λ (l : List Lexeme). space_goes (head (l ++ rest))) u.3 ∙ u.2
holds_no_space ty front rest c (inr s) h = bare_stops space_goes (λ t k. no_word_spelled (codes "addrspace") t (Mark 44) k refl) front rest c s h
