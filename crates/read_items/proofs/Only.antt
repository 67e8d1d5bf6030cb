-- Whatever spells items is read as these items.
use Rattle.std.proofs.Common.{◌≡◌, ℕ, List, [], ◌∷◌, ◌++◌, codes, Option, Some, None, Bool, true, false, Result, Ok, Err, refl, sym, ap, ◌∙◌, ◌⊎◌, inl, inr, append_assoc}
use Rattle.std.proofs.lemmas.List.{append-nil}
use Rattle.ir_core.specs.declared.types.Ty.{Ty}
use Rattle.ir_core.specs.declared.module.Global.{Global as GlobalItem}
use Rattle.ir_core.specs.Tokens.{Lexeme, Word, Global}
use Rattle.ir_core.specs.Spell.{any, many, one, IsWordIn, IsMark, with_line, mark}
use Rattle.ir_core.specs.Spell as spell
use Rattle.ir_core.specs.Forms.{IsItemName, type_, begins_with_llvm}
use Rattle.ir_core.specs.Language.{IsItemWord, kept_words, constness, global_of, Item, TypeItem, VariableItem, FunctionItem, LineItem, IsPassiveLine, item, type_def, definition, declaration}
use Rattle.read_forms.specs.Read.{Read, then_read, ◌>>=◌, done, made, head, one_at, as_mark, with_line_of, as_table, by_form, goes, at_mark, is_mark}
use Rattle.read_forms.specs.Forms.{type_at, space_goes}
use Rattle.read_forms.proofs.Readers.{Reads, Free, one_reads, ok_not_err}
use Rattle.read_forms.proofs.Many.{Stops}
use Rattle.read_forms.proofs.TokenTests.{lined_tests, mark_tests, no_word_spelled}
use Rattle.read_forms.proofs.Laws.{made_reads, type_reads}
use Rattle.read_items.specs.Linked.{link_goes, linked_at}
use Rattle.read_items.specs.Globals.{item_word_goes, Named, Contents, holding, init_goes, contents_at, NameFirst, global_item, global_at}
use Rattle.read_items.specs.Items.{as_item_name, ItemForm, TypeForm, VariableForm, DefinitionForm, DeclarationForm, LineForm, item_ahead, item_goes, begun_at, type_item_at, definition_item_at, declaration_item_at, line_item_at, variable_item_at, item_at_form, item_at, items_at}
use Rattle.read_items.proofs.Linked.{linked_step, linked_stops, linked_fails, put}
use Rattle.read_items.proofs.WordLaws.{kept_words_reads, Tail, Pieces, from_tail}
use Rattle.read_items.proofs.Contents.{Weak, ByName, Bare, HoldsOf, WithInit, with_init_only, bare_only, holds_no_space, comma_starts_none}
use Rattle.read_items.proofs.GlobalLaws.{constness_reads, constness_no_word, type_def_reads}
use Rattle.read_items.proofs.Modules.{HoldsInit, HoldsNone, split_end}
use Rattle.read_items.proofs.ItemLaws.{Next, ItemOf, item_begins, variable_ahead, item_name_tests, line_tests}
use Rattle.read_items.proofs.FunctionLaws.{Behind}
use Rattle.read_items.proofs.Definitions.{definition_reads, declaration_reads}
use Rattle.read_items.proofs.Spelled.{step_shrinks}
use Rattle.read_items.proofs.Rests.{weak_rest, space_rest, behind_rest, type_starts_none, function_starts_none, line_starts_none}

-- ---- a global, by what its contents are

abbrev ended : Named → List (List ℕ) → Bool → Ty → Contents → Read (GlobalItem × Option Named)
ended name words constant ty c = done (global_item name words constant ty c, c.next)

abbrev typed_end : Named → List (List ℕ) → Bool → Read (GlobalItem × Option Named)
typed_end name words constant = type_at >>= λ ty. contents_at ty >>= λ c. ended name words constant ty c

abbrev worded_end : Named → List (List ℕ) → Read (GlobalItem × Option Named)
worded_end name words = one_at (as_table constness) >>= λ constant. typed_end name words constant

global_at_only : (name : Named) (words : List (List ℕ)) (constant : Bool) (ty : Ty) (c : Contents) (f0 f1 f2 more after : List Lexeme) → kept_words f0 words → one (IsWordIn constness) f1 constant → type_ f2 ty → Stops space_goes more → contents_at ty more ≡ Ok (c, after) → global_at name (f0 ++ (f1 ++ (f2 ++ more))) ≡ Ok ((global_item name words constant ty c, c.next), after)
unfolding global_at
global_at_only name words constant ty c f0 f1 f2 more after W (t, h, k) T s e =
    ap (λ (r : Result (List (List ℕ) × List Lexeme) ℕ). then_read r (worded_end name)) (kept_words_reads.only f0 (f1 ++ (f2 ++ more)) words W (ap (λ (l : List Lexeme). item_word_goes (head (l ++ (f2 ++ more)))) k ∙ constness_no_word t constant h))
    ∙ ap (λ (r : Result (Bool × List Lexeme) ℕ). then_read r (typed_end name words)) (constness_reads.only f1 (f2 ++ more) constant (t, h, k) tt)
    ∙ ap (λ (r : Result (Ty × List Lexeme) ℕ). then_read r (λ ty. contents_at ty >>= λ c. ended name words constant ty c)) (type_reads.only f2 more ty T s)
    ∙ ap (λ (r : Result (Contents × List Lexeme) ℕ). then_read r (ended name words constant ty)) e

abbrev BegunOk : Named → List Lexeme → Item → Option Named → List Lexeme → Type 0
BegunOk name ts v b rest = begun_at name ts ≡ Ok ((v, b), rest)

begun_only : (name : Named) (ts rest : List Lexeme) (g : GlobalItem × Option Named) → global_at name ts ≡ Ok (g, rest) → BegunOk name ts (VariableItem g.0) g.1 rest
unfolding begun_at
begun_only name ts rest g e = ap (λ (r : Result ((GlobalItem × Option Named) × List Lexeme) ℕ). then_read r (λ g. done (VariableItem g.0, g.1))) e

-- ---- what a begun global goes on with

-- what stands behind the = of a global begins with a word
abbrev WordFirst : List Lexeme → Type 0
WordFirst ts = (t : Lexeme) × (more : List Lexeme) × (t.kind ≡ Word) × (ts ≡ t ∷ more)

word_first : (f r : List Lexeme) → ((t : Lexeme) (more : List Lexeme) → f ≡ t ∷ more → t.kind ≡ Word) → WordFirst r → WordFirst (f ++ r)
word_first [] r h w = w
word_first (t ∷ ts) r h w = (t, ts ++ r, h t ts refl, refl)

item_word_kind : (t : Lexeme) (ws : List (List ℕ)) → IsItemWord t ws → t.kind ≡ Word
item_word_kind t ws (inl h) = h.0.0
item_word_kind t ws (inr h) = h.0.0

many_words : (xs : List (List (List ℕ))) (f : List Lexeme) → many (one IsItemWord) f xs → (t : Lexeme) (more : List Lexeme) → f ≡ t ∷ more → t.kind ≡ Word
many_words [] f s t more e = let z : ◌≡◌ {A = List Lexeme} [] (t ∷ more) = sym s ∙ e in absurd (cc)
many_words (x ∷ xs) f (front, rest, (u, h, k), s, q) t more e =
    let same : u ≡ t = (let z : ◌≡◌ {A = List Lexeme} (u ∷ rest) (t ∷ more) = sym (q ∙ ap (λ (l : List Lexeme). l ++ rest) k) ∙ e in cc) in
    sym (ap (λ (v : Lexeme). v.kind) same) ∙ item_word_kind u x h

begun_word : (name : Named) (ts : List Lexeme) (g : GlobalItem) → global_of name ts g → WordFirst ts
begun_word name ts g (words, f, r, (xs, a, z, m, (end, v), k), (constant, f1, r1, (t, h, e1), s, e2), e) =
    let u = word_first f r (λ t more q. many_words xs a m t more (sym (k ∙ ap (λ (l : List Lexeme). a ++ l) end ∙ append-nil a) ∙ q)) (t, r1, h.0, e2 ∙ ap (λ (l : List Lexeme). l ++ r1) e1) in
    (u.0, u.1, u.2, e ∙ u.3)

weak_word : (ts rest : List Lexeme) → WordFirst ts → Weak (ts ++ rest)
weak_word ts rest (t, more, k, e) = (ap (λ (l : List Lexeme). at_mark 44 (head (l ++ rest))) e ∙ ap (is_mark 44) k, ap (λ (l : List Lexeme). at_mark 61 (head (l ++ rest))) e ∙ ap (is_mark 61) k)

-- ---- an item by its form

form_only : (form : ItemForm) (F : List Lexeme → Type 0) → Reads (item_at_form form) (ItemOf form) F → (front rest : List Lexeme) (n : Next) → ItemOf form front n → F rest → item_at None (front ++ rest) ≡ Ok (n, rest)
form_only form F r front rest n s w =
    let u = item_begins form front n s in
    ap (λ (o : Option ItemForm). by_form item_at_form o (front ++ rest)) (ap (λ (l : List Lexeme). item_ahead (head (l ++ rest))) u.3 ∙ u.2) ∙ r.only front rest n s w

goes_first : (form : ItemForm) (front rest : List Lexeme) (n : Next) → ItemOf form front n → item_goes (head (front ++ rest)) ≡ true
goes_first form front rest n s = let u = item_begins form front n s in ap (λ (l : List Lexeme). item_goes (head (l ++ rest))) u.3 ∙ ap goes u.2

type_item_reads : Reads (item_at_form TypeForm) (ItemOf TypeForm) (Stops space_goes)
unfolding type_item_at
type_item_reads = made_reads (λ d. (TypeItem d, None)) type_def_reads

definition_item_reads : Reads (item_at_form DefinitionForm) (ItemOf DefinitionForm) Free
unfolding definition_item_at
definition_item_reads = made_reads (λ f. (FunctionItem f, None)) definition_reads

declaration_item_reads : Reads (item_at_form DeclarationForm) (ItemOf DeclarationForm) Behind
unfolding declaration_item_at
declaration_item_reads = made_reads (λ f. (FunctionItem f, None)) declaration_reads

line_item_reads : Reads (item_at_form LineForm) (ItemOf LineForm) Free
unfolding line_item_at
line_item_reads = made_reads (λ line. (LineItem line, None)) (one_reads _ _ line_tests)

made_item : {X : Type 0} (S : List Lexeme → X → Type 0) (make : X → Item) (front : List Lexeme) (x : X) → S front x → spell.◌>>=◌ {Y = Next} S (λ x. spell.done (make x, None)) front (make x, None)
made_item S make front x s = (x, front, [], s, (refl, refl), sym (append-nil front))

-- ---- one item, and then the others

abbrev reads_all : Option Named → Read (List Item)
reads_all = linked_at item_goes item_at

abbrev Only : List Item → Type 0
Only xs = (ts : List Lexeme) → many item ts xs → reads_all None ts ≡ Ok (xs, [])

abbrev Pending : List Item → Type 0
Pending xs = (name : Named) (front rest : List Lexeme) (g : GlobalItem) → global_of name front g → many item rest xs → reads_all (Some name) (front ++ rest) ≡ Ok (VariableItem g ∷ xs, [])

one_then : (a b : Option Named) (ts rest : List Lexeme) (x : Item) (xs : List Item) → link_goes item_goes a (head ts) ≡ true → item_at a ts ≡ Ok ((x, b), rest) → reads_all b rest ≡ Ok (xs, []) → reads_all a ts ≡ Ok (x ∷ xs, [])
one_then a b ts rest x xs g e h = linked_step item_goes item_at step_shrinks a b ts x rest g e ∙ ap (put x) h

form_then : (form : ItemForm) (F : List Lexeme → Type 0) → Reads (item_at_form form) (ItemOf form) F → (front rest : List Lexeme) (x : Item) (xs : List Item) → ItemOf form front (x, None) → F rest → reads_all None rest ≡ Ok (xs, []) → reads_all None (front ++ rest) ≡ Ok (x ∷ xs, [])
form_then form F r front rest x xs s w h = one_then None None (front ++ rest) rest x xs (goes_first form front rest (x, None) s) (form_only form F r front rest (x, None) s w) h

-- ---- a global that is begun

module _ (xs : List Item) (only : Only xs) (name : Named) (words : List (List ℕ)) (constant : Bool) (ty : Ty) (f0 f1 f2 : List Lexeme) (W : kept_words f0 words) (C : one (IsWordIn constness) f1 constant) (T : type_ f2 ty) (r2 rest : List Lexeme) (M : many item rest xs) where
  abbrev all : List Lexeme
  all = f0 ++ (f1 ++ (f2 ++ (r2 ++ rest)))

  -- with contents that are ended
  ended_then : (c : Contents) → c.next ≡ None → HoldsOf ty r2 c → contents_at ty (r2 ++ rest) ≡ Ok (c, rest) → reads_all (Some name) all ≡ Ok (VariableItem (global_item name words constant ty c) ∷ xs, [])
  ended_then c n s e =
      let space = holds_no_space ty r2 rest c s (space_rest rest xs M) in
      let read = begun_only name all rest (global_item name words constant ty c, c.next) (global_at_only name words constant ty c f0 f1 f2 (r2 ++ rest) rest W C T space e) in
      one_then (Some name) c.next all rest (VariableItem (global_item name words constant ty c)) xs refl read (ap (λ (a : Option Named). reads_all a rest) n ∙ only rest M)

  -- with an initializer
  init_then : (c : Contents) → c.next ≡ None → WithInit ty r2 c → reads_all (Some name) all ≡ Ok (VariableItem (global_item name words constant ty c) ∷ xs, [])
  init_then c n s = ended_then c n (inl s) (with_init_only ty r2 rest c s (weak_rest rest xs M))

  -- without one, where none could begin
  bare_then : (align : ℕ) → Tail r2 align → init_goes (head (r2 ++ rest)) ≡ false → reads_all (Some name) all ≡ Ok (VariableItem (global_item name words constant ty (holding None align)) ∷ xs, [])
  bare_then align s h =
      let bare : Bare r2 (holding None align) = (align, r2, [], s, (refl, refl), sym (append-nil r2)) in
      ended_then (holding None align) refl (inr bare) (bare_only ty r2 rest (holding None align) bare ((weak_rest rest xs M).0) h)

four_and : (a b c d rest : List Lexeme) → (a ++ (b ++ (c ++ d))) ++ rest ≡ a ++ (b ++ (c ++ (d ++ rest)))
four_and a b c d rest = append_assoc a (b ++ (c ++ d)) rest ∙ ap (λ (l : List Lexeme). a ++ l) (append_assoc b (c ++ d) rest ∙ ap (λ (l : List Lexeme). b ++ l) (append_assoc c d rest))

-- the one thing that is left: nothing behind the type, and a global behind that
abbrev Chained : List Item → Type 0
Chained xs = (name : Named) (words : List (List ℕ)) (constant : Bool) (ty : Ty) (f0 f1 f2 rest : List Lexeme) → kept_words f0 words → one (IsWordIn constness) f1 constant → type_ f2 ty → many item rest xs → reads_all (Some name) (f0 ++ (f1 ++ (f2 ++ rest))) ≡ Ok (VariableItem (global_item name words constant ty (holding None 0)) ∷ xs, [])

pending_by : (xs : List Item) → Only xs → Chained xs → Pending xs
pending_by xs only chained name front rest g (words, f0, q0, W, (constant, f1, q1, C, (ty, f2, r2, T, E, e2), e1), e0) M = by_end (split_end name words constant ty r2 g E)
  where
    whole : front ++ rest ≡ f0 ++ (f1 ++ (f2 ++ (r2 ++ rest)))
    whole = ap (λ (l : List Lexeme). l ++ rest) (e0 ∙ ap (λ (l : List Lexeme). f0 ++ l) (e1 ∙ ap (λ (l : List Lexeme). f1 ++ l) e2)) ∙ four_and f0 f1 f2 r2 rest

    told : (h : GlobalItem) → g ≡ h → reads_all (Some name) (f0 ++ (f1 ++ (f2 ++ (r2 ++ rest)))) ≡ Ok (VariableItem h ∷ xs, []) → reads_all (Some name) (front ++ rest) ≡ Ok (VariableItem g ∷ xs, [])
    told h v k = ap (reads_all (Some name)) whole ∙ k ∙ ap (λ (i : GlobalItem). Ok (VariableItem i ∷ xs, [])) (sym v)

    by_tail : (align : ℕ) → Tail r2 align → g ≡ global_item name words constant ty (holding None align) → Pieces r2 align → reads_all (Some name) (front ++ rest) ≡ Ok (VariableItem g ∷ xs, [])
    by_tail align s v (inl p) = told (global_item name words constant ty (holding None 0)) (v ∙ ap (λ (n : ℕ). global_item name words constant ty (holding None n)) p.1) (ap (λ (l : List Lexeme). reads_all (Some name) (f0 ++ (f1 ++ (f2 ++ (l ++ rest))))) p.0 ∙ chained name words constant ty f0 f1 f2 rest W C T M)
    by_tail align s v (inr p) =
        told (global_item name words constant ty (holding None align)) v (bare_then xs only name words constant ty f0 f1 f2 W C T r2 rest M align s (ap (λ (l : List Lexeme). init_goes (head (l ++ rest))) (p.5 ∙ ap (λ (l : List Lexeme). l ++ p.2) p.3.2) ∙ comma_starts_none p.3.0 p.3.1.0))

    by_end : HoldsInit name words constant ty r2 g ⊎ HoldsNone name words constant ty r2 g → reads_all (Some name) (front ++ rest) ≡ Ok (VariableItem g ∷ xs, [])
    by_end (inl (c, n, s, v)) = told (global_item name words constant ty c) v (init_then xs only name words constant ty f0 f1 f2 W C T r2 rest M c n s)
    by_end (inr (align, s, v)) = by_tail align s v (from_tail r2 align s)

-- where no initializer begins behind it
chained_none : (xs : List Item) → Only xs → ((rest : List Lexeme) → many item rest xs → init_goes (head rest) ≡ false) → Chained xs
chained_none xs only none name words constant ty f0 f1 f2 rest W C T M = bare_then xs only name words constant ty f0 f1 f2 W C T [] rest M 0 empty_tail (none rest M)
  where
    empty_tail : Tail [] 0
    empty_tail = (tt, [], [], inl (refl, refl), (tt, [], [], inl (refl, refl), inl (refl, refl), refl), refl)

-- where the next global is begun
chained_next : (g : GlobalItem) (xs : List Item) → Pending xs → Chained (VariableItem g ∷ xs)
chained_next g xs pending name words constant ty f0 f1 f2 ts W C T (front, rest, (next, f, r, (t, h, k), (line, f', r', (u, m, k'), G, e2), e1), M, e) =
    ap (λ (l : List Lexeme). reads_all (Some name) (f0 ++ (f1 ++ (f2 ++ l)))) whole ∙ one_then (Some name) (Some next) all more (VariableItem (global_item name words constant ty begun)) (VariableItem g ∷ xs) refl read (pending next r' rest g G M)
  where
    more : List Lexeme
    more = r' ++ rest

    begun : Contents
    begun = record { init = None; align = 0; next = Some next }

    all : List Lexeme
    all = f0 ++ (f1 ++ (f2 ++ (t ∷ u ∷ (r' ++ rest))))

    whole : ts ≡ t ∷ u ∷ (r' ++ rest)
    whole = e ∙ ap (λ (l : List Lexeme). l ++ rest) (e1 ∙ ap (λ (l : List Lexeme). l ++ r) k ∙ ap (λ (l : List Lexeme). t ∷ l) (e2 ∙ ap (λ (l : List Lexeme). l ++ r') k'))

    spelled : WithInit ty (t ∷ u ∷ []) (record { init = None; align = 0; next = Some next })
    spelled = (NameFirst, (next, t ∷ [], u ∷ [], (t, (h.0.0, h.1), refl), begins_by (begins_with_llvm next.0) h.0.1, refl))
      where
        begins_by : (b : Bool) → b ≡ false → ByName next b (u ∷ []) (record { init = None; align = 0; next = Some next })
        begins_by true q = let z : true ≡ false = q in absurd (cc)
        begins_by false q = inl (line, u ∷ [], [], (u, m, refl), (refl, refl), refl)

    held : contents_at ty (t ∷ u ∷ (r' ++ rest)) ≡ Ok (record { init = None; align = 0; next = Some next }, r' ++ rest)
    held = with_init_only ty (t ∷ u ∷ []) (r' ++ rest) (record { init = None; align = 0; next = Some next }) spelled (weak_word r' rest (begun_word next r' g G))

    read : begun_at name all ≡ Ok ((VariableItem (global_item name words constant ty begun), Some next), more)
    read = begun_only name all more (global_item name words constant ty begun, Some next) (global_at_only name words constant ty begun f0 f1 f2 (t ∷ u ∷ (r' ++ rest)) more W C T (no_word_spelled (codes "addrspace") t Global h.0.0.0 refl) held)

-- ---- a global from its name on

name_only : (t : Lexeme) (name : Named) → with_line IsItemName t name → with_line_of as_item_name t ≡ Some name
name_only t name h = (lined_tests as_item_name IsItemName item_name_tests).only t name h

variable_is : (t u : Lexeme) (line : ℕ) (name : Named) (ts : List Lexeme) → with_line IsItemName t name → IsMark 61 u line → item_at None (t ∷ u ∷ ts) ≡ begun_at name ts
unfolding variable_item_at
variable_is t u line name ts h m = ap (λ (o : Option ItemForm). by_form item_at_form o (t ∷ u ∷ ts)) ahead ∙ read
  where
    ahead : item_ahead (Some t) ≡ Some VariableForm
    ahead = variable_ahead t name.0 h.0

    read : item_at_form VariableForm (t ∷ u ∷ ts) ≡ begun_at name ts
    read =
        ap (λ (o : Option Named). then_read (made o t (u ∷ ts)) (λ name. one_at (as_mark 61) >>= λ equals. begun_at name)) (name_only t name h)
        ∙ ap (λ (o : Option ℕ). then_read (made o u ts) (λ equals. begun_at name)) ((mark_tests 61).only u line m)

variable_then : (t u : Lexeme) (line : ℕ) (name : Named) (ts : List Lexeme) (ys : List Item) → with_line IsItemName t name → IsMark 61 u line → reads_all (Some name) ts ≡ Ok (ys, []) → reads_all None (t ∷ u ∷ ts) ≡ Ok (ys, [])
variable_then t u line name ts ys h m all = by_result (begun_at name ts) refl
  where
    goes_so : item_goes (Some t) ≡ true
    goes_so = ap goes (variable_ahead t name.0 h.0)

    by_result : (q : Result (Next × List Lexeme) ℕ) → begun_at name ts ≡ q → reads_all None (t ∷ u ∷ ts) ≡ Ok (ys, [])
    by_result (Err n) e = absurd (ok_not_err (ys, []) n (sym all ∙ linked_fails item_goes item_at step_shrinks (Some name) ts n refl e))
    by_result (Ok q) e =
        linked_step item_goes item_at step_shrinks None q.0.1 (t ∷ u ∷ ts) q.0.0 q.1 goes_so (variable_is t u line name ts h m ∙ e)
        ∙ sym (linked_step item_goes item_at step_shrinks (Some name) q.0.1 ts q.0.0 q.1 refl e)
        ∙ all

-- ---- all items

abbrev Both : List Item → Type 0
Both xs = Only xs × Pending xs

only_none : Only []
only_none ts s = ap (reads_all None) s ∙ linked_stops item_goes item_at step_shrinks [] refl

only_next : (x : Item) (xs : List Item) → Both xs → Only (x ∷ xs)
only_next (TypeItem d) xs both ts (front, rest, s, M, e) = ap (reads_all None) e ∙ form_then TypeForm (Stops space_goes) type_item_reads front rest (TypeItem d) xs (made_item type_def TypeItem front d s) (space_rest rest xs M) (both.0 rest M)
only_next (FunctionItem f) xs both ts (front, rest, inl s, M, e) = ap (reads_all None) e ∙ form_then DefinitionForm Free definition_item_reads front rest (FunctionItem f) xs (made_item definition FunctionItem front f s) tt (both.0 rest M)
only_next (FunctionItem f) xs both ts (front, rest, inr s, M, e) = ap (reads_all None) e ∙ form_then DeclarationForm Behind declaration_item_reads front rest (FunctionItem f) xs (made_item declaration FunctionItem front f s) (behind_rest rest xs M) (both.0 rest M)
only_next (LineItem l) xs both ts (front, rest, s, M, e) = ap (reads_all None) e ∙ form_then LineForm Free line_item_reads front rest (LineItem l) xs (made_item (one IsPassiveLine) LineItem front l s) tt (both.0 rest M)
only_next (VariableItem g) xs both ts (front, rest, (name, f, r, (t, h, k), (line, f', r', (u, m, k'), G, e2), e1), M, e) =
    ap (reads_all None) (e ∙ ap (λ (l : List Lexeme). l ++ rest) (e1 ∙ ap (λ (l : List Lexeme). l ++ r) k ∙ ap (λ (l : List Lexeme). t ∷ l) (e2 ∙ ap (λ (l : List Lexeme). l ++ r') k')))
    ∙ variable_then t u line name (r' ++ rest) (VariableItem g ∷ xs) h m (both.1 name r' rest g G M)

none_of : (xs : List Item) (x : Item) → Only (x ∷ xs) → ((front rest : List Lexeme) → item front x → init_goes (head (front ++ rest)) ≡ false) → Chained (x ∷ xs)
none_of xs x only none = chained_none (x ∷ xs) only (λ ts s. ap (λ (l : List Lexeme). init_goes (head l)) s.4 ∙ none s.0 s.1 s.2)

chained_all : (x : Item) (xs : List Item) → Only (x ∷ xs) → Pending xs → Chained (x ∷ xs)
chained_all (TypeItem d) xs only pending = none_of xs (TypeItem d) only (λ front rest s. type_starts_none front rest d s)
chained_all (FunctionItem f) xs only pending = none_of xs (FunctionItem f) only (λ front rest s. function_starts_none front rest f s)
chained_all (LineItem l) xs only pending = none_of xs (LineItem l) only (λ front rest s. line_starts_none front rest l s)
chained_all (VariableItem g) xs only pending = chained_next g xs pending

both_all : (xs : List Item) → Both xs
both_all [] = (only_none, pending_by [] only_none (chained_none [] only_none (λ rest s. ap (λ (l : List Lexeme). init_goes (head l)) s)))
both_all (x ∷ xs) =
    let before = both_all xs in
    let only = only_next x xs before in
    (only, pending_by (x ∷ xs) only (chained_all x xs only before.1))

-- items to the end are read as they are spelled
pub items_only : (ts : List Lexeme) (xs : List Item) → many item ts xs → items_at ts ≡ Ok (xs, [])
items_only ts xs s = (both_all xs).0 ts s
