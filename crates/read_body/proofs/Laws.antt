-- Each reading function reads what the grammar spells.
use Rattle.std.proofs.Common.{◌≡◌, ℕ, List, [], ◌∷◌, ◌++◌, codes, drop, Option, Some, None, Bool, true, false, cond, Result, Ok, Err, refl, sym, ap, ◌∙◌, subst, inl, inr, ◌⊎◌, arith}
use Rattle.std.specs.Prelude.{not}
use Rattle.std.proofs.lemmas.List.{append-nil}
use Rattle.std.specs.List.{filter}
use Rattle.ir_core.specs.declared.types.Ty.{Ty}
use Rattle.ir_core.specs.declared.instructions.Value.{Value}
use Rattle.ir_core.specs.declared.instructions.Value.TheVariants.{Int as IntValue, Null, Local as Register, Global as GlobalValue}
use Rattle.ir_core.specs.declared.instructions.BinOp.{BinOp}
use Rattle.ir_core.specs.declared.instructions.BinOp.TheVariants.{Add}
use Rattle.ir_core.specs.declared.instructions.Flags.{Flags}
use Rattle.ir_core.specs.declared.instructions.CastOp.{CastOp}
use Rattle.ir_core.specs.declared.instructions.Pred.TheVariants.{Eq}
use Rattle.ir_core.specs.declared.instructions.RmwOp.TheVariants.{Xchg}
use Rattle.ir_core.specs.declared.instructions.Order.TheVariants.{Unordered}
use Rattle.ir_core.specs.declared.instructions.TailWord.{TailWord}
use Rattle.ir_core.specs.declared.instructions.TailWord.TheVariants.{Absent as NoTailWord, Tail}
use Rattle.ir_core.specs.declared.instructions.Kind.{Kind}
use Rattle.ir_core.specs.declared.instructions.Kind.TheVariants.{Bin, ICmp, Cast, Select, Phi, Alloca, Load, Store, Rmw, Gep, Fence, Call, Br, CondBr, Switch, Ret, Unreachable}
use Rattle.ir_core.specs.declared.instructions.Inst.{Inst}
use Rattle.ir_core.specs.declared.instructions.Typed.{Typed}
use Rattle.ir_core.specs.declared.instructions.Case.{Case}
use Rattle.ir_core.specs.declared.module.Block.{Block}
use Rattle.ir_core.specs.Tokens.{Lexeme, TokenKind, Word, Local, Global, Label, Mark}
use Rattle.ir_core.specs.Spell.{Spell, any, many, list_to, InTable, IsWord, IsWordIn, with_line}
use Rattle.ir_core.specs.Spell as spell
use Rattle.ir_core.specs.Escapes.{stem_name}
use Rattle.ir_core.specs.Forms.{IsLocal, IsLabel, IsValue, IsOneOf, token, dropped, maybe, next, alignment, nesting_limit, AttributeForm, attribute_form, result_type, target, type_, typed}
use Rattle.ir_core.specs.Instructions as grammar
use Rattle.ir_core.specs.Instructions.{ValueForm, Wraps, Divides, Mixes, Compares, Casts, Selects, Phis, Allocas, Loads, Changes, Steps, value_words, value_form, flag, wrap_flags, exact_flag, no_flags, scope, order, order_if, orders, predicates, changes, edge, value, attachments, argument, IsCallee, conventions, TrailerForm, GroupTrailer, trailer_form, called, tail_words, CallForm, Bare, Led, call_form, call, stored, fenced, at_line, PlainForm, Assigns, Stores, Fences, Calls, TailCalls, assigned, plain_form, plain, case, BranchForm, Straight, Tested, branch_form, switched, returned, LastForm, Branches, Switches, Returns, last_words, last_form, last, is_kept, body_of, block}
use Rattle.read_forms.specs.Read.{Read, ◌>>=◌, then_read, done, Shrinks, head, one_at, goes, many_at, maybe_at, list_at, put_all, after_comma_at, as_mark, as_table, as_one_of, all_for, form_in, at_mark, at_word, is_mark, is_word, is_local, is_label, spells_word, look_up}
use Rattle.read_forms.specs.Operands.{as_value}
use Rattle.read_forms.specs.Forms.{void_types, type_at, result_type_at, attribute_words, attribute_goes, attributes_at, typed_at, target_at, space_goes}
use Rattle.read_forms.proofs.Readers.{Reads, Free, Begins, one_reads, done_reads, then_reads, then_reads_where, pick_reads, one_begins, then_begins, any_begins, reads_before, reads_as}
use Rattle.read_forms.proofs.Many.{many_begins, Stops, shrinks_by, many_reads, many_reads_where, many_then_reads, dropped_begins}
use Rattle.read_forms.proofs.Choices.{maybe_reads, either, either_reads, either_begins}
use Rattle.read_forms.proofs.TokenTests.{local_kind, label_kind, some_is, table_tests, table_only, table_found, lined_tests, contains_in, fresh, is_spelled, spells_found, not_spelled, not_in, no_word, no_word_spelled}
use Rattle.read_forms.proofs.Lists.{mark_reads, list_reads}
use Rattle.read_forms.proofs.Laws.{attribute_begins as attribute_begin, typed_shrinks, word_reads, local_reads, lined_local_reads, lined_label_reads, value_token_reads, word_begins, word_form, made_reads, next_reads, type_words, type_begins, type_no_word, type_in_no_mark, type_reads, result_type_reads, one_of_reads, attributes_reads, type_no_attribute, value_no_word, value_no_attribute, typed_reads, target_reads, target_first}
use Rattle.read_ends.specs.Ends.{closed, attachments_at, tail_at, call_end_at, is_group, goes_on, meta_goes, trailer_words, trailer_goes}
use Rattle.read_body.specs.Rows.{rows_at, rows_after}
use Rattle.read_body.specs.Body.{true_at, flag_at, wrap_flags_at, exact_flag_at, scope_at, order_at, some_order_at, order_if_at, FlagForm, WrapFlags, ExactFlag, NoFlags, flags_at, binary_at, compare_at, cast_at, select_at, edge_at, phi_at, alloca_at, load_at, change_at, step_at, value_at_form, value_at, argument_at, callee_by, as_callee, convention_goes, call_type_at, called_at, bare_call_at, led_call_at, call_at_form, call_words, call_goes, call_at, assigned_at, stored_at, fenced_at, assignment_at, store_at, fence_at, plain_call_at, tail_call_at, plain_at_form, plain_words, plain_ahead, plain_goes, plain_at, case_at, case_goes, cases_at, switch_at, straight_at, tested_at, branch_at, return_nothing_at, return_value_at, return_at, stop_at, last_at_form, last_at, kept_at, body_at, label_goes, block_at}
use Rattle.read_ends.proofs.Closed.{opened, closed_then, closed_then_where, closed_stop_then, closed_any, closed_either, closed_made, closed_begins, ending_reads}
use Rattle.read_ends.proofs.EndLaws.{text_reads, tail_reads, end_stops, no_meta, no_comma, no_space, closed_end, closed_type, call_end_reads, read_assoc}
use Rattle.read_body.proofs.RowLaws.{rows_reads}

-- ---- flags and orders

true_reads : (w : List ℕ) → Reads (true_at w) (spell.◌>>=◌ (spell.word w) (λ line. spell.done true)) Free
unfolding true_at
true_reads w = then_reads (word_reads w) (λ line. done_reads true)

true_first : (w : List ℕ) → Begins (spell.◌>>=◌ (spell.word w) (λ line. spell.done true)) (λ t. at_word w (Some t) ≡ true)
true_first w = then_begins _ _ _ (word_begins w _ (is_spelled w))

flag_reads : (w : List ℕ) → Reads (flag_at w) (flag w) (Stops (at_word w))
unfolding flag_at
flag_reads w = maybe_reads false (at_word w) (true_at w) _ (true_reads w) (true_first w)

-- the words that are flags
abbrev flag_words : List (List ℕ × Unit {0})
flag_words = all_for (tt {0}) (codes "nuw" ∷ codes "nsw" ∷ codes "exact" ∷ [])

abbrev flag_goes : Option Lexeme → Bool
flag_goes t = goes (form_in flag_words t)

-- what begins with no flag does not begin with this one
no_flag : (w : List ℕ) → InTable flag_words w tt → (ts : List Lexeme) → Stops flag_goes ts → Stops (at_word w) ts
no_flag w i [] h = refl
no_flag w i (t ∷ ts) h = by_test (spells_word w t) refl
  where
    by_test : (b : Bool) → spells_word w t ≡ b → spells_word w t ≡ false
    by_test false e = e
    by_test true e =
        let s = spells_found w t e in
        let k : goes (form_in flag_words (Some t)) ≡ true = ap goes (table_only flag_words refl t tt (s.0, subst (λ l. InTable flag_words l tt) (sym s.1) i)) in
        let f : true ≡ false = sym k ∙ h in
        absurd (cc)

exact_reads : Reads exact_flag_at exact_flag (Stops flag_goes)
unfolding exact_flag_at
exact_reads = reads_before (Stops flag_goes) (no_flag (codes "exact") (inr (inr (inl (refl, refl))))) (made_reads (λ exact. record { nsw = false; nuw = false; exact = exact }) (flag_reads (codes "exact")))

abbrev nsw_alone : List (List ℕ × Unit {0})
nsw_alone = all_for (tt {0}) (codes "nsw" ∷ [])

-- behind nuw comes nsw, or no flag
no_nuw : (front rest : List Lexeme) (b : Bool) → flag (codes "nsw") front b → Stops flag_goes rest → Stops (at_word (codes "nuw")) (front ++ rest)
no_nuw front rest b (inl h) k = subst (λ l. Stops (at_word (codes "nuw")) (l ++ rest)) (sym h.0) (no_flag (codes "nuw") (inl (refl, refl)) rest k)
no_nuw front rest b (inr h) k =
    let u = (then_begins (spell.word (codes "nsw")) (λ line. spell.done true) (λ t. spells_word (codes "nuw") t ≡ false) (word_begins (codes "nsw") _ (λ t line s. not_spelled nsw_alone (codes "nuw") refl t tt (s.0, inl (s.1, refl))))) front b h in
    ap (λ (l : List Lexeme). at_word (codes "nuw") (head (l ++ rest))) u.3 ∙ u.2

wrap_reads : Reads wrap_flags_at wrap_flags (Stops flag_goes)
unfolding wrap_flags_at
wrap_reads =
    then_reads_where _ _ (Stops (at_word (codes "nuw"))) _ _ (Stops flag_goes) (flag_reads (codes "nuw"))
    (λ nuw. reads_before (Stops flag_goes) (no_flag (codes "nsw") (inr (inl (refl, refl)))) (made_reads (λ nsw. record { nsw = nsw; nuw = nuw; exact = false }) (flag_reads (codes "nsw"))))
    (λ nuw front rest y s k. subst (λ l. Stops (at_word (codes "nuw")) (l ++ rest)) (sym (s.5 ∙ ap (λ (l : List Lexeme). s.1 ++ l) s.4.0 ∙ append-nil s.1)) (no_nuw s.1 rest s.0 s.3 k))

abbrev flags_of : FlagForm → Spell Flags
flags_of WrapFlags = wrap_flags
flags_of ExactFlag = exact_flag
flags_of NoFlags = spell.done no_flags

flags_reads : (form : FlagForm) → Reads (flags_at form) (flags_of form) (Stops flag_goes)
flags_reads WrapFlags = wrap_reads
flags_reads ExactFlag = exact_reads
flags_reads NoFlags = reads_before (Stops flag_goes) (λ ts h. tt) (done_reads no_flags)

type_no_flag : Begins type_ (λ t. flag_goes (Some t) ≡ false)
type_no_flag =
    type_begins _ (λ t k. ap goes (no_word flag_words t Local k refl)) (λ t h. ap goes (not_in type_words flag_words refl t tt h))
    (λ t k. ap goes (no_word flag_words t (Mark 91) k refl)) (λ t k. ap goes (no_word flag_words t (Mark 123) k refl))

scope_reads : Reads scope_at scope Free
unfolding scope_at
scope_reads =
    then_reads (word_reads (codes "syncscope")) (λ name.
    then_reads (mark_reads 40) (λ open_.
    then_reads text_reads (λ text.
    then_reads (mark_reads 41) (λ close.
    done_reads tt))))

pub order_reads : Reads order_at order Free
unfolding order_at
order_reads =
    many_then_reads (at_word (codes "syncscope")) (maybe_reads tt (at_word (codes "syncscope")) scope_at scope scope_reads (then_begins _ _ _ (word_begins _ _ (is_spelled (codes "syncscope"))))) (λ before.
    one_reads _ _ (table_tests orders refl (codes "unordered") Unordered (inl (refl, refl)))) (λ before. one_begins _ _ (not_spelled orders (codes "syncscope") refl))

order_if_reads : (b : Bool) → Reads (order_if_at b) (order_if b) Free
unfolding some_order_at
order_if_reads true = then_reads order_reads (λ o. done_reads (Some o))
order_if_reads false = done_reads None

-- ---- instructions with a value

typed_no_word : (w : List ℕ) → fresh w type_words ≡ true → Begins typed (λ t. spells_word w t ≡ false)
typed_no_word w f = then_begins _ _ _ (type_no_word w f)

type_no_meta : Begins type_ (λ t. meta_goes (Some t) ≡ false)
type_no_meta = type_begins _ (λ t k. no_meta t Local k refl) (λ t h. no_meta t Word h.0 refl) (λ t k. no_meta t (Mark 91) k refl) (λ t k. no_meta t (Mark 123) k refl)

value_no_space : (ty : Ty) → Begins (spell.one (IsValue ty)) (λ t. space_goes (Some t) ≡ false)
value_no_space ty = value_no_word (codes "addrspace") refl ty

-- a mark or a comma and what follows are no address space
comma_no_space : {X : Type 0} (S : Spell X) → Begins (next S) (λ t. space_goes (Some t) ≡ false)
comma_no_space S = then_begins _ _ _ (one_begins _ _ (λ t line h. no_word_spelled (codes "addrspace") t (Mark 44) h.0 refl))

next_value_reads : (ty : Ty) → Reads (after_comma_at (one_at (as_value ty))) (next (spell.one (IsValue ty))) Free
next_value_reads ty = next_reads (value_token_reads ty)

next_typed_reads : Reads (after_comma_at typed_at) (next typed) Free
next_typed_reads = next_reads typed_reads

binary_reads : (op : BinOp) (form : FlagForm) → Reads (binary_at op form) (closed (grammar.binary op (flags_of form))) (Stops goes_on)
unfolding binary_at
binary_reads op form =
    closed_stop_then flag_goes (flags_reads form) (λ flags.
    closed_stop_then space_goes type_reads (λ ty.
    closed_then (value_token_reads ty) (λ a.
    closed_then (next_value_reads ty) (λ b.
    closed_end (Bin op flags ty a b)))) (λ ty. then_begins _ _ _ (value_no_space ty))) (λ flags. then_begins _ _ _ type_no_flag)

compare_reads : Reads compare_at (closed (value_form Compares)) (Stops goes_on)
unfolding compare_at
compare_reads =
    closed_then (one_reads _ _ (table_tests predicates refl (codes "eq") Eq (inl (refl, refl)))) (λ pred.
    closed_stop_then space_goes type_reads (λ ty.
    closed_then (value_token_reads ty) (λ a.
    closed_then (next_value_reads ty) (λ b.
    closed_end (ICmp pred ty a b)))) (λ ty. then_begins _ _ _ (value_no_space ty)))

cast_reads : (op : CastOp) → Reads (cast_at op) (closed (value_form (Casts op))) (Stops goes_on)
unfolding cast_at
cast_reads op =
    closed_then typed_reads (λ from.
    closed_then (word_reads (codes "to")) (λ to_word.
    closed_type (λ to. Cast op from to) type_reads))

select_reads : Reads select_at (closed (value_form Selects)) (Stops goes_on)
unfolding select_at
select_reads =
    closed_then typed_reads (λ c.
    closed_then next_typed_reads (λ a.
    closed_then next_typed_reads (λ b.
    closed_end (Select c a b))))

edge_reads : (ty : Ty) → Reads (edge_at ty) (edge ty) Free
unfolding edge_at
edge_reads ty =
    then_reads (mark_reads 91) (λ open_.
    then_reads (value_token_reads ty) (λ v.
    then_reads (next_reads local_reads) (λ to.
    then_reads (mark_reads 93) (λ close.
    done_reads (record { value = v; block = to })))))

pub edge_shrinks : (ty : Ty) → Shrinks (edge_at ty)
edge_shrinks ty = shrinks_by (edge_at ty) (edge ty) Free (λ t. t.kind ≡ Mark 91) (edge_reads ty) (then_begins _ _ _ (one_begins _ _ (λ t line h. h.0)))

-- the first part is put before the others in the end
after_first : {X Y : Type 0} (f : Read X) (x : X) (v : List X → Y) → (rows_at f >>= λ xs. done (v (x ∷ xs))) ≡ (rows_after f (x ∷ []) >>= λ xs. done (v xs))
after_first {X} {Y} f x v = λ i ts. by_rows (rows_at f ts) i
  where
    by_rows : (a : Result (List X × List Lexeme) ℕ) → then_read a (λ xs. done (v (x ∷ xs))) ≡ then_read (put_all (x ∷ []) a) (λ xs. done (v xs))
    by_rows (Ok p) = refl
    by_rows (Err n) = refl

after_first_reads : {X Y : Type 0} (f : Read X) (S : Spell X) (x : X) (v : List X → Y) → Shrinks f → Reads f S Free → Begins S (λ t. meta_goes (Some t) ≡ false) → Reads (rows_after f (x ∷ []) >>= λ xs. done (v xs)) (closed (spell.◌>>=◌ (many (next S)) (λ xs. spell.done (v (x ∷ xs))))) (Stops goes_on)
after_first_reads f S x v shrinks r b =
    subst (λ g. Reads g (closed (spell.◌>>=◌ (many (next S)) (λ xs. spell.done (v (x ∷ xs))))) (Stops goes_on)) (after_first f x v)
    (reads_before (Stops goes_on) no_comma (closed_made (rows_at f) (many (next S)) (Stops (at_mark 44)) (λ xs. v (x ∷ xs)) (rows_reads f shrinks S r b)))

phi_reads : Reads phi_at (closed (value_form Phis)) (Stops goes_on)
unfolding phi_at
phi_reads =
    closed_stop_then space_goes type_reads (λ ty.
    closed_then (edge_reads ty) (λ first.
    after_first_reads (edge_at ty) (edge ty) first (λ edges. Phi ty edges) (edge_shrinks ty) (edge_reads ty) (then_begins _ _ _ (one_begins _ _ (λ t line h. no_meta t (Mark 91) h.0 refl)))))
    (λ ty. then_begins _ _ _ (then_begins _ _ _ (one_begins _ _ (λ t line h. no_word_spelled (codes "addrspace") t (Mark 91) h.0 refl))))

-- an alignment and attachments at the end
tail_end : {Y : Type 0} (v : ℕ → Y) → Reads (tail_at >>= λ align. done (v align)) (closed (spell.◌>>=◌ grammar.next_alignment (λ align. spell.done (v align)))) (Stops goes_on)
tail_end v = reads_before (Stops goes_on) no_comma (closed_made tail_at grammar.next_alignment (Stops (at_mark 44)) v tail_reads)

-- behind a type come an alignment, attachments, or what an instruction does not go on with
tail_stops : (c d b rest : List Lexeme) (n : ℕ) → maybe 0 (next alignment) c n → d ≡ [] → attachments b tt → Stops goes_on rest → Stops space_goes (((c ++ d) ++ b) ++ rest)
tail_stops c d b rest n (inl h) e s k =
    subst (λ l. Stops space_goes ((l ++ b) ++ rest)) (sym (ap (λ (l : List Lexeme). l ++ d) h.0 ∙ e)) (end_stops space_goes (λ t m. no_word_spelled (codes "addrspace") t (Mark 44) m refl) b rest s (no_space rest k))
tail_stops c d b rest n (inr h) e s k =
    let u = comma_no_space alignment c n h in
    ap (λ (l : List Lexeme). space_goes (head (((l ++ d) ++ b) ++ rest))) u.3 ∙ u.2

alloca_reads : Reads alloca_at (closed (value_form Allocas)) (Stops goes_on)
unfolding alloca_at
alloca_reads =
    closed_then_where type_at type_ (Stops space_goes) _ (λ ty. spell.◌>>=◌ grammar.next_alignment (λ align. spell.done (Alloca ty align))) (Stops goes_on) type_reads (λ ty.
    tail_end (λ align. Alloca ty align))
    (λ ty front rest y s k.
    let u = opened (spell.◌>>=◌ grammar.next_alignment (λ align. spell.done (Alloca ty align))) front y s in
    let w = u.2 in
    subst (λ l. Stops space_goes (l ++ rest)) (sym (u.4 ∙ ap (λ (l : List Lexeme). l ++ u.1) w.5)) (tail_stops w.1 w.2 u.1 rest w.0 w.3 w.4.0 u.3 k))

load_reads : Reads load_at (closed (value_form Loads)) (Stops goes_on)
unfolding load_at
load_reads =
    closed_stop_then (at_word (codes "atomic")) (flag_reads (codes "atomic")) (λ atomic.
    closed_stop_then space_goes type_reads (λ ty.
    closed_then next_typed_reads (λ at.
    closed_then (order_if_reads atomic) (λ ordering.
    tail_end (λ align. Load ty at ordering align)))) (λ ty. then_begins _ _ _ (comma_no_space typed))) (λ atomic. then_begins _ _ _ (type_no_word (codes "atomic") refl))

change_reads : Reads change_at (closed (value_form Changes)) (Stops goes_on)
unfolding change_at
change_reads =
    closed_then (one_reads _ _ (table_tests changes refl (codes "xchg") Xchg (inl (refl, refl)))) (λ op.
    closed_then typed_reads (λ at.
    closed_then next_typed_reads (λ v.
    closed_then order_reads (λ ordering.
    tail_end (λ align. Rmw op at v ordering align)))))

step_reads : Reads step_at (closed (value_form Steps)) (Stops goes_on)
unfolding step_at
step_reads =
    closed_stop_then (at_word (codes "inbounds")) (flag_reads (codes "inbounds")) (λ inbounds.
    closed_stop_then space_goes type_reads (λ ty.
    closed_then next_typed_reads (λ base.
    closed_then next_typed_reads (λ first.
    after_first_reads typed_at typed first (λ path. Gep inbounds ty base path) typed_shrinks typed_reads (then_begins _ _ _ type_no_meta)))) (λ ty. then_begins _ _ _ (comma_no_space typed))) (λ inbounds. then_begins _ _ _ (type_no_word (codes "inbounds") refl))

value_form_reads : (form : ValueForm) → Reads (value_at_form form) (closed (value_form form)) (Stops goes_on)
value_form_reads (Wraps op) = binary_reads op WrapFlags
value_form_reads (Divides op) = binary_reads op ExactFlag
value_form_reads (Mixes op) = binary_reads op NoFlags
value_form_reads Compares = compare_reads
value_form_reads (Casts op) = cast_reads op
value_form_reads Selects = select_reads
value_form_reads Phis = phi_reads
value_form_reads Allocas = alloca_reads
value_form_reads Loads = load_reads
value_form_reads Changes = change_reads
value_form_reads Steps = step_reads

value_reads : Reads value_at (closed value) (Stops goes_on)
unfolding value_at
value_reads = closed_then (one_reads _ _ (table_tests value_words refl (codes "add") (Wraps Add) (inl (refl, refl)))) value_form_reads

-- ---- calls

-- what an attribute begins with
attribute_begins : (P : Lexeme → Type 0) → ((t : Lexeme) (form : AttributeForm) → IsWordIn attribute_words t form → P t) → Begins (any attribute_form) P
attribute_begins P all front x s = let u = attribute_begin s.0 front x s.1 in (u.0, u.1, all u.0 s.0 (table_found attribute_words u.0 s.0 u.2), u.3)

attribute_no_space : Begins (any attribute_form) (λ t. space_goes (Some t) ≡ false)
attribute_no_space = attribute_begins _ (not_spelled attribute_words (codes "addrspace") refl)

attribute_no_mark : (m : ℕ) → Begins (any attribute_form) (λ t. is_mark m t.kind ≡ false)
attribute_no_mark m = attribute_begins _ (λ t form h. ap (is_mark m) h.0)

attribute_no_convention : Begins (any attribute_form) (λ t. convention_goes (Some t) ≡ false)
attribute_no_convention = attribute_begins _ (λ t form h. ap goes (not_in attribute_words (all_for (tt {0}) conventions) refl t form h))

pub argument_reads : Reads argument_at argument Free
unfolding argument_at
argument_reads =
    many_then_reads attribute_goes attributes_reads (λ before.
    many_then_reads space_goes type_reads (λ ty.
    many_then_reads attribute_goes attributes_reads (λ behind.
    then_reads (value_token_reads ty) (λ v.
    done_reads (record { ty = ty; value = v }))) (λ behind. then_begins _ _ _ (value_no_attribute ty)))
    (λ ty. dropped_begins _ _ _ attribute_no_space (then_begins _ _ _ (value_no_space ty)))) (λ before. then_begins _ _ _ type_no_attribute)

argument_no_close : Begins argument (λ t. is_mark 41 t.kind ≡ false)
argument_no_close = dropped_begins _ _ _ (attribute_no_mark 41) (then_begins _ _ _ (type_in_no_mark 41 refl refl nesting_limit))

pub argument_shrinks : Shrinks argument_at
argument_shrinks = shrinks_by argument_at argument Free _ argument_reads argument_no_close

callee_found_by : (t : Lexeme) (v : Value) (k : TokenKind) → t.kind ≡ k → callee_by (drop 1 t.bytes) k ≡ Some v → IsCallee t v
callee_found_by t v Local k e = subst (IsCallee t) (some_is (Register (stem_name (drop 1 t.bytes))) v e) (k, refl)
callee_found_by t v Global k e = subst (IsCallee t) (some_is (GlobalValue (stem_name (drop 1 t.bytes))) v e) (k, refl)
callee_found_by t v _ k e = absurd (let f : ◌≡◌ {A = Option Value} None (Some v) = e in cc)

callee_only : (t : Lexeme) (v : Value) → IsCallee t v → as_callee t ≡ Some v
callee_only t (GlobalValue x) h = ap (callee_by (drop 1 t.bytes)) h.0 ∙ ap (λ (l : List ℕ). Some (GlobalValue l)) h.1
callee_only t (Register x) h = ap (callee_by (drop 1 t.bytes)) h.0 ∙ ap (λ (l : List ℕ). Some (Register l)) h.1
callee_only t (IntValue n) h = absurd h
callee_only t Null h = absurd h

callee_reads : Reads (one_at as_callee) (spell.one IsCallee) Free
callee_reads = one_reads _ _ (record {
  found = λ t v e. callee_found_by t v t.kind refl e;
  only = callee_only;
  some = record { kind = Local; bytes = []; line = 0 };
  value = Register [];
  holds = (refl, refl);
})

callee_no_space : Begins (spell.one IsCallee) (λ t. space_goes (Some t) ≡ false)
callee_no_space = one_begins IsCallee _ first
  where
    first : (t : Lexeme) (v : Value) → IsCallee t v → space_goes (Some t) ≡ false
    first t (GlobalValue x) h = no_word_spelled (codes "addrspace") t Global h.0 refl
    first t (Register x) h = no_word_spelled (codes "addrspace") t Local h.0 refl
    first t (IntValue n) h = absurd h
    first t Null h = absurd h

convention_reads : Reads (one_at (as_one_of conventions)) (token (IsOneOf conventions)) Free
convention_reads = one_of_reads conventions refl (codes "ccc") (0, omega arith, refl)

convention_first : Begins (token (IsOneOf conventions)) (λ t. convention_goes (Some t) ≡ true)
convention_first = one_begins _ _ (λ t u h. ap goes (table_only (all_for (tt {0}) conventions) refl t tt (h.0, contains_in (tt {0}) conventions h.1.0 t.bytes h.1.1 h.1.2)))

-- the type of a result begins with a type, or is void
result_begins : (P : Lexeme → Type 0) → Begins type_ P → ((t : Lexeme) (ty : Ty) → IsWordIn void_types t ty → P t) → Begins result_type P
result_begins P a b = either_begins type_ (spell.one (IsWordIn void_types)) P a (one_begins _ _ b)

result_no_attribute : Begins result_type (λ t. attribute_goes (Some t) ≡ false)
result_no_attribute = result_begins _ type_no_attribute (λ t ty h. ap goes (not_in void_types attribute_words refl t ty h))

type_no_convention : Begins type_ (λ t. convention_goes (Some t) ≡ false)
type_no_convention =
    type_begins _ (λ t k. ap goes (no_word (all_for (tt {0}) conventions) t Local k refl)) (λ t h. ap goes (not_in type_words (all_for (tt {0}) conventions) refl t tt h))
    (λ t k. ap goes (no_word (all_for (tt {0}) conventions) t (Mark 91) k refl)) (λ t k. ap goes (no_word (all_for (tt {0}) conventions) t (Mark 123) k refl))

result_no_convention : Begins result_type (λ t. convention_goes (Some t) ≡ false)
result_no_convention = result_begins _ type_no_convention (λ t ty h. ap goes (not_in void_types (all_for (tt {0}) conventions) refl t ty h))

-- what stands behind the result's type
abbrev called_behind : TailWord → Ty → Spell Kind
called_behind tail_word ret =
    spell.◌>>=◌ (spell.one IsCallee) (λ callee.
    spell.◌>>=◌ (spell.mark 40) (λ open_.
    spell.◌>>=◌ (list_to 41 argument) (λ operands.
    spell.◌>>=◌ (dropped (any trailer_form)) (λ behind.
    spell.done (Call tail_word ret callee operands)))))

abbrev behind_at : TailWord → Ty → Read Kind
behind_at tail_word ret =
    one_at as_callee >>= λ callee.
    one_at (as_mark 40) >>= λ open_.
    list_at 41 argument_at >>= λ operands.
    call_end_at >>= λ behind.
    done (Call tail_word ret callee operands)

behind_reads : (tail_word : TailWord) (ret : Ty) → Reads (behind_at tail_word ret) (closed (called_behind tail_word ret)) (Stops goes_on)
behind_reads tail_word ret =
    closed_then callee_reads (λ callee.
    closed_then (mark_reads 40) (λ open_.
    closed_then (list_reads argument_at argument argument_reads 41 refl argument_no_close) (λ operands.
    call_end_reads (Call tail_word ret callee operands))))

abbrev flat_called : TailWord → Read Kind
flat_called tail_word =
    maybe_at tt convention_goes (one_at (as_one_of conventions)) >>= λ convention.
    attributes_at >>= λ before.
    result_type_at >>= λ ret.
    behind_at tail_word ret

flat_called_reads : (tail_word : TailWord) → Reads (flat_called tail_word) (closed (called tail_word)) (Stops goes_on)
flat_called_reads tail_word =
    closed_stop_then convention_goes (maybe_reads tt convention_goes (one_at (as_one_of conventions)) (token (IsOneOf conventions)) convention_reads convention_first) (λ convention.
    closed_stop_then attribute_goes attributes_reads (λ before.
    closed_stop_then space_goes result_type_reads (λ ret.
    behind_reads tail_word ret) (λ ret. then_begins _ _ _ callee_no_space)) (λ before. then_begins _ _ _ result_no_attribute))
    (λ convention. dropped_begins _ _ _ attribute_no_convention (then_begins _ _ _ result_no_convention))

called_same : (tail_word : TailWord) → flat_called tail_word ≡ called_at tail_word
unfolding called_at call_type_at
called_same tail_word = sym (
    read_assoc (maybe_at tt convention_goes (one_at (as_one_of conventions))) (λ convention. attributes_at >>= λ before. result_type_at) (behind_at tail_word)
    ∙ (λ i. maybe_at tt convention_goes (one_at (as_one_of conventions)) >>= λ convention. read_assoc attributes_at (λ before. result_type_at) (behind_at tail_word) i))

pub called_reads : (tail_word : TailWord) → Reads (called_at tail_word) (closed (called tail_word)) (Stops goes_on)
called_reads tail_word = subst (λ f. Reads f (closed (called tail_word)) (Stops goes_on)) (called_same tail_word) (flat_called_reads tail_word)

tail_word_reads : Reads (one_at (as_table tail_words)) (spell.one (IsWordIn tail_words)) Free
tail_word_reads = one_reads _ _ (table_tests tail_words refl (codes "tail") Tail (inl (refl, refl)))

call_form_reads : (form : CallForm) → Reads (call_at_form form) (closed (call_form form)) (Stops goes_on)
unfolding bare_call_at led_call_at
call_form_reads Bare = closed_then (word_reads (codes "call")) (λ line. called_reads NoTailWord)
call_form_reads Led = closed_then tail_word_reads (λ tail_word. closed_then (word_reads (codes "call")) (λ line. called_reads tail_word))

-- a word before a call picks what both stand for
tail_form : {K : Type 0} (table : List (List ℕ × K)) (k : K) → look_up table (codes "tail") ≡ Some k → look_up table (codes "notail") ≡ Some k → (t : Lexeme) (v : TailWord) → IsWordIn tail_words t v → as_table table t ≡ Some k
tail_form table k a b t v (h, inl p) = word_form table (codes "tail") t t.line (h, p.0, refl) ∙ a
tail_form table k a b t v (h, inr (inl p)) = word_form table (codes "notail") t t.line (h, p.0, refl) ∙ b
tail_form table k a b t v (h, inr (inr p)) = absurd p

call_begins : (form : CallForm) → Begins (closed (call_form form)) (λ t. form_in call_words (Some t) ≡ Some form)
call_begins Bare = closed_begins _ _ (then_begins _ _ _ (word_begins _ _ (word_form call_words (codes "call"))))
call_begins Led = closed_begins _ _ (then_begins _ _ _ (one_begins _ _ (tail_form call_words Led refl refl)))

call_reads : Reads call_at (closed call) (Stops goes_on)
unfolding call_at
call_reads = closed_any call_at call_form (Stops goes_on) (pick_reads (form_in call_words) call_at_form (λ form. closed (call_form form)) (Stops goes_on) call_form_reads call_begins Bare)

call_first : Begins call (λ t. call_goes (Some t) ≡ true)
call_first = any_begins call_form _ first
  where
    first : (form : CallForm) → Begins (call_form form) (λ t. call_goes (Some t) ≡ true)
    first Bare = then_begins _ _ _ (word_begins _ _ (λ t line h. ap goes (word_form call_words (codes "call") t line h)))
    first Led = then_begins _ _ _ (one_begins _ _ (λ t v h. ap goes (tail_form call_words Led refl refl t v h)))

value_no_call : Begins value (λ t. call_goes (Some t) ≡ false)
value_no_call = then_begins _ _ _ (one_begins _ _ (λ t v h. ap goes (not_in value_words call_words refl t v h)))

-- ---- instructions that end no block

swapped : {A B : Type 0} → A ⊎ B → B ⊎ A
swapped (inl a) = inr a
swapped (inr b) = inl b

assigned_reads : Reads assigned_at (closed assigned) (Stops goes_on)
unfolding assigned_at
assigned_reads = closed_either assigned_at value call (Stops goes_on) (reads_as assigned_at (either (closed call) (closed value)) (either (closed value) (closed call)) (Stops goes_on)
    (either_reads call_goes call_at value_at (closed call) (closed value) (Stops goes_on) call_reads value_reads (closed_begins call _ call_first) (closed_begins value _ value_no_call))
    (λ ts x s. swapped s) (λ ts x s. swapped s))

stored_reads : Reads stored_at (closed stored) (Stops goes_on)
unfolding stored_at
stored_reads =
    closed_stop_then (at_word (codes "atomic")) (flag_reads (codes "atomic")) (λ atomic.
    closed_then typed_reads (λ v.
    closed_then next_typed_reads (λ at.
    closed_then (order_if_reads atomic) (λ ordering.
    tail_end (λ align. Store v at ordering align))))) (λ atomic. then_begins _ _ _ (typed_no_word (codes "atomic") refl))

fenced_reads : Reads fenced_at (closed fenced) (Stops goes_on)
unfolding fenced_at
fenced_reads = closed_then order_reads (λ o. closed_end (Fence o))

-- an instruction made of what it does
inst_reads : {f : Read Kind} {S : Spell Kind} (x : Option (List ℕ)) (line : ℕ) → Reads f (closed S) (Stops goes_on) → Reads (f >>= λ kind. done (at_line x line kind)) (closed (spell.◌>>=◌ S (λ kind. spell.done (at_line x line kind)))) (Stops goes_on)
inst_reads {f = f} {S = S} x line r = closed_made f S (Stops goes_on) (at_line x line) r

plain_form_reads : (form : PlainForm) → Reads (plain_at_form form) (closed (plain_form form)) (Stops goes_on)
unfolding assignment_at store_at fence_at plain_call_at tail_call_at
plain_form_reads Assigns = closed_then lined_local_reads (λ x. closed_then (mark_reads 61) (λ equals. inst_reads (Some x.0) x.1 assigned_reads))
plain_form_reads Stores = closed_then (word_reads (codes "store")) (λ line. inst_reads None line stored_reads)
plain_form_reads Fences = closed_then (word_reads (codes "fence")) (λ line. inst_reads None line fenced_reads)
plain_form_reads Calls = closed_then (word_reads (codes "call")) (λ line. inst_reads None line (called_reads NoTailWord))
plain_form_reads TailCalls =
    closed_then (one_reads _ _ (lined_tests _ _ (table_tests tail_words refl (codes "tail") Tail (inl (refl, refl))))) (λ tail_word.
    closed_then (word_reads (codes "call")) (λ call_word.
    inst_reads None tail_word.1 (called_reads tail_word.0)))

plain_word_ahead : (t : Lexeme) (o : Option PlainForm) → t.kind ≡ Word → as_table plain_words t ≡ o → plain_ahead (Some t) ≡ o
plain_word_ahead t o k e = ap (λ (j : TokenKind). cond (is_local j) (Some Assigns) (as_table plain_words t)) k ∙ e

plain_word_form : (w : List ℕ) (t : Lexeme) (line : ℕ) → IsWord w t line → plain_ahead (Some t) ≡ look_up plain_words w
plain_word_form w t line h = plain_word_ahead t (look_up plain_words w) h.0 (word_form plain_words w t line h)

-- what begins each form
module _ (P : PlainForm → Lexeme → Type 0) (all : (t : Lexeme) (form : PlainForm) → ((t.kind ≡ Local) ⊎ (t.kind ≡ Word)) → plain_ahead (Some t) ≡ Some form → P form t) where
  plain_form_begins : (form : PlainForm) → Begins (plain_form form) (P form)
  plain_form_begins Assigns = then_begins _ _ _ (one_begins (with_line IsLocal) _ (λ t x h. all t Assigns (inl h.0.0) (ap (λ (j : TokenKind). cond (is_local j) (Some Assigns) (as_table plain_words t)) h.0.0)))
  plain_form_begins Stores = then_begins _ _ _ (word_begins _ _ (λ t line h. all t Stores (inr h.0) (plain_word_form (codes "store") t line h)))
  plain_form_begins Fences = then_begins _ _ _ (word_begins _ _ (λ t line h. all t Fences (inr h.0) (plain_word_form (codes "fence") t line h)))
  plain_form_begins Calls = then_begins _ _ _ (word_begins _ _ (λ t line h. all t Calls (inr h.0) (plain_word_form (codes "call") t line h)))
  plain_form_begins TailCalls = then_begins _ _ _ (one_begins (with_line (IsWordIn tail_words)) _ (λ t x h. all t TailCalls (inr h.0.0) (plain_word_ahead t (Some TailCalls) h.0.0 (tail_form plain_words TailCalls refl refl t x.0 h.0))))

pub plain_reads : Reads plain_at plain (Stops goes_on)
unfolding plain_at
plain_reads = closed_any plain_at plain_form (Stops goes_on) (pick_reads plain_ahead plain_at_form (λ form. closed (plain_form form)) (Stops goes_on) plain_form_reads (λ form. closed_begins (plain_form form) _ (plain_form_begins (λ f t. plain_ahead (Some t) ≡ Some f) (λ t f k e. e) form)) Stores)

pub plain_first : Begins plain (λ t. plain_goes (Some t) ≡ true)
plain_first = closed_begins (any plain_form) _ (any_begins plain_form _ (plain_form_begins (λ f t. plain_goes (Some t) ≡ true) (λ t f k e. ap goes e)))

pub plain_shrinks : Shrinks plain_at
plain_shrinks = shrinks_by plain_at plain (Stops goes_on) _ plain_reads plain_first

-- ---- instructions that end a block

next_target_reads : Reads (after_comma_at target_at) (next target) Free
next_target_reads = next_reads target_reads

pub case_reads : Reads case_at case Free
unfolding case_at
case_reads =
    then_reads typed_reads (λ v.
    then_reads next_target_reads (λ to.
    done_reads (record { value = v; block = to })))

case_first : Begins case (λ t. case_goes (Some t) ≡ true)
case_first = then_begins _ _ _ (then_begins _ _ _ (type_begins _ (λ t k. ap (λ (j : TokenKind). not (is_mark 93 j)) k) (λ t h. ap (λ (j : TokenKind). not (is_mark 93 j)) h.0) (λ t k. ap (λ (j : TokenKind). not (is_mark 93 j)) k) (λ t k. ap (λ (j : TokenKind). not (is_mark 93 j)) k)))

pub case_shrinks : Shrinks case_at
case_shrinks = shrinks_by case_at case Free _ case_reads case_first

abbrev switch_behind : Typed → List ℕ → List Case → Read Kind
switch_behind on other cases = attachments_at >>= λ behind. done (Switch on other cases)

abbrev flat_switch : Read Kind
flat_switch =
    typed_at >>= λ on.
    after_comma_at target_at >>= λ other.
    one_at (as_mark 91) >>= λ open_.
    many_at case_goes case_at >>= λ cases.
    one_at (as_mark 93) >>= λ close.
    switch_behind on other cases

flat_switch_reads : Reads flat_switch (closed switched) (Stops goes_on)
flat_switch_reads =
    closed_then typed_reads (λ on.
    closed_then next_target_reads (λ other.
    closed_then (mark_reads 91) (λ open_.
    closed_stop_then case_goes (many_reads case_goes case_at case case_reads case_first refl) (λ cases.
    closed_then (mark_reads 93) (λ close.
    closed_end (Switch on other cases))) (λ cases. then_begins _ _ _ (one_begins _ _ (λ t line h. ap (λ (j : TokenKind). not (is_mark 93 j)) h.0))))))

cases_same : (on : Typed) (other : List ℕ) → cases_at >>= switch_behind on other ≡ one_at (as_mark 91) >>= λ open_. many_at case_goes case_at >>= λ cases. one_at (as_mark 93) >>= λ close. switch_behind on other cases
unfolding cases_at
cases_same on other =
    read_assoc (one_at (as_mark 91)) (λ open_. many_at case_goes case_at >>= λ cases. one_at (as_mark 93) >>= λ close. done cases) (switch_behind on other)
    ∙ (λ i. one_at (as_mark 91) >>= λ open_. read_assoc (many_at case_goes case_at) (λ cases. one_at (as_mark 93) >>= λ close. done cases) (switch_behind on other) i)
    ∙ (λ i. one_at (as_mark 91) >>= λ open_. many_at case_goes case_at >>= λ cases. read_assoc (one_at (as_mark 93)) (λ close. done cases) (switch_behind on other) i)

switch_same : flat_switch ≡ switch_at
unfolding switch_at
switch_same = sym (λ i. typed_at >>= λ on. after_comma_at target_at >>= λ other. cases_same on other i)

switch_reads : Reads switch_at (closed switched) (Stops goes_on)
switch_reads = subst (λ f. Reads f (closed switched) (Stops goes_on)) switch_same flat_switch_reads

straight_reads : Reads straight_at (closed (branch_form Straight)) (Stops goes_on)
unfolding straight_at
straight_reads = closed_then target_reads (λ to. closed_end (Br to))

tested_reads : Reads tested_at (closed (branch_form Tested)) (Stops goes_on)
unfolding tested_at
tested_reads =
    closed_then typed_reads (λ c.
    closed_then next_target_reads (λ then_to.
    closed_then next_target_reads (λ else_to.
    closed_end (CondBr c then_to else_to))))

branch_to : (ts : List Lexeme) (k : Kind) → either (closed (branch_form Straight)) (closed (branch_form Tested)) ts k → any (λ form. closed (branch_form form)) ts k
branch_to ts k (inl s) = (Straight, s)
branch_to ts k (inr s) = (Tested, s)

branch_from : (ts : List Lexeme) (k : Kind) (form : BranchForm) → closed (branch_form form) ts k → either (closed (branch_form Straight)) (closed (branch_form Tested)) ts k
branch_from ts k Straight s = inl s
branch_from ts k Tested s = inr s

branch_reads : Reads branch_at (closed (any branch_form)) (Stops goes_on)
unfolding branch_at
branch_reads = closed_any branch_at branch_form (Stops goes_on) (reads_as branch_at (either (closed (branch_form Straight)) (closed (branch_form Tested))) (any (λ form. closed (branch_form form))) (Stops goes_on)
    (either_reads (at_word (codes "label")) straight_at tested_at (closed (branch_form Straight)) (closed (branch_form Tested)) (Stops goes_on) straight_reads tested_reads
    (closed_begins (branch_form Straight) _ (then_begins _ _ _ target_first)) (closed_begins (branch_form Tested) _ (then_begins _ _ _ (typed_no_word (codes "label") refl))))
    branch_to (λ ts k s. branch_from ts k s.0 s.1))

abbrev nothing_form : Spell Kind
nothing_form = spell.◌>>=◌ (spell.word (codes "void")) (λ nothing. spell.done (Ret None))

abbrev value_returned : Spell Kind
value_returned = spell.◌>>=◌ typed (λ v. spell.done (Ret (Some v)))

return_nothing_reads : Reads return_nothing_at (closed nothing_form) (Stops goes_on)
unfolding return_nothing_at
return_nothing_reads = closed_then (word_reads (codes "void")) (λ nothing. closed_end (Ret None))

return_value_reads : Reads return_value_at (closed value_returned) (Stops goes_on)
unfolding return_value_at
return_value_reads = closed_then typed_reads (λ v. closed_end (Ret (Some v)))

return_reads : Reads return_at (closed returned) (Stops goes_on)
unfolding return_at
return_reads = closed_either return_at nothing_form value_returned (Stops goes_on)
    (either_reads (at_word (codes "void")) return_nothing_at return_value_at (closed nothing_form) (closed value_returned) (Stops goes_on) return_nothing_reads return_value_reads
    (closed_begins nothing_form _ (then_begins _ _ _ (word_begins _ _ (is_spelled (codes "void"))))) (closed_begins value_returned _ (then_begins _ _ _ (typed_no_word (codes "void") refl))))

last_form_reads : (form : LastForm) → Reads (last_at_form form) (closed (last_form form)) (Stops goes_on)
unfolding stop_at
last_form_reads Branches = branch_reads
last_form_reads Switches = switch_reads
last_form_reads Returns = return_reads
last_form_reads grammar.Stops = closed_end Unreachable

pub last_reads : Reads last_at last (Stops goes_on)
unfolding last_at
last_reads =
    then_reads (one_reads _ _ (lined_tests _ _ (table_tests last_words refl (codes "br") Branches (inl (refl, refl))))) (λ form.
    ending_reads (last_at_form form.0) (last_form form.0) (Stops goes_on) (at_line None form.1) (last_form_reads form.0))

-- what an instruction does not go on with
word_no_end : (t : Lexeme) → t.kind ≡ Word → as_table trailer_words t ≡ None → spells_word (codes "addrspace") t ≡ false → goes_on (Some t) ≡ false
word_no_end t k a b =
    ap (λ (j : TokenKind). cond (is_mark 44 j) true (cond (goes (cond (is_group j) (Some GroupTrailer) (as_table trailer_words t))) true (space_goes (Some t)))) k
    ∙ ap (λ (o : Option TrailerForm). cond (goes o) true (space_goes (Some t))) a ∙ b

-- what is no word, comma or group
pub other_no_end : (t : Lexeme) (k : TokenKind) → t.kind ≡ k → is_word k ≡ false → is_mark 44 k ≡ false → is_group k ≡ false → goes_on (Some t) ≡ false
other_no_end t k e w m g =
    ap (λ (b : Bool). cond b true (cond (trailer_goes (Some t)) true (space_goes (Some t)))) (ap (is_mark 44) e ∙ m)
    ∙ ap (λ (b : Bool). cond b true (space_goes (Some t))) (ap (λ (b : Bool). goes (cond b (Some GroupTrailer) (as_table trailer_words t))) (ap is_group e ∙ g) ∙ ap goes (no_word trailer_words t k e w))
    ∙ no_word_spelled (codes "addrspace") t k e w

local_no_end : (t : Lexeme) → t.kind ≡ Local → goes_on (Some t) ≡ false
local_no_end t k = other_no_end t Local k refl refl refl

-- the word that ends a block begins no other instruction
last_no_plain : Begins last (λ t. plain_goes (Some t) ≡ false)
last_no_plain = then_begins _ _ _ (one_begins (with_line (IsWordIn last_words)) _ (λ t x h. ap goes (plain_word_ahead t None h.0.0 (not_in last_words plain_words refl t x.0 h.0))))

last_no_end : Begins last (λ t. goes_on (Some t) ≡ false)
last_no_end = then_begins _ _ _ (one_begins (with_line (IsWordIn last_words)) _ (λ t x h. word_no_end t h.0.0 (not_in last_words trailer_words refl t x.0 h.0) (not_spelled last_words (codes "addrspace") refl t x.0 h.0)))

-- ---- blocks

-- an instruction's first token does not go on with the one before
plain_follows : (ts : List Lexeme) → plain_goes (head ts) ≡ true → Stops goes_on ts
plain_follows [] e = refl
plain_follows (t ∷ ts) e = by_form (plain_ahead (Some t)) refl
  where
    by_form : (o : Option PlainForm) → plain_ahead (Some t) ≡ o → goes_on (Some t) ≡ false
    by_form None h = let f : false ≡ true = sym (ap goes h) ∙ e in absurd (cc)
    by_form (Some form) h = by_local (is_local t.kind) refl
      where
        by_local : (b : Bool) → is_local t.kind ≡ b → goes_on (Some t) ≡ false
        by_local true k = local_no_end t (local_kind t.kind k)
        by_local false k =
            let w = table_found plain_words t form (sym (ap (λ (b : Bool). cond b (Some Assigns) (as_table plain_words t)) k) ∙ h) in
            word_no_end t w.0 (not_in plain_words trailer_words refl t form w) (not_spelled plain_words (codes "addrspace") refl t form w)

pub plains_reads : Reads (many_at plain_goes plain_at) (many plain) (λ ts. Stops plain_goes ts × Stops goes_on ts)
plains_reads = many_reads_where plain_goes plain_at plain (Stops goes_on) plain_reads plain_first refl plain_follows

abbrev flat_body : List ℕ × ℕ → Read Block
flat_body label =
    many_at plain_goes plain_at >>= λ insts.
    last_at >>= λ end.
    done (record { name = label.0; insts = filter is_kept insts ++ end ∷ []; line = label.1 })

last_stops : (front rest : List Lexeme) (b : Block) (g : Inst → Block) → spell.◌>>=◌ last (λ end. spell.done (g end)) front b → Stops plain_goes (front ++ rest) × Stops goes_on (front ++ rest)
last_stops front rest b g s =
    let u = last_no_plain s.1 s.0 s.3 in
    let v = last_no_end s.1 s.0 s.3 in
    let k = ap (λ (l : List Lexeme). l ++ rest) s.5 in (
      ap (λ (l : List Lexeme). plain_goes (head l)) (k ∙ ap (λ (l : List Lexeme). (l ++ s.2) ++ rest) u.3) ∙ u.2,
      ap (λ (l : List Lexeme). goes_on (head l)) (k ∙ ap (λ (l : List Lexeme). (l ++ s.2) ++ rest) v.3) ∙ v.2,
    )

flat_body_reads : (label : List ℕ × ℕ) → Reads (flat_body label) (body_of label) (Stops goes_on)
flat_body_reads label =
    then_reads_where _ _ (λ ts. Stops plain_goes ts × Stops goes_on ts) _ _ (Stops goes_on) plains_reads (λ insts.
    made_reads (λ end. record { name = label.0; insts = filter is_kept insts ++ end ∷ []; line = label.1 }) last_reads)
    (λ insts front rest b s k. last_stops front rest b (λ end. record { name = label.0; insts = filter is_kept insts ++ end ∷ []; line = label.1 }) s)

body_same : (label : List ℕ × ℕ) → flat_body label ≡ body_at label
unfolding body_at kept_at
body_same label = sym (read_assoc (many_at plain_goes plain_at) (λ insts. done (filter is_kept insts)) (λ insts. last_at >>= λ end. done (record { name = label.0; insts = insts ++ end ∷ []; line = label.1 })))

pub body_reads : (label : List ℕ × ℕ) → Reads (body_at label) (body_of label) (Stops goes_on)
body_reads label = subst (λ f. Reads f (body_of label) (Stops goes_on)) (body_same label) (flat_body_reads label)

pub block_reads : Reads block_at block (Stops goes_on)
unfolding block_at
block_reads = then_reads lined_label_reads body_reads

pub block_first : Begins block (λ t. label_goes (Some t) ≡ true)
block_first = then_begins _ _ _ (one_begins (with_line IsLabel) _ (λ t x h. ap is_label h.0.0))

pub block_shrinks : Shrinks block_at
block_shrinks = shrinks_by block_at block (Stops goes_on) _ block_reads block_first

-- a label does not go on with the block before
pub label_follows : (ts : List Lexeme) → label_goes (head ts) ≡ true → Stops goes_on ts
label_follows [] e = refl
label_follows (t ∷ ts) e = other_no_end t Label (label_kind t.kind e) refl refl refl

pub blocks_reads : Reads (many_at label_goes block_at) (many block) (λ ts. Stops label_goes ts × Stops goes_on ts)
blocks_reads = many_reads_where label_goes block_at block (Stops goes_on) block_reads block_first refl label_follows

-- a block's first instruction is no label
no_label : (t : Lexeme) → ((t.kind ≡ Local) ⊎ (t.kind ≡ Word)) → label_goes (Some t) ≡ false
no_label t (inl k) = ap is_label k
no_label t (inr k) = ap is_label k

plain_no_label : Begins plain (λ t. label_goes (Some t) ≡ false)
plain_no_label = closed_begins (any plain_form) _ (any_begins plain_form _ (plain_form_begins (λ f t. label_goes (Some t) ≡ false) (λ t f k e. no_label t k)))

last_no_label : Begins last (λ t. label_goes (Some t) ≡ false)
last_no_label = then_begins _ _ _ (one_begins (with_line (IsWordIn last_words)) _ (λ t x h. no_label t (inr h.0.0)))

pub body_no_label : (label : List ℕ × ℕ) → Begins (body_of label) (λ t. label_goes (Some t) ≡ false)
body_no_label label = many_begins plain _ _ plain_no_label (λ insts. then_begins _ _ _ last_no_label)
