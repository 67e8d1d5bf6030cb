-- What stands behind an instruction is read as it is spelled.
use Rattle.std.proofs.Common.{◌≡◌, ℕ, List, [], ◌++◌, codes, Option, Some, None, Bool, true, false, cond, Result, Ok, Err, refl, sym, ap, ◌∙◌, subst, inl, inr, arith}
use Rattle.std.specs.Prelude.{not}
use Rattle.std.specs.Str.{bytes_eq}
use Rattle.ir_core.specs.Tokens.{Lexeme, TokenKind, Word, Mark, Meta, Group, Text}
use Rattle.ir_core.specs.Spell.{Spell, any}
use Rattle.ir_core.specs.Spell as spell
use Rattle.ir_core.specs.Forms.{next, token, alignment, dropped}
use Rattle.ir_core.specs.Instructions.{IsMetaName, IsGroup, IsText, attachment, attachments, next_alignment, plain_function_words, TrailerForm, GroupTrailer, WordTrailer, trailer_form}
use Rattle.read_forms.specs.Read.{Read, then_read, Shrinks, ◌>>=◌, done, head, one_at, goes, at_mark, maybe_at, after_comma_at, as_table, is_mark}
use Rattle.read_forms.specs.Forms.{alignment_at, space_goes}
use Rattle.read_forms.proofs.Readers.{Reads, Free, Begins, Tests, one_reads, done_reads, then_reads, then_reads_where, pick_reads, one_begins, then_begins, reads_before, reads_as}
use Rattle.read_forms.proofs.Many.{Stops, shrinks_by, dropped_reads}
use Rattle.read_forms.proofs.Choices.{maybe_reads, maybe_reads_where, either, either_reads}
use Rattle.read_forms.proofs.TokenTests.{chosen, chosen_some, table_only, contains_in, no_word, no_word_spelled}
use Rattle.read_forms.proofs.Laws.{word_begins, next_reads, alignment_reads, one_of_reads}
use Rattle.read_ends.specs.Ends.{closed, is_meta, is_group, is_text, is_meta_name, as_meta_name, as_group, as_text, attachment_at, attachments_at, next_alignment_at, meta_goes, attached_at, aligned_at, behind_comma_at, tail_at, trailer_words, trailer_at_form, trailer_ahead, trailer_goes, trailer_at, trailers_at, call_end_at, goes_on}
use Rattle.read_ends.proofs.Closed.{attached, by_comma, closed_then_where, closed_maybe, FirstAttached, first_attached, opened}

-- ---- single tokens

meta_kind : (k : TokenKind) → is_meta k ≡ true → k ≡ Meta
meta_kind Meta e = refl
meta_kind _ e = absurd (let f : false ≡ true = e in cc)

group_kind : (k : TokenKind) → is_group k ≡ true → k ≡ Group
group_kind Group e = refl
group_kind _ e = absurd (let f : false ≡ true = e in cc)

text_kind : (k : TokenKind) → is_text k ≡ true → k ≡ Text
text_kind Text e = refl
text_kind _ e = absurd (let f : false ≡ true = e in cc)

not_true : (b : Bool) → not b ≡ true → b ≡ false
not_true false e = refl
not_true true e = absurd (let f : false ≡ true = e in cc)

pub is_meta_seen : (t : Lexeme) → IsMetaName t → is_meta_name t ≡ true
is_meta_seen t h = ap (λ (k : TokenKind). cond (is_meta k) (not (bytes_eq t.bytes (codes "!{"))) false) h.0 ∙ ap not h.1

meta_found : (t : Lexeme) → is_meta_name t ≡ true → IsMetaName t
meta_found t e = elim (chosen (is_meta t.kind) _ _ _ e) [
  | inl p ↦ (meta_kind t.kind p.0, not_true (bytes_eq t.bytes (codes "!{")) p.1)
  | inr p ↦ let q = p.1 in let f : ⊥ = cc in absurd f
]

-- a test that gives nothing more
module _ (test : Lexeme → Bool) (Is : Lexeme → Type 0) (found : (t : Lexeme) → test t ≡ true → Is t) (only : (t : Lexeme) → Is t → test t ≡ true) (some : Lexeme) (holds : Is some) where
  pub plain_tests : Tests (λ t. cond (test t) (Some (tt {0})) None) (λ t u. Is t)
  plain_tests = record {
    found = λ t u e. found t (chosen_some (test t) (Some (tt {0})) u e).0;
    only = λ t u h. ap (λ (b : Bool). cond b (Some (tt {0})) None) (only t h);
    some = some;
    value = tt;
    holds = holds;
  }

pub meta_name_reads : Reads (one_at as_meta_name) (token IsMetaName) Free
meta_name_reads = one_reads _ _ (plain_tests is_meta_name IsMetaName meta_found is_meta_seen (record { kind = Meta; bytes = []; line = 0 }) (refl, refl))

pub group_reads : Reads (one_at as_group) (token IsGroup) Free
group_reads = one_reads _ _ (plain_tests (λ t. is_group t.kind) IsGroup (λ t e. group_kind t.kind e) (λ t h. ap is_group h) (record { kind = Group; bytes = []; line = 0 }) refl)

pub text_reads : Reads (one_at as_text) (token IsText) Free
text_reads = one_reads _ _ (plain_tests (λ t. is_text t.kind) IsText (λ t e. text_kind t.kind e) (λ t h. ap is_text h) (record { kind = Text; bytes = []; line = 0 }) refl)

-- ---- attachments

pub attachment_reads : Reads attachment_at attachment Free
unfolding attachment_at
attachment_reads = then_reads meta_name_reads (λ name. meta_name_reads)

pub attachment_first : Begins attachment (λ t. meta_goes (Some t) ≡ true)
attachment_first = then_begins _ _ _ (one_begins _ _ (λ t u h. is_meta_seen t h))

pub comma_first : {X : Type 0} (S : Spell X) → Begins (next S) (λ t. at_mark 44 (Some t) ≡ true)
comma_first S = then_begins _ _ _ (one_begins _ _ (λ t line h. ap (is_mark 44) h.0))

next_attachment_reads : Reads (after_comma_at attachment_at) (next attachment) Free
next_attachment_reads = next_reads attachment_reads

pub next_attachment_shrinks : Shrinks (after_comma_at attachment_at)
next_attachment_shrinks = shrinks_by _ _ Free _ next_attachment_reads (comma_first attachment)

pub attachments_reads : Reads attachments_at attachments (Stops (at_mark 44))
unfolding attachments_at
attachments_reads = dropped_reads (at_mark 44) (after_comma_at attachment_at) (next attachment) next_attachment_reads (comma_first attachment) refl

-- ---- alignments

pub next_alignment_reads : Reads next_alignment_at next_alignment (Stops (at_mark 44))
unfolding next_alignment_at
next_alignment_reads = maybe_reads 0 (at_mark 44) (after_comma_at alignment_at) (next alignment) (next_reads alignment_reads) (comma_first alignment)

-- a value, and the attachments behind it
pub end_reads : {X : Type 0} (v : X) → Reads (attachments_at >>= λ b. done v) (spell.◌>>=◌ attachments (λ b. spell.done v)) (Stops (at_mark 44))
end_reads v = then_reads_where attachments_at attachments (Stops (at_mark 44)) (λ b. done v) (λ b. spell.done v) (Stops (at_mark 44)) attachments_reads (λ b. reads_before (Stops (at_mark 44)) (λ ts h. tt) (done_reads v)) (λ b front rest y s k. subst (λ l. Stops (at_mark 44) (l ++ rest)) (sym s.0) k)

pub closed_done : {X : Type 0} (v : X) → Reads (attachments_at >>= λ b. done v) (closed (spell.done v)) (Stops (at_mark 44))
closed_done v = reads_as _ (spell.◌>>=◌ attachments (λ b. spell.done v)) (closed (spell.done v)) (Stops (at_mark 44)) (end_reads v) into from
  where
    into : (ts : List Lexeme) (x : _) → spell.◌>>=◌ attachments (λ b. spell.done v) ts x → closed (spell.done v) ts x
    into ts x s = (x, [], ts, (refl, s.4.1), (s.0, s.1, s.2, s.3, (s.4.0, refl), s.5), refl)

    from : (ts : List Lexeme) (x : _) → closed (spell.done v) ts x → spell.◌>>=◌ attachments (λ b. spell.done v) ts x
    from ts x s = let u = s.4 in (u.0, u.1, u.2, u.3, (u.4.0, u.4.1 ∙ s.3.1), s.5 ∙ ap (λ (l : List Lexeme). l ++ s.2) s.3.0 ∙ u.5)

pub attached_reads : {X : Type 0} (v : X) → Reads (attached_at v) (attached v) (Stops (at_mark 44))
unfolding attached_at
attached_reads v = then_reads attachment_reads (λ u. end_reads v)

pub attached_first : {X : Type 0} (v : X) → Begins (attached v) (λ t. meta_goes (Some t) ≡ true)
attached_first v = then_begins _ _ _ attachment_first

aligned_reads : Reads aligned_at (closed alignment) (Stops (at_mark 44))
unfolding aligned_at
aligned_reads = then_reads alignment_reads (λ n. end_reads n)

-- what begins with another kind of token is no attachment
pub no_meta : (t : Lexeme) (k : TokenKind) → t.kind ≡ k → is_meta k ≡ false → meta_goes (Some t) ≡ false
no_meta t k e f = ap (λ (j : TokenKind). cond (is_meta j) (not (bytes_eq t.bytes (codes "!{"))) false) e ∙ ap (λ (b : Bool). cond b (not (bytes_eq t.bytes (codes "!{"))) false) f

-- an attachment or a form, behind one comma
pub by_comma_reads : {X : Type 0} (v : X) (f : Read X) (A : Spell X) → Reads f A (Stops (at_mark 44)) → Begins A (λ t. meta_goes (Some t) ≡ false) → Reads (maybe_at v (at_mark 44) (behind_comma_at v f)) (by_comma v A) (Stops (at_mark 44))
unfolding behind_comma_at
by_comma_reads v f A r b =
    reads_before (Stops (at_mark 44)) (λ ts h. (h, h))
    (maybe_reads_where v (at_mark 44) _ _ (Stops (at_mark 44))
    (next_reads (either_reads meta_goes (attached_at v) f (attached v) A (Stops (at_mark 44)) (attached_reads v) r (attached_first v) b))
    (comma_first (either (attached v) A)))

pub tail_reads : Reads tail_at (closed next_alignment) (Stops (at_mark 44))
unfolding tail_at
tail_reads = closed_maybe 0 alignment _ (Stops (at_mark 44)) (by_comma_reads 0 aligned_at (closed alignment) aligned_reads (then_begins _ _ _ (then_begins _ _ _ (word_begins _ _ (λ t line h. no_meta t Word h.0 refl)))))

-- ---- trailers

trailer_form_reads : (form : TrailerForm) → Reads (trailer_at_form form) (trailer_form form) Free
trailer_form_reads GroupTrailer = group_reads
trailer_form_reads WordTrailer = one_of_reads plain_function_words refl (codes "nounwind") (0, omega arith, refl)

trailer_begins : (form : TrailerForm) → Begins (trailer_form form) (λ t. trailer_ahead (Some t) ≡ Some form)
trailer_begins GroupTrailer = one_begins _ _ (λ t u h. ap (λ (k : TokenKind). cond (is_group k) (Some GroupTrailer) (as_table trailer_words t)) h)
trailer_begins WordTrailer = one_begins _ _ (λ t u h. ap (λ (k : TokenKind). cond (is_group k) (Some GroupTrailer) (as_table trailer_words t)) h.0 ∙ table_only trailer_words refl t WordTrailer (h.0, contains_in WordTrailer plain_function_words h.1.0 t.bytes h.1.1 h.1.2))

trailer_reads : Reads trailer_at (any trailer_form) Free
unfolding trailer_at
trailer_reads = pick_reads trailer_ahead trailer_at_form trailer_form Free trailer_form_reads trailer_begins GroupTrailer

trailer_first : Begins (any trailer_form) (λ t. trailer_goes (Some t) ≡ true)
trailer_first front x s = let u = trailer_begins s.0 front x s.1 in (u.0, u.1, ap goes u.2, u.3)

pub trailer_shrinks : Shrinks trailer_at
trailer_shrinks = shrinks_by trailer_at (any trailer_form) Free _ trailer_reads trailer_first

pub trailers_reads : Reads trailers_at (dropped (any trailer_form)) (Stops trailer_goes)
unfolding trailers_at
trailers_reads = dropped_reads trailer_goes trailer_at (any trailer_form) trailer_reads trailer_first refl

-- ---- what an instruction can go on with

none_of : (a b c : Bool) → cond a true (cond b true c) ≡ false → (a ≡ false) × (b ≡ false) × (c ≡ false)
none_of false false c e = (refl, refl, e)
none_of false true c e = absurd (let f : true ≡ false = e in cc)
none_of true b c e = absurd (let f : true ≡ false = e in cc)

pub no_comma : (ts : List Lexeme) → Stops goes_on ts → Stops (at_mark 44) ts
no_comma ts h = (none_of (at_mark 44 (head ts)) (trailer_goes (head ts)) (space_goes (head ts)) h).0

pub no_trailer : (ts : List Lexeme) → Stops goes_on ts → Stops trailer_goes ts
no_trailer ts h = (none_of (at_mark 44 (head ts)) (trailer_goes (head ts)) (space_goes (head ts)) h).1

pub no_space : (ts : List Lexeme) → Stops goes_on ts → Stops space_goes ts
no_space ts h = (none_of (at_mark 44 (head ts)) (trailer_goes (head ts)) (space_goes (head ts)) h).2

comma_kind : Begins (next attachment) (λ t. t.kind ≡ Mark 44)
comma_kind = then_begins _ _ _ (one_begins _ _ (λ t line m. m.0))

-- behind the attachments, or where there is none
pub end_stops : (p : Option Lexeme → Bool) → ((t : Lexeme) → t.kind ≡ Mark 44 → p (Some t) ≡ false) → (b rest : List Lexeme) → attachments b tt → Stops p rest → Stops p (b ++ rest)
end_stops p c b rest s k = by_first (first_attached b s)
  where
    by_first : FirstAttached b → Stops p (b ++ rest)
    by_first (inl h) = subst (λ l. Stops p (l ++ rest)) (sym h) k
    by_first (inr h) =
        let n = h.2 in
        let u = comma_kind h.0 tt n in
        ap (λ (l : List Lexeme). p (head (l ++ rest))) (h.4 ∙ ap (λ (l : List Lexeme). l ++ h.1) u.3) ∙ c u.0 u.2

comma_no_trailer : (t : Lexeme) → t.kind ≡ Mark 44 → trailer_goes (Some t) ≡ false
comma_no_trailer t k = ap (λ (j : TokenKind). goes (cond (is_group j) (Some GroupTrailer) (as_table trailer_words t))) k ∙ ap goes (no_word trailer_words t (Mark 44) k refl)

comma_no_space : (t : Lexeme) → t.kind ≡ Mark 44 → space_goes (Some t) ≡ false
comma_no_space t k = no_word_spelled (codes "addrspace") t (Mark 44) k refl

-- a value behind attachments stops what such a comma does not go on
closed_stops : {X : Type 0} (v : X) (p : Option Lexeme → Bool) → ((t : Lexeme) → t.kind ≡ Mark 44 → p (Some t) ≡ false) → (front rest : List Lexeme) (y : X) → closed (spell.done v) front y → Stops p rest → Stops p (front ++ rest)
closed_stops v p c front rest y s k =
    let u = opened (spell.done v) front y s in
    subst (λ l. Stops p (l ++ rest)) (sym (u.4 ∙ ap (λ (l : List Lexeme). l ++ u.1) u.2.0)) (end_stops p c u.1 rest u.3 k)

-- a type at the end, and attachments
pub closed_type : {X Y : Type 0} {f : Read X} {S : Spell X} (v : X → Y) → Reads f S (Stops space_goes) → Reads (f >>= λ x. attachments_at >>= λ b. done (v x)) (closed (spell.◌>>=◌ S (λ x. spell.done (v x)))) (Stops goes_on)
closed_type {f = f} {S = S} v r =
    closed_then_where f S (Stops space_goes) (λ x. attachments_at >>= λ b. done (v x)) (λ x. spell.done (v x)) (Stops goes_on) r
    (λ x. reads_before (Stops goes_on) no_comma (closed_done (v x)))
    (λ x front rest y s k. closed_stops (v x) space_goes comma_no_space front rest y s (no_space rest k))

-- the end of an instruction
pub closed_end : {X : Type 0} (v : X) → Reads (attachments_at >>= λ b. done v) (closed (spell.done v)) (Stops goes_on)
closed_end v = reads_before (Stops goes_on) no_comma (closed_done v)

-- ---- the end of a call

abbrev flat_end : {X : Type 0} → X → Read X
flat_end v = trailers_at >>= λ b. attachments_at >>= λ e. done v

flat_end_reads : {X : Type 0} (v : X) → Reads (flat_end v) (closed (spell.◌>>=◌ (dropped (any trailer_form)) (λ b. spell.done v))) (Stops goes_on)
flat_end_reads v =
    closed_then_where trailers_at (dropped (any trailer_form)) (Stops trailer_goes) (λ b. attachments_at >>= λ e. done v) (λ b. spell.done v) (Stops goes_on) trailers_reads
    (λ b. closed_end v)
    (λ b front rest y s k. closed_stops v trailer_goes comma_no_trailer front rest y s (no_trailer rest k))

-- first the first two, or first the last two
pub read_assoc : {X Y Z : Type 0} (f : Read X) (g : X → Read Y) (h : Y → Read Z) → (f >>= g) >>= h ≡ f >>= λ x. g x >>= h
read_assoc {X} {Y} {Z} f g h = λ i ts. by_first (f ts) i
  where
    by_first : (a : Result (X × List Lexeme) ℕ) → then_read (then_read a g) h ≡ then_read a (λ x. g x >>= h)
    by_first (Ok p) = refl
    by_first (Err n) = refl

pub call_end_reads : {X : Type 0} (v : X) → Reads (call_end_at >>= λ e. done v) (closed (spell.◌>>=◌ (dropped (any trailer_form)) (λ b. spell.done v))) (Stops goes_on)
unfolding call_end_at
call_end_reads v =
    subst (λ f. Reads f (closed (spell.◌>>=◌ (dropped (any trailer_form)) (λ b. spell.done v))) (Stops goes_on))
    (sym (read_assoc trailers_at (λ b. attachments_at >>= λ e. done (tt {0})) (λ e. done v) ∙ (λ i. trailers_at >>= λ b. read_assoc attachments_at (λ e. done (tt {0})) (λ e. done v) i)))
    (flat_end_reads v)
