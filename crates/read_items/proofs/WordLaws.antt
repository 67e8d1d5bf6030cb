-- The words of an item, and what stands behind the commas of a global, are read as they are spelled.
use Rattle.std.proofs.Common.{◌≡◌, ℕ, List, [], ◌∷◌, ◌++◌, codes, Option, Some, None, true, false, refl, sym, ap, ◌∙◌, inl, inr, append_assoc, arith}
use Rattle.std.proofs.lemmas.List.{append-nil}
use Rattle.std.specs.List.{flat_map}
use Rattle.ir_core.specs.Tokens.{Lexeme, Word}
use Rattle.ir_core.specs.Spell.{any, many, IsWord, IsWordIn, mark, word}
use Rattle.ir_core.specs.Spell as spell
use Rattle.ir_core.specs.Forms.{maybe, token, IsOneOf, next, alignment}
use Rattle.ir_core.specs.Instructions.{next_alignment, IsText, conventions}
use Rattle.ir_core.specs.Language.{item_words, IsItemWord, kept_words, section_word, comdat_word}
use Rattle.read_forms.specs.Read.{Read, one_at, goes, maybe_at, as_one_of, all_for, at_word, spells_word, either_at, at_mark, is_mark, after_comma_at}
use Rattle.read_forms.specs.Forms.{alignment_at}
use Rattle.read_forms.proofs.Readers.{Reads, Begins, Tests, one_reads, then_reads, one_begins, then_begins, reads_before, reads_as}
use Rattle.read_forms.proofs.Many.{Stops, many_reads}
use Rattle.read_forms.proofs.Choices.{maybe_reads, maybe_reads_where, either, either_reads, either_begins}
use Rattle.read_forms.proofs.TokenTests.{one_of_tests, contains_in, not_in, some_is, is_spelled, not_spelled, fresh}
use Rattle.read_forms.proofs.Laws.{word_reads, word_begins, made_reads, next_reads, alignment_reads}
use Rattle.read_ends.specs.Ends.{next_alignment_at}
use Rattle.read_ends.proofs.EndLaws.{text_reads}
use Rattle.read_items.specs.Globals.{item_word_by, as_item_word, item_word_goes, kept_words_at, comdat_first_at, last_piece_at, last_pieces_at, section_first_at, tail_at}

-- ---- words

word_tests : Tests (as_one_of item_words) (λ t u. IsOneOf item_words t)
word_tests = one_of_tests item_words refl (codes "private") (0, omega arith, refl)

convention_tests : Tests (as_one_of conventions) (λ t u. IsOneOf conventions t)
convention_tests = one_of_tests conventions refl (codes "ccc") (0, omega arith, refl)

abbrev by : Option (Unit {0}) → Option (Unit {0}) → List ℕ → Option (List (List ℕ))
by = item_word_by

item_word_found : (t : Lexeme) (a b : Option (Unit {0})) → as_one_of item_words t ≡ a → as_one_of conventions t ≡ b → (words : List (List ℕ)) → by a b t.bytes ≡ Some words → IsItemWord t words
item_word_found t (Some u) b e f words h = inl (word_tests.found t u e, sym (some_is (t.bytes ∷ []) words h))
item_word_found t None (Some u) e f words h = inr (convention_tests.found t u f, sym (some_is [] words h))
item_word_found t None None e f words h = absurd (let n : ◌≡◌ {A = Option (List (List ℕ))} None (Some words) = h in cc)

no_item_word : (t : Lexeme) → IsOneOf conventions t → as_one_of item_words t ≡ None
no_item_word t h = not_in (all_for (tt {0}) conventions) (all_for (tt {0}) item_words) refl t tt (h.0, contains_in tt conventions h.1.0 t.bytes h.1.1 h.1.2)

item_word_only : (t : Lexeme) (words : List (List ℕ)) → IsItemWord t words → as_item_word t ≡ Some words
item_word_only t words (inl h) = ap (λ (a : Option (Unit {0})). by a (as_one_of conventions t) t.bytes) (word_tests.only t tt h.0) ∙ ap Some (sym h.1)
item_word_only t words (inr h) = ap (λ (a : Option (Unit {0})). by a (as_one_of conventions t) t.bytes) (no_item_word t h.0) ∙ ap (λ (b : Option (Unit {0})). by None b t.bytes) (convention_tests.only t tt h.0) ∙ ap Some (sym h.1)

item_word_tests : Tests as_item_word IsItemWord
item_word_tests = record {
  found = λ t words h. item_word_found t (as_one_of item_words t) (as_one_of conventions t) refl refl words h;
  only = item_word_only;
  some = record { kind = Word; bytes = codes "private"; line = 0 };
  value = codes "private" ∷ [];
  holds = inl ((refl, (0, omega arith, refl)), refl);
}

pub kept_words_reads : Reads kept_words_at kept_words (Stops item_word_goes)
unfolding kept_words_at
kept_words_reads =
    made_reads (λ words. flat_map (λ ws. ws) words)
    (many_reads item_word_goes (one_at as_item_word) (spell.one IsItemWord) (one_reads _ _ item_word_tests) (one_begins _ _ (λ t words h. ap goes (item_word_only t words h))) refl)

-- ---- what stands behind commas, factored by the word that comes next

abbrev pub LastAlignment : List Lexeme → ℕ → Type 0
LastAlignment = maybe 0 (next alignment)

comma_first : {X : Type 0} (S : List Lexeme → X → Type 0) → Begins (next S) (λ t. at_mark 44 (Some t) ≡ true)
comma_first S = then_begins _ _ _ (one_begins _ _ (λ t line h. ap (is_mark 44) h.0))

last_alignment_reads : Reads next_alignment_at LastAlignment (Stops (at_mark 44))
unfolding next_alignment_at
last_alignment_reads = maybe_reads 0 (at_mark 44) (after_comma_at alignment_at) (next alignment) (next_reads alignment_reads) (comma_first alignment)

abbrev pub ComdatFirst : List Lexeme → ℕ → Type 0
ComdatFirst = spell.◌>>=◌ (word (codes "comdat")) (λ w. LastAlignment)

comdat_reads : Reads comdat_first_at ComdatFirst (Stops (at_mark 44))
unfolding comdat_first_at
comdat_reads = then_reads (word_reads (codes "comdat")) (λ w. last_alignment_reads)

-- no alignment begins with another word
alignment_no_word : (w : List ℕ) → fresh w ((codes "align", tt {0}) ∷ []) ≡ true → Begins alignment (λ t. spells_word w t ≡ false)
alignment_no_word w f = then_begins _ _ _ (word_begins _ _ (λ t line h. not_spelled ((codes "align", tt {0}) ∷ []) w f t tt (h.0, inl (h.1, refl))))

comdat_no_section : Begins ComdatFirst (λ t. spells_word (codes "section") t ≡ false)
comdat_no_section = then_begins _ _ _ (word_begins _ _ (λ t line h. not_spelled ((codes "comdat", tt {0}) ∷ []) (codes "section") refl t tt (h.0, inl (h.1, refl))))

abbrev pub LastPiece : List Lexeme → ℕ → Type 0
LastPiece = either ComdatFirst alignment

last_piece_reads : Reads last_piece_at LastPiece (Stops (at_mark 44))
last_piece_reads =
    either_reads (at_word (codes "comdat")) comdat_first_at alignment_at ComdatFirst alignment (Stops (at_mark 44)) comdat_reads (reads_before (Stops (at_mark 44)) (λ ts h. tt) alignment_reads)
    (then_begins _ _ _ (word_begins _ _ (is_spelled (codes "comdat")))) (alignment_no_word (codes "comdat") refl)

-- behind a comma or not at all
pieces_reads : (f : Read ℕ) (S : List Lexeme → ℕ → Type 0) → Reads f S (Stops (at_mark 44)) → Reads (maybe_at 0 (at_mark 44) (after_comma_at f)) (maybe 0 (next S)) (Stops (at_mark 44))
pieces_reads f S r = reads_before (Stops (at_mark 44)) (λ ts h. (h, h)) (maybe_reads_where 0 (at_mark 44) (after_comma_at f) (next S) (Stops (at_mark 44)) (next_reads r) (comma_first S))

abbrev pub LastPieces : List Lexeme → ℕ → Type 0
LastPieces = maybe 0 (next LastPiece)

last_pieces_reads : Reads last_pieces_at LastPieces (Stops (at_mark 44))
unfolding last_pieces_at
last_pieces_reads = pieces_reads last_piece_at LastPiece last_piece_reads

abbrev pub SectionFirst : List Lexeme → ℕ → Type 0
SectionFirst = spell.◌>>=◌ (word (codes "section")) (λ w. spell.◌>>=◌ (token IsText) (λ text. LastPieces))

section_reads : Reads section_first_at SectionFirst (Stops (at_mark 44))
unfolding section_first_at
section_reads = then_reads (word_reads (codes "section")) (λ w. then_reads text_reads (λ text. last_pieces_reads))

abbrev pub Pieces : List Lexeme → ℕ → Type 0
Pieces = maybe 0 (next (either SectionFirst LastPiece))

pieces_first : Reads tail_at Pieces (Stops (at_mark 44))
unfolding tail_at
pieces_first =
    pieces_reads (either_at (at_word (codes "section")) section_first_at last_piece_at) (either SectionFirst LastPiece)
    (either_reads (at_word (codes "section")) section_first_at last_piece_at SectionFirst LastPiece (Stops (at_mark 44)) section_reads last_piece_reads
    (then_begins _ _ _ (word_begins _ _ (is_spelled (codes "section")))) (either_begins ComdatFirst alignment _ comdat_no_section (alignment_no_word (codes "section") refl)))

-- ---- the same, as the grammar has it

abbrev pub LastTail : List Lexeme → ℕ → Type 0
LastTail = spell.◌>>=◌ (maybe tt (next comdat_word)) (λ shared. next_alignment)

abbrev pub Tail : List Lexeme → ℕ → Type 0
Tail = spell.◌>>=◌ (maybe tt (next section_word)) (λ sec. LastTail)

behind : (ts c r w a : List Lexeme) → ts ≡ c ++ r → r ≡ w ++ a → ts ≡ (c ++ w) ++ a
behind ts c r w a e f = e ∙ ap (λ (l : List Lexeme). c ++ l) f ∙ sym (append_assoc c w a)

to_last : (ts : List Lexeme) (n : ℕ) → LastPieces ts n → LastTail ts n
to_last ts n (inl h) = (tt, [], ts, inl (refl, refl), inl h, refl)
to_last ts n (inr (line, c, r, m, inl (l, w, a, ws, al, f), e)) = (tt, c ++ w, a, inr (line, c, w, m, (l, w, [], ws, (refl, refl), sym (append-nil w)), refl), al, behind ts c r w a e f)
to_last ts n (inr (line, c, r, m, inr al, e)) = (tt, [], ts, inl (refl, refl), inr (line, c, r, m, al, e), refl)

pub to_tail : (ts : List Lexeme) (n : ℕ) → Pieces ts n → Tail ts n
to_tail ts n (inl h) = (tt, [], ts, inl (refl, refl), (tt, [], ts, inl (refl, refl), inl h, refl), refl)
to_tail ts n (inr (line, c, r, m, inl (l, w, a, ws, (u, x, b, xs, last, g), f), e)) =
    (tt, c ++ (w ++ x), b, inr (line, c, w ++ x, m, (l, w, x, ws, xs, refl), refl), to_last b n last, behind ts c r (w ++ x) b e (behind r w a x b f g))
to_tail ts n (inr (line, c, r, m, inr last, e)) = (tt, [], ts, inl (refl, refl), to_last ts n (inr (line, c, r, m, last, e)), refl)

at_front : (f r : List Lexeme) → f ≡ [] → f ++ r ≡ r
at_front f r e = ap (λ (l : List Lexeme). l ++ r) e

from_last : (ts : List Lexeme) (n : ℕ) → LastTail ts n → LastPieces ts n
from_last ts n (u, f, r, inl h, inl a, e) = inl (e ∙ at_front f r h.0 ∙ a.0, a.1)
from_last ts n (u, f, r, inl h, inr (line, c, q, m, al, g), e) = inr (line, c, q, m, inr al, e ∙ at_front f r h.0 ∙ g)
from_last ts n (u, f, r, inr (line, c, w, m, (l, x, z, ws, end, k), g), al, e) =
    inr (line, c, x ++ r, m, inl (l, x, r, ws, al, refl), e ∙ ap (λ (l : List Lexeme). l ++ r) (g ∙ ap (λ (l : List Lexeme). c ++ l) (k ∙ ap (λ (l : List Lexeme). x ++ l) end.0 ∙ append-nil x)) ∙ append_assoc c x r)

from_rest : (ts r : List Lexeme) (n : ℕ) → ts ≡ r → LastPieces r n → Pieces ts n
from_rest ts r n e (inl h) = inl (e ∙ h.0, h.1)
from_rest ts r n e (inr (line, c, q, m, last, g)) = inr (line, c, q, m, inr last, e ∙ g)

pub from_tail : (ts : List Lexeme) (n : ℕ) → Tail ts n → Pieces ts n
from_tail ts n (u, f, r, inl h, last, e) = from_rest ts r n (e ∙ at_front f r h.0) (from_last r n last)
from_tail ts n (u, f, r, inr (line, c, w, m, (l, x, y, ws, ys, k), g), last, e) =
    inr (
      line,
      c,
      x ++ (y ++ r),
      m,
      inl (l, x, y ++ r, ws, (tt, y, r, ys, from_last r n last, refl), refl),
      e ∙ ap (λ (l : List Lexeme). l ++ r) (g ∙ ap (λ (l : List Lexeme). c ++ l) k) ∙ append_assoc c (x ++ y) r ∙ ap (λ (l : List Lexeme). c ++ l) (append_assoc x y r),
    )

pub tail_reads : Reads tail_at Tail (Stops (at_mark 44))
tail_reads = reads_as tail_at Pieces Tail (Stops (at_mark 44)) pieces_first to_tail from_tail
