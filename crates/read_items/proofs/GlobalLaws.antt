-- Globals and types are read as they are spelled.
use Rattle.std.proofs.Common.{◌≡◌, List, ◌++◌, codes, Option, Some, None, Bool, false, refl, sym, ap, ◌∙◌, subst, inl}
use Rattle.std.proofs.lemmas.List.{append-nil}
use Rattle.ir_core.specs.declared.module.Global.{Global as GlobalItem}
use Rattle.ir_core.specs.Tokens.{Lexeme}
use Rattle.ir_core.specs.Spell.{any, one, IsWordIn, IsMark, with_line, mark, word}
use Rattle.ir_core.specs.Spell as spell
use Rattle.ir_core.specs.Forms.{type_}
use Rattle.ir_core.specs.Instructions.{conventions}
use Rattle.ir_core.specs.Language.{item_words, kept_words, constness, type_def}
use Rattle.read_forms.specs.Read.{goes, one_at, as_one_of, all_for, as_table}
use Rattle.read_forms.specs.Forms.{type_at, space_goes}
use Rattle.read_forms.proofs.Readers.{Reads, Free, one_reads, then_reads, then_reads_where, one_begins, then_begins}
use Rattle.read_forms.proofs.Many.{Stops, many_then_reads}
use Rattle.read_forms.proofs.TokenTests.{not_in, table_tests}
use Rattle.read_forms.proofs.Lists.{mark_reads}
use Rattle.read_forms.proofs.Laws.{word_reads, lined_local_reads, made_reads, type_reads}
use Rattle.read_items.specs.Globals.{item_word_by, item_word_goes, Named, global_item, global_at, type_def_at}
use Rattle.read_items.proofs.WordLaws.{kept_words_reads}
use Rattle.read_items.proofs.Contents.{Strong, HoldsOf, contents_reads, holds_no_space}

-- ---- globals, with the name of the next one where that is begun

pub constness_reads : Reads (one_at (as_table constness)) (one (IsWordIn constness)) Free
constness_reads = one_reads _ _ (table_tests constness refl (codes "global") false (inl (refl, refl)))

-- global and constant are no words of an item
pub constness_no_word : (t : Lexeme) (constant : Bool) → IsWordIn constness t constant → item_word_goes (Some t) ≡ false
constness_no_word t constant h =
    ap (λ (a : Option (Unit {0})). goes (item_word_by a (as_one_of conventions t) t.bytes)) (not_in constness (all_for (tt {0}) item_words) refl t constant h)
    ∙ ap (λ (b : Option (Unit {0})). goes (item_word_by None b t.bytes)) (not_in constness (all_for (tt {0}) conventions) refl t constant h)

abbrev pub GlobalOf : Named → List Lexeme → GlobalItem × Option Named → Type 0
GlobalOf name =
    spell.◌>>=◌ kept_words (λ words. spell.◌>>=◌ (one (IsWordIn constness)) (λ constant. spell.◌>>=◌ type_ (λ ty.
    spell.◌>>=◌ (HoldsOf ty) (λ c. spell.done (global_item name words constant ty c, c.next)))))

pub global_reads : (name : Named) → Reads (global_at name) (GlobalOf name) Strong
unfolding global_at
global_reads name =
    many_then_reads item_word_goes kept_words_reads (λ words.
    then_reads constness_reads (λ constant.
    then_reads_where type_at type_ (Stops space_goes) _ _ Strong type_reads (λ ty. made_reads (λ c. (global_item name words constant ty c, c.next)) (contents_reads ty))
    (λ ty front rest y s w. subst (λ l. Stops space_goes (l ++ rest)) (sym (s.5 ∙ ap (λ (l : List Lexeme). s.1 ++ l) s.4.0 ∙ append-nil s.1)) (holds_no_space ty s.1 rest s.0 s.3 w.3))))
    (λ words. then_begins _ _ _ (one_begins _ _ constness_no_word))

-- ---- types

pub type_def_reads : Reads type_def_at type_def (Stops space_goes)
unfolding type_def_at
type_def_reads =
    then_reads lined_local_reads (λ name.
    then_reads (mark_reads 61) (λ equals.
    then_reads (word_reads (codes "type")) (λ w.
    made_reads (λ body. record { name = name.0; body = body; line = name.1 }) type_reads)))
