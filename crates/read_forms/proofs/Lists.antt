-- Lists between marks.
use Rattle.std.proofs.Common.{◌≡◌, ℕ, List, [], ◌∷◌, ◌++◌, Option, Some, Bool, true, false, cond, Result, Ok, Err, refl, sym, ap, ◌∙◌, subst, length, ◌<◌, None, arith}
use Rattle.std.specs.Prelude.{◌==◌}
use Rattle.std.proofs.lemmas.Bool.Decides.{Decides-eqb}
use Rattle.ir_core.specs.Tokens.{Lexeme, Mark}
use Rattle.ir_core.specs.Spell.{IsMark, Items, AtEnd, OneMore, items, after_comma, list_to, many}
use Rattle.ir_core.specs.Spell as spell
use Rattle.read_forms.specs.Read.{Read, Shrinks, head, made, then_read, ◌>>=◌, done, one_at, many_at, put_all, more_at, as_mark, is_mark, at_mark, after_comma_at, items_at, items_form, list_at}
use Rattle.read_forms.proofs.Readers.{ok_not_err, Reads, Free, Begins, one_reads, done_reads, then_reads, then_reads_where, reads_before, pick_reads, one_begins, then_begins}
use Rattle.read_forms.proofs.Many.{Stops, many_begins, many_reads_where, many_then_reads}
use Rattle.read_forms.proofs.TokenTests.{mark_kind, mark_tests}

pub mark_reads : (m : ℕ) → Reads (one_at (as_mark m)) (spell.mark m) Free
mark_reads m = one_reads _ _ (mark_tests m)

-- a mark is none of what q holds of
abbrev pub NotMarks : (Option Lexeme → Bool) → Type 0
NotMarks q = (m : ℕ) (t : Lexeme) → t.kind ≡ Mark m → q (Some t) ≡ false

module _ {X : Type 0} (f : Read X) (S : List Lexeme → X → Type 0) (q : Option Lexeme → Bool) (marks : NotMarks q) (r : Reads f S (Stops q)) where
  pub after_comma_reads : Reads (after_comma_at f) (after_comma S) (Stops q)
  unfolding after_comma_at
  after_comma_reads = then_reads (mark_reads 44) (λ comma. r)

  pub after_comma_begins : Begins (after_comma S) (λ t. at_mark 44 (Some t) ≡ true)
  after_comma_begins = then_begins _ _ _ (one_begins _ _ (λ t line h. ap (is_mark 44) h.0))

  abbrev Ends : List Lexeme → Type 0
  Ends ts = Stops (at_mark 44) ts × Stops q ts

  comma_follows : (ts : List Lexeme) → at_mark 44 (head ts) ≡ true → Stops q ts
  comma_follows [] e = let k : false ≡ true = e in absurd (cc)
  comma_follows (t ∷ ts) e = marks 44 t (mark_kind 44 t.kind e)

  pub more_reads : Reads (many_at (at_mark 44) (after_comma_at f)) (many (after_comma S)) Ends
  more_reads = many_reads_where (at_mark 44) (after_comma_at f) (after_comma S) (Stops q) after_comma_reads after_comma_begins refl comma_follows

  module _ (close : ℕ) (other : (close == 44) ≡ false) (b : Begins S (λ t. is_mark close t.kind ≡ false)) where
    -- as in the grammar
    by_grammar : X → Read (List X)
    by_grammar x = many_at (at_mark 44) (after_comma_at f) >>= λ xs. one_at (as_mark close) >>= λ end. done (x ∷ xs)

    by_loop : X → Read (List X)
    by_loop x = more_at f (x ∷ []) >>= λ xs. one_at (as_mark close) >>= λ end. done xs

    same_by : (x : X) (a : Result (List X × List Lexeme) ℕ) → then_read a (λ xs r. then_read (one_at (as_mark close) r) (λ end. done (x ∷ xs))) ≡ then_read (put_all (x ∷ []) a) (λ xs r. then_read (one_at (as_mark close) r) (λ end. done xs))
    same_by x (Ok p) = refl
    same_by x (Err n) = refl

    same_reading : (x : X) → by_grammar x ≡ by_loop x
    unfolding by_grammar by_loop
    same_reading x = λ i ts. same_by x (many_at (at_mark 44) (after_comma_at f) ts) i

    abbrev closing : List X → List Lexeme → List X → Type 0
    closing xs = spell.◌>>=◌ (spell.mark close) (λ end. spell.done xs)

    closing_begins : (xs : List X) → Begins (closing xs) (λ t. t.kind ≡ Mark close)
    closing_begins xs = then_begins _ _ _ (one_begins _ _ (λ t line h. h.0))

    closes : (xs : List X) (front rest : List Lexeme) (ys : List X) → closing xs front ys → Ends (front ++ rest)
    closes xs front rest ys s =
        let u = closing_begins xs front ys s in (
          ap (λ (l : List Lexeme). at_mark 44 (head (l ++ rest))) u.3 ∙ ap (is_mark 44) u.2 ∙ other,
          ap (λ (l : List Lexeme). q (head (l ++ rest))) u.3 ∙ marks close u.0 u.2,
        )

    grammar_reads : (x : X) → Reads (by_grammar x) (spell.◌>>=◌ (many (after_comma S)) (λ xs. closing (x ∷ xs))) Free
    unfolding by_grammar
    grammar_reads x =
        then_reads_where _ _ Ends _ _ Free more_reads (λ xs.
        then_reads (mark_reads close) (λ end.
        done_reads (x ∷ xs))) (λ xs front rest ys s k. closes (x ∷ xs) front rest ys s)

    loop_reads : (x : X) → Reads (by_loop x) (spell.◌>>=◌ (many (after_comma S)) (λ xs. closing (x ∷ xs))) Free
    loop_reads x = subst (λ g. Reads g (spell.◌>>=◌ (many (after_comma S)) (λ xs. closing (x ∷ xs))) Free) (same_reading x) (grammar_reads x)

    more_begins : (x : X) → Begins (spell.◌>>=◌ (many (after_comma S)) (λ xs. closing (x ∷ xs))) (λ t. q (Some t) ≡ false)
    more_begins x =
        many_begins _ _ _ (then_begins _ _ _ (one_begins _ _ (λ t line h. marks 44 t h.0)))
        (λ xs. then_begins _ _ _ (one_begins _ _ (λ t line h. marks close t h.0)))

    items_reads : (form : Items) → Reads (items_at close f form) (items close S form) Free
    unfolding items_at by_loop
    items_reads AtEnd = then_reads (mark_reads close) (λ end. done_reads [])
    items_reads OneMore = many_then_reads q r loop_reads more_begins

    items_begins : (form : Items) → Begins (items close S form) (λ t. items_form close (Some t) ≡ Some form)
    items_begins AtEnd = then_begins _ _ _ (one_begins _ _ (λ t line h. ap (λ (c : Bool). cond c (Some AtEnd) (Some OneMore)) (ap (is_mark close) h.0 ∙ (Decides-eqb close close).1 refl)))
    items_begins OneMore = then_begins _ _ _ (λ front x s. let u = b front x s in (u.0, u.1, ap (λ (c : Bool). cond c (Some AtEnd) (Some OneMore)) u.2, u.3))

    -- x, .. and the closing mark
    pub list_reads_where : Reads (list_at close f) (list_to close S) Free
    list_reads_where = pick_reads (items_form close) (items_at close f) (items close S) Free items_reads items_begins AtEnd

-- where anything can follow an item
pub list_reads : {X : Type 0} (f : Read X) (S : List Lexeme → X → Type 0) → Reads f S Free → (close : ℕ) → (close == 44) ≡ false → Begins S (λ t. is_mark close t.kind ≡ false) → Reads (list_at close f) (list_to close S) Free
list_reads f S r = list_reads_where f S (λ o. false) (λ m t k. refl) (reads_before (Stops (λ o. false)) (λ ts h. tt) r)

-- what shrinks behind a comma
module _ {X : Type 0} (f : Read X) (shrinks : Shrinks f) where
  by_comma : (o : Option ℕ) (t : Lexeme) (ts : List Lexeme) (x : X) (rest : List Lexeme) → then_read (made o t ts) (λ comma. f) ≡ Ok (x, rest) → length rest < length (t ∷ ts)
  by_comma None t ts x rest e = absurd (ok_not_err (x, rest) _ (sym e))
  by_comma (Some line) t ts x rest e = let h = shrinks ts x rest e in omega arith

  pub after_comma_shrinks : Shrinks (after_comma_at f)
  unfolding after_comma_at
  after_comma_shrinks [] x rest e = absurd (ok_not_err (x, rest) 0 (sym e))
  after_comma_shrinks (t ∷ ts) x rest e = by_comma (as_mark 44 t) t ts x rest e
