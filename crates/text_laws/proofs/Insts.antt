-- Instructions with their results and lines: what spells one is spelled by its canonical text, but for the line.
use Rattle.std.proofs.Common.{◌≡◌, ℕ, List, [], ◌∷◌, ◌++◌, append_assoc, Option, Some, None, true, refl, sym, ap, ◌∙◌, subst, codes}
use Rattle.std.proofs.lemmas.List.{append-nil}
use Rattle.ir_core.specs.declared.instructions.Kind.{Kind}
use Rattle.ir_core.specs.declared.instructions.Inst.{Inst}
use Rattle.ir_core.specs.declared.instructions.TailWord.{TailWord}
use Rattle.ir_core.specs.declared.instructions.TailWord.TheVariants.{Absent as NoTailWord}
use Rattle.ir_core.specs.Tokens.{Word, Mark, Lexeme}
use Rattle.ir_core.specs.Spell.{◌>>=◌, done, word, InTable}
use Rattle.ir_core.specs.Forms.{next}
use Rattle.ir_core.specs.Instructions.{attachment, at_line, called, tail_words, stored, fenced, assigned, PlainForm, Assigns, Stores, Fences, Calls, TailCalls, plain_form, plain, LastForm, last_words, last_form, last}
use Rattle.ir_core.specs.Text.{is_word, local_text, result_text, kind_text, inst_text}
use Rattle.ir_core.specs.Lines.{inst_unlined}
use Rattle.text_laws.specs.Spelling.{AreBytes, IsSpelled}
use Rattle.text_laws.proofs.Rows.{Bare, bare}
use Rattle.text_laws.proofs.Joined.{Gives, Inner, gives_then, closes_gives, closes_then, closes_space, closes_mark, gives_word, gives_inner, inner_of, inner_then, inner_line, inner_as}
use Rattle.text_laws.proofs.Spelled.{Spelled, spelled_done, spelled_then, spelled_as, spelled_any, token_then, shows_word, shows_mark, shows_in, shows_line}
use Rattle.text_laws.proofs.Good.{good_then, good_done, good_one, good_any}
use Rattle.text_laws.proofs.Back.{Back, Says, Ended, empty_dropped}
use Rattle.text_laws.proofs.Names.{local_bytes, local_bare, gives_local, shows_local, WordsAre, in_table}
use Rattle.text_laws.proofs.ValueKinds.{Behind}
use Rattle.text_laws.proofs.Calls.{Called, called_says, tail_word_text, tails_are, tail_called, assigned_says}
use Rattle.text_laws.proofs.Effects.{store_says, fence_says, last_word, last_says}

-- an instruction on some line
abbrev pub Same : Inst → Inst → Type 0
Same i n = inst_unlined i ≡ inst_unlined n

abbrev Lined : Option (List ℕ) → Kind → Inst → Type 0
Lined r k n = ◌≡◌ {A = Inst} (record { result = r; kind = k; line = 0 }) (inst_unlined n)

-- the text of an instruction between the spaces before it and the line end
abbrev pub whole_text : Inst → List ℕ
whole_text i = result_text i.result ++ kind_text i.kind

-- ---- instructions that end no block

-- a word, and what is spelled behind it
lined_says : {k : Kind} {body : List ℕ} (w : List ℕ) (S : List Lexeme → Kind → Type 0) → is_word w ≡ true → Ended body → Says body S k → Back Gives (w ++ body) (word w >>= (λ line. S >>= (λ kind. done (at_line None line kind)))) (Lined None k)
lined_says {k} w S h e s = record {
  tokens = bare Word w ∷ s.tokens;
  lexed = gives_then (gives_word w h) s.lexed e;
  spelled = token_then (shows_word w) (λ line u. spelled_as (append-nil s.tokens) (spelled_then {ls = s.tokens} {ms = []} {Q = Lined None k} s.spelled (λ l q.
      spelled_done (at_line None line l) (Lined None k) (λ i. record { result = None; kind = sym q i; line = 0 }))));
}

assigned_back : (x : List ℕ) (k : Kind) → AreBytes x → Says (kind_text k) assigned k → Back Gives (local_text x ++ codes " = " ++ kind_text k) (plain_form Assigns) (Lined (Some x) k)
assigned_back x k b s = record {
  tokens = local_bare x ∷ bare (Mark 61) (61 ∷ []) ∷ s.tokens;
  lexed = subst (λ t. Gives t (local_bare x ∷ bare (Mark 61) (61 ∷ []) ∷ s.tokens)) (sym (append_assoc (local_text x) (codes " = ") (kind_text k))) (gives_then (gives_local x b) (closes_gives closes_space (closes_gives (closes_mark 61 refl refl) (closes_gives closes_space s.lexed))) (λ rest e. refl));
  spelled = token_then (shows_line (shows_local x b)) (λ y p. token_then (shows_mark 61) (λ line u.
      spelled_as (append-nil s.tokens) (spelled_then {ls = s.tokens} {ms = []} {Q = Lined (Some x) k} s.spelled (λ l q.
      spelled_done (at_line (Some y.0) y.1 l) (Lined (Some x) k) (λ i. record { result = Some (sym p i); kind = sym q i; line = 0 })))));
}

tail_back : (w : List ℕ) (t : TailWord) (k : Kind) (c : Called t k) → InTable tail_words w t → Back Gives (kind_text k) (plain_form TailCalls) (Lined None k)
tail_back w t k c h =
    let e = in_table tail_word_text tail_words tails_are w t h in
    record {
      tokens = bare Word w ∷ bare Word (codes "call") ∷ c.says.tokens;
      lexed = subst (λ x. Gives x (bare Word w ∷ bare Word (codes "call") ∷ c.says.tokens)) (ap (λ x. x ++ (codes " " ++ (codes "call" ++ c.body))) (sym e.0) ∙ tail_called w t k c h) (gives_then (gives_word w e.1) (closes_gives closes_space (gives_then (gives_word (codes "call") refl) c.says.lexed c.ended)) (λ rest e. refl));
      spelled = token_then (shows_line (shows_in tail_words w t h)) (λ y p. token_then (shows_word (codes "call")) (λ line u.
          spelled_as (append-nil c.says.tokens) (spelled_then {ls = c.says.tokens} {ms = []} {Q = Lined None k} (subst (λ v. Spelled (called v) c.says.tokens (λ l. l ≡ k)) (sym p) c.says.spelled) (λ l q.
          spelled_done (at_line None y.1 l) (Lined None k) (λ i. record { result = None; kind = sym q i; line = 0 })))));
    }

-- the same text, and the instruction that is known
inst_at : {F : List Lexeme → Inst → Type 0} {a : List ℕ} (r : Option (List ℕ)) (k : Kind) {i : Inst} (line : ℕ) → i ≡ at_line r line k → a ≡ result_text r ++ kind_text k → Back Gives a F (Lined r k) → Back Gives (whole_text i) F (Same i)
inst_at {F = F} r k line e t b = subst (λ j. Back Gives (whole_text j) F (Same j)) (sym e) (subst (λ x. Back Gives x F (Lined r k)) t b)

form_back : (form : PlainForm) (i : Inst) → IsSpelled (plain_form form) i → Back Gives (whole_text i) (plain_form form) (Same i)
form_back Assigns i g =
    let a = good_then g in
    let b = good_then (good_then a.rest).rest in
    let t = good_one a.front in
    let x = a.value.0 in
    let n = local_bytes (record { token = t.token; fine = t.fine; is = t.is.0 }) in
    inst_at (Some x) b.value a.value.1 (good_done b.rest) refl (assigned_back x b.value n (assigned_says b.value b.front))
form_back Stores i g =
    let a = good_then g in
    let b = good_then a.rest in
    let s = store_says b.value b.front in
    inst_at None b.value a.value (good_done b.rest) (sym s.text) (lined_says (codes "store") stored refl s.ended s.says)
form_back Fences i g =
    let a = good_then g in
    let b = good_then a.rest in
    let s = fence_says b.value b.front in
    inst_at None b.value a.value (good_done b.rest) (sym s.text) (lined_says (codes "fence") fenced refl s.ended s.says)
form_back Calls i g =
    let a = good_then g in
    let b = good_then a.rest in
    let s = called_says NoTailWord b.value b.front in
    inst_at None b.value a.value (good_done b.rest) (sym s.text) (lined_says (codes "call") (called NoTailWord) refl s.ended s.says)
form_back TailCalls i g =
    let a = good_then g in
    let b = good_then (good_then a.rest).rest in
    let t = good_one a.front in
    let s = called_says a.value.0 b.value b.front in
    inst_at None b.value a.value.1 (good_done b.rest) refl (tail_back t.token.bytes a.value.0 b.value s t.is.0.1)

-- the spaces before an instruction and the line end behind it
whole_inner : (i : Inst) (ls : List Bare) → Gives (whole_text i) ls → Inner (inst_text i) ls
whole_inner i ls g = inner_then (inner_of (closes_then closes_space closes_space)) (inner_as (append-nil ls) (gives_inner g inner_line (λ rest. refl)))

-- an instruction that ends no block
pub plain_back : (i : Inst) → IsSpelled plain i → Back Inner (inst_text i) plain (Same i)
plain_back i g =
    let a = good_then g in
    let b = good_then a.rest in
    let f = good_any a.front in
    subst (λ j. Back Inner (inst_text j) plain (Same j)) (sym (good_done b.rest)) (by a.value f.0 (form_back f.0 a.value f.1))
  where
    by : (j : Inst) (form : PlainForm) → Back Gives (whole_text j) (plain_form form) (Same j) → Back Inner (inst_text j) plain (Same j)
    by j form s = record {
      tokens = s.tokens;
      lexed = whole_inner j s.tokens s.lexed;
      spelled = spelled_as (append-nil s.tokens) (spelled_then {ls = s.tokens} {ms = []} {Q = Same j} (spelled_any {S = plain_form} form s.spelled) (λ n p.
          spelled_then {ls = []} {ms = []} {Q = Same j} (empty_dropped (next attachment)) (λ u q. spelled_done n (Same j) p)));
    }

-- ---- instructions that end a block

lasts_are : WordsAre last_word last_words
lasts_are = (refl, refl, (refl, refl, (refl, refl, (refl, refl, tt))))

last_at : (form : LastForm) (w : List ℕ) (k : Kind) → InTable last_words w form → Behind (last_word form) (last_form form) k → Back Gives (kind_text k) last (Lined None k)
last_at form w k h b =
    let e = in_table last_word last_words lasts_are w form h in
    record {
      tokens = bare Word w ∷ b.says.tokens;
      lexed = subst (λ x. Gives x (bare Word w ∷ b.says.tokens)) (ap (λ x. x ++ b.body) (sym e.0) ∙ sym b.text) (gives_then (gives_word w e.1) b.says.lexed b.ended);
      spelled = token_then (shows_line (shows_in last_words w form h)) (λ y p.
          spelled_as (append-nil b.says.tokens) (spelled_then {ls = b.says.tokens} {ms = []} {Q = Lined None k} (subst (λ f. Spelled (last_form f) b.says.tokens (λ l. l ≡ k)) (sym p) b.says.spelled) (λ l q.
          spelled_then {ls = []} {ms = []} {Q = Lined None k} (empty_dropped (next attachment)) (λ u v.
          spelled_done (at_line None y.1 l) (Lined None k) (λ i. record { result = None; kind = sym q i; line = 0 })))));
    }

pub last_back : (i : Inst) → IsSpelled last i → Back Inner (inst_text i) last (Same i)
last_back i g =
    let a = good_then g in
    let b = good_then a.rest in
    let c = good_then b.rest in
    let t = good_one a.front in
    let s = inst_at None b.value a.value.1 (good_done c.rest) refl (last_at a.value.0 t.token.bytes b.value t.is.0.1 (last_says a.value.0 b.value b.front)) in
    record { tokens = s.tokens; lexed = whole_inner i s.tokens s.lexed; spelled = s.spelled }
