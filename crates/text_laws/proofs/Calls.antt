-- Calls: what spells one is spelled by its canonical text.
use Rattle.std.proofs.Common.{◌≡◌, ℕ, List, [], ◌∷◌, ◌++◌, append_assoc, refl, sym, ap, ◌∙◌, subst, inl, inr, ◌⊎◌, codes}
use Rattle.std.proofs.lemmas.List.{append-nil}
use Rattle.ir_core.specs.declared.types.Ty.{Ty}
use Rattle.ir_core.specs.declared.instructions.Value.{Value}
use Rattle.ir_core.specs.declared.instructions.Value.TheVariants.{Int as IntValue, Null, Local as Register, Global as GlobalValue}
use Rattle.ir_core.specs.declared.instructions.Typed.{Typed}
use Rattle.ir_core.specs.declared.instructions.TailWord.{TailWord}
use Rattle.ir_core.specs.declared.instructions.TailWord.TheVariants.{Absent as NoTailWord, Tail, NoTail}
use Rattle.ir_core.specs.declared.instructions.Kind.{Kind}
use Rattle.ir_core.specs.declared.instructions.Kind.TheVariants.{Call}
use Rattle.ir_core.specs.Spell.{one, any, InTable}
use Rattle.ir_core.specs.Forms.{token, attribute_form, IsOneOf}
use Rattle.ir_core.specs.Instructions.{argument, IsCallee, conventions, trailer_form, called, tail_words, CallForm, Bare, Led, call_form, call, value, assigned}
use Rattle.ir_core.specs.Text.{type_text, value_text, typed_text, typed_texts, tail_text, comma_list, kind_text}
use Rattle.text_laws.specs.Spelling.{IsSpelled}
use Rattle.text_laws.proofs.Good.{good_then, good_done, good_one, good_any, good_either, good_list}
use Rattle.text_laws.proofs.Back.{flat, Says, Ended, says_as, says_at, says_done, says_then, says_last, says_after, empty_maybe, empty_dropped, says_space, says_mark, says_word, says_any, all_say, says_closed, says_left, says_right}
use Rattle.text_laws.proofs.Names.{says_token, gives_local, gives_global, shows_local, shows_global, local_bytes, global_bytes, WordsAre, table_says}
use Rattle.text_laws.proofs.Types.{type_says, type_sized, result_says}
use Rattle.text_laws.proofs.Values.{value_says}
use Rattle.text_laws.proofs.ValueKinds.{value_kind_says}

-- ---- operands

argument_says : (v : Typed) → IsSpelled argument v → Says (typed_text v) argument v
argument_says v g =
    let p = good_then g in
    let a = good_then p.rest in
    let q = good_then a.rest in
    let b = good_then q.rest in
    says_at typed_text argument (good_done b.rest)
    (says_as argument (record { ty = a.value; value = b.value }) (sym (flat (type_text a.value) (codes " ") (value_text a.value b.value ∷ [])))
    (says_after p (empty_dropped (any attribute_form)) (says_then a (type_says a.value a.front) (λ rest e. refl) (says_space (says_after q (empty_dropped (any attribute_form))
    (says_last (λ x. record { ty = a.value; value = x }) (value_says a.value b.value (type_sized a.value a.front) b.front)))))))

callee_says : (ty : Ty) (v : Value) → IsSpelled (one IsCallee) v → Says (value_text ty v) (one IsCallee) v
callee_says ty (GlobalValue x) g =
    let t = good_one g in
    let b = global_bytes (record { token = t.token; fine = t.fine; is = t.is }) in
    says_token (gives_global x b) (λ u e. let r = shows_global x b u e in (GlobalValue r.0, r.1, ap GlobalValue r.2))
callee_says ty (Register x) g =
    let t = good_one g in
    let b = local_bytes (record { token = t.token; fine = t.fine; is = t.is }) in
    says_token (gives_local x b) (λ u e. let r = shows_local x b u e in (Register r.0, r.1, ap Register r.2))
callee_says ty (IntValue n) g = absurd (good_one g).is
callee_says ty Null g = absurd (good_one g).is

-- ---- calls

-- the text of a call behind its word
pub record Called (t : TailWord) (k : Kind) : Type 0 where
  pub body : List ℕ
  pub text : kind_text k ≡ tail_text t ++ (codes "call" ++ body)
  pub ended : Ended body
  pub says : Says body (called t) k

pub called_says : (t : TailWord) (k : Kind) → IsSpelled (called t) k → Called t k
called_says t k g =
    let p = good_then g in
    let q = good_then p.rest in
    let a = good_then q.rest in
    let b = good_then a.rest in
    let m = good_then b.rest in
    let c = good_then m.rest in
    let r = good_then c.rest in
    let args = all_say typed_text argument argument_says c.value (good_list 41 argument c.value c.front) in
    let kind = Call t a.value b.value c.value in
    let list = comma_list (typed_texts c.value) in
    let text : kind_text kind ≡ tail_text t ++ (codes "call" ++ (codes " " ++ (type_text a.value ++ (codes " " ++ (value_text a.value b.value ++ (codes "(" ++ (list ++ codes ")"))))))) =
    flat (tail_text t) (codes "call ") (type_text a.value ∷ codes " " ∷ value_text a.value b.value ∷ codes "(" ∷ list ∷ codes ")" ∷ []) in
    subst (Called t) (sym (good_done r.rest)) (record {
      body = codes " " ++ (type_text a.value ++ (codes " " ++ (value_text a.value b.value ++ (codes "(" ++ ((list ++ codes ")") ++ [])))));
      text = text ∙ ap (λ x. tail_text t ++ (codes "call" ++ (codes " " ++ (type_text a.value ++ (codes " " ++ (value_text a.value b.value ++ (codes "(" ++ x))))))) (sym (append-nil (list ++ codes ")")));
      ended = λ rest e. refl;
      says = says_after p (empty_maybe tt (token (IsOneOf conventions))) (says_after q (empty_dropped (any attribute_form)) (says_space (says_then a (result_says a.value a.front) (λ rest e. refl)
          (says_space (says_then b (callee_says a.value b.value b.front) (λ rest e. refl) (says_mark 40 refl refl (says_then c (says_closed typed_text argument c.value args) (λ rest e. e)
          (says_after r (empty_dropped (any trailer_form)) (says_done kind)))))))));
    })

-- the words before call
abbrev pub tail_word_text : TailWord → List ℕ
tail_word_text NoTailWord = []
tail_word_text Tail = codes "tail"
tail_word_text NoTail = codes "notail"

pub tails_are : WordsAre tail_word_text tail_words
tails_are = (refl, refl, (refl, refl, tt))

-- such a word and the space behind it
pub tail_spaced : (w : List ℕ) (t : TailWord) → InTable tail_words w t → tail_text t ≡ tail_word_text t ++ codes " "
tail_spaced w t (inl h) = subst (λ x. tail_text x ≡ tail_word_text x ++ codes " ") (sym h.1) refl
tail_spaced w t (inr (inl h)) = subst (λ x. tail_text x ≡ tail_word_text x ++ codes " ") (sym h.1) refl
tail_spaced w t (inr (inr h)) = absurd h

-- the text of a call with such a word
pub tail_called : (w : List ℕ) (t : TailWord) (k : Kind) (c : Called t k) → InTable tail_words w t → tail_word_text t ++ (codes " " ++ (codes "call" ++ c.body)) ≡ kind_text k
tail_called w t k c h = sym (c.text ∙ ap (λ x. x ++ (codes "call" ++ c.body)) (tail_spaced w t h) ∙ append_assoc (tail_word_text t) (codes " ") (codes "call" ++ c.body))

form_says : (form : CallForm) (k : Kind) → IsSpelled (call_form form) k → Says (kind_text k) (call_form form) k
form_says Bare k g =
    let a = good_then g in
    let c = called_says NoTailWord k a.rest in
    says_as (call_form Bare) k (sym c.text) (says_word (codes "call") refl c.ended c.says)
form_says Led k g =
    let a = good_then g in
    let b = good_then a.rest in
    let c = called_says a.value k b.rest in
    let s = good_one a.front in
    says_as (call_form Led) k (tail_called s.token.bytes a.value k c s.is.1)
    (says_then a (table_says tail_word_text tail_words tails_are a.value a.front) (λ rest e. refl) (says_space (says_word (codes "call") refl c.ended c.says)))

call_says : (k : Kind) → IsSpelled call k → Says (kind_text k) call k
call_says k g = let f = good_any g in says_any f.0 (form_says f.0 k f.1)

-- what can stand behind %x =
pub assigned_says : (k : Kind) → IsSpelled assigned k → Says (kind_text k) assigned k
assigned_says k g = by (good_either value call g)
  where
    by : IsSpelled value k ⊎ IsSpelled call k → Says (kind_text k) assigned k
    by (inl h) = says_left call (value_kind_says k h)
    by (inr h) = says_right value (call_says k h)
