-- Instructions of which the kind is replaced, and the line: they are spelled by the forms that they were spelled by.
use Rattle.std.proofs.Common.{ℕ, refl, sym, ap, subst, codes}
use Rattle.ir_core.specs.declared.instructions.TailWord.{TailWord}
use Rattle.ir_core.specs.declared.instructions.Kind.{Kind}
use Rattle.ir_core.specs.declared.instructions.Inst.{Inst}
use Rattle.ir_core.specs.Tokens.{Lexeme}
use Rattle.ir_core.specs.Spell.{one, with_line}
use Rattle.ir_core.specs.Instructions.{called, stored, fenced, assigned, PlainForm, Assigns, Stores, Fences, Calls, TailCalls, plain_form, plain, LastForm, last_form, last}
use Rattle.text_laws.specs.Spelling.{IsSpelled}
use Rattle.text_laws.proofs.Good.{good_then, good_done, good_one, good_any, done_spelled, one_spelled, then_spelled, any_spelled, word_spelled}

-- the new kind is spelled by each form that spells the old one
pub record KeepsKinds (edit : Kind → Kind) : Type 0 where
  pub assigned : (k : Kind) → IsSpelled assigned k → IsSpelled assigned (edit k)
  pub stored : (k : Kind) → IsSpelled stored k → IsSpelled stored (edit k)
  pub fenced : (k : Kind) → IsSpelled fenced k → IsSpelled fenced (edit k)
  pub called : (tail_word : TailWord) (k : Kind) → IsSpelled (called tail_word) k → IsSpelled (called tail_word) (edit k)
  pub last : (form : LastForm) (k : Kind) → IsSpelled (last_form form) k → IsSpelled (last_form form) (edit k)

abbrev pub edited : (Kind → Kind) → ℕ → Inst → Inst
edited edit line i = record i { kind = edit i.kind; line = line }

-- a token on another line
moved : {X : Type 0} {Is : Lexeme → X → Type 0} (line : ℕ) (x : X × ℕ) → ((t : Lexeme) (y : X) → Is t y → Is (record t { line = line }) y) → IsSpelled (one (with_line Is)) x → IsSpelled (one (with_line Is)) (x.0, line)
moved line x law g =
    let s = good_one g in
    one_spelled (record { token = record s.token { line = line }; fine = record { bytes = s.fine.bytes; shape = s.fine.shape }; is = (law s.token x.0 s.is.0, refl) })

form_edited : {edit : Kind → Kind} (keeps : KeepsKinds edit) (line : ℕ) (form : PlainForm) (i : Inst) → IsSpelled (plain_form form) i → IsSpelled (plain_form form) (edited edit line i)
form_edited {edit = edit} keeps line Assigns i g =
    let a = good_then g in
    let b = good_then a.rest in
    let c = good_then b.rest in
    subst (IsSpelled (plain_form Assigns)) (sym (ap (edited edit line) (good_done c.rest))) (then_spelled (moved line a.value (λ t y h. h) a.front) (then_spelled b.front (then_spelled (keeps.assigned c.value c.front) (done_spelled _))))
form_edited {edit = edit} keeps line Stores i g =
    let a = good_then g in
    let b = good_then a.rest in
    subst (IsSpelled (plain_form Stores)) (sym (ap (edited edit line) (good_done b.rest))) (then_spelled (word_spelled (codes "store") refl line) (then_spelled (keeps.stored b.value b.front) (done_spelled _)))
form_edited {edit = edit} keeps line Fences i g =
    let a = good_then g in
    let b = good_then a.rest in
    subst (IsSpelled (plain_form Fences)) (sym (ap (edited edit line) (good_done b.rest))) (then_spelled (word_spelled (codes "fence") refl line) (then_spelled (keeps.fenced b.value b.front) (done_spelled _)))
form_edited {edit = edit} keeps line Calls i g =
    let a = good_then g in
    let b = good_then a.rest in
    subst (IsSpelled (plain_form Calls)) (sym (ap (edited edit line) (good_done b.rest))) (then_spelled (word_spelled (codes "call") refl line) (then_spelled (keeps.called _ b.value b.front) (done_spelled _)))
form_edited {edit = edit} keeps line TailCalls i g =
    let a = good_then g in
    let b = good_then a.rest in
    let c = good_then b.rest in
    subst (IsSpelled (plain_form TailCalls)) (sym (ap (edited edit line) (good_done c.rest))) (then_spelled (moved line a.value (λ t y h. h) a.front) (then_spelled b.front (then_spelled (keeps.called _ c.value c.front) (done_spelled _))))

pub plain_edited : {edit : Kind → Kind} (keeps : KeepsKinds edit) (line : ℕ) (i : Inst) → IsSpelled plain i → IsSpelled plain (edited edit line i)
plain_edited {edit = edit} keeps line i g =
    let a = good_then g in
    let b = good_then a.rest in
    let f = good_any a.front in
    subst (IsSpelled plain) (sym (ap (edited edit line) (good_done b.rest))) (then_spelled (any_spelled f.0 (form_edited keeps line f.0 a.value f.1)) (then_spelled b.front (done_spelled _)))

pub last_edited : {edit : Kind → Kind} (keeps : KeepsKinds edit) (line : ℕ) (i : Inst) → IsSpelled last i → IsSpelled last (edited edit line i)
last_edited {edit = edit} keeps line i g =
    let a = good_then g in
    let b = good_then a.rest in
    let c = good_then b.rest in
    subst (IsSpelled last) (sym (ap (edited edit line) (good_done c.rest))) (then_spelled (moved line a.value (λ t y h. h) a.front) (then_spelled (keeps.last _ b.value b.front) (then_spelled c.front (done_spelled _))))
